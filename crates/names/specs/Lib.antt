pub mod Expected
pub mod Name
pub mod Utf8
