pub mod Guard
pub mod Wait
