pub mod Ascii
pub mod Samples
pub mod Text
