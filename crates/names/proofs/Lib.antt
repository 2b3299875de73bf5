pub mod Continues
pub mod ValidNames
