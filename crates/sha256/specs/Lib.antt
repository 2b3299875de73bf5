pub mod Functions
pub mod Constants
pub mod Padding
pub mod Compression
pub mod Hash
pub mod Steps
