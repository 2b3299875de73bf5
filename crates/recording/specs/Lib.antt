pub mod Layout
pub mod Promises
pub mod Reading
pub mod Writing
