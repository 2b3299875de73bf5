pub mod Parts
pub mod Promises
pub mod Replay
