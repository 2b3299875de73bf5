pub mod Beacon
pub mod Filter
pub mod Payload
pub mod Promises
