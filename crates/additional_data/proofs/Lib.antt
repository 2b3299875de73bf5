pub mod Laws
pub mod Packet
pub mod Promises
