pub mod CounterMode
pub mod Packet
pub mod Promises
