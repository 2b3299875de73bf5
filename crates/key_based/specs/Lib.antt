pub mod Decision
pub mod Named
pub mod Promises
pub mod Request
pub mod Search
