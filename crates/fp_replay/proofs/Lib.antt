pub mod Joined
pub mod Laws
pub mod Turns
