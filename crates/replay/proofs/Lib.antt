pub mod Feeding
pub mod Theorems
