pub mod Answers
pub mod Kept
pub mod Parts
pub mod Valid
