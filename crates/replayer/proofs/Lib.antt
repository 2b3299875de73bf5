pub mod CallsJoined
pub mod ReadsBack
