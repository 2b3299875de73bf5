pub mod Links
pub mod ReadsBack
pub mod StoredKeys
