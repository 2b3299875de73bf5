pub mod Keys
pub mod Promises
pub mod StoredList
