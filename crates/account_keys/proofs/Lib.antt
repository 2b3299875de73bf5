pub mod Laws
pub mod Order
pub mod ReadBack
pub mod StoredList
pub mod Storing
pub mod Use
pub mod Without
