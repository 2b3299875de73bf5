-- The rules of the events: what a reader must believe.
pub mod Control
pub mod Device
pub mod Event
