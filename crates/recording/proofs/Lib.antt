pub mod Divisions
pub mod Fields
pub mod KindsRead
pub mod Laws
pub mod NextAt
pub mod OneRecord
pub mod OnlyRecords
pub mod Walking
