pub mod Demands
pub mod Rules
