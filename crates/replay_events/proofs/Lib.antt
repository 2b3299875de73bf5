pub mod Laws
pub mod LentOutputs
