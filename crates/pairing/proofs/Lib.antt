pub mod SessionSteps
pub mod Laws
