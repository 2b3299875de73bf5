-- What is promised of the rules: statements and nothing else. proofs/Theorems has a proof of each.
pub mod AnswerTable
pub mod Gap
pub mod KeptFilter
pub mod LinksApart
pub mod Names
pub mod Refusals
pub mod Rotation
pub mod Samples
pub mod Use
pub mod Validity
