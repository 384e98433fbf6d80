pub mod ClassSizes
pub mod Matched
