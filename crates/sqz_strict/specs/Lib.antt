pub mod Shapes
pub mod Sets
pub mod Warnings
pub mod Findings
