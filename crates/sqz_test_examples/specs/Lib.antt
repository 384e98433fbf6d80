pub mod Worked
pub mod DeadCycle
pub mod MovedCycle
pub mod ClassEdge
pub mod Shapes
