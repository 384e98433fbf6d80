pub mod Exits
pub mod OutputFiles
pub mod Lines
pub mod FaultTexts
