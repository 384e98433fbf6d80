pub mod Moved
pub mod ClassWord
pub mod Pieces
