pub mod Bytes
pub mod Value
pub mod Chunk
pub mod Layout
pub mod Partition
pub mod Reading
