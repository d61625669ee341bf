pub mod Varint
pub mod Grammar
pub mod Parts
pub mod Reading
pub mod Held
pub mod Message
pub mod Writing
