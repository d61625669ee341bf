pub mod Wire
pub mod Tree
pub mod Table
pub mod Meaning
pub mod Message
pub mod Faults
pub mod Shows
pub mod Texts
