pub mod Draws
pub mod Network
pub mod Rows
pub mod Messages
pub mod Script
pub mod Files
