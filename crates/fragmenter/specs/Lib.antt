pub mod Cutting
pub mod Ways
