pub mod GoneOn
pub mod Link
pub mod ListLink
pub mod Sides
