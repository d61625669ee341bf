pub mod Held
pub mod Kept
pub mod Rows
pub mod Touched
pub mod Walk
pub mod Worked
