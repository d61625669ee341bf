pub mod Chain
pub mod Least
pub mod Needed
pub mod Rides
pub mod Stop
pub mod Worked
