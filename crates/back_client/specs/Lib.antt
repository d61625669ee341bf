pub mod Arrives
pub mod Ends
pub mod Exchange
pub mod Steps
pub mod Wrong
