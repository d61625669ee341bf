pub mod Laws
pub mod Phase
pub mod Session
pub mod SessionOut
pub mod Stands
pub mod Steps
pub mod Walks
