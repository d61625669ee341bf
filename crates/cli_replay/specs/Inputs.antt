pub mod Inputs
pub mod Laws
pub mod Plan
pub mod Script
