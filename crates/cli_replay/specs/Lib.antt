pub mod Course
pub mod Home
pub mod Inputs
pub mod PlanLaws
pub mod Planning
pub mod ReplayLaws
pub mod Summary
pub mod Turns
