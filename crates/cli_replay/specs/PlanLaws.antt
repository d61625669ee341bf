pub mod Laws
pub mod Near
pub mod OneGrowing
pub mod OnePlan
pub mod Planned
pub mod Replied
pub mod Sides
pub mod Worked
