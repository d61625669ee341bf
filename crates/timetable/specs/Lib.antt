pub mod Laws
pub mod Loading
pub mod Made
pub mod Scope
pub mod Timetable
pub mod Tiny
pub mod Recorded
pub mod Zone
