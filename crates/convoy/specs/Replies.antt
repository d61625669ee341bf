pub mod Cached
pub mod CachedLaws
pub mod Course
pub mod Ends
pub mod Laws
pub mod Made
pub mod Met
pub mod Run
