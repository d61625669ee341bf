pub mod Days
pub mod Laws
pub mod Listing
pub mod ZoneWord
