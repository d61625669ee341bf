pub mod Asked
pub mod Laws
pub mod Near
pub mod Needed
pub mod ReplyLaws
pub mod Right
pub mod Version
