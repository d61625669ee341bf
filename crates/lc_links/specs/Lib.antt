pub mod ClosedLink
pub mod FaultyLink
pub mod HomeLink
pub mod LocalLink
pub mod Taking
