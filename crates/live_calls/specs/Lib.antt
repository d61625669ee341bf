pub mod AddedRun
pub mod Laws
pub mod Places
pub mod Walk
