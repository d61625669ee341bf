pub mod Laws
pub mod Planning
pub mod Relayed
pub mod RelayedBy
