pub mod Asked
pub mod Client
pub mod Laws
