pub mod Calendar
pub mod Clock
pub mod Date
pub mod Digits
pub mod Http
pub mod Iso
pub mod Laws
pub mod Zone
