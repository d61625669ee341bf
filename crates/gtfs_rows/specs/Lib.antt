pub mod Fault
pub mod Laws
pub mod Reading
pub mod Sheet
pub mod Spaces
pub mod Store
pub mod Texts
pub mod Unquoted
