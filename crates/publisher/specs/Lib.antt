pub mod Cuts
pub mod Held
pub mod Inside
pub mod Laws
pub mod Place
pub mod PlaceOf
pub mod Updated
pub mod Writable
