pub mod Course
pub mod End
pub mod Ends
pub mod Given
