pub mod Base
pub mod Encoding
pub mod Join
pub mod Name
pub mod Page
pub mod Parts
