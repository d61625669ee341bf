pub mod TcpDoor
pub mod TcpLink
