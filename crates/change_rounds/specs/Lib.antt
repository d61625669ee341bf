pub mod Best
pub mod Boards
pub mod Fewest
pub mod InRound
pub mod Laws
pub mod Round
pub mod Rounds
