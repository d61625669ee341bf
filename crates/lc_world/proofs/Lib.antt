pub mod GoneOnLemmas
pub mod SidesLemmas
