pub mod HappenLemmas
pub mod RelayedLemmas
pub mod SumLemmas
