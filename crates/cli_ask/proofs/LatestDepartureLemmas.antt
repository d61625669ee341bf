pub mod HomeLemmas
pub mod OneLemmas
pub mod QuietLemmas
pub mod WantedLemmas
