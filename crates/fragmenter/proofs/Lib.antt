pub mod LawfulLemmas
