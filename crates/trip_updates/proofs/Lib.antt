pub mod StepsLemmas
pub mod TreesLemmas
pub mod WalkingLemmas
pub mod EmbeddedLemmas
pub mod SaidLemmas
pub mod WholeLemmas
