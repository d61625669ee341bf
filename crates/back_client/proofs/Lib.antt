mod EndsLemmas
pub mod StepLemmas
pub mod WalkLemmas
