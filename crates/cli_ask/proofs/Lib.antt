pub mod AdmissionLemmas
pub mod ClientLemmas
mod FewestRidesLemmas
pub mod HomeLemmas
mod LatestDepartureLemmas
pub mod OneAnswerLemmas
pub mod OneOutputLemmas
pub mod OnePublisherLemmas
pub mod OpeningLemmas
pub mod SideLemmas
pub mod WantsLemmas
