mod EndsLemmas
mod HearingLemmas
pub mod InputsLemmas
mod PlanLawsLemmas
mod PlanningLemmas
pub mod PlayedLemmas
pub mod ReplayLawsLemmas
mod ReplayedLemmas
mod SummaryLemmas
mod TextLemmas
