pub mod CommandLemmas
pub mod CompleteLemmas
pub mod CourseRefusalLemmas
pub mod EarlierSideLemmas
pub mod HeadlineLemmas
pub mod HeadlineOfPlanLemmas
pub mod HeadlineOfReplayLemmas
mod HeadlineOfArriveLemmas
mod HeadlineOfDrillLemmas
mod HeadlineOfFewestLemmas
mod HeadlineOfRelayLemmas
mod DrillLemmas
pub mod InputsLemmas
pub mod NearArriveLemmas
pub mod NearFewestLemmas
pub mod NearHeadlineLemmas
pub mod NearPlanLemmas
pub mod OnePlanLemmas
mod OneRelayLemmas
pub mod OneReplayLemmas
pub mod OneRunLemmas
pub mod OneServingLemmas
pub mod OneStatusLemmas
pub mod PlanLemmas
pub mod ReplayLemmas
pub mod ServingLemmas
pub mod TinyLemmas
pub mod TopLemmas
pub mod WindowLemmas
mod WorkedFewestLemmas
mod WorkedLatestLemmas
pub mod OneDrillLemmas
