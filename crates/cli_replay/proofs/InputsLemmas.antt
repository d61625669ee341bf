pub mod InputsLemmas
pub mod OnePlanLemmas
pub mod PlanLemmas
pub mod ScriptLemmas
