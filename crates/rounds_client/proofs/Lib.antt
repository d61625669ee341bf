pub mod CourseLemmas
pub mod EndsLemmas
mod MomentLemmas
pub mod StartLemmas
pub mod StopsLemmas
