pub mod AfterLemmas
pub mod AlikeLemmas
pub mod BeginsLemmas
pub mod BoardingLemmas
pub mod EndsLemmas
pub mod OrderLemmas
pub mod TakesLemmas
pub mod WayLemmas
