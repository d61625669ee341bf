pub mod FaultLemmas
mod PlaceLemmas
mod ReadLemmas
pub mod SheetLemmas
mod StoreLemmas
mod TableLemmas
mod UnquotedLemmas
mod Utf8Lemmas
