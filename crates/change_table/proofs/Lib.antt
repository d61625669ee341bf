pub mod ListLemmas
pub mod NamedLemmas
pub mod PartnerLemmas
pub mod PushLemmas
pub mod RowLemmas
pub mod TableLemmas
pub mod WorkedLemmas
