pub mod DrawsLemmas
pub mod RowsLemmas
pub mod MessagesLemmas
pub mod EntriesLemmas
