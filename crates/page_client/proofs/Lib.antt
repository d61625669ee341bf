pub mod BeginLemmas
pub mod BodyLemmas
pub mod GateLemmas
pub mod LastLemmas
pub mod OneReplyLemmas
pub mod OrderLemmas
pub mod PageLemmas
pub mod SequelLemmas
mod EntriesLemmas
pub mod KeptLemmas
mod KeyLemmas
