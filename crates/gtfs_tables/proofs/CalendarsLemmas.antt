pub mod CalendarDatesFacts
pub mod CalendarFacts
pub mod FrequencyFacts
pub mod ReadLaws
pub mod SpanLemmas
pub mod TransferFacts
