mod AnchorLemmas
pub mod AsciiLemmas
pub mod CalendarLemmas
pub mod DateLemmas
pub mod DayLemmas
pub mod HttpLemmas
pub mod IsoLemmas
pub mod OneTextLemmas
pub mod OptionLemmas
pub mod SaidLemmas
