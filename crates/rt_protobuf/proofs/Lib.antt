pub mod StepsLemmas
pub mod VarintsLemmas
pub mod ContentsLemmas
pub mod FaultsLemmas
pub mod FieldsLemmas
pub mod OneWayLemmas
pub mod PlacesLemmas
pub mod WritingLemmas
