pub mod HeldLemmas
pub mod InOrderLemmas
pub mod ItemsLemmas
pub mod KeptLemmas
pub mod PutLemmas
pub mod RowLemmas
pub mod TouchedLemmas
pub mod WalkLemmas
