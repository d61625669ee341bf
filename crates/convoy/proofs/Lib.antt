pub mod AgreementLemmas
pub mod ClientLawsLemmas
pub mod FinishLemmas
pub mod PageLawsLemmas
pub mod RepliesLemmas
pub mod RoundLemmas
