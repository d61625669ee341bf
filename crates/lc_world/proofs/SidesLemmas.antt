pub mod AskedLemmas
pub mod LaterLemmas
pub mod NearLemmas
pub mod NearReplyLemmas
pub mod NearTextLemmas
pub mod OneReplyLemmas
pub mod PageLemmas
pub mod VersionLemmas
