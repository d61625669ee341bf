pub mod VersionsLemmas
