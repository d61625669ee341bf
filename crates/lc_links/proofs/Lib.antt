mod GetLemmas
mod HonestLemmas
mod TakingLemmas
