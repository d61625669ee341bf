pub mod CountLemmas
mod EchoLemmas
mod NearLemmas
mod PieceLemmas
mod RecordedLemmas
mod ServeLemmas
mod WrittenLemmas
