mod EndLemmas
mod LawLemmas
mod MadeLemmas
mod NeverWrongLemmas
mod OneEndLemmas
mod ZoneLemmas
