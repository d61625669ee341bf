-- Links at home: an in-process publisher answers, and the answers are handed on.
use Rattle.lc_links.specs.LocalLink.{LocalLinkState}

-- the link to the publisher, and the one to which each answer is handed on
pub record HomeLinkState (G L : Type 0) : Type 0 where
  pub local : LocalLinkState G
  pub outer : L
