-- Links of sockets.
use Rattle.std.specs.Prelude.{ℕ, None}
use Rattle.lc_world.specs.Link.{LinkSeen}

-- how often an exchange has failed
pub record TcpLinkState : Type 0 where
  pub faults : ℕ

-- A link of sockets records no side and no exchanges, and is honest for no base. It leaves an answer that is handed on as it is.
abbrev pub seen_of : TcpLinkState → LinkSeen
seen_of link = record { side = None; recorded = None; honest = λ _. ⊥; quiet = λ _. ⊥; clear = Unit {0}; still = Unit {0}; faults = link.faults }
