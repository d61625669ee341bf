-- Links that fail at some calls.
use Rattle.std.specs.Prelude.{ℕ, List, Result, IsErrOf}
use Rattle.lc_io.specs.Counts.{HasCause}
use Rattle.lc_world.specs.Link.{LinkSeen, Tells}
use Rattle.lc_world.specs.declared.link.LinkFail.{LinkFail}
use Rattle.lc_world.specs.declared.link.LinkFail.TheVariants.{Failed}

-- the link below, the numbers of the calls that are to fail, how many there were, and how often one has failed
pub record FaultyLinkState (L : Type 0) : Type 0 where
  pub inner : L
  pub fails : List ℕ
  pub calls : ℕ
  pub faults : ℕ

-- the exchange has reached a link, which has recorded it, where it records any, and has failed, if it has
pub record HasReached {T : Type 0} (recorded : Type 0) (before_faults after_faults : ℕ) (result : Result T LinkFail) : Type 0 where
  pub tells : recorded
  pub has_cause : HasCause before_faults after_faults (IsErrOf result Failed)

-- an exchange of a link, as it is seen before and after
abbrev pub Reaches : {T : Type 0} → LinkSeen → LinkSeen → List ℕ → List ℕ → List ℕ → Result T LinkFail → Type 0
Reaches before after authority request reply result =
    HasReached (Tells before.recorded after.recorded authority request reply result) before.faults after.faults result
