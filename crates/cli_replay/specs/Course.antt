-- An event sequence that was played to its end over a link. X is the type of the link, and `seen` what is promised of it.
use Rattle.std.specs.Prelude.{◌≡◌, ◌+◌, ℕ, List, ◌++◌, length, Some}
use Rattle.cli_ask.specs.declared.end.ClientEnd.{ClientEnd}
use Rattle.connection_uri.specs.Base.{BaseParts}
use Rattle.convoy.specs.Finish.{Rounds}
use Rattle.convoy.specs.State.{ConvoyState, begun}
use Rattle.lc_world.specs.Link.{LinkSeen}
use Rattle.lc_world.specs.Sides.Side.{Side}
use Rattle.cli_replay.specs.ReplayLaws.Played.{HaveEndedSo, Plays}
use Rattle.cli_replay.specs.ReplayLaws.Replayed.{clients_text_of}
use Rattle.cli_replay.specs.declared.replay_laws.event.Event.{Event}

-- the history of the side at the other end grew by so many messages
abbrev pub HasAdmitted : LinkSeen → LinkSeen → ℕ → Type 0
HasAdmitted before after admitted = (old new : Side) → before.side ≡ Some old → after.side ≡ Some new → length new.history ≡ length old.history + admitted

-- Clients under the base played the events with a cache of so many pages. Each client was turned until it ended, and this is printed.
pub record IsPlayed {X : Type 0} (seen : X → LinkSeen) (base : BaseParts) (all : List Event) (cache : ℕ) (before after : X) (admitted : ℕ) (text : List ℕ) (ends : List ClientEnd) : Type 0 where
  pub played : ConvoyState
  pub ended : ConvoyState
  pub behind : X
  pub lines : List ℕ
  pub plays : Plays seen all (begun base cache) played before behind lines
  pub admits : HasAdmitted (seen before) (seen behind) admitted
  pub rounds : Rounds seen (length played.members) played ended behind after
  pub have_ended : HaveEndedSo ended.members ends
  pub text_is : text ≡ lines ++ clients_text_of 1 ends
