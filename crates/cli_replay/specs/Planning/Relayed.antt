-- Clients that plan over a relay of a link: what is printed, what the relay has handed on, and what it leaves of the link.
use Rattle.std.specs.Prelude.{◌≡◌, ◌-◌, ◌^◌, ℕ, true, min, sum_by, List, [], ◌++◌, codes, decimal}
use Rattle.cli_ask.specs.declared.end.ClientEnd.{ClientEnd}
use Rattle.connection_uri.specs.Base.{BaseParts}
use Rattle.cli_replay.specs.PlanLaws.Planned.{IsPlanned}
use Rattle.cli_replay.specs.declared.replay_laws.event.Event.{Event}
use Rattle.lc_world.specs.Link.{LinkSeen}
use Rattle.lc_world.specs.declared.entry.Entry.{Entry}
use Rattle.page_relay.specs.Kept.{Kept}
use Rattle.page_relay.specs.Relay.{relayed_seen, transcript_of}
use Rattle.page_relay.specs.Recorded.{HasRelayed}

-- `relayed {n} forwarded {n}`
abbrev pub counts_line_of : ℕ → ℕ → List ℕ
counts_line_of relayed forwarded = codes "relayed " ++ decimal relayed ++ codes " forwarded " ++ decimal forwarded ++ codes "\n"

-- how many exchanges clients made
abbrev pub exchanges_in : List ClientEnd → ℕ
exchanges_in ends = sum_by (λ (end : ClientEnd). end.exchanges) ends

-- a new relay over a link, under a base and with so many entries
abbrev pub relay_over : BaseParts → ℕ → LinkSeen → LinkSeen
relay_over base entries link = relayed_seen link (transcript_of base entries link.recorded []) []

-- this relay after exchanges of its own, when it keeps these replies and has left the link so
abbrev pub relay_after : BaseParts → ℕ → LinkSeen → List Entry → List Kept → LinkSeen → LinkSeen
relay_after base entries link own kept after = relayed_seen after (transcript_of base entries link.recorded own) kept

-- The clients planned over a new relay of the link with so many entries, which has these exchanges of its own. The text is their blocks and a line
-- with two counts. The first one is the number of the relay's exchanges, which is the sum of the clients'. The second one is how many of them were
-- handed on: those for which the relay kept no reply. By these, in order, and by no others the transcript of the link
-- has grown, if it has one.
pub record IsRelayed (base : BaseParts) (all : List Event) (cache entries : ℕ) (before after : LinkSeen) (text : List ℕ) (ends : List ClientEnd) : Type 0 where
  pub blocks : List ℕ
  pub own : List Entry
  pub kept : List Kept
  pub planned : IsPlanned base all cache (relay_over base entries before) (relay_after base entries before own kept after) blocks ends
  pub relayed : ℕ
  pub forwarded : ℕ
  pub has : HasRelayed base entries before.recorded after.recorded kept own relayed forwarded true
  pub relayed_is : relayed ≡ min (exchanges_in ends) (2 ^ 64 - 1)
  pub text_is : text ≡ blocks ++ counts_line_of relayed forwarded
