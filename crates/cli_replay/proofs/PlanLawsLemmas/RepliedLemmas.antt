-- What an honest link records of the replies, turn after turn.
use Rattle.std.proofs.Common.{◌≡◌, ◌∙◌, ℕ, zero, suc, inl, inr, List, [], ◌∷◌, ◌++◌, length, refl, ap, sym, subst}
use Rattle.std.specs.Option.{option_map}
use Rattle.std.proofs.lemmas.List.Elements.{All-head, All-tail}
use Rattle.connection_uri.specs.Base.{BaseParts}
use Rattle.convoy.specs.Exchange.{Got, IsExchange, bytes_of, result_of}
use Rattle.convoy.specs.Finish.{IsStep, Rounds, Step, TurnsOf}
use Rattle.convoy.specs.State.{ConvoyState, begun}
use Rattle.convoy.specs.Turn.{Asks, Turned}
use Rattle.convoy.specs.declared.turn.Turn.{Turn}
use Rattle.convoy.specs.declared.turn.Turn.TheVariants.{Cached, Exchanged, Finished}
use Rattle.convoy.proofs.AgreementLemmas.HonestLemmas.{is_get}
use Rattle.convoy.proofs.AgreementLemmas.RepliesLemmas.{one_more, recorded_no_more, recorded_then, replied_by}
use Rattle.cli_replay.specs.PlanLaws.Laws.{PlanRecordsReplies}
use Rattle.cli_replay.specs.PlanLaws.Planned.{IsNoMessage, NoneIsMessage}
use Rattle.cli_replay.specs.PlanLaws.Replied.{AreRepliedAlong}
use Rattle.cli_replay.specs.ReplayLaws.Played.{Plays}
use Rattle.cli_replay.specs.declared.replay_laws.event.Event.{Event}
use Rattle.cli_replay.specs.declared.replay_laws.event.Event.TheVariants as events
use Rattle.lc_world.specs.Link.{Exchanges, IsHonestWith, LinkSeen, TellsMore}
use Rattle.lc_world.specs.declared.entry.Entry.{Entry}
use Rattle.page_client.specs.Client.{shown}
use Rattle.page_client.specs.Shown.{Shown}
use Rattle.page_client.specs.declared.client.Client.{Client}
use Rattle.lc_world.proofs.SidesLemmas.LaterLemmas.{later_itself, later_on}
use Rattle.lc_world.specs.Sides.Side.{IsLater, Side}

-- replies from an earlier side on
from_earlier : (first side : Side) (entries : List Entry) (last : Side) → IsLater first side → AreRepliedAlong side entries last → AreRepliedAlong first entries last
from_earlier first side [] last earlier later = later_on first side last earlier later
from_earlier first side (entry ∷ entries) last earlier (at, later, own, rest) = (at, later_on first side at earlier later, own, rest)

-- replies, and then more
replied_then : (first : Side) (entries : List Entry) (side : Side) (more : List Entry) (last : Side) → AreRepliedAlong first entries side → AreRepliedAlong side more last
    → AreRepliedAlong first (entries ++ more) last
replied_then first [] side more last earlier later = from_earlier first side more last earlier later
replied_then first (entry ∷ entries) side more last (at, is_later, own, rest) later = (at, is_later, own, replied_then at entries side more last rest later)

-- what a link that was honest with this side has recorded since, and the side with which it is honest now
record Along (base : BaseParts) (first : Side) (before after : LinkSeen) : Type 0 where
  last : Side
  honest : IsHonestWith after base last
  entries : List Entry
  replied : AreRepliedAlong first entries last
  is : after.recorded ≡ option_map (λ (recorded : List Entry). recorded ++ entries) before.recorded

along_none : (base : BaseParts) (side : Side) (link : LinkSeen) → IsHonestWith link base side → Along base side link link
along_none base side link honest = record { last = side; honest = honest; entries = []; replied = later_itself side; is = recorded_no_more link.recorded }

along_then : (base : BaseParts) (first : Side) (a b c : LinkSeen) (x : Along base first a b) → Along base x.last b c → Along base first a c
along_then base first a b c x y = record {
  last = y.last;
  honest = y.honest;
  entries = x.entries ++ y.entries;
  replied = replied_then first x.entries x.last y.entries y.last x.replied y.replied;
  is = y.is ∙ ap (option_map (λ (recorded : List Entry). recorded ++ y.entries)) x.is ∙ recorded_then a.recorded x.entries y.entries;
}

-- an exchange
exchange_along : (base : BaseParts) (side : Side) (s : Shown) (before after : LinkSeen) (got : Got) → IsHonestWith before base side → IsExchange base s before after got → Along base side before after
exchange_along base side s before after got honest ex =
    let x : Exchanges before after base side ex.request (bytes_of got) (result_of got) = ex.honest base side (is_get base _ _ ex.request ex.asks) honest in
    let more : TellsMore before.recorded after.recorded base.authority ex.request got = one_more before.recorded after.recorded base.authority ex.request got ex.recorded in
    record {
      last = x.side;
      honest = x.honest;
      entries = record { authority = base.authority; request = ex.request; reply = more.reply } ∷ [];
      replied = (x.side, x.later, (λ reply is. replied_by x.side ex.request got more.reply reply x.replied more.is_given is), later_itself x.side);
      is = more.is;
    }

asks_along : (base : BaseParts) (side : Side) (old new : Client) (kept after_kept : _) (before after : LinkSeen) → IsHonestWith before base side → Asks base old new kept after_kept before after
    → Along base side before after
asks_along base side old new kept after_kept before after honest (inl (asks, same)) = exchange_along base side (shown old) before after asks.got honest asks.exchange
asks_along base side old new kept after_kept before after honest (inr (inl (asks, same))) = exchange_along base side (shown old) before after asks.got honest asks.exchange
asks_along base side old new kept after_kept before after honest (inr (inr asks)) = exchange_along base side (shown old) before after asks.got honest asks.exchange

-- what was recorded so far, while the base stays
record AlongSoFar {X : Type 0} (seen : X → LinkSeen) (base : BaseParts) (side : Side) (new : ConvoyState) (before after : X) : Type 0 where
  along : Along base side (seen before) (seen after)
  base_is : new.base ≡ base

none_so_far : {X : Type 0} (seen : X → LinkSeen) (base : BaseParts) (side : Side) (old new : ConvoyState) (before after : X) → old.base ≡ base → IsHonestWith (seen before) base side → new ≡ old
    → after ≡ before → AlongSoFar seen base side new before after
none_so_far {X} seen base side old new before after under honest same still = record {
  along = subst (λ (x : X). Along base side (seen before) (seen x)) (sym still) (along_none base side (seen before) honest);
  base_is = ap (λ (c : ConvoyState). c.base) same ∙ under;
}

-- and then more
so_far_then : {X : Type 0} (seen : X → LinkSeen) (base : BaseParts) (side : Side) (mid new : ConvoyState) (a b c : X) (x : AlongSoFar seen base side mid a b)
    → AlongSoFar seen base x.along.last new b c → AlongSoFar seen base side new a c
so_far_then seen base side mid new a b c x y = record { along = along_then base side (seen a) (seen b) (seen c) x.along y.along; base_is = y.base_is }

module _ {X : Type 0} (seen : X → LinkSeen) (base : BaseParts) where
  turn_along : (k : ℕ) (side : Side) (turn : Turn) (old new : ConvoyState) (before after : X) → old.base ≡ base → IsHonestWith (seen before) base side → IsStep seen k old new before after turn
      → Along base side (seen before) (seen after)
  turn_along k side Finished old new before after under honest step =
      subst (λ (x : X). Along base side (seen before) (seen x)) (sym (step.idle (λ e. cc))) (along_none base side (seen before) honest)
  turn_along k side Cached old new before after under honest step =
      subst (λ (x : X). Along base side (seen before) (seen x)) (sym (step.idle (λ e. cc))) (along_none base side (seen before) honest)
  turn_along k side Exchanged old new before after under honest step =
      let s = step.turned in
      let t = subst (λ (b : BaseParts). Turned b s.was s.is old.kept new.kept (seen before) (seen after) Exchanged) under s.turned in
      asks_along base side s.was.client s.is.client old.kept new.kept (seen before) (seen after) honest t.asks

  step_along : (k : ℕ) (side : Side) (turn : Turn) (old new : ConvoyState) (before after : X) → old.base ≡ base → IsHonestWith (seen before) base side → IsStep seen k old new before after turn
      → AlongSoFar seen base side new before after
  step_along k side turn old new before after under honest step =
      record { along = turn_along k side turn old new before after under honest step; base_is = step.turned.base ∙ under }

  -- turns of a client, the latest first
  turns_along : (k : ℕ) (side : Side) (steps : List (Step X)) (old new : ConvoyState) (before after : X) → old.base ≡ base → IsHonestWith (seen before) base side → TurnsOf seen k steps old new before after
      → AlongSoFar seen base side new before after
  turns_along k side [] old new before after under honest (same, still) = none_so_far seen base side old new before after under honest same still
  turns_along k side (step ∷ earlier) old new before after under honest (last, turns) =
      let first = turns_along k side earlier old step.convoy before step.link under honest turns in
      so_far_then seen base side step.convoy new before step.link after first
      (step_along k first.along.last step.turn step.convoy new step.link after first.base_is first.along.honest last)

  -- the rounds of the clients, up to client n
  rounds_along : (n : ℕ) (side : Side) (old new : ConvoyState) (before after : X) → old.base ≡ base → IsHonestWith (seen before) base side → Rounds seen n old new before after
      → AlongSoFar seen base side new before after
  rounds_along zero side old new before after under honest (same, still) = none_so_far seen base side old new before after under honest same still
  rounds_along (suc n) side old new before after under honest (convoy, link, rounds, ends) =
      let first = rounds_along n side old convoy before link under honest rounds in
      so_far_then seen base side convoy new before link after first
      (turns_along (suc n) first.along.last ends.steps convoy new link after first.base_is first.along.honest ends.turns)

  -- events of which none is a message
  events_along : (all : List Event) (side : Side) (old new : ConvoyState) (before after : X) (lines : List ℕ) → NoneIsMessage all → old.base ≡ base → IsHonestWith (seen before) base side
      → Plays seen all old new before after lines → AlongSoFar seen base side new before after
  events_along [] side old new before after lines none under honest (same, still, nothing) = none_so_far seen base side old new before after under honest same still
  events_along (events.Ask query ∷ more) side old new before after lines none under honest (between, adds, plays) =
      events_along more side between new before after lines (All-tail IsNoMessage (events.Ask query) more none) (ap (λ (c : ConvoyState). c.base) adds.is ∙ under) honest plays
  events_along (events.Message message ∷ more) side old new before after lines none under honest plays = absurd (All-head IsNoMessage (events.Message message) more none)
  events_along (events.Turn client ∷ more) side old new before after lines none under honest (between, link, turn, step, plays) =
      let first = step_along client side turn old between before link under honest step in
      so_far_then seen base side between new before link after first
      (events_along more first.along.last between new link after lines (All-tail IsNoMessage (events.Turn client) more none) first.base_is first.along.honest plays)

pub plan_records_replies : {X : Type 0} (seen : X → LinkSeen) → PlanRecordsReplies seen
plan_records_replies seen base first all cache played ended start behind after lines none honest plays rounds =
    let events = events_along seen base all first (begun base cache) played start behind lines none refl honest plays in
    let whole =
    so_far_then seen base first played ended start behind after events
    (rounds_along seen base (length played.members) events.along.last played ended behind after events.base_is events.along.honest rounds) in
    record { last = whole.along.last; last_is = whole.along.honest.tells; entries = whole.along.entries; replied = whole.along.replied; is = whole.along.is }
