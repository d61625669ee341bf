-- What a quiet link records of the replies in an event sequence.
use Rattle.std.proofs.Common.{◌≡◌, ℕ, suc, List, [], ◌∷◌, ◌++◌, length, take, Option, Some, None, refl, ap, sym, subst, ◌∙◌}
use Rattle.std.specs.List.{All}
use Rattle.std.specs.Option.{option_map}
use Rattle.std.proofs.lemmas.List.{append-nil, append_assoc}
use Rattle.cli_ask.specs.Admission.{IsBehind}
use Rattle.cli_ask.specs.Publishing.{side_with, store_of}
use Rattle.cli_words.specs.declared.command.Publishing.{Publishing}
use Rattle.convoy.specs.Finish.{Rounds}
use Rattle.convoy.specs.State.{ConvoyState, begun}
use Rattle.convoy.specs.Agreement.Names.{Round}
use Rattle.convoy.specs.Agreement.Replies.{IsRepliedBy}
use Rattle.convoy.specs.Agreement.Rounds.{rounds_up_to}
use Rattle.convoy.proofs.AgreementLemmas.RepliesLemmas.{rounds_replied, recorded_then, turn_replied}
use Rattle.lc_world.specs.Link.{IsQuietWith, LinkSeen}
use Rattle.lc_world.specs.declared.entry.Entry.{Entry}
use Rattle.lc_world.specs.Sides.Short.{IsShort}
use Rattle.lc_world.specs.Sides.Side.{IsValidSide}
use Rattle.timetable.specs.declared.timetable.Timetable.{Timetable}
use Rattle.version_store.specs.Store.{Stored}
use Rattle.cli_replay.specs.ReplayLaws.Laws.{IsQuietAt}
use Rattle.cli_replay.specs.ReplayLaws.Played.{Plays}
use Rattle.cli_replay.specs.ReplayLaws.Replied.{AreReplied, TellsOwn}
use Rattle.cli_replay.specs.ReplayLaws.Rounds.{rounds_along}
use Rattle.cli_replay.specs.ReplayLaws.Versions.{AreShort, HasHeard}
use Rattle.cli_replay.specs.declared.replay_laws.event.Event.{Event}
use Rattle.cli_replay.specs.declared.replay_laws.event.Event.TheVariants as events
use Rattle.cli_replay.proofs.ReplayLawsLemmas.HeardLemmas.{behind, side_is, stops_then, tells_then}

-- the publisher's texts fit into replies, whatever is heard from this store on
abbrev AreShortOn : Timetable → Publishing → List Event → Stored → Type 0
AreShortOn made publishing all store = (n : ℕ) (next : Stored) (lines : List ℕ) → HasHeard (take n all) store next lines → IsShort (side_with made publishing next)

-- what is recorded from a store on, while the link is quiet with its side
record RepliedOn (made : Timetable) (publishing : Publishing) (all : List Event) (store : Stored) (rounds : List Round) (new : ConvoyState) (before after : LinkSeen) : Type 0 where
  last : Stored
  entries : List Entry
  is : after.recorded ≡ option_map (λ (recorded : List Entry). recorded ++ entries) before.recorded
  quiet : IsQuietWith after publishing.base (side_with made publishing last)
  base_is : new.base ≡ publishing.base
  on : (tail : List Entry) (more : List Round) → All (IsRepliedBy (side_with made publishing last)) tail → AreReplied made publishing all store (rounds ++ more) (entries ++ tail)

recorded_no_more : (recorded : Option (List Entry)) → recorded ≡ option_map (λ (entries : List Entry). entries ++ []) recorded
recorded_no_more None = refl
recorded_no_more (Some entries) = ap Some (sym (append-nil entries))

replied_on :
    {X : Type 0} (seen : X → LinkSeen) (made : Timetable) (publishing : Publishing) (all : List Event) (store : Stored) (old new : ConvoyState) (before after : X) (lines : List ℕ) → store.stops ≡ made.doc.stops →
    AreShortOn made publishing all store → IsQuietWith (seen before) publishing.base (side_with made publishing store) → old.base ≡ publishing.base → (plays : Plays seen all old new before after lines) →
    RepliedOn made publishing all store (rounds_along seen all old new before after lines plays) new (seen before) (seen after)
replied_on {X} seen made publishing [] store old new before after lines stops short quiet base (same, still, none) =
    subst (λ (x : X). RepliedOn made publishing [] store [] new (seen before) (seen x)) (sym still)
    (record {
      last = store;
      entries = [];
      is = recorded_no_more (seen before).recorded;
      quiet = quiet;
      base_is = ap (λ (c : ConvoyState). c.base) same ∙ base;
      on = λ tail more own. own;
    })
replied_on seen made publishing (events.Ask query ∷ more) store old new before after lines stops short quiet base (between, adds, plays) =
    let rest = replied_on seen made publishing more store between new before after lines stops (λ n next all heard. short (suc n) next all heard) quiet (ap (λ (c : ConvoyState). c.base) adds.is ∙ base) plays in
    record { last = rest.last; entries = rest.entries; is = rest.is; quiet = rest.quiet; base_is = rest.base_is; on = rest.on }
replied_on seen made publishing (events.Message message ∷ more) store old new before after lines stops short quiet base (link, line, others, given, plays, all_lines) =
    let tells = quiet.as_honest.tells in
    let heard : IsBehind (Some message.file) store given.store line = behind made publishing message.file store stops (seen before) (seen link) line tells given in
    let side = side_is made publishing message.file store stops (seen before) (seen link) line tells given in
    let valid : IsValidSide (side_with made publishing given.store) = subst IsValidSide side given.valid in
    let now_short : AreShortOn made publishing more given.store = λ n next all on. short (suc n) next (line ++ all) (given.store, line, all, heard, on, refl) in
    let now_quiet : IsQuietWith (seen link) publishing.base (side_with made publishing given.store) = record {
      as_honest = record {
        tells = tells_then made publishing message.file store stops (seen before) (seen link) line tells given;
        stands = record { is_base = refl; valid = valid; short = now_short 0 given.store [] (refl, refl) };
        honest = given.honest publishing.base quiet.as_honest.honest;
      };
      quiet = given.quiet publishing.base quiet.quiet;
    } in
    let rest = replied_on seen made publishing more given.store old new link after others (stops_then made publishing message.file store stops (seen before) (seen link) line tells given) now_short now_quiet base
    plays in
    record {
      last = rest.last;
      entries = rest.entries;
      is = rest.is ∙ ap (option_map (λ (recorded : List Entry). recorded ++ rest.entries)) given.recorded;
      quiet = rest.quiet;
      base_is = rest.base_is;
      on = λ tail further own. (given.store, line, heard, rest.on tail further own);
    }
replied_on seen made publishing (events.Turn client ∷ more) store old new before after lines stops short quiet base (between, link, turn, step, plays) =
    let one = turn_replied seen publishing.base (side_with made publishing store) client turn old between before link base quiet step in
    let rest = replied_on seen made publishing more store between new link after lines stops (λ n next all heard. short (suc n) next all heard) one.quiet (step.turned.base ∙ base) plays in
    let own = one.tells.replies.entries in
    record {
      last = rest.last;
      entries = own ++ rest.entries;
      is = rest.is ∙ ap (option_map (λ (recorded : List Entry). recorded ++ rest.entries)) one.tells.replies.is ∙ recorded_then (seen before).recorded own rest.entries;
      quiet = rest.quiet;
      base_is = rest.base_is;
      on = λ tail further are. (own, rest.entries ++ tail, append_assoc own rest.entries tail, one.tells.count_is, one.tells.replies.own, rest.on tail further are);
    }

-- an event sequence over a quiet link, to the end of its clients
pub tells_own :
    {X : Type 0} (seen : X → LinkSeen) (made : Timetable) (publishing : Publishing) (all : List Event) (cache : ℕ) (played ended : ConvoyState) (start behind_it after : X) (lines : List ℕ) →
    IsQuietAt made publishing (seen start) → AreShort made publishing all → (plays : Plays seen all (begun publishing.base cache) played start behind_it lines) →
    (rounds : Rounds seen (length played.members) played ended behind_it after) →
    TellsOwn made publishing all (rounds_along seen all (begun publishing.base cache) played start behind_it lines plays ++ rounds_up_to seen (length played.members) played ended behind_it after rounds)
    (seen start).recorded (seen after).recorded
tells_own seen made publishing all cache played ended start behind_it after lines quiet short plays rounds =
    let store = store_of made publishing.base_moment in
    let at : IsQuietWith (seen start) publishing.base (side_with made publishing store) = record {
      as_honest = record { tells = quiet.tells; stands = record { is_base = refl; valid = quiet.valid; short = short 0 store [] (refl, refl) }; honest = quiet.honest };
      quiet = quiet.quiet;
    } in
    let on = replied_on seen made publishing all store (begun publishing.base cache) played start behind_it lines refl short at refl plays in
    let tail = (rounds_replied seen publishing.base (side_with made publishing on.last) (length played.members) played ended behind_it after on.base_is on.quiet rounds).replied.tells in
    record {
      entries = on.entries ++ tail.entries;
      replied = on.on tail.entries (rounds_up_to seen (length played.members) played ended behind_it after rounds) tail.own;
      is = tail.is ∙ ap (option_map (λ (recorded : List Entry). recorded ++ tail.entries)) on.is ∙ recorded_then (seen start).recorded on.entries tail.entries;
    }
