-- How a client of an event sequence ended rightly, which reached its outcome in a last turn of its own.
use Rattle.std.proofs.Common.{◌≡◌, ℕ, ◌+◌, ◌⊎◌, inl, inr, List, [], ◌∷◌, ◌++◌, length, Option, Some, None, refl, ap, ap₂, sym, subst, ◌∙◌, arith, append-nil, append_assoc, length-append}
use Rattle.std.specs.List.{All}
use Rattle.std.specs.Option.{IsSome}
use Rattle.std.proofs.lemmas.List.Elements.{All-head}
use Rattle.cli_ask.proofs.ClientLemmas.{at_end, same_end}
use Rattle.cli_ask.specs.Client.{shown_of}
use Rattle.cli_ask.specs.Publishing.{side_with, store_of}
use Rattle.cli_ask.specs.declared.end.ClientEnd.{ClientEnd}
use Rattle.convoy.specs.ClientLaws.Fits.{HasEnded, HasFailed, IsDenied}
use Rattle.convoy.specs.ClientLaws.Wants.{AreWants}
use Rattle.cli_words.specs.declared.command.Publishing.{Publishing}
use Rattle.convoy.specs.Finish.{HasOutcome}
use Rattle.convoy.specs.State.{ConvoyState}
use Rattle.convoy.specs.declared.member.Member.{Member}
use Rattle.convoy.specs.Agreement.Leaves.{HasReachedOutcome, NoneFailed, OneFailed, VersionAfter}
use Rattle.convoy.specs.Agreement.Names.{Round}
use Rattle.convoy.specs.Agreement.OneClient.{version_of}
use Rattle.convoy.proofs.AgreementLemmas.AloneLemmas.{BeginsAtGate, version_is}
use Rattle.convoy.proofs.AgreementLemmas.NamedLemmas.{kept_version}
use Rattle.lc_model.specs.declared.query.Query.{Query}
use Rattle.lc_world.specs.Link.{LinkSeen}
use Rattle.page_client.specs.Client.{shown}
use Rattle.page_client.specs.Shown.{Shown}
use Rattle.page_client.specs.declared.fault.QueryFault.{QueryFault}
use Rattle.page_client.specs.declared.fault.QueryFault.TheVariants.{HorizonRange, SameStop, UnknownFrom, UnknownTo}
use Rattle.page_client.specs.declared.outcome.Outcome.{Outcome}
use Rattle.page_client.specs.declared.outcome.Outcome.TheVariants as outcomes
use Rattle.page_client.specs.declared.want.Want.{Want}
use Rattle.page_client.specs.declared.want.Want.TheVariants as wants
use Rattle.lc_world.specs.Sides.Side.{Side}
use Rattle.timetable.specs.declared.timetable.Timetable.{Timetable}
use Rattle.version_store.specs.Store.{Stored}
use Rattle.cli_replay.specs.ReplayLaws.Events.{before_turn_of}
use Rattle.cli_replay.specs.ReplayLaws.Played.{HasEndedSo}
use Rattle.cli_replay.specs.ReplayLaws.Right.{EndsSo, FailsWith}
use Rattle.cli_replay.specs.ReplayLaws.Turns.{EndByFailure, IsIdle, IsOne, TakeOneEach, asked_in, failed_in, given_in}
use Rattle.cli_replay.specs.ReplayLaws.Versions.{HasHeard, IsMeant}
use Rattle.cli_replay.specs.declared.replay_laws.event.Event.{Event}
use Rattle.cli_replay.proofs.ReplayLawsLemmas.FailureLemmas.{fails_idle, fails_last}
use Rattle.cli_replay.proofs.ReplayLawsLemmas.EventLemmas.{asked_in-append, failed_in-append, given_in-append}
use Rattle.cli_replay.proofs.ReplayLawsLemmas.FinishesListLemmas.{ones_and_idle, ones_and_last}
use Rattle.cli_replay.proofs.ReplayLawsLemmas.PlayedTo.{HasFailedSo, HasMet, IsMemberSo}

-- who has an outcome does not lack one
no_outcome : (outcome : Option Outcome) → IsSome outcome → outcome ≡ None → ⊥
no_outcome None is e = cc
no_outcome (Some o) is e = cc

front_none : (first second : List Want) → first ++ second ≡ [] → first ≡ []
front_none [] second none = refl
front_none (want ∷ first) second none = absurd (cc)

-- who received one want in each turn, but nothing in all, while nothing failed, had no turn
no_round : (rounds : List Round) → All IsOne rounds → given_in rounds ≡ [] → failed_in rounds ≡ [] → rounds ≡ []
no_round [] each given failed = refl
no_round (round ∷ rounds) each given failed =
    let one = All-head IsOne round rounds each in
    let none_given : round.given ≡ [] = front_none round.given (given_in rounds) given in
    let none_failed : round.failed ≡ [] = front_none round.failed (failed_in rounds) failed in
    let none : round.given ++ round.failed ≡ [] = ap₂ (λ (x y : List Want). x ++ y) none_given none_failed in
    absurd (one_and_none (round.given ++ round.failed) one.want one.is none) where
      one_and_none : (all : List Want) (want : Want) → all ≡ want ∷ [] → all ≡ [] → ⊥
      one_and_none all want is none = cc

-- a client without outcome that received nothing in all, while nothing failed, had no turn
no_turn_of : (rounds : List Round) (outcome : Option Outcome) → outcome ≡ None → HasMet rounds outcome → given_in rounds ≡ [] → failed_in rounds ≡ [] → rounds ≡ []
no_turn_of rounds outcome none met given failed = by_end met.ended where
  all_ones : met.idle ≡ [] → rounds ≡ met.ones
  all_ones nothing = met.are ∙ ap (λ (l : List Round). met.ones ++ l) nothing ∙ append-nil met.ones

  by_end : (met.idle ≡ []) ⊎ IsSome outcome → rounds ≡ []
  by_end (inl nothing) =
      let are = all_ones nothing in
      are ∙ no_round met.ones met.each (sym (ap given_in are) ∙ given) (sym (ap failed_in are) ∙ failed)
  by_end (inr some) = absurd (no_outcome outcome some none)

-- who ended without a version wanted the time gate at first, if anything
denied_gate : (side : Side) (s : Shown) (want : Want) (more : List Want) (fault : QueryFault) → IsDenied side s (want ∷ more) fault → want ≡ wants.Gate
denied_gate side s want more HorizonRange denied = let none : want ∷ more ≡ [] = denied.given in absurd (cc)
denied_gate side s want more SameStop denied = let none : want ∷ more ≡ [] = denied.given in absurd (cc)
denied_gate side s want more UnknownFrom denied = let two : want ∷ more ≡ wants.Gate ∷ wants.Stops ∷ [] = denied.given in cc
denied_gate side s want more UnknownTo denied = let two : want ∷ more ≡ wants.Gate ∷ wants.Stops ∷ [] = denied.given in cc

ended_gate : (side : Side) (s : Shown) (want : Want) (more : List Want) (outcome : Outcome) → s.version ≡ None → HasEnded side s (want ∷ more) (Some outcome) → want ≡ wants.Gate
ended_gate side s want more (outcomes.Found journey) none ended = let some : s.version ≡ Some ended.version = ended.at_version in absurd (cc)
ended_gate side s want more outcomes.NoJourney none ended = let some : s.version ≡ Some ended.version = ended.at_version in absurd (cc)
ended_gate side s want more (outcomes.Refused fault) none ended = denied_gate side s want more fault ended
ended_gate side s want more (outcomes.LinkFault low high) none ended =
    let failed : HasFailed side s (want ∷ more) None = subst (HasFailed side s (want ∷ more)) none ended in
    let nothing : want ∷ more ≡ [] = failed.1 in
    absurd (cc)
ended_gate side s want more (outcomes.PeerWrong reply fault) none ended = absurd ended

begins_at_gate : (side left : Side) (was is : Shown) (given : List Want) (outcome : Outcome) → was.version ≡ None → VersionAfter side left was given is.version → HasEnded left is given (Some outcome) →
    BeginsAtGate given
begins_at_gate side left was is [] outcome none after ended = tt
begins_at_gate side left was is (wants.Gate ∷ more) outcome none after ended = refl
begins_at_gate side left was is (wants.Stops ∷ more) outcome none after ended = ended_gate left is wants.Stops more outcome (after ∙ none) ended
begins_at_gate side left was is (wants.Page name ∷ more) outcome none after ended = ended_gate left is (wants.Page name) more outcome (after ∙ none) ended
begins_at_gate side left was is (wants.Finished ∷ more) outcome none after ended = ended_gate left is wants.Finished more outcome (after ∙ none) ended

-- nothing was asked for in vain, and it ended by no fault of the link
none_failed : (side : Side) (query : Query) (version : Option ℕ) (given failed : List Want) (outcome : Outcome) → failed ≡ [] → ((low high : ℕ) → outcome ≡ outcomes.LinkFault low high → ⊥) →
    FailsWith side query version given failed outcome
none_failed side query version given failed (outcomes.Found journey) none not = none
none_failed side query version given failed outcomes.NoJourney none not = none
none_failed side query version given failed (outcomes.Refused fault) none not = none
none_failed side query version given failed (outcomes.LinkFault low high) none not = absurd (not low high refl)
none_failed side query version given failed (outcomes.PeerWrong reply fault) none not = none

some_is_some : (is : Option Outcome) (a b : Outcome) → is ≡ Some a → is ≡ Some b → a ≡ b
some_is_some is a b one two = cc

-- A client of the question that had these turns in the event sequence. After it this was heard, and it had a last turn of its own.
module _ (made : Timetable) (publishing : Publishing) (all : List Event) (store : Stored) (lines : List ℕ) (client : ℕ) (query : Query) (was : Member) (new : ConvoyState)
    (so_far now : List (List Want)) (rounds : List Round) (place : ℕ) (before after : LinkSeen) (mine : List Round) (end : ClientEnd)
    (heard : HasHeard all (store_of made publishing.base_moment) store lines)
    (came : HasReachedOutcome (side_with made publishing store) (side_with made publishing store) was new so_far now rounds place before after)
    (m : IsMemberSo made publishing all (side_with made publishing store) client query was came.own mine) (so : HasEndedSo came.is end)
    (without_turn : mine ≡ [] → before_turn_of client all ≡ all) where
  abbrev side : Side
  side = side_with made publishing store

  -- what it received, and what it asked for in vain
  given_is : given_in (mine ++ came.round ∷ []) ≡ came.own ++ came.round.given
  given_is = given_in-append mine (came.round ∷ []) ∙ ap₂ (λ (x y : List Want). x ++ y) (sym m.given_is) (append-nil came.round.given)

  failed_is : failed_in (mine ++ came.round ∷ []) ≡ failed_in mine ++ came.round.failed
  failed_is = failed_in-append mine (came.round ∷ []) ∙ ap (λ (l : List Want). failed_in mine ++ l) (append-nil came.round.failed)

  asked_is : asked_in (mine ++ came.round ∷ []) ≡ asked_in mine ++ came.round.asked
  asked_is = asked_in-append mine (came.round ∷ []) ∙ ap (λ (l : List Want). asked_in mine ++ l) (append-nil came.round.asked)

  query_is : (shown came.is.client).query ≡ query
  query_is = came.moved.query ∙ m.question

  -- it ended so
  ended_at : HasEnded side (shown came.is.client) (came.own ++ came.round.given) (Some end.outcome)
  ended_at = subst (HasEnded side (shown came.is.client) (came.own ++ came.round.given)) so.outcome (at_end side came.is.client (came.own ++ came.round.given) came.is.client.phase came.ended came.client.fits)

  ended : HasEnded side (shown_of query end) (given_in (mine ++ came.round ∷ [])) (Some end.outcome)
  ended =
      subst (λ (l : List Want). HasEnded side (shown_of query end) l (Some end.outcome)) (sym given_is)
      (same_end side (shown came.is.client) (shown_of query end) (came.own ++ came.round.given) query_is (sym so.version) end.outcome ended_at)

  -- where it had its outcome before, nothing was left to do
  none_given : HasOutcome was → came.round.given ≡ []
  none_given some = came.idle some

  nothing_failed : HasOutcome was → came.round.failed ≡ []
  nothing_failed some = by_how came.how where
    by_how : NoneFailed (shown was.client) (shown came.is.client) came.round.failed ⊎ OneFailed side (shown was.client) (shown came.is.client) (came.own ++ came.round.given) came.round.failed →
        came.round.failed ≡ []
    by_how (inl none) = none.none
    by_how (inr one) = absurd (no_outcome (shown was.client).outcome some one.waited)

  was_idle : HasOutcome was → IsIdle came.round
  was_idle some = ap₂ (λ (x y : List Want). x ++ y) (none_given some) (nothing_failed some)

  -- its version stays where the time gate does not reply
  stays : ((more : List Want) → came.round.given ≡ wants.Gate ∷ more → ⊥) → end.version ≡ (shown was.client).version
  stays no_gate = so.version ∙ kept_version side side (shown was.client) came.round.given (shown came.is.client).version no_gate came.moved.version

  no_gate_of_none : came.round.given ≡ [] → (more : List Want) → came.round.given ≡ wants.Gate ∷ more → ⊥
  no_gate_of_none none more begins = cc

  -- where it had received nothing before, its version is the one that it means now
  version_now : came.own ≡ [] → end.version ≡ version_of side query came.round.given
  version_now none =
      let no_version : (shown was.client).version ≡ None = m.meant.is ∙ ap (version_of (side_with made publishing m.meant.store) query) (sym m.given_is ∙ none) in
      let alone : HasEnded side (shown came.is.client) came.round.given (Some end.outcome) =
      subst (λ (l : List Want). HasEnded side (shown came.is.client) (l ++ came.round.given) (Some end.outcome)) none ended_at in
      so.version
      ∙ version_is side side (shown was.client) query came.round.given (shown came.is.client).version m.question no_version refl
      (begins_at_gate side side (shown was.client) (shown came.is.client) came.round.given end.outcome no_version came.moved.version alone) came.moved.version

  -- a client that receives something now, and had received nothing before, had no turn
  first_turn : (want : Want) (more : List Want) → came.own ≡ [] → came.round.given ≡ want ∷ more → mine ≡ []
  first_turn want more none some = by_outcome (shown was.client).outcome refl m.failed where
    by_outcome : (outcome : Option Outcome) → (shown was.client).outcome ≡ outcome → HasFailedSo side query (shown was.client).version (given_in mine) (failed_in mine) outcome → mine ≡ []
    by_outcome None waits failed = no_turn_of mine (shown was.client).outcome waits m.met (sym m.given_is ∙ none) failed
    by_outcome (Some outcome) had failed =
        let nothing : came.round.given ≡ [] = none_given (subst IsSome (sym had) refl) in
        absurd (both nothing) where
          both : came.round.given ≡ [] → ⊥
          both nothing = cc

  meant_by : (own given : List Want) → came.own ≡ own → came.round.given ≡ given → IsMeant made publishing all client query (own ++ given) end.version
  meant_by [] [] own_is now_is = record {
    store = m.meant.store;
    lines = m.meant.lines;
    heard = m.meant.heard;
    is = version_now own_is ∙ ap (version_of side query) now_is;
  }
  meant_by [] (want ∷ more) own_is now_is = record {
    store = store;
    lines = lines;
    heard = subst (λ (events : List Event). HasHeard events (store_of made publishing.base_moment) store lines) (sym (without_turn (first_turn want more own_is now_is))) heard;
    is = version_now own_is ∙ ap (version_of side query) now_is;
  }
  meant_by (want ∷ more) given own_is now_is = record {
    store = m.meant.store;
    lines = m.meant.lines;
    heard = m.meant.heard;
    is = stays (came.gate_once some_and_none) ∙ m.meant.is ∙ ap (version_of (side_with made publishing m.meant.store) query) (sym m.given_is ∙ own_is);
  } where
    some_and_none : came.own ≡ [] → ⊥
    some_and_none none = cc

  meant : IsMeant made publishing all client query (given_in (mine ++ came.round ∷ [])) end.version
  meant = subst (λ (l : List Want). IsMeant made publishing all client query l end.version) (sym given_is) (meant_by came.own came.round.given refl refl)

  -- each exchange is counted
  exchanges : end.exchanges ≡ length (asked_in (mine ++ came.round ∷ []))
  exchanges = so.exchanges ∙ came.count ∙ counted (asked_in mine) came.round.asked was.exchanges m.count ∙ sym (ap length asked_is) where
    counted : (first second : List Want) (n : ℕ) → n ≡ length first → n + length second ≡ length (first ++ second)
    counted first second n is = omega (arith, length-append first second)

  -- it received one want a turn
  each : TakeOneEach (mine ++ came.round ∷ [])
  each = by_end m.met.ended where
    by_end : (m.met.idle ≡ []) ⊎ IsSome (shown was.client).outcome → TakeOneEach (mine ++ came.round ∷ [])
    by_end (inl nothing) =
        let are : mine ≡ m.met.ones = m.met.are ∙ ap (λ (l : List Round). m.met.ones ++ l) nothing ∙ append-nil m.met.ones in
        subst (λ (l : List Round). TakeOneEach (l ++ came.round ∷ [])) (sym are) (ones_and_last m.met.ones came.round m.met.each)
    by_end (inr some) =
        let are : mine ++ came.round ∷ [] ≡ m.met.ones ++ (m.met.idle ++ came.round ∷ []) =
        ap (λ (l : List Round). l ++ came.round ∷ []) m.met.are ∙ append_assoc m.met.ones m.met.idle (came.round ∷ []) in
        subst TakeOneEach (sym are) (ones_and_idle m.met.ones m.met.idle came.round m.met.each m.met.none (was_idle some))

  -- it received none after an exchange that failed
  at_last : EndByFailure (mine ++ came.round ∷ [])
  at_last = by_outcome (shown was.client).outcome refl m.failed where
    by_outcome : (outcome : Option Outcome) → (shown was.client).outcome ≡ outcome → HasFailedSo side query (shown was.client).version (given_in mine) (failed_in mine) outcome →
        EndByFailure (mine ++ came.round ∷ [])
    by_outcome None waits none = fails_last mine came.round none
    by_outcome (Some outcome) had so_failed = fails_idle mine came.round m.met.at_last (was_idle (subst IsSome (sym had) refl))

  -- and what was asked for in vain is right
  failed_now : (shown was.client).outcome ≡ None → failed_in (mine ++ came.round ∷ []) ≡ came.round.failed →
      NoneFailed (shown was.client) (shown came.is.client) came.round.failed ⊎ OneFailed side (shown was.client) (shown came.is.client) (came.own ++ came.round.given) came.round.failed →
      FailsWith side query end.version (given_in (mine ++ came.round ∷ [])) (failed_in (mine ++ came.round ∷ [])) end.outcome
  failed_now waits is (inl none) =
      none_failed side query end.version (given_in (mine ++ came.round ∷ [])) (failed_in (mine ++ came.round ∷ [])) end.outcome (is ∙ none.none) no_fault where
        no_fault : (low high : ℕ) → end.outcome ≡ outcomes.LinkFault low high → ⊥
        no_fault low high fault =
            let had = none.before (record { low = low; high = high; is = so.outcome ∙ ap Some fault }) in
            let some : (shown was.client).outcome ≡ Some (outcomes.LinkFault had.low had.high) = had.is in
            lacks (shown was.client).outcome had.low had.high waits some where
              lacks : (outcome : Option Outcome) (low high : ℕ) → outcome ≡ None → outcome ≡ Some (outcomes.LinkFault low high) → ⊥
              lacks outcome low high none some = cc
  failed_now waits is (inr one) =
      let fault : outcomes.LinkFault one.by_fault.low one.by_fault.high ≡ end.outcome =
      some_is_some (shown came.is.client).outcome (outcomes.LinkFault one.by_fault.low one.by_fault.high) end.outcome one.by_fault.is so.outcome in
      subst (FailsWith side query end.version (given_in (mine ++ came.round ∷ [])) (failed_in (mine ++ came.round ∷ []))) fault (record {
        want = one.want;
        one = is ∙ one.one;
        gate = λ nothing. one.gate (sym given_is ∙ nothing);
        next = λ at wanted version are.
            let next = one.next at wanted (sym so.version ∙ version) (subst (λ (q : Query). AreWants side at q wanted) (sym query_is) are) in
            (next.0, next.1 ∙ ap (λ (l : List Want). l ++ one.want ∷ next.0) (sym given_is));
      })

  failed : FailsWith side query end.version (given_in (mine ++ came.round ∷ [])) (failed_in (mine ++ came.round ∷ [])) end.outcome
  failed = by_outcome (shown was.client).outcome refl m.failed where
    by_outcome : (outcome : Option Outcome) → (shown was.client).outcome ≡ outcome → HasFailedSo side query (shown was.client).version (given_in mine) (failed_in mine) outcome →
        FailsWith side query end.version (given_in (mine ++ came.round ∷ [])) (failed_in (mine ++ came.round ∷ [])) end.outcome
    by_outcome None waits none = failed_now waits (failed_is ∙ ap (λ (l : List Want). l ++ came.round.failed) none) came.how
    by_outcome (Some outcome) had so_failed =
        let some : HasOutcome was = subst IsSome (sym had) refl in
        let same : outcome ≡ end.outcome = some_is_some (shown came.is.client).outcome outcome end.outcome (came.moved.outcome outcome had) so.outcome in
        let version : end.version ≡ (shown was.client).version = stays (no_gate_of_none (none_given some)) in
        let given : given_in (mine ++ came.round ∷ []) ≡ given_in mine = given_is ∙ ap (λ (l : List Want). came.own ++ l) (none_given some) ∙ append-nil came.own ∙ m.given_is in
        let vain : failed_in (mine ++ came.round ∷ []) ≡ failed_in mine = failed_is ∙ ap (λ (l : List Want). failed_in mine ++ l) (nothing_failed some) ∙ append-nil (failed_in mine) in
        subst (FailsWith side query end.version (given_in (mine ++ came.round ∷ [])) (failed_in (mine ++ came.round ∷ []))) same
        (subst (λ (v : Option ℕ). FailsWith side query v (given_in (mine ++ came.round ∷ [])) (failed_in (mine ++ came.round ∷ [])) outcome) (sym version)
        (subst (λ (l : List Want). FailsWith side query (shown was.client).version l (failed_in (mine ++ came.round ∷ [])) outcome) (sym given)
        (subst (λ (l : List Want). FailsWith side query (shown was.client).version (given_in mine) l outcome) (sym vain) so_failed)))

  pub ends_so : EndsSo made publishing all side client query (mine ++ came.round ∷ []) end
  ends_so = record { ended = ended; meant = meant; exchanges = exchanges; each = each; at_last = at_last; failed = failed }
