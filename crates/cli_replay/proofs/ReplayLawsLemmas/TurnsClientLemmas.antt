-- What one turn makes of the client whose turn it is, over a quiet link.
use Rattle.std.proofs.Common.{◌≡◌, ◌≢◌, ◌⊎◌, ℕ, ◌+◌, inl, inr, List, [], ◌∷◌, ◌++◌, length, map, Option, Some, None, refl, ap, ap₂, sym, subst, ◌∙◌, arith}
use Rattle.std.specs.List.{All}
use Rattle.std.specs.Option.{IsSome}
use Rattle.std.proofs.lemmas.Grind.{flat_map-append}
use Rattle.std.proofs.lemmas.List.{append-nil, append_assoc, length-append}
use Rattle.std.proofs.lemmas.List.Elements.{All-append, All-cons, All-head, All-nil}
use Rattle.cli_words.specs.declared.command.Publishing.{Publishing}
use Rattle.convoy.specs.declared.member.Member.{Member}
use Rattle.convoy.specs.declared.turn.Turn.{Turn}
use Rattle.convoy.specs.declared.turn.Turn.TheVariants.{Cached, Exchanged, Finished}
use Rattle.convoy.specs.Agreement.Leaves.{Gave, HasFault, NoneFailed, OneFailed, VersionThen}
use Rattle.convoy.specs.Agreement.Names.{Round}
use Rattle.convoy.specs.Agreement.OneClient.{version_of}
use Rattle.convoy.specs.ClientLaws.Answered.{names_at}
use Rattle.convoy.specs.ClientLaws.Fits.{FitsAt, FitsSide}
use Rattle.convoy.specs.ClientLaws.Wants.{AreWants}
use Rattle.lc_model.specs.declared.query.Query.{Query}
use Rattle.page_client.specs.Client.{shown}
use Rattle.page_client.specs.Shown.{Shown, want_of}
use Rattle.page_client.specs.declared.client.Client.{Client}
use Rattle.page_client.specs.declared.outcome.Outcome.{Outcome}
use Rattle.page_client.specs.declared.outcome.Outcome.TheVariants as outcomes
use Rattle.page_client.specs.declared.phase.Phase.{Phase}
use Rattle.page_client.specs.declared.phase.Phase.TheVariants as phases
use Rattle.page_client.specs.declared.want.Want.{Want}
use Rattle.page_client.specs.declared.want.Want.TheVariants as wants
use Rattle.lc_world.specs.Sides.Side.{Side}
use Rattle.convoy.specs.ClientLaws.Stated.{version_at}
use Rattle.timetable.specs.declared.timetable.Timetable.{Timetable}
use Rattle.version_store.specs.Store.{Stored}
use Rattle.cli_ask.specs.Publishing.{side_with, store_of}
use Rattle.cli_replay.specs.ReplayLaws.Events.{before_turn_of}
use Rattle.cli_replay.specs.ReplayLaws.Turns.{IsIdle, IsOne, asked_in, failed_in, given_in}
use Rattle.cli_replay.specs.ReplayLaws.Versions.{HasHeard, IsMeant}
use Rattle.cli_replay.specs.declared.replay_laws.event.Event.{Event}
use Rattle.cli_replay.proofs.ReplayLawsLemmas.FailureLemmas.{fails_idle, fails_last, front_nil}
use Rattle.cli_replay.proofs.ReplayLawsLemmas.PlayedTo.{HasFailedSo, HasMet, IsMemberSo}

-- who waits has no outcome
none_yet : (side : Side) (client : Client) (given : List Want) (phase : Phase) → FitsAt side client given phase → want_of phase ≢ wants.Finished → client.outcome ≡ None
none_yet side client given phases.Gate fits waits = fits.no_outcome
none_yet side client given (phases.Stops first) fits waits = fits.no_outcome
none_yet side client given (phases.Page name) fits waits = fits.no_outcome
none_yet side client given phases.Finished fits waits = absurd (waits refl)

-- who received nothing and waits, waits for the time gate
waits_at_first : (side : Side) (client : Client) (given : List Want) (phase : Phase) → FitsAt side client given phase → want_of phase ≢ wants.Finished → given ≡ [] → want_of phase ≡ wants.Gate
waits_at_first side client given phases.Gate fits waits none = refl
waits_at_first side client given (phases.Stops first) fits waits none = let some : given ≡ wants.Gate ∷ [] = fits.given in absurd (cc)
waits_at_first side client given (phases.Page name) fits waits none =
    let some : given ≡ wants.Gate ∷ wants.Stops ∷ map wants.Page (names_at name.version fits.before) = fits.given in
    absurd (cc)
waits_at_first side client given phases.Finished fits waits none = absurd (waits refl)

-- who waits for the time gate received nothing
nothing_before_gate : (side : Side) (client : Client) (given : List Want) (phase : Phase) → FitsAt side client given phase → want_of phase ≡ wants.Gate → given ≡ []
nothing_before_gate side client given phases.Gate fits is = fits.given
nothing_before_gate side client given (phases.Stops first) fits is = absurd (cc)
nothing_before_gate side client given (phases.Page name) fits is = absurd (cc)
nothing_before_gate side client given phases.Finished fits is = absurd (cc)

-- the client had its outcome, and nothing happened
pub record HasRested (was is : Member) (given failed asked : List Want) : Type 0 where
  pub had : IsSome (shown was.client).outcome
  pub same : is ≡ was
  pub none_given : given ≡ []
  pub none_failed : failed ≡ []
  pub none_asked : asked ≡ []

-- it waited, and received what it wanted: the time gate's reply where it had received nothing, and else not
pub record WasGiven (was is : Member) (own given failed : List Want) : Type 0 where
  pub waited : (shown was.client).outcome ≡ None
  pub want : Want
  pub is_given : given ≡ want ∷ []
  pub at_first : own ≡ [] → want ≡ wants.Gate
  pub not_again : want ≡ wants.Gate → own ≡ []
  pub none_failed : failed ≡ []
  pub no_fault : ¬ HasFault (shown is.client)

-- it waited, and the link failed
pub record WasFailed (side : Side) (was is : Member) (own given failed : List Want) : Type 0 where
  pub waited : (shown was.client).outcome ≡ None
  pub none_given : given ≡ []
  pub failed_then : OneFailed side (shown was.client) (shown is.client) (own ++ given) failed

-- one of these came of the turn
abbrev pub CameOf : Side → Member → Member → List Want → List Want → List Want → List Want → Type 0
CameOf side was is own given failed asked = HasRested was is given failed asked ⊎ WasGiven was is own given failed ⊎ WasFailed side was is own given failed

-- a client with an outcome has one
has_outcome : (outcome : Option Outcome) → IsSome outcome → outcome ≡ None → ⊥
has_outcome None is e = cc
has_outcome (Some ended) is e = cc

rested : (side : Side) (was is : Member) (own given failed asked : List Want) → IsSome (shown was.client).outcome → is ≡ was → given ≡ [] → asked ≡ [] →
    NoneFailed (shown was.client) (shown is.client) failed ⊎ OneFailed side (shown was.client) (shown is.client) (own ++ given) failed → HasRested was is given failed asked
rested side was is own given failed asked had same none_given none_asked (inl none) =
    record { had = had; same = same; none_given = none_given; none_failed = none.none; none_asked = none_asked }
rested side was is own given failed asked had same none_given none_asked (inr one) = absurd (has_outcome (shown was.client).outcome had one.waited)

was_given : (side : Side) (was is : Member) (own given failed : List Want) → FitsSide side was.client own → want_of (shown was.client).phase ≢ wants.Finished →
    given ≡ want_of (shown was.client).phase ∷ [] → ¬ HasFault (shown is.client) →
    NoneFailed (shown was.client) (shown is.client) failed ⊎ OneFailed side (shown was.client) (shown is.client) (own ++ given) failed → WasGiven was is own given failed
was_given side was is own given failed fits waited is_given no_fault (inl none) = record {
  waited = none_yet side was.client own was.client.phase fits.fits waited;
  want = want_of (shown was.client).phase;
  is_given = is_given;
  at_first = λ nothing. waits_at_first side was.client own was.client.phase fits.fits waited nothing;
  not_again = λ gate. nothing_before_gate side was.client own was.client.phase fits.fits gate;
  none_failed = none.none;
  no_fault = no_fault;
}
was_given side was is own given failed fits waited is_given no_fault (inr one) = absurd (no_fault one.by_fault)

was_failed : (side : Side) (was is : Member) (own given failed : List Want) → FitsSide side was.client own → want_of (shown was.client).phase ≢ wants.Finished → given ≡ [] → HasFault (shown is.client) →
    NoneFailed (shown was.client) (shown is.client) failed ⊎ OneFailed side (shown was.client) (shown is.client) (own ++ given) failed → WasFailed side was is own given failed
was_failed side was is own given failed fits waited none_given by_fault (inl none) =
    let fault = none.before by_fault in
    let no_outcome : (shown was.client).outcome ≡ None = none_yet side was.client own was.client.phase fits.fits waited in
    let outcome : (shown was.client).outcome ≡ Some (outcomes.LinkFault fault.low fault.high) = fault.is in
    absurd (cc)
was_failed side was is own given failed fits waited none_given by_fault (inr one) =
    record { waited = one.waited; none_given = none_given; failed_then = one }

-- what came of a turn
pub came_of : (side : Side) (was is : Member) (own given failed asked : List Want) (turn : Turn) → FitsSide side was.client own →
    Gave turn was is given asked → NoneFailed (shown was.client) (shown is.client) failed ⊎ OneFailed side (shown was.client) (shown is.client) (own ++ given) failed →
    CameOf side was is own given failed asked
came_of side was is own given failed asked Finished fits gave how = inl (rested side was is own given failed asked gave.had gave.same gave.none_given gave.none_asked how)
came_of side was is own given failed asked Cached fits gave how = inr (inl (was_given side was is own given failed fits gave.waited gave.is_given gave.no_fault how))
came_of side was is own given failed asked Exchanged fits (inl gave) how = inr (inl (was_given side was is own given failed fits gave.waited gave.is_given gave.no_fault how))
came_of side was is own given failed asked Exchanged fits (inr gave) how = inr (inr (was_failed side was is own given failed fits gave.waited gave.none_given gave.by_fault how))

-- one round more
given_more : (rounds : List Round) (more : Round) → given_in (rounds ++ more ∷ []) ≡ given_in rounds ++ more.given
given_more rounds more = flat_map-append (λ (round : Round). round.given) rounds (more ∷ []) ∙ ap (λ (l : List Want). given_in rounds ++ l) (append-nil more.given)

failed_more : (rounds : List Round) (more : Round) → failed_in (rounds ++ more ∷ []) ≡ failed_in rounds ++ more.failed
failed_more rounds more = flat_map-append (λ (round : Round). round.failed) rounds (more ∷ []) ∙ ap (λ (l : List Want). failed_in rounds ++ l) (append-nil more.failed)

asked_more : (rounds : List Round) (more : Round) → asked_in (rounds ++ more ∷ []) ≡ asked_in rounds ++ more.asked
asked_more rounds more = flat_map-append (λ (round : Round). round.asked) rounds (more ∷ []) ∙ ap (λ (l : List Want). asked_in rounds ++ l) (append-nil more.asked)

-- a client that waits is not at its end: it received one want in each of its turns
pub all_ones : (rounds : List Round) (outcome : Option Outcome) (met : HasMet rounds outcome) → outcome ≡ None → rounds ≡ met.ones
all_ones rounds outcome met waits = by_end met.ended where
  by_end : (met.idle ≡ []) ⊎ IsSome outcome → rounds ≡ met.ones
  by_end (inl none) = met.are ∙ ap (λ (l : List Round). met.ones ++ l) none ∙ append-nil met.ones
  by_end (inr some) = absurd (has_outcome outcome some waits)

-- turns that gave nothing, and in which nothing failed, are none
no_turns : (rounds : List Round) → All IsOne rounds → given_in rounds ≡ [] → failed_in rounds ≡ [] → rounds ≡ []
no_turns [] ones none_given none_failed = refl
no_turns (round ∷ rounds) ones none_given none_failed =
    let one = All-head IsOne round rounds ones in
    let no_given : round.given ≡ [] = front_nil round.given (given_in rounds) none_given in
    let no_failed : round.failed ≡ [] = front_nil round.failed (failed_in rounds) none_failed in
    let nothing : round.given ++ round.failed ≡ [] = ap₂ (λ (x y : List Want). x ++ y) no_given no_failed in
    let some : round.given ++ round.failed ≡ one.want ∷ [] = one.is in
    absurd (cc)

-- a client that waits has asked for nothing in vain
pub none_in_vain : (side : Side) (query : Query) (version : Option ℕ) (given failed : List Want) (outcome : Option Outcome) → outcome ≡ None → HasFailedSo side query version given failed outcome → failed ≡ []
none_in_vain side query version given failed None waits is = is
none_in_vain side query version given failed (Some ended) waits is = absurd (cc)

-- without a fault of the link nothing is asked for in vain
pub in_vain_by_fault : (side : Side) (query : Query) (version : Option ℕ) (given failed : List Want) (outcome : Option Outcome) →
    ((low high : ℕ) → outcome ≡ Some (outcomes.LinkFault low high) → ⊥) → failed ≡ [] → HasFailedSo side query version given failed outcome
in_vain_by_fault side query version given failed None not none = none
in_vain_by_fault side query version given failed (Some (outcomes.Found journey)) not none = none
in_vain_by_fault side query version given failed (Some outcomes.NoJourney) not none = none
in_vain_by_fault side query version given failed (Some (outcomes.Refused fault)) not none = none
in_vain_by_fault side query version given failed (Some (outcomes.LinkFault low high)) not none = absurd (not low high refl)
in_vain_by_fault side query version given failed (Some (outcomes.PeerWrong reply fault)) not none = none

-- the version stays where the time gate's reply was not received
version_kept : (left : Side) (old : Shown) (given : List Want) (version : Option ℕ) → ((more : List Want) → given ≡ wants.Gate ∷ more → ⊥) → VersionThen left old given version → version ≡ old.version
version_kept left old [] version no_gate then_is = then_is
version_kept left old (wants.Gate ∷ more) version no_gate then_is = absurd (no_gate more refl)
version_kept left old (wants.Stops ∷ more) version no_gate then_is = then_is
version_kept left old (wants.Page name ∷ more) version no_gate then_is = then_is
version_kept left old (wants.Finished ∷ more) version no_gate then_is = then_is

-- one client, whose turn it is, before it and after it
module _ (made : Timetable) (publishing : Publishing) (done then_done : List Event) (store : Stored) (lines : List ℕ) (client : ℕ) (query : Query) (was is : Member) (own given failed asked : List Want)
    (rounds : List Round) (m : IsMemberSo made publishing done (side_with made publishing store) client query was own rounds)
    (later : (other : Stored) (other_lines : List ℕ) → HasHeard (before_turn_of client done) (store_of made publishing.base_moment) other other_lines →
    HasHeard (before_turn_of client then_done) (store_of made publishing.base_moment) other other_lines)
    (at_first : rounds ≡ [] → HasHeard (before_turn_of client then_done) (store_of made publishing.base_moment) store lines)
    (same_query : (shown is.client).query ≡ (shown was.client).query) (count : is.exchanges ≡ was.exchanges + length asked)
    (version : VersionThen (side_with made publishing store) (shown was.client) given (shown is.client).version)
    (came : CameOf (side_with made publishing store) was is own given failed asked) where
  abbrev side : Side
  side = side_with made publishing store

  abbrev round : Round
  round = record { given = given; failed = failed; asked = asked }

  abbrev more : List Round
  more = rounds ++ round ∷ []

  all_given : own ++ given ≡ given_in more
  all_given = ap (λ (l : List Want). l ++ given) m.given_is ∙ sym (given_more rounds round)

  no_more_given : given ≡ [] → given_in more ≡ given_in rounds
  no_more_given none = given_more rounds round ∙ ap (λ (l : List Want). given_in rounds ++ l) none ∙ append-nil (given_in rounds)

  no_more_failed : failed ≡ [] → failed_in more ≡ failed_in rounds
  no_more_failed none = failed_more rounds round ∙ ap (λ (l : List Want). failed_in rounds ++ l) none ∙ append-nil (failed_in rounds)

  none_failed_yet : (shown was.client).outcome ≡ None → failed_in rounds ≡ []
  none_failed_yet waits = none_in_vain side query (shown was.client).version (given_in rounds) (failed_in rounds) (shown was.client).outcome waits m.failed

  -- a client that waits and received nothing had no turn yet
  no_turn_yet : (shown was.client).outcome ≡ None → own ≡ [] → rounds ≡ []
  no_turn_yet waits nothing =
      no_turns rounds (subst (All IsOne) (sym (all_ones rounds (shown was.client).outcome m.met waits)) m.met.each) (sym m.given_is ∙ nothing) (none_failed_yet waits)

  -- the version that the client means
  meant_still : (shown is.client).version ≡ (shown was.client).version → version_of (side_with made publishing m.meant.store) query (given_in rounds) ≡ version_of (side_with made publishing m.meant.store) query (given_in more) →
      IsMeant made publishing then_done client query (given_in more) (shown is.client).version
  meant_still same same_named = record {
    store = m.meant.store;
    lines = m.meant.lines;
    heard = later m.meant.store m.meant.lines m.meant.heard;
    is = same ∙ m.meant.is ∙ same_named;
  }

  meant_without : given ≡ [] → (shown is.client).version ≡ (shown was.client).version → IsMeant made publishing then_done client query (given_in more) (shown is.client).version
  meant_without none same = meant_still same (ap (version_of (side_with made publishing m.meant.store) query) (sym (no_more_given none)))

  none_no_gate : given ≡ [] → (behind : List Want) → given ≡ wants.Gate ∷ behind → ⊥
  none_no_gate none behind begins = cc

  meant_given : WasGiven was is own given failed → IsMeant made publishing then_done client query (given_in more) (shown is.client).version
  meant_given g = by_own own refl where
    by_own : (before : List Want) → own ≡ before → IsMeant made publishing then_done client query (given_in more) (shown is.client).version
    by_own [] nothing =
        let gate : given ≡ wants.Gate ∷ [] = g.is_given ∙ ap (λ (w : Want). w ∷ []) (g.at_first nothing) in
        let whole : given_in more ≡ wants.Gate ∷ [] = sym all_given ∙ ap (λ (l : List Want). l ++ given) nothing ∙ gate in
        let then_is : (shown is.client).version ≡ Some (version_at (side_with made publishing store) (shown was.client).query.known) =
        subst (λ (l : List Want). VersionThen (side_with made publishing store) (shown was.client) l (shown is.client).version) gate version in
        record {
          store = store;
          lines = lines;
          heard = at_first (no_turn_yet g.waited nothing);
          is =
              then_is ∙ ap (λ (q : Query). Some (version_at (side_with made publishing store) q.known)) m.question
              ∙ ap (version_of (side_with made publishing store) query) (sym whole);
        }
    by_own (first ∷ behind) some =
        let kept : (shown is.client).version ≡ (shown was.client).version = version_kept (side_with made publishing store) (shown was.client) given (shown is.client).version (no_gate first behind some) version in
        let before : given_in rounds ≡ first ∷ behind = sym m.given_is ∙ some in
        let after : given_in more ≡ first ∷ (behind ++ given) = sym all_given ∙ ap (λ (l : List Want). l ++ given) some in
        meant_still kept (ap (version_of (side_with made publishing m.meant.store) query) before ∙ sym (ap (version_of (side_with made publishing m.meant.store) query) after)) where
          no_gate : (first : Want) (behind : List Want) → own ≡ first ∷ behind → (others : List Want) → given ≡ wants.Gate ∷ others → ⊥
          no_gate first behind some others begins =
              let is_gate : g.want ≡ wants.Gate = one_want g.want wants.Gate others (sym g.is_given ∙ begins) in
              let nothing : own ≡ [] = g.not_again is_gate in
              cc where
                one_want : (a b : Want) (others : List Want) → a ∷ [] ≡ b ∷ others → a ≡ b
                one_want a b others e = cc

  pub meant : IsMeant made publishing then_done client query (given_in more) (shown is.client).version
  meant = by came where
    by : CameOf side was is own given failed asked → IsMeant made publishing then_done client query (given_in more) (shown is.client).version
    by (inl r) = meant_without r.none_given (ap (λ (member : Member). (shown member.client).version) r.same)
    by (inr (inl g)) = meant_given g
    by (inr (inr f)) = meant_without f.none_given (version_kept side (shown was.client) given (shown is.client).version (none_no_gate f.none_given) version)

  -- one want more, or nothing where it had its outcome
  met_one : (shown was.client).outcome ≡ None → (want : Want) → given ++ failed ≡ want ∷ [] → HasMet more (shown is.client).outcome
  met_one waits want one = record {
    ones = m.met.ones ++ round ∷ [];
    idle = [];
    are = ap (λ (l : List Round). l ++ round ∷ []) (all_ones rounds (shown was.client).outcome m.met waits) ∙ sym (append-nil (m.met.ones ++ round ∷ []));
    each = All-append IsOne m.met.ones (round ∷ []) m.met.each (All-cons IsOne round [] (record { want = want; is = one }) (All-nil IsOne));
    none = All-nil IsIdle;
    ended = inl refl;
    at_last = fails_last rounds round (none_failed_yet waits);
  }

  pub met : HasMet more (shown is.client).outcome
  met = by came where
    by : CameOf side was is own given failed asked → HasMet more (shown is.client).outcome
    by (inl r) = record {
      ones = m.met.ones;
      idle = m.met.idle ++ round ∷ [];
      are = ap (λ (l : List Round). l ++ round ∷ []) m.met.are ∙ append_assoc m.met.ones m.met.idle (round ∷ []);
      each = m.met.each;
      none =
          All-append IsIdle m.met.idle (round ∷ []) m.met.none (All-cons IsIdle round [] (ap₂ (λ (x y : List Want). x ++ y) r.none_given r.none_failed) (All-nil IsIdle));
      ended = inr (subst (λ (member : Member). IsSome (shown member.client).outcome) (sym r.same) r.had);
      at_last = fails_idle rounds round m.met.at_last (ap₂ (λ (x y : List Want). x ++ y) r.none_given r.none_failed);
    }
    by (inr (inl g)) = met_one g.waited g.want (ap₂ (λ (x y : List Want). x ++ y) g.is_given g.none_failed)
    by (inr (inr f)) = met_one f.waited f.failed_then.want (ap₂ (λ (x y : List Want). x ++ y) f.none_given f.failed_then.one)

  -- what it asked for in vain
  pub failed_so : HasFailedSo side query (shown is.client).version (given_in more) (failed_in more) (shown is.client).outcome
  failed_so = by came where
    by : CameOf side was is own given failed asked → HasFailedSo side query (shown is.client).version (given_in more) (failed_in more) (shown is.client).outcome
    by (inl r) =
        subst (λ (l : List Want). HasFailedSo side query (shown is.client).version l (failed_in more) (shown is.client).outcome) (sym (no_more_given r.none_given))
        (subst (λ (l : List Want). HasFailedSo side query (shown is.client).version (given_in rounds) l (shown is.client).outcome) (sym (no_more_failed r.none_failed))
        (subst (λ (member : Member). HasFailedSo side query (shown member.client).version (given_in rounds) (failed_in rounds) (shown member.client).outcome) (sym r.same) m.failed))
    by (inr (inl g)) =
        in_vain_by_fault side query (shown is.client).version (given_in more) (failed_in more) (shown is.client).outcome (λ low high e. g.no_fault (record { low = low; high = high; is = e }))
        (no_more_failed g.none_failed ∙ none_failed_yet g.waited)
    by (inr (inr f)) =
        let one = f.failed_then in
        let asked_query : (shown is.client).query ≡ query = same_query ∙ m.question in
        subst (HasFailedSo side query (shown is.client).version (given_in more) (failed_in more)) (sym one.by_fault.is) (record {
          want = one.want;
          one = failed_more rounds round ∙ ap₂ (λ (x y : List Want). x ++ y) (none_failed_yet f.waited) one.one;
          gate = λ nothing. one.gate (all_given ∙ nothing);
          next = λ at all at_version are.
              let next = one.next at all at_version (subst (λ (q : Query). AreWants (side_with made publishing store) at q all) (sym asked_query) are) in
              (next.0, next.1 ∙ ap (λ (l : List Want). l ++ one.want ∷ next.0) all_given);
        })

  count_more : (a b : ℕ) (first second all : List Want) → b ≡ a + length second → a ≡ length first → all ≡ first ++ second → b ≡ length all
  count_more a b first second all one two whole = omega (arith, length-append first second, ap length whole)

  -- the client, with one round more
  pub member_more : IsMemberSo made publishing then_done side client query is (own ++ given) more
  member_more = record {
    question = same_query ∙ m.question;
    given_is = all_given;
    meant = meant;
    count = count_more was.exchanges is.exchanges (asked_in rounds) asked (asked_in more) count m.count (asked_more rounds round);
    met = met;
    failed = failed_so;
  }
