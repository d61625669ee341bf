-- Two plans over links whose sides grow result in the same, where the time gates named the same versions.
use Rattle.std.proofs.Common.{◌≡◌, ◌∙◌, ◌⊎◌, ◌+◌, ℕ, zero, suc, true, List, [], ◌∷◌, ◌++◌, Option, Some, None, ap, arith, inl, inr, length, refl, subst, sym}
use Rattle.std.specs.List.{AllZip, slice_get}
use Rattle.cli_ask.proofs.OneAnswerLemmas.{alike}
use Rattle.cli_ask.specs.Client.{shown_of}
use Rattle.cli_ask.specs.Laws.{AreOneEnd, IsNoLinkFault}
use Rattle.cli_ask.specs.declared.end.ClientEnd.{ClientEnd}
use Rattle.connection_uri.specs.Base.{BaseParts}
use Rattle.convoy.specs.ClientLaws.Fits.{HasAnswered, HasEnded, IsDenied}
use Rattle.convoy.specs.ClientLaws.Laws.{AnswersStay, NeededStays, OneArrivalAt, OneListOfNeededAt}
use Rattle.convoy.specs.ClientLaws.Wants.{HasEnds}
use Rattle.lc_model.specs.Stop.{HasStop}
use Rattle.convoy.proofs.AgreementLemmas.AloneLemmas.{BeginsAtGate}
use Rattle.convoy.specs.Agreement.Names.{Round}
use Rattle.convoy.specs.Agreement.OneClient.{version_of}
use Rattle.cli_replay.proofs.PlanLawsLemmas.EachAlikeLemmas.{EndAlike, come_to_one}
use Rattle.cli_replay.proofs.PlanLawsLemmas.OnePlanLemmas.{gate_first}
use Rattle.cli_replay.proofs.PlanLawsLemmas.SidesLemmas.{as_many_sides}
use Rattle.cli_replay.specs.PlanLaws.OneGrowing.{IsGrowingPlan, NameTheSame, OneGrowingPlan}
use Rattle.cli_replay.specs.PlanLaws.Planned.{EndsAt}
use Rattle.cli_replay.specs.PlanLaws.Sides.{sides_of, version_after, version_with}
use Rattle.cli_replay.proofs.ReplayLawsLemmas.OneCourseLemmas.{at_place, none_failed}
use Rattle.cli_replay.proofs.ReplayLawsLemmas.OneRoundsLemmas.{as_many_rounds, met_the_same}
use Rattle.cli_replay.specs.ReplayLaws.Events.{TurnsAreOfClients, questions_in}
use Rattle.cli_replay.specs.ReplayLaws.Turns.{failed_in, given_in, order_of, rounds_of}
use Rattle.cli_replay.specs.declared.replay_laws.event.Event.{Event}
use Rattle.convoy.specs.Replies.Met.{Met}
use Rattle.convoy.specs.ClientLaws.Stated.{version_at}
use Rattle.lc_model.specs.declared.answer.Answer.{Answer}
use Rattle.lc_model.specs.declared.answer.Answer.TheVariants as answers
use Rattle.lc_model.specs.declared.doc.StopsDoc.{StopsDoc}
use Rattle.lc_model.specs.declared.query.Query.{Query}
use Rattle.lc_world.specs.Link.{LinkSeen}
use Rattle.page_client.specs.Shown.{Shown}
use Rattle.page_client.specs.declared.fault.QueryFault.{QueryFault}
use Rattle.page_client.specs.declared.fault.QueryFault.TheVariants.{HorizonRange, SameStop, UnknownFrom, UnknownTo}
use Rattle.page_client.specs.declared.outcome.Outcome.{Outcome}
use Rattle.page_client.specs.declared.outcome.Outcome.TheVariants as outcomes
use Rattle.page_client.specs.declared.want.Want.{Want}
use Rattle.page_client.specs.declared.want.Want.TheVariants as wants
use Rattle.lc_world.proofs.SidesLemmas.VersionLemmas.{still_found}
use Rattle.lc_world.specs.Sides.Side.{IsLater, IsValidSide, Side, has_version}

-- how a client ended by a side is how it ended by a later one
module _ (answers_stay : AnswersStay) (needed_stays : NeededStays) (before after : Side) (valid : IsValidSide after) (later : IsLater before after) where
  still_has : (version : ℕ) → has_version before version ≡ true → has_version after version ≡ true
  still_has version has = subst (λ (s : Side). has_version s version ≡ true) (sym later.is) (still_found before.base_moment before.history later.more version has)

  same_doc : after.doc ≡ before.doc
  same_doc = ap (λ (s : Side). s.doc) later.is

  answered_later : (s : Shown) (given : List Want) (answer : Answer) → HasAnswered before s given answer → HasAnswered after s given answer
  answered_later s given answer is = record {
    accepted = is.accepted;
    ends = subst (λ (d : StopsDoc). HasEnds d s.query) (sym same_doc) is.ends;
    version = is.version;
    at_version = is.at_version;
    of_side = still_has is.version is.of_side;
    answers = (answers_stay s.query answer before after is.version valid later is.of_side).0 is.answers;
    names = is.names;
    are_needed = (needed_stays s.query is.names before after is.version valid later is.of_side).0 is.are_needed;
    given = is.given;
  }

  denied_later : (s : Shown) (given : List Want) (fault : QueryFault) → IsDenied before s given fault → IsDenied after s given fault
  denied_later s given HorizonRange is = is
  denied_later s given SameStop is = is
  denied_later s given UnknownFrom is = record {
    accepted = is.accepted;
    no_from = λ has. is.no_from (subst (λ (d : StopsDoc). HasStop d.stops s.query.from) same_doc has);
    given = is.given;
  }
  denied_later s given UnknownTo is = record {
    accepted = is.accepted;
    from = subst (λ (d : StopsDoc). HasStop d.stops s.query.from) (sym same_doc) is.from;
    no_to = λ has. is.no_to (subst (λ (d : StopsDoc). HasStop d.stops s.query.to) same_doc has);
    given = is.given;
  }

  ended_later : (s : Shown) (given : List Want) (outcome : Outcome) → IsNoLinkFault outcome → HasEnded before s given (Some outcome) → HasEnded after s given (Some outcome)
  ended_later s given (outcomes.Found journey) fine is = answered_later s given (answers.Journey journey) is
  ended_later s given outcomes.NoJourney fine is = answered_later s given answers.NoJourney is
  ended_later s given (outcomes.Refused fault) fine is = denied_later s given fault is
  ended_later s given (outcomes.LinkFault low high) fine is = absurd fine
  ended_later s given (outcomes.PeerWrong reply fault) fine is = absurd is

-- a version that was named stays one
some_then : (known : Option ℕ) (rounds : List Round) (sides : List Side) (version : ℕ) → (named : ℕ) × (version_after known rounds sides (Some version) ≡ Some named)
some_then known [] sides version = (version, refl)
some_then known (round ∷ rounds) [] version = (version, refl)
some_then known (round ∷ rounds) (side ∷ sides) version = by (λ was. some_then known rounds sides was) round.given where
  by : ((was : ℕ) → (named : ℕ) × (version_after known rounds sides (Some was) ≡ Some named)) → (given : List Want)
      → (named : ℕ) × (version_after known rounds sides (version_with side known given (Some version)) ≡ Some named)
  by again [] = again version
  by again (wants.Gate ∷ more) = again (version_at side known)
  by again (wants.Stops ∷ more) = again version
  by again (wants.Page name ∷ more) = again version
  by again (wants.Finished ∷ more) = again version

-- what was received, and the version that it names
record IsNamed (given : List Want) (version : Option ℕ) : Type 0 where
  named : ℕ
  version_is : version ≡ Some named
  first : Want
  more : List Want
  given_is : given ≡ first ∷ more

-- nothing was received and no version is named, or both
abbrev NamesOrNot : List Want → Option ℕ → Type 0
NamesOrNot given version = ((given ≡ []) × (version ≡ None)) ⊎ IsNamed given version

same_rest : (a b : ℕ) → suc a ≡ suc b → a ≡ b
same_rest a b same = omega arith

none_is_some : (a : ℕ) → 0 ≡ suc a → ⊥
none_is_some a same = omega arith

names_or_not : (known : Option ℕ) (rounds : List Round) (sides : List Side) → length rounds ≡ length sides → BeginsAtGate (given_in rounds) → NamesOrNot (given_in rounds) (version_after known rounds sides None)
names_or_not known [] sides many begins = inl (refl, refl)
names_or_not known (round ∷ rounds) [] many begins = absurd (none_is_some (length rounds) (sym many))
names_or_not known (round ∷ rounds) (side ∷ sides) many begins =
    by (λ rest_begins. names_or_not known rounds sides (same_rest (length rounds) (length sides) many) rest_begins) round.given begins where
      by : (BeginsAtGate (given_in rounds) → NamesOrNot (given_in rounds) (version_after known rounds sides None)) → (given : List Want) → BeginsAtGate (given ++ given_in rounds)
          → NamesOrNot (given ++ given_in rounds) (version_after known rounds sides (version_with side known given None))
      by again [] front = again front
      by again (wants.Gate ∷ more) front =
          let found = some_then known rounds sides (version_at side known) in
          inr (record { named = found.0; version_is = found.1; first = wants.Gate; more = more ++ given_in rounds; given_is = refl })
      by again (wants.Stops ∷ more) front = absurd (cc)
      by again (wants.Page name ∷ more) front = absurd (cc)
      by again (wants.Finished ∷ more) front = absurd (cc)

-- a side whose one version is this
abbrev at_base : Side → ℕ → Side
at_base side version = record side { base_moment = version; history = [] }

-- a side that means, by this question, what was named to both
record MeansBoth (query : Query) (given other : List Want) (version its : Option ℕ) : Type 0 where
  meant : Side
  first : version ≡ version_of meant query given
  second : its ≡ version_of meant query other

means_both : (side : Side) (query : Query) (given other : List Want) (version its : Option ℕ) → NamesOrNot given version → NamesOrNot other its → version ≡ its
    → MeansBoth query given other version its
means_both side query given other version its (inl (none, no_version)) (inl (none_too, no_other)) same = record {
  meant = side;
  first = no_version ∙ ap (version_of side query) (sym none);
  second = no_other ∙ ap (version_of side query) (sym none_too);
}
means_both side query given other version its (inl (none, no_version)) (inr y) same = absurd (let is : None ≡ Some y.named = sym no_version ∙ (same ∙ y.version_is) in cc)
means_both side query given other version its (inr x) (inl (none_too, no_other)) same = absurd (let is : None ≡ Some x.named = sym no_other ∙ (sym same ∙ x.version_is) in cc)
means_both side query given other version its (inr x) (inr y) same = record {
  meant = at_base side x.named;
  first = x.version_is ∙ ap (version_of (at_base side x.named) query) (sym x.given_is);
  second = sym same ∙ (x.version_is ∙ ap (version_of (at_base side x.named) query) (sym y.given_is));
}

module _ (one_arrival : OneArrivalAt) (one_needed : OneListOfNeededAt) (answers_stay : AnswersStay) (needed_stays : NeededStays) (whole : Side) (valid : IsValidSide whole) where
  one_client : (last end : Side) (query : Query) (rs ts : List Round) (at to : List Side) (d e : ClientEnd) → IsLater last whole → IsLater end whole → EndsAt last query rs at d → EndsAt end query ts to e
      → length rs ≡ length ts → length rs ≡ length at → length ts ≡ length to → d.version ≡ e.version → IsNoLinkFault d.outcome → IsNoLinkFault e.outcome → EndAlike d e rs ts
  one_client last end query rs ts at to d e later other_later x y many at_many to_many named f i =
      let first : NamesOrNot (given_in rs) d.version =
      subst (NamesOrNot (given_in rs)) (sym x.version) (names_or_not query.known rs at at_many (gate_first last (shown_of query d) (given_in rs) d.outcome x.ended f)) in
      let second : NamesOrNot (given_in ts) e.version =
      subst (NamesOrNot (given_in ts)) (sym y.version) (names_or_not query.known ts to to_many (gate_first end (shown_of query e) (given_in ts) e.outcome y.ended i)) in
      let both = means_both whole query (given_in rs) (given_in ts) d.version e.version first second named in
      let found =
      alike one_arrival one_needed whole both.meant query d e (given_in rs) (given_in ts) both.first both.second d.outcome e.outcome
      (ended_later answers_stay needed_stays last whole valid later (shown_of query d) (given_in rs) d.outcome f x.ended)
      (ended_later answers_stay needed_stays end whole valid other_later (shown_of query e) (given_in ts) e.outcome i y.ended) f i in
      record {
        version = named;
        outcome = found.outcome;
        met =
            met_the_same rs ts many x.each y.each (none_failed last query d.version (given_in rs) (failed_in rs) d.outcome x.failed f)
            (none_failed end query e.version (given_in ts) (failed_in ts) e.outcome y.failed i) found.given;
      }

one_side : (seen : Option Side) (a b : Side) → seen ≡ Some a → seen ≡ Some b → a ≡ b
one_side seen a b first second = cc

-- what is so of two lists is so at each place
zip_at : {X : Type 0} (R : X → X → Type 0) (xs ys : List X) (place : ℕ) (x y : X) → AllZip R xs ys → slice_get xs place ≡ Some x → slice_get ys place ≡ Some y → R x y
zip_at R [] ys place x y all is its = absurd (no_item place is) where
  no_item : (n : ℕ) → slice_get [] n ≡ Some x → ⊥
  no_item n e = cc
zip_at R (a ∷ xs) [] place x y all is its = absurd all
zip_at R (a ∷ xs) (b ∷ ys) zero x y all is its =
    let first : a ≡ x = cc in
    let second : b ≡ y = cc in
    subst (λ v. R v y) first (subst (λ v. R a v) second all.0)
zip_at R (a ∷ xs) (b ∷ ys) (suc place) x y all is its = zip_at R xs ys place x y all.1 is its

module _ (one_arrival : OneArrivalAt) (one_needed : OneListOfNeededAt) (answers_stay : AnswersStay) (needed_stays : NeededStays) (base : BaseParts) (first last second end whole : Side)
    (all : List Event) (cache : ℕ) (before after other later : LinkSeen) (ends other_ends : List ClientEnd) (met other_met : List Met) (turns : TurnsAreOfClients all) (valid : IsValidSide whole)
    (grew : IsLater last whole) (other_grew : IsLater end whole) (p : IsGrowingPlan base first last all cache before after ends met)
    (q : IsGrowingPlan base second end all cache other later other_ends other_met) (named : NameTheSame ends other_ends) where
  abbrev order : List ℕ
  order = order_of all

  abbrev Fine : ClientEnd → Type 0
  Fine found = IsNoLinkFault found.outcome

  -- a client has one end and received the same in both plans
  client_at : (place : ℕ) (query : Query) (d e : ClientEnd) → slice_get (questions_in all) place ≡ Some query → slice_get ends place ≡ Some d → slice_get other_ends place ≡ Some e
      → EndAlike d e (rounds_of (place + 1) order p.planned.rounds) (rounds_of (place + 1) order q.planned.rounds)
  client_at place query d e asks is other_is =
      let at_last = subst (λ (s : Side). EndsAt s query (rounds_of (place + 1) order p.planned.rounds) (sides_of (place + 1) order p.planned.sides) d)
      (one_side after.side p.planned.last last p.planned.leaves.honest.tells p.last_is) (p.planned.clients place query d asks is) in
      let at_end = subst (λ (s : Side). EndsAt s query (rounds_of (place + 1) order q.planned.rounds) (sides_of (place + 1) order q.planned.sides) e)
      (one_side later.side q.planned.last end q.planned.leaves.honest.tells q.last_is) (q.planned.clients place query e asks other_is) in
      one_client one_arrival one_needed answers_stay needed_stays whole valid last end query (rounds_of (place + 1) order p.planned.rounds) (rounds_of (place + 1) order q.planned.rounds)
      (sides_of (place + 1) order p.planned.sides) (sides_of (place + 1) order q.planned.sides) d e grew other_grew at_last at_end
      (as_many_rounds (place + 1) order p.planned.rounds q.planned.rounds (p.planned.rounds_are.one_each ∙ sym q.planned.rounds_are.one_each))
      (as_many_sides (place + 1) order p.planned.rounds p.planned.sides p.planned.rounds_are.one_each p.planned.sides_are.one_each)
      (as_many_sides (place + 1) order q.planned.rounds q.planned.sides q.planned.rounds_are.one_each q.planned.sides_are.one_each)
      (zip_at (λ (a b : ClientEnd). a.version ≡ b.version) ends other_ends place d e named is other_is)
      (at_place Fine ends place d p.no_fault is) (at_place Fine other_ends place e q.no_fault other_is)

  both_one : AllZip AreOneEnd ends other_ends
  both_one = come_to_one base first second all cache before after other later ends other_ends met other_met turns p.planned q.planned p.one_each q.one_each client_at

pub one_growing_plan : {X Y : Type 0} (seen : X → LinkSeen) (saw : Y → LinkSeen) → OneArrivalAt → OneListOfNeededAt → AnswersStay → NeededStays → OneGrowingPlan seen saw
one_growing_plan seen saw one_arrival one_needed answers_stay needed_stays base first last second end whole all cache before after other later ends other_ends met other_met turns valid grew other_grew p q named =
    both_one one_arrival one_needed answers_stay needed_stays base first last second end whole all cache (seen before) (seen after) (saw other) (saw later) ends other_ends met other_met turns valid grew
    other_grew p q named
