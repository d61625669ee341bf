-- Near values are refused.
use Rattle.std.proofs.Common.{◌≡◌, ◌∙◌, ◌<◌, ◌+◌, ℕ, List, [], ◌∷◌, ◌++◌, Option, Some, None, length, refl, ap, inl, inr, subst, sym, arith, length-append}
use Rattle.std.specs.List.{filter}
use Rattle.cli_ask.specs.Client.{shown_of}
use Rattle.cli_ask.specs.declared.end.ClientEnd.{ClientEnd}
use Rattle.convoy.specs.ClientLaws.Fits.{HasAnswered, HasEnded, IsDenied}
use Rattle.convoy.specs.ClientLaws.Wants.{AreWants, IsItsVersion, IsNoFault}
use Rattle.convoy.proofs.ClientLawsLemmas.WantsLemmas.{one_list_of_wants}
use Rattle.convoy.specs.Agreement.Names.{Round}
use Rattle.cli_replay.specs.PlanLaws.Near.{NoVersionAtGate, NoneIsCountedTwice, NoneIsLost, NotAnothersVersion, NotNewer, NotOneMore, SomeVersionElse}
use Rattle.cli_replay.specs.PlanLaws.Planned.{EndsAt, VersionFitsFault}
use Rattle.cli_replay.specs.PlanLaws.Sides.{version_with}
use Rattle.cli_replay.specs.ReplayLaws.Turns.{failed_in, given_in}
use Rattle.convoy.specs.ClientLaws.Stated.{version_at}
use Rattle.lc_model.specs.declared.answer.Answer.{Answer}
use Rattle.lc_model.specs.declared.query.Query.{Query}
use Rattle.lc_model.specs.Versions.History.{Entry, moments_of}
use Rattle.lc_model.specs.Versions.Named.{is_by, last_of}
use Rattle.page_client.specs.Shown.{Shown}
use Rattle.page_client.specs.declared.fault.QueryFault.{QueryFault}
use Rattle.page_client.specs.declared.fault.QueryFault.TheVariants.{HorizonRange, SameStop, UnknownFrom, UnknownTo}
use Rattle.page_client.specs.declared.outcome.Outcome.{Outcome}
use Rattle.page_client.specs.declared.outcome.Outcome.TheVariants as outcomes
use Rattle.page_client.specs.declared.want.Want.{Want}
use Rattle.page_client.specs.declared.want.Want.TheVariants as wants
use Rattle.lc_world.specs.Sides.Side.{Side}

-- the version after one turn that begins with the time gate's reply
version_at_turn : (last side : Side) (query : Query) (round : Round) (more : List Want) (end : ClientEnd) → EndsAt last query (round ∷ []) (side ∷ []) end → round.given ≡ wants.Gate ∷ more →
    end.version ≡ Some (version_at side query.known)
version_at_turn last side query round more end ends gate = ends.version ∙ ap (λ (l : List Want). version_with side query.known l None) gate

same_some : (a b : ℕ) (version : Option ℕ) → version ≡ Some a → version ≡ Some b → a ≡ b
same_some a b version one two = cc

pub not_anothers : NotAnothersVersion
not_anothers last first second query round more end ends gate differ is =
    differ (same_some (version_at first query.known) (version_at second query.known) end.version is (version_at_turn last second query round more end ends gate))

all_by_none : (moments : List ℕ) → filter (is_by None) moments ≡ moments
all_by_none [] = refl
all_by_none (moment ∷ moments) = ap (λ (l : List ℕ). moment ∷ l) (all_by_none moments)

pub not_newer : NotNewer
not_newer last side query round more end version ends none gate newer is =
    let named : end.version ≡ Some (last_of side.base_moment (moments_of side.history)) =
    version_at_turn last side query round more end ends gate ∙ ap (λ (known : Option ℕ). Some (version_at side known)) none
    ∙ ap (λ (l : List ℕ). Some (last_of side.base_moment l)) (all_by_none (moments_of side.history)) in
    not_less (last_of side.base_moment (moments_of side.history)) version (same_some _ _ end.version named is) newer where
      not_less : (a b : ℕ) → a ≡ b → a < b → ⊥
      not_less a b same less = omega arith

pub none_is_lost : NoneIsLost
none_is_lost side last update bytes more later =
    let front = later.0 in
    longer side.history (record { update = update; bytes = bytes; cuts = [] }) front.more (ap (λ (s : Side). s.history) front.is) where
      longer : (history : List Entry) (entry : Entry) (more : List Entry) → history ≡ (history ++ entry ∷ []) ++ more → ⊥
      longer history entry more is = omega (arith, ap length is, length-append (history ++ entry ∷ []) more, length-append history (entry ∷ []))

-- a client that ended so received its wants
answered_wants : (side : Side) (s : Shown) (given : List Want) (answer : Answer) (version : ℕ) → HasAnswered side s given answer → IsItsVersion s.version version → AreWants side version s.query given
answered_wants side s given answer version has is =
    let same : has.version ≡ version = subst (λ (own : Option ℕ). IsItsVersion own version) has.at_version is in
    subst (λ (v : ℕ). AreWants side v s.query given) same (inr (inr (record { accepted = has.accepted; ends = has.ends; names = has.names; are_needed = has.are_needed; are = has.given })))

denied_wants : (side : Side) (s : Shown) (given : List Want) (fault : QueryFault) (version : ℕ) → IsDenied side s given fault → AreWants side version s.query given
denied_wants side s given HorizonRange version is = inl (record { fault = HorizonRange; is_refusal = is.deserved; are = is.given })
denied_wants side s given SameStop version is = inl (record { fault = SameStop; is_refusal = is.deserved; are = is.given })
denied_wants side s given UnknownFrom version is = inr (inl (record { accepted = is.accepted; lacks = λ ends. is.no_from ends.from; are = is.given }))
denied_wants side s given UnknownTo version is = inr (inl (record { accepted = is.accepted; lacks = λ ends. is.no_to ends.to; are = is.given }))

wants_given : (side : Side) (s : Shown) (given : List Want) (version : ℕ) (outcome : Outcome) → HasEnded side s given (Some outcome) → IsItsVersion s.version version → IsNoFault (Some outcome)
    → AreWants side version s.query given
wants_given side s given version (outcomes.Found journey) has is no_fault = answered_wants side s given _ version has is
wants_given side s given version outcomes.NoJourney has is no_fault = answered_wants side s given _ version has is
wants_given side s given version (outcomes.Refused fault) has is no_fault = denied_wants side s given fault version has
wants_given side s given version (outcomes.LinkFault before after) has is no_fault = absurd no_fault
wants_given side s given version (outcomes.PeerWrong reply fault) has is no_fault = absurd no_fault

-- the version that a client has, or any
some_version : (own : Option ℕ) → (version : ℕ) × IsItsVersion own version
some_version None = (0, tt)
some_version (Some version) = (version, refl)

no_more : (given : List Want) (want : Want) (more : List Want) → given ≡ given ++ want ∷ more → ⊥
no_more given want more is = let long = length-append given (want ∷ more) in omega (arith, ap length is, long)

pub not_one_more : NotOneMore
not_one_more last query rounds longer sides others end other want more no_fault other_no_fault one ends other_ends is =
    let version = some_version end.version in
    let are = wants_given last (shown_of query end) (given_in rounds) version.0 end.outcome ends.ended version.1 no_fault in
    let its = subst (λ (own : Option ℕ). IsItsVersion own version.0) (sym one) version.1 in
    let other_are = wants_given last (shown_of query other) (given_in longer) version.0 other.outcome other_ends.ended its other_no_fault in
    no_more (given_in rounds) want more (one_list_of_wants last version.0 query (given_in rounds) (given_in longer) are other_are ∙ is)

pub none_is_counted_twice : NoneIsCountedTwice
none_is_counted_twice last query rounds sides end ends is = differ end.exchanges _ ends.exchanges is where
  differ : (n m : ℕ) → n ≡ m → n ≡ m + 1 → ⊥
  differ n m one two = omega arith

none_or_some : (version : Option ℕ) (n : ℕ) → version ≡ None → version ≡ Some n → ⊥
none_or_some version n none some = cc

not_both : (failed : List Want) → failed ≡ wants.Gate ∷ [] → failed ≡ wants.Stops ∷ [] → ⊥
not_both failed one two = cc

pub no_version_at_gate : NoVersionAtGate
no_version_at_gate last query rounds sides end low high version ends fault gate some =
    let by = subst (λ o. VersionFitsFault o (failed_in rounds) end.version) fault ends.fits_fault in
    none_or_some end.version version (by.1 gate) some

pub some_version_else : SomeVersionElse
some_version_else last query rounds sides end low high ends fault stops none =
    let by = subst (λ o. VersionFitsFault o (failed_in rounds) end.version) fault ends.fits_fault in
    not_both (failed_in rounds) (by.0 none) stops
