-- Which clients that were cut off have a version.
use Rattle.std.proofs.Common.{◌≡◌, ◌∙◌, ◌==◌, ◌&&◌, ℕ, Bool, true, false, List, [], ◌∷◌, ◌++◌, Option, Some, None, ap, cond, is_none, refl, subst, sym}
use Rattle.std.specs.List.{filter}
use Rattle.std.specs.Prelude.{map}
use Rattle.std.proofs.lemmas.List.{map-append}
use Rattle.std.proofs.lemmas.List.Elements.{filter-append}
use Rattle.cli_ask.specs.Client.{shown_of}
use Rattle.cli_ask.specs.declared.end.ClientEnd.{ClientEnd}
use Rattle.connection_uri.specs.Base.{BaseParts}
use Rattle.convoy.specs.ClientLaws.Fits.{HasEnded, HasFailed}
use Rattle.convoy.specs.Agreement.Names.{Round}
use Rattle.cli_replay.specs.PlanLaws.Planned.{VersionFitsFault}
use Rattle.cli_replay.proofs.ReplayLawsLemmas.FaultLemmas.{fails, fails_in, fails_of}
use Rattle.cli_replay.specs.ReplayLaws.History.{AreMetIn, wants_of}
use Rattle.cli_replay.specs.ReplayLaws.Right.{FailsWith}
use Rattle.cli_replay.specs.ReplayLaws.Turns.{failed_in, given_in, rounds_of}
use Rattle.convoy.specs.Replies.Course.{WantsAfter}
use Rattle.convoy.specs.Replies.Ends.{EndsBy, IsCutOff}
use Rattle.convoy.specs.Replies.Made.{Made, failure_of}
use Rattle.convoy.specs.Replies.Met.{Met, is_by, met_by}
use Rattle.lc_model.specs.declared.query.Query.{Query}
use Rattle.page_client.specs.declared.outcome.Outcome.{Outcome}
use Rattle.page_client.specs.declared.outcome.Outcome.TheVariants as outcomes
use Rattle.page_client.specs.declared.want.Want.{Want}
use Rattle.page_client.specs.declared.want.Want.TheVariants as wants
use Rattle.lc_world.specs.Sides.Side.{Side}

-- an exchange that failed
abbrev is_failure : Made → Bool
is_failure made = is_none made.got

-- what was wanted in the exchanges that failed
abbrev lost_in : List Made → List Want
lost_in made = map (λ (m : Made). m.want) (filter is_failure made)

-- the failed exchanges of a client are those of all that it received
lost_is : (client : ℕ) (all : List Met) → wants_of (fails_of client all) ≡ lost_in (met_by client all)
lost_is client [] = refl
lost_is client (met ∷ all) =
    let rest = lost_is client all in
    elim (met.client == client) as (λ (b : Bool).
    wants_of (cond (b && is_none met.made.got) (met ∷ fails_of client all) (fails_of client all)) ≡ lost_in (map (λ (m : Met). m.made) (cond b (met ∷ filter (is_by client) all) (filter (is_by client) all)))) [
      | true ↦
          elim (is_none met.made.got) as (λ (lost : Bool).
          wants_of (cond lost (met ∷ fails_of client all) (fails_of client all)) ≡ map (λ (m : Made). m.want) (cond lost (met.made ∷ filter is_failure (met_by client all)) (filter is_failure (met_by client all)))) [
            | true ↦ ap (λ (l : List Want). met.made.want ∷ l) rest
            | false ↦ rest
          ]
      | false ↦ rest
    ]

-- the last of them
last_lost : (earlier : List Made) (want : Want) → lost_in (earlier ++ failure_of want ∷ []) ≡ lost_in earlier ++ want ∷ []
last_lost earlier want =
    ap (map (λ (m : Made). m.want)) (filter-append is_failure earlier (failure_of want ∷ [])) ∙ map-append (λ (m : Made). m.want) (filter is_failure earlier) (failure_of want ∷ [])

-- where one failed alone it is the last
only_one : (front : List Want) (last one : Want) → front ++ last ∷ [] ≡ one ∷ [] → last ≡ one
only_one [] last one is = cc
only_one (first ∷ []) last one is = absurd (two first last one is) where
  two : (first last one : Want) → first ∷ last ∷ [] ≡ one ∷ [] → ⊥
  two first last one is = cc
only_one (first ∷ second ∷ front) last one is = absurd (three first second (front ++ last ∷ []) one is) where
  three : (first second : Want) (more : List Want) (one : Want) → first ∷ second ∷ more ≡ one ∷ [] → ⊥
  three first second more one is = cc

-- who was cut off at the time gate has no version
none_at_gate : (base : BaseParts) (query : Query) (before now : ℕ) (version : Option ℕ) (made : List Made) (low high : ℕ) (cut : IsCutOff base query before now version made low high) → cut.want ≡ wants.Gate → version ≡ None
none_at_gate base query before now version made low high cut is =
    let came : WantsAfter base query version cut.earlier wants.Gate = subst (WantsAfter base query version cut.earlier) is cut.came in
    came.no_version

module _ (side : Side) (base : BaseParts) (query : Query) (client : ℕ) (order : List ℕ) (rounds : List Round) (met : List Met) (before now : ℕ) (met_in : AreMetIn order rounds met) where
  abbrev own : List Round
  own = rounds_of client order rounds

  lacks_at_gate : (version : Option ℕ) (low high : ℕ) → IsCutOff base query before now version (met_by client met) low high → failed_in own ≡ wants.Gate ∷ [] → version ≡ None
  lacks_at_gate version low high cut is =
      let lost : lost_in cut.earlier ++ cut.want ∷ [] ≡ wants.Gate ∷ [] =
      sym (last_lost cut.earlier cut.want) ∙ sym (ap lost_in cut.was_made) ∙ sym (lost_is client met) ∙ fails_in client order rounds met met_in ∙ is in
      none_at_gate base query before now version (met_by client met) low high cut (only_one (lost_in cut.earlier) cut.want wants.Gate lost)

  pub lacks_version : (end : ClientEnd) (outcome : Outcome) → HasEnded side (shown_of query end) (given_in own) (Some outcome) → FailsWith side query end.version (given_in own) (failed_in own) outcome →
      EndsBy base query before now end.version (met_by client met) outcome → VersionFitsFault outcome (failed_in own) end.version
  lacks_version end (outcomes.Found journey) ended fails by = tt
  lacks_version end outcomes.NoJourney ended fails by = tt
  lacks_version end (outcomes.Refused fault) ended fails by = tt
  lacks_version end (outcomes.LinkFault low high) ended fails by = (at_gate, lacks_at_gate end.version low high by) where
    at_gate : end.version ≡ None → failed_in own ≡ wants.Gate ∷ []
    at_gate none =
        let failed : HasFailed side (shown_of query end) (given_in own) None = subst (HasFailed side (shown_of query end) (given_in own)) none ended in
        fails.one ∙ ap (λ (w : Want). let l : List Want = w ∷ [] in l) (fails.gate failed.1)
  lacks_version end (outcomes.PeerWrong reply fault) ended fails by = tt
