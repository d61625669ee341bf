-- The version of a client, turn after turn.
use Rattle.std.proofs.Common.{◌≡◌, ◌≢◌, ℕ, List, [], ◌∷◌, ◌++◌, Option, Some, refl, ap, ◌∙◌}
use Rattle.lc_model.specs.declared.query.Query.{Query}
use Rattle.page_client.specs.Shown.{Shown}
use Rattle.page_client.specs.declared.want.Want.{Want}
use Rattle.page_client.specs.declared.want.Want.TheVariants as wants
use Rattle.lc_world.specs.Sides.Side.{IsLater, Side}
use Rattle.lc_world.proofs.SidesLemmas.LaterLemmas.{later_itself, later_on}
use Rattle.convoy.specs.ClientLaws.Stated.{version_at}
use Rattle.convoy.specs.Agreement.Leaves.{IsNamedBetween, VersionAfter}

-- this does not begin with the time gate
abbrev pub NoGate : List Want → Type 0
NoGate given = (more : List Want) → given ≡ wants.Gate ∷ more → ⊥

-- after other things the version is as it was
pub kept_version : (side left : Side) (old : Shown) (given : List Want) (version : Option ℕ) → NoGate given → VersionAfter side left old given version → version ≡ old.version
kept_version side left old [] version no_gate after = after
kept_version side left old (wants.Gate ∷ more) version no_gate after = absurd (no_gate more refl)
kept_version side left old (wants.Stops ∷ more) version no_gate after = after
kept_version side left old (wants.Page name ∷ more) version no_gate after = after
kept_version side left old (wants.Finished ∷ more) version no_gate after = after

-- one such thing keeps it
pub keeps_version : (side left : Side) (old : Shown) (want : Want) (version : Option ℕ) → want ≢ wants.Gate → version ≡ old.version → VersionAfter side left old (want ∷ []) version
keeps_version side left old wants.Gate version not is = absurd (not refl)
keeps_version side left old wants.Stops version not is = is
keeps_version side left old (wants.Page name) version not is = is
keeps_version side left old wants.Finished version not is = is

-- a version that was named between two sides was named between further ones
pub named_wider : (side from to left : Side) (known known_then version : Option ℕ) → IsLater side from → IsLater to left → known_then ≡ known → IsNamedBetween from to known_then version →
    IsNamedBetween side left known version
named_wider side from to left known known_then version before after same named = record {
  at = named.at;
  later = later_on side from named.at before named.later;
  before = later_on named.at to left named.before after;
  is = named.is ∙ ap (λ (k : Option ℕ). Some (version_at named.at k)) same;
}

-- the version of a client is named between further sides, where the client was then as it had been before
pub version_wider : (side from to left : Side) (old mid_state : Shown) (given : List Want) (version : Option ℕ) → IsLater side from → IsLater to left → mid_state.query ≡ old.query → mid_state.version ≡ old.version →
    VersionAfter from to mid_state given version → VersionAfter side left old given version
version_wider side from to left old mid_state [] version before after query same is = is ∙ same
version_wider side from to left old mid_state (wants.Gate ∷ more) version before after query same is =
    named_wider side from to left old.query.known mid_state.query.known version before after (ap (λ (q : Query). q.known) query) is
version_wider side from to left old mid_state (wants.Stops ∷ more) version before after query same is = is ∙ same
version_wider side from to left old mid_state (wants.Page name ∷ more) version before after query same is = is ∙ same
version_wider side from to left old mid_state (wants.Finished ∷ more) version before after query same is = is ∙ same

-- first this was received and then that, which does not begin with the time gate unless nothing was received before
pub version_then : (side mid left : Side) (old mid_state : Shown) (first second : List Want) (version : Option ℕ) → IsLater side mid → IsLater mid left → mid_state.query ≡ old.query →
    VersionAfter side mid old first mid_state.version → VersionAfter mid left mid_state second version → (first ≢ [] → NoGate second) → VersionAfter side left old (first ++ second) version
version_then side mid left old mid_state [] second version before after query one two no_gate = version_wider side mid left left old mid_state second version before (later_itself left) query one two
version_then side mid left old mid_state (wants.Gate ∷ more) second version before after query one two no_gate =
    let same : version ≡ mid_state.version = kept_version mid left mid_state second version (no_gate (λ e. cc)) two in
    let named : IsNamedBetween side mid old.query.known mid_state.version = one in
    named_wider side side left left old.query.known old.query.known version (later_itself side) (later_itself left) refl (record {
      at = named.at;
      later = named.later;
      before = later_on named.at mid left named.before after;
      is = same ∙ named.is;
    })
version_then side mid left old mid_state (wants.Stops ∷ more) second version before after query one two no_gate = kept_version mid left mid_state second version (no_gate (λ e. cc)) two ∙ one
version_then side mid left old mid_state (wants.Page name ∷ more) second version before after query one two no_gate = kept_version mid left mid_state second version (no_gate (λ e. cc)) two ∙ one
version_then side mid left old mid_state (wants.Finished ∷ more) second version before after query one two no_gate = kept_version mid left mid_state second version (no_gate (λ e. cc)) two ∙ one
