-- That the version is the one that is meant at the side which the exchange with the time gate left, whatever the link records.
use Rattle.std.proofs.Common.{◌≡◌, ◌≢◌, ℕ, ◌⊎◌, inl, inr, List, [], ◌∷◌, ◌++◌, length, Option, Some, None, ap, ap₂, sym, subst, ◌∙◌}
use Rattle.lc_model.specs.declared.query.Query.{Query}
use Rattle.connection_uri.specs.Base.{BaseParts}
use Rattle.lc_world.specs.Link.{IsHonestWith, LinkSeen}
use Rattle.page_client.specs.Client.{shown}
use Rattle.page_client.specs.Shown.{Shown}
use Rattle.page_client.specs.declared.want.Want.{Want}
use Rattle.lc_world.specs.Sides.Side.{Side}
use Rattle.convoy.specs.ClientLaws.Stated.{version_at}
use Rattle.convoy.specs.ClientLaws.Steps.{BeginsInAgreement}
use Rattle.convoy.specs.Agreement.Leaves.{HasFault}
use Rattle.convoy.proofs.AgreementLemmas.AloneLemmas.{no_fault_yet}
use Rattle.rounds_client.specs.Course.{LeadsTo, Point}
use Rattle.rounds_client.specs.Given.{Gives}
use Rattle.rounds_client.specs.Ends.Laws.{NamedAtGate}
use Rattle.rounds_client.proofs.EndsLemmas.CourseLemmas.{SoFar, none_so_far, so_far}
use Rattle.rounds_client.proofs.EndsLemmas.ExchangeLemmas.{HadNoReply, IsVersioned, NamesVersion, OneExchange, WasReplied, one_at_least, one_exchange}

same_side : (a b : Side) → Some a ≡ Some b → a ≡ b
same_side a b is = cc

-- who has a version received something
some_received : (version : Option ℕ) (wanted : List Want) (number : ℕ) → IsVersioned version wanted → version ≡ Some number → wanted ≢ []
some_received version wanted number versioned is = subst (λ (v : Option ℕ). IsVersioned v wanted) is versioned

-- and who received something has a version
not_without : (version : Option ℕ) (wanted : List Want) (want : Want) → IsVersioned version (wanted ++ want ∷ []) → version ≡ None → ⊥
not_without version wanted want versioned is = one_at_least wanted want (subst (λ (v : Option ℕ). IsVersioned v (wanted ++ want ∷ [])) is versioned)

module _ {X : Type 0} (seen : X → LinkSeen) (base : BaseParts) (query : Query) (side at : Side) (start : X) (begin : Point X) (s : SoFar seen base query side start begin 0) (none : (shown begin.client).version ≡ None) where
  exchanged : (made : ℕ) (old new : Point X) (o : SoFar seen base query side start old made) → Gives base old.client new.client (seen old.link) (seen new.link) old.given new.given →
      OneExchange base o.left old.client new.client o.wanted new.given (seen old.link) (seen new.link)
  exchanged made old new o gives = one_exchange base o.left old.client new.client o.wanted old.given new.given (seen old.link) (seen new.link) o.honest.honest o.fits o.holds gives

  -- a version that is there stays
  kept : (made : ℕ) (old new : Point X) (number : ℕ) → SoFar seen base query side start old made → Gives base old.client new.client (seen old.link) (seen new.link) old.given new.given →
      (shown old.client).version ≡ Some number → (shown new.client).version ≡ Some number
  kept made old new number o gives is = let x = exchanged made old new o gives in by x.left x.want x.version where
    by : (left : Side) (want : Want) → NamesVersion left (shown old.client) (shown new.client) o.wanted want ⊎ ((shown new.client).version ≡ (shown old.client).version) → (shown new.client).version ≡ Some number
    by left want (inl names) = absurd (some_received (shown old.client).version o.wanted number o.versioned is names.first)
    by left want (inr stays) = stays ∙ is

  -- the first exchange, of a client that waits for more, named the version
  named_first : (next : Point X) → ¬ HasFault (shown next.client) → Gives base begin.client next.client (seen begin.link) (seen next.link) begin.given next.given → IsHonestWith (seen next.link) base at →
      (shown next.client).version ≡ Some (version_at at query.known)
  named_first next no_fault gives there =
      let x = exchanged 0 begin next s gives in
      by x.left x.want x.more (same_side x.left at (sym x.honest.honest.tells ∙ there.tells)) x.how x.version x.versioned where
        by : (left : Side) (want : Want) (more : List Want) → left ≡ at → WasReplied (shown next.client) more want ⊎ HadNoReply left (shown next.client) s.wanted more want →
            NamesVersion left (shown begin.client) (shown next.client) s.wanted want ⊎ ((shown next.client).version ≡ (shown begin.client).version) → IsVersioned (shown next.client).version (s.wanted ++ more) →
            (shown next.client).version ≡ Some (version_at at query.known)
        by left want more same (inr failed) version versioned = absurd (no_fault failed.by_fault)
        by left want more same (inl replied) (inl names) versioned = names.is ∙ ap₂ (λ (l : Side) (q : Query). Some (version_at l q.known)) same s.query_is
        by left want more same (inl replied) (inr stays) versioned =
            absurd (not_without (shown next.client).version s.wanted want (subst (λ (l : List Want). IsVersioned (shown next.client).version (s.wanted ++ l)) replied.are versioned) (stays ∙ none))

  named_next : (next first end : Point X) → LeadsTo seen base (next ∷ first ∷ []) begin end → IsHonestWith (seen next.link) base at → (shown next.client).version ≡ Some (version_at at query.known)
  named_next next first end (gives, (before, same)) there =
      let o : SoFar seen base query side start next 1 = so_far seen base query side start (first ∷ []) begin next s (before, same) in
      let x = exchanged 1 next end o gives in
      named_first next (no_fault_yet o.left next.client o.wanted o.fits x.waits)
      (subst (λ (p : Point X). Gives base p.client next.client (seen p.link) (seen next.link) p.given next.given) same before) there

  named_then : (later : List (Point X)) (next first end : Point X) → LeadsTo seen base (later ++ next ∷ first ∷ []) begin end → IsHonestWith (seen next.link) base at →
      (shown end.client).version ≡ Some (version_at at query.known)
  named_then [] next first end leads there =
      kept 1 next end (version_at at query.known) (so_far seen base query side start (first ∷ []) begin next s leads.1) leads.0 (named_next next first end leads there)
  named_then (last ∷ later) next first end (gives, leads) there =
      kept (length (later ++ next ∷ first ∷ [])) last end (version_at at query.known) (so_far seen base query side start (later ++ next ∷ first ∷ []) begin last s leads) gives
      (named_then later next first last leads there)

pub named_at_gate : BeginsInAgreement → {X : Type 0} (seen : X → LinkSeen) → NamedAtGate seen
named_at_gate begins {X} seen side at base query before after end later next first honest ends points there =
    let begin : Point X = record { client = ends.start; given = record { doc = None; pages = [] }; link = before } in
    let leads : LeadsTo seen base (later ++ next ∷ first ∷ []) begin ends.last = subst (λ (l : List (Point X)). LeadsTo seen base l begin ends.last) points ends.leads in
    ends.version
    ∙ named_then seen base query side at before begin (none_so_far begins seen base query side before ends.start honest ends.begins) (ap (λ (s : Shown). s.version) ends.begins.is) later next first ends.last leads there
