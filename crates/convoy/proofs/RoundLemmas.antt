-- Round after round, each client reaches its outcome.
use Rattle.std.proofs.Common.{◌≡◌, ◌≢◌, ℕ, suc, ◌<◌, ◌+◌, ◌-◌, inl, inr, sym, ap, ◌∙◌, subst, refl, arith}
use Rattle.std.specs.List.{AllWithin, slice_index_or}
use Rattle.std.proofs.lemmas.Option.{get_or_from_slice_get}
use Rattle.csa_scan.proofs.ListPlacesLemmas.{same_place}
use Rattle.lc_world.specs.Link.{LinkSeen}
use Rattle.convoy.specs.Finish.{Ends, HasOutcome, Keeps, Rounds}
use Rattle.convoy.specs.State.{ConvoyState}
use Rattle.convoy.specs.declared.member.Member.{Member}

-- the first n clients have had their rounds
pub record AfterRounds {X : Type 0} (seen : X → LinkSeen) (n : ℕ) (old new : ConvoyState) (before after : X) : Type 0 where
  pub rounds : Rounds seen n old new before after
  pub ended : AllWithin HasOutcome new.members 0 n
  pub keeps : Keeps old new

-- no client has had its round yet
pub no_rounds : {X : Type 0} (seen : X → LinkSeen) (convoy : ConvoyState) (link : X) → AfterRounds seen 0 convoy convoy link link
no_rounds seen convoy link = record {
  rounds = (refl, refl);
  ended = λ j d low high. absurd (omega arith);
  keeps = record { clients = refl; base = refl; spent = refl };
}

minus : (n : ℕ) → n + 1 - 1 ≡ n
minus n = omega arith

below : (j n : ℕ) → j < suc n → j ≢ n → j < n
below j n high other = omega arith

-- the next client has had its round
next :
    {X : Type 0} (seen : X → LinkSeen) (n : ℕ) (old mid new : ConvoyState) (before link after : X) →
    AfterRounds seen n old mid before link → Ends seen (suc n) mid new link after →
    ((j : ℕ) (d : Member) → j ≢ n → slice_index_or new.members j d ≡ slice_index_or mid.members j d) → Keeps mid new →
    AfterRounds seen (suc n) old new before after
next seen n old mid new before link after rounds ends others keeps = record {
  rounds = (mid, link, rounds.rounds, ends);
  ended = λ j d low high. elim (same_place j n) [
    | inl same ↦
        let at : j ≡ suc n - 1 = omega arith in
        let is = get_or_from_slice_get new.members (suc n - 1) ends.member d ends.is in
        subst HasOutcome (sym (ap (λ (j : ℕ). slice_index_or new.members j d) at ∙ is)) ends.ended
    | inr other ↦ subst HasOutcome (sym (others j d other)) (rounds.ended j d low (below j n high other))
  ];
  keeps = record {
    clients = keeps.clients ∙ rounds.keeps.clients;
    base = keeps.base ∙ rounds.keeps.base;
    spent = keeps.spent ∙ rounds.keeps.spent;
  };
}

-- the next client has had its round, with n + 1, as the code counts
pub next_round :
    {X : Type 0} (seen : X → LinkSeen) (n : ℕ) (old mid new : ConvoyState) (before link after : X) →
    AfterRounds seen n old mid before link → Ends seen (n + 1) mid new link after →
    ((j : ℕ) (d : Member) → j ≢ n + 1 - 1 → slice_index_or new.members j d ≡ slice_index_or mid.members j d) → Keeps mid new →
    AfterRounds seen (n + 1) old new before after
next_round seen n old mid new before link after rounds ends others keeps =
    let same : n + 1 ≡ suc n = omega arith in
    let Q : ℕ → Type 0 = λ m. AfterRounds seen m old new before after in
    subst Q (sym same) (next seen n old mid new before link after rounds (subst (λ (m : ℕ). Ends seen m mid new link after) same ends) (λ j d other. others j d (λ e. other (e ∙ minus n))) keeps)
