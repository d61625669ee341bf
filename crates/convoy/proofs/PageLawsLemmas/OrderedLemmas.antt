-- The order of departures.
use Rattle.std.proofs.Common.{◌≡◌, ℕ, ◌<◌, ◌≤◌, refl, sym, ◌∙◌, ap, arith, rules}
use Rattle.std.specs.Cmp.{IsTotalOrder}
use Rattle.std.specs.Cmp.Rules.{comparing}
use Rattle.std.specs.Ordering.{nat_cmp, ordering_then, ordering_reverse}
use Rattle.std.specs.declared.cmp.Ordering.{Ordering}
use Rattle.std.specs.declared.cmp.Ordering.TheVariants.{Less, Equal, Greater}
use Rattle.std.proofs.lemmas.Cmp.{tied_itself, ranked, by_ranked, then_total, on_total, nat_cmp_total}
use Rattle.lc_model.specs.Connection.{departure_cmp}
use Rattle.lc_model.specs.RunKey.{key_cmp}
use Rattle.lc_model.specs.declared.connection.Connection.{Connection}
use Rattle.lc_model.specs.declared.key.RunKey.{RunKey}

pub key_cmp-total : IsTotalOrder key_cmp
key_cmp-total = search (comparing, rules) depth 9

pub departure_cmp-total : IsTotalOrder departure_cmp
departure_cmp-total =
    then_total (on_total (λ c. c.dep) nat_cmp_total)
    (then_total (on_total (λ c. c.key) key_cmp-total) (on_total (λ c. c.seq) nat_cmp_total))

-- a key is tied with itself alone
pub key_cmp-self : (k : RunKey) → key_cmp k k ≡ Equal
key_cmp-self k = tied_itself key_cmp-total k

-- no two items are each less than the other
pub not_both_less : {X : Type 0} (cmp : X → X → Ordering) (order : IsTotalOrder cmp) (x y : X) → cmp x y ≡ Less → cmp y x ≡ Less → ⊥
not_both_less cmp order x y here there =
    let back : Less ≡ Greater = sym here ∙ order.antisymm x y ∙ ap ordering_reverse there in
    cc

nat_cmp-less : (m n : ℕ) → m < n → nat_cmp m n ≡ Less
nat_cmp-less m n below =
    by_ranked (m < n) (m ≡ n) (n < m) (nat_cmp m n) (ranked m n (nat_cmp m n) refl) (λ less _. less) (λ _ tied. absurd (omega arith)) (λ _ above. absurd (omega arith))

-- of one run, what departs no later and has the lower sequence comes before
pub departs_before : (x y : Connection) → x.dep ≤ y.dep → x.key ≡ y.key → x.seq < y.seq → departure_cmp x y ≡ Less
departs_before x y departs same lower =
    let by_dep = nat_cmp x.dep y.dep in
    let by_key = key_cmp x.key y.key in
    let by_seq = nat_cmp x.seq y.seq in
    let tied : by_key ≡ Equal = ap (λ k. key_cmp x.key k) (sym same) ∙ key_cmp-self x.key in
    let rest : ordering_then by_key by_seq ≡ Less = ap (λ o. ordering_then o by_seq) tied ∙ nat_cmp-less x.seq y.seq lower in
    by_ranked (x.dep < y.dep) (x.dep ≡ y.dep) (y.dep < x.dep) by_dep (ranked x.dep y.dep by_dep refl)
    (λ less _. ap (λ o. ordering_then o (ordering_then by_key by_seq)) less)
    (λ equal _. ap (λ o. ordering_then o (ordering_then by_key by_seq)) equal ∙ rest)
    (λ _ later. absurd (omega arith))
