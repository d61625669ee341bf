-- The exchanges of all clients are as many as were received by an exchange.
use Rattle.std.proofs.Common.{◌≡◌, ◌∙◌, ◌+◌, ◌<◌, ◌≤◌, ℕ, zero, suc, Bool, true, false, List, [], ◌∷◌, Some, ap, ap₂, arith, inl, inr, length, refl, sym}
use Rattle.std.specs.Prelude.{◌==◌, ◌&&◌, filter, if◌then◌else◌, slice_get}
use Rattle.std.specs.List.{All}
use Rattle.std.proofs.lemmas.Bool.{cases_eq, eq-eqb, ne_eqb}
use Rattle.std.proofs.lemmas.List.Elements.{All-head, All-tail}
use Rattle.std.proofs.lemmas.List.Sums.{sum_by-cons}
use Rattle.cli_ask.specs.declared.end.ClientEnd.{ClientEnd}
use Rattle.convoy.specs.Replies.Met.{AreRecordedOf, IsByOneOf, Met, asked_in, exchanges_by, is_by}
use Rattle.connection_uri.specs.Base.{BaseParts}
use Rattle.lc_model.specs.declared.query.Query.{Query}
use Rattle.lc_world.specs.declared.entry.Entry.{Entry}
use Rattle.cli_replay.specs.Planning.Relayed.{exchanges_in}

-- what this gives for so many numbers after this one, added up
abbrev pub sum_after : (ℕ → ℕ) → ℕ → ℕ → ℕ
sum_after f k zero = 0
sum_after f k (suc n) = f (k + 1) + sum_after f (k + 1) n

-- one for the client's number, and none for others
abbrev one_for : ℕ → ℕ → ℕ
one_for client number = if client == number then 1 else 0

added_up : (a b c d : ℕ) → (a + b) + (c + d) ≡ (a + c) + (b + d)
added_up a b c d = omega arith

sum_of_both : (f g : ℕ → ℕ) (k n : ℕ) → sum_after (λ j. f j + g j) k n ≡ sum_after f k n + sum_after g k n
sum_of_both f g k zero = refl
sum_of_both f g k (suc n) =
    ap (λ (rest : ℕ). (f (k + 1) + g (k + 1)) + rest) (sum_of_both f g (k + 1) n) ∙ added_up (f (k + 1)) (g (k + 1)) (sum_after f (k + 1) n) (sum_after g (k + 1) n)

sum_of_same : (f g : ℕ → ℕ) (k n : ℕ) → ((j : ℕ) → f j ≡ g j) → sum_after f k n ≡ sum_after g k n
sum_of_same f g k zero same = refl
sum_of_same f g k (suc n) same = ap₂ (λ (a b : ℕ). a + b) (same (k + 1)) (sum_of_same f g (k + 1) n same)

no_one : (k n : ℕ) → sum_after (λ j. 0) k n ≡ 0
no_one k zero = refl
no_one k (suc n) = ap (λ (rest : ℕ). 0 + rest) (no_one (k + 1) n)

-- a client whose number is none of them
none_after : (client k n : ℕ) → client ≤ k → sum_after (one_for client) k n ≡ 0
none_after client k zero most = refl
none_after client k (suc n) most =
    let other : (client == k + 1) ≡ false = ne_eqb client (k + 1) (λ e. omega (arith, most, e)) in
    ap₂ (λ (b : Bool) (rest : ℕ). (if b then 1 else 0) + rest) other (none_after client (k + 1) n (omega (arith, most)))

-- and one of whose it is
one_after : (client k n : ℕ) → k < client → client ≤ k + n → sum_after (one_for client) k n ≡ 1
one_after client k zero above most = absurd (omega (arith, above, most))
one_after client k (suc n) above most = elim (cases_eq client (k + 1)) [
  | inl e ↦ ap₂ (λ (b : Bool) (rest : ℕ). (if b then 1 else 0) + rest) (eq-eqb client (k + 1) e) (none_after client (k + 1) n (omega (arith, e)))
  | inr other ↦ ap₂ (λ (b : Bool) (rest : ℕ). (if b then 1 else 0) + rest) (ne_eqb client (k + 1) other) (one_after client (k + 1) n (omega (arith, above, other)) (omega (arith, most)))
]

-- WHAT CLIENTS RECEIVED

split_by : (here asked : Bool) (met : Met) (rest : List Met) → length (if here && asked then met ∷ rest else rest) ≡ (if asked then (if here then 1 else 0) else 0) + length rest
split_by true true met rest = omega arith
split_by true false met rest = omega arith
split_by false true met rest = omega arith
split_by false false met rest = omega arith

count_asked : (asked : Bool) (met : Met) (rest : List Met) → length (if asked then met ∷ rest else rest) ≡ (if asked then 1 else 0) + length rest
count_asked true met rest = omega arith
count_asked false met rest = omega arith

one_weight : (client n : ℕ) (asked : Bool) → 1 ≤ client → client ≤ n → sum_after (λ k. if asked then one_for client k else 0) 0 n ≡ (if asked then 1 else 0)
one_weight client n true least most = one_after client 0 n (omega (arith, least)) (omega (arith, most))
one_weight client n false least most = no_one 0 n

-- what each client received by its exchanges is what all received by exchanges
pub all_asked : (n : ℕ) (all : List Met) → All (IsByOneOf n) all → sum_after (λ k. exchanges_by k all) 0 n ≡ length (asked_in all)
all_asked n [] by = no_one 0 n
all_asked n (met ∷ more) by =
    let here = All-head (IsByOneOf n) met more by in
    let weight : ℕ → ℕ = λ k. if met.asked then one_for met.client k else 0 in
    let rest : ℕ → ℕ = λ k. exchanges_by k more in
    let split : (k : ℕ) → exchanges_by k (met ∷ more) ≡ weight k + rest k =
    λ k. split_by (is_by k met) met.asked met (filter (λ (m : Met). is_by k m && m.asked) more) in
    sum_of_same (λ k. exchanges_by k (met ∷ more)) (λ k. weight k + rest k) 0 n split
    ∙ sum_of_both weight rest 0 n
    ∙ ap₂ (λ (a b : ℕ). a + b) (one_weight met.client n met.asked here.from_one here.at_most) (all_asked n more (All-tail (IsByOneOf n) met more by))
    ∙ sym (count_asked met.asked met (asked_in more))

-- HOW CLIENTS ENDED

pub ends_summed : (f : ℕ → ℕ) (k : ℕ) (ends : List ClientEnd) → ((place number : ℕ) (end : ClientEnd) → number ≡ (k + place) + 1 → slice_get ends place ≡ Some end → end.exchanges ≡ f number)
    → exchanges_in ends ≡ sum_after f k (length ends)
ends_summed f k [] at = refl
ends_summed f k (end ∷ more) at =
    sum_by-cons (λ (e : ClientEnd). e.exchanges) end more
    ∙ ap₂ (λ (a b : ℕ). a + b) (at 0 (k + 1) end (omega arith) refl) (ends_summed f (k + 1) more (λ place number other e is. at (suc place) number other (omega (arith, e)) is))

-- there is an entry for each exchange
pub recorded_len : (base : BaseParts) (questions : List Query) (exchanges : List Met) (entries : List Entry) → AreRecordedOf base questions exchanges entries → length exchanges ≡ length entries
recorded_len base questions [] [] are = refl
recorded_len base questions [] (entry ∷ entries) are = absurd are
recorded_len base questions (met ∷ more) [] are = absurd are
recorded_len base questions (met ∷ more) (entry ∷ entries) are = let rest = recorded_len base questions more entries are.1 in omega (arith, rest)
