-- The call that is named by its sequence or its stop, and the last news that name it.
use Rattle.std.proofs.Common.{◌≡◌, ℕ, zero, suc, ◌+◌, ◌<◌, ◌≤◌, List, [], ◌∷◌, length, get_or, map, filter, eqb, Bool, true, false, cond, Option, Some, None, option_map, Result, Ok, Err, refl, sym, ap, ◌∙◌, arith, ⊎_elim}
use Rattle.std.specs.List.{All, last_or, position, position_from}
use Rattle.std.specs.Result.{result_ok}
use Rattle.std.specs.List.Sorted.{IsBinarySearchResult, IsSearchInRange}
use Rattle.std.specs.Ordering.{MatchOrdering, nat_cmp, ordering_index}
use Rattle.std.specs.declared.cmp.Ordering.TheVariants.{Less, Equal, Greater}
use Rattle.std.proofs.lemmas.Bool.{cases_lt, eq-eqb, ne_eqb}
use Rattle.std.proofs.lemmas.Bool.Decides.{nat_tests}
use Rattle.std.proofs.lemmas.Cmp.{ranked}
use Rattle.std.proofs.lemmas.Iterator.Adapters.{position_from-zero}
use Rattle.lc_model.specs.Call.{InSequence}
use Rattle.lc_model.specs.declared.call.Call.{Call}
use Rattle.lc_model.specs.Versions.Naming.{Naming, place_of, news_at_place}
use Rattle.live_calls.specs.Walk.{last_news}

shifted : (i : ℕ) (o : Option ℕ) → option_map (λ k. i + 1 + k) o ≡ option_map (λ k. i + k) (option_map suc o)
shifted i None = refl
shifted i (Some k) = ap Some (omega arith)

place_from : (p : Call → Bool) (i : ℕ) (calls : List Call) → position_from p i calls ≡ option_map (λ k. i + k) (place_of p calls)
place_from p i [] = refl
place_from p i (call ∷ rest) =
    elim (p call) as (λ b. cond b (Some i) (position_from p (i + 1) rest) ≡ option_map (λ k. i + k) (cond b (Some 0) (option_map suc (place_of p rest)))) [
      | true ↦ ap Some (omega arith)
      | false ↦ place_from p (i + 1) rest ∙ shifted i (place_of p rest)
    ]

from_zero : (o : Option ℕ) → option_map (λ k. 0 + k) o ≡ o
from_zero None = refl
from_zero (Some k) = ap Some (omega arith)

-- the first place that is so
pub position-is_place : (p : Call → Bool) (calls : List Call) → position p calls ≡ place_of p calls
position-is_place p calls = position_from-zero p calls ∙ place_from p 0 calls ∙ from_zero (place_of p calls)

pub place_of-none : (p : Call → Bool) (calls : List Call) → All (λ c. p c ≡ false) calls → place_of p calls ≡ None
place_of-none p [] none = refl
place_of-none p (call ∷ rest) none = rw (none 0 call (omega arith)) (ap (option_map suc) (place_of-none p rest (λ k d lt. none (suc k) d (omega arith))))

pub place_of-some : (p : Call → Bool) (calls : List Call) (k : ℕ) → k < length calls → ((d : Call) → p (get_or calls k d) ≡ true) → ((j : ℕ) (d : Call) → j < k → p (get_or calls j d) ≡ false) → place_of p calls ≡ Some k
place_of-some p [] k inside here before = absurd (omega arith)
place_of-some p (call ∷ rest) zero inside here before = rw (here call) refl
place_of-some p (call ∷ rest) (suc k) inside here before =
    rw (before 0 call (omega arith)) (ap (option_map suc) (place_of-some p rest k (omega arith) here (λ j d lt. before (suc j) d (omega arith))))

-- the last news that name the call at a place, or none
pub last_news-none : (all : List Naming) (place : ℕ) → news_at_place all place ≡ last_news None all place
last_news-none all place = last_mapped (filter (λ (n : Naming). eqb n.place place) all) None where
  last_mapped : (list : List Naming) (o : Option Naming) → option_map (λ (n : Naming). n.news) (last_or o list) ≡ last_or (option_map (λ (n : Naming). n.news) o) (map (λ (n : Naming). n.news) list)
  last_mapped [] o = refl
  last_mapped (n ∷ rest) o = last_mapped rest (Some n)

index_rises : (x y s : ℕ) → x ≤ y → ordering_index (nat_cmp x s) ≤ ordering_index (nat_cmp y s)
index_rises x y s h = grind (arith, nat_tests)

when_less : (x s : ℕ) → nat_cmp x s ≡ Less → eqb x s ≡ false
when_less x s e = let m : MatchOrdering Less (x < s) (x ≡ s) (s < x) = ranked x s Less (sym e) in ne_eqb x s (λ same. omega (arith, m, same))

when_equal : (x s : ℕ) → nat_cmp x s ≡ Equal → eqb x s ≡ true
when_equal x s e = eq-eqb x s (ranked x s Equal (sym e))

when_greater : (x s : ℕ) → nat_cmp x s ≡ Greater → eqb x s ≡ false
when_greater x s e = let m : MatchOrdering Greater (x < s) (x ≡ s) (s < x) = ranked x s Greater (sym e) in ne_eqb x s (λ same. omega (arith, m, same))

-- what a binary search for a sequence answers is the place of its call
pub found_place : (calls : List Call) (seq : ℕ) (r : Result ℕ ℕ) → InSequence calls → IsSearchInRange r (length calls) → IsBinarySearchResult (λ (c : Call). nat_cmp c.seq seq) calls r
    → result_ok r ≡ place_of (λ (c : Call). eqb c.seq seq) calls
found_place calls seq (Ok i) rising inside at =
    sym (place_of-some (λ (c : Call). eqb c.seq seq) calls i inside (λ d. when_equal (get_or calls i d).seq seq (at d))
    (λ j d before.
    let less : (get_or calls j d).seq < (get_or calls i d).seq = rising j i d before inside in
    let same : (get_or calls i d).seq ≡ seq = ranked (get_or calls i d).seq seq Equal (sym (at d)) in
    ne_eqb (get_or calls j d).seq seq (λ e. omega (arith, less, same, e))))
found_place calls seq (Err i) rising inside at =
    let parts = at (λ j k d le lt. index_rises (get_or calls j d).seq (get_or calls k d).seq seq (never_falls calls rising j k d le lt)) in
    sym (place_of-none (λ (c : Call). eqb c.seq seq) calls (λ k d lt.
    ⊎_elim
    (λ (low : k < i). when_less (get_or calls k d).seq seq (parts.0 k d (omega arith) low))
    (λ (high : i ≤ k). when_greater (get_or calls k d).seq seq (parts.1 k d high lt))
    (cases_lt k i))) where
      never_falls : (calls : List Call) → InSequence calls → (j k : ℕ) (d : Call) → j ≤ k → k < length calls → (get_or calls j d).seq ≤ (get_or calls k d).seq
      never_falls calls rising j k d le lt =
          ⊎_elim
          (λ (low : j < k). let less : (get_or calls j d).seq < (get_or calls k d).seq = rising j k d low lt in omega (arith, less))
          (λ (high : k ≤ j). let same : j ≡ k = omega arith in let e : (get_or calls j d).seq ≡ (get_or calls k d).seq = ap (λ (n : ℕ). (get_or calls n d).seq) same in omega (arith, e))
          (cases_lt j k)
