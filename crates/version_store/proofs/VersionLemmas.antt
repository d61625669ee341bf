-- The version that a walk over the versions names, and the newest one.
use Rattle.std.proofs.Common.{◌≡◌, ℕ, ◌-◌, ◌<◌, ◌≤◌, List, [], ◌∷◌, ◌++◌, length, get_or, Bool, true, false, Result, Ok, Err, refl, sym, ap, ◌∙◌, subst, arith, ⊎_elim}
use Rattle.std.specs.Prelude.{IsTrue, is_ok}
use Rattle.std.specs.List.{AllPairs, Contains}
use Rattle.std.specs.List.Sorted.{IsBinarySearchResult, IsSearchInRange}
use Rattle.std.specs.Ordering.{MatchOrdering, nat_cmp, ordering_index}
use Rattle.std.specs.declared.cmp.Ordering.TheVariants.{Less, Greater}
use Rattle.std.proofs.lemmas.Bool.{cases_lt}
use Rattle.std.proofs.lemmas.Bool.Decides.{nat_tests}
use Rattle.std.proofs.lemmas.Cmp.{ranked}
use Rattle.std.proofs.lemmas.List.{get_or_default}
use Rattle.std.proofs.lemmas.List.Quantifiers.{all_pairs_push}
use Rattle.std.proofs.lemmas.List.Sorted.{searched}
use Rattle.lc_model.specs.Versions.Named.{last_of}

last_there : (first : ℕ) (rest : List ℕ) (d : ℕ) → get_or (first ∷ rest) (length rest) d ≡ last_of first rest
last_there first [] d = refl
last_there first (next ∷ rest) d = last_there next rest d

-- the last of the versions is the newest
pub newest_last : (versions : List ℕ) (base : ℕ) (later : List ℕ) (version : ℕ) → versions ≡ base ∷ later → version ≡ get_or versions (length versions - 1) version → version ≡ last_of base later
newest_last versions base later version is at =
    let place : length (base ∷ later) - 1 ≡ length later = omega arith in
    at ∙ ap (λ (l : List ℕ). get_or l (length l - 1) version) is ∙ ap (λ (n : ℕ). get_or (base ∷ later) n version) place ∙ last_there base later version

never_falls : (versions : List ℕ) → AllPairs (λ (x y : ℕ). x < y) versions → (i j : ℕ) → i ≤ j → j < length versions → get_or versions i 0 ≤ get_or versions j 0
never_falls versions rising i j le lt =
    ⊎_elim
    (λ (low : i < j). let less : get_or versions i 0 < get_or versions j 0 = rising i j 0 low lt in omega (arith, less))
    (λ (high : j ≤ i). let same : i ≡ j = omega arith in let e : get_or versions i 0 ≡ get_or versions j 0 = ap (λ (n : ℕ). get_or versions n 0) same in omega (arith, e))
    (cases_lt i j)

-- the answer says whether the version is one of these
abbrev pub TellsVersion : List ℕ → ℕ → Bool → Type 0
TellsVersion versions version answer = (IsTrue answer → Contains versions version) × (Contains versions version → IsTrue answer)

-- the last version
last_version : (base d : ℕ) (later : List ℕ) → get_or (base ∷ later) (length later) d ≡ last_of base later
last_version base d [] = refl
last_version base d (next ∷ rest) = last_version next d rest

found : (versions : List ℕ) (version : ℕ) (r : Result ℕ ℕ) → IsSearchInRange r (length versions) → IsBinarySearchResult (λ y. nat_cmp y version) versions r → AllPairs (λ (x y : ℕ). x < y) versions → TellsVersion versions version (is_ok r)
found versions version (Ok i) inside at rising =
    let here = searched versions version (Ok i) at (never_falls versions rising) in
    ((λ _. (i, inside, get_or_default versions i version 0 inside ∙ here.1)), (λ _. refl))
found versions version (Err i) inside at rising =
    let parts = at (λ j k d le lt. index_rises (get_or versions j d) (get_or versions k d) version (rises j k d le lt)) in (
      (λ yes. absurd (let f : false ≡ true = yes in cc)),
      (λ (k, there, is).
          absurd (⊎_elim
          (λ (low : k < i). let m : MatchOrdering Less (get_or versions k version < version) (get_or versions k version ≡ version) (version < get_or versions k version) = ranked (get_or versions k version) version Less (sym (parts.0 k version (omega arith) low)) in omega (arith, m, is))
          (λ (high : i ≤ k). let m : MatchOrdering Greater (get_or versions k version < version) (get_or versions k version ≡ version) (version < get_or versions k version) = ranked (get_or versions k version) version Greater (sym (parts.1 k version high there)) in omega (arith, m, is))
          (cases_lt k i))),
    ) where
      index_rises : (x y s : ℕ) → x ≤ y → ordering_index (nat_cmp x s) ≤ ordering_index (nat_cmp y s)
      index_rises x y s h = grind (arith, nat_tests)

      rises : (j k d : ℕ) → j ≤ k → k < length versions → get_or versions j d ≤ get_or versions k d
      rises j k d le lt = let e : get_or versions j d ≡ get_or versions j 0 = get_or_default versions j d 0 (omega arith) in let f : get_or versions k d ≡ get_or versions k 0 = get_or_default versions k d 0 lt in let g : get_or versions j 0 ≤ get_or versions k 0 = never_falls versions rising j k le lt in omega (arith, e, f, g)

-- what a search among the versions answers
pub version_search : (versions : List ℕ) (version : ℕ) (r : Result ℕ ℕ) (answer : Bool) → IsSearchInRange r (length versions) → IsBinarySearchResult (λ y. nat_cmp y version) versions r → AllPairs (λ (x y : ℕ). x < y) versions → answer ≡ is_ok r
    → TellsVersion versions version answer
version_search versions version r answer inside at rising e = subst (TellsVersion versions version) (sym e) (found versions version r inside at rising)

up_to_last : (base : ℕ) (later : List ℕ) → AllPairs (λ (x y : ℕ). x < y) (base ∷ later) → (k d : ℕ) → k < length (base ∷ later) → get_or (base ∷ later) k d ≤ last_of base later
up_to_last base later rising k d inside =
    let e : get_or (base ∷ later) k d ≡ get_or (base ∷ later) k 0 = get_or_default (base ∷ later) k d 0 inside in
    let f : get_or (base ∷ later) (length later) 0 ≡ last_of base later = last_version base 0 later in
    let g : get_or (base ∷ later) k 0 ≤ get_or (base ∷ later) (length later) 0 = never_falls (base ∷ later) rising k (length later) (omega arith) (omega arith) in
    omega (arith, e, f, g)

-- a later version at the end
pub rising_more : (base : ℕ) (later : List ℕ) (next : ℕ) → AllPairs (λ (x y : ℕ). x < y) (base ∷ later) → last_of base later < next → AllPairs (λ (x y : ℕ). x < y) (base ∷ (later ++ next ∷ []))
rising_more base later next rising newer =
    all_pairs_push (λ (x y : ℕ). x < y) (base ∷ later) next rising (λ k d inside. let le : get_or (base ∷ later) k d ≤ last_of base later = up_to_last base later rising k d inside in omega (arith, le, newer))
