-- First places: from the last key to the first, and what a first place says of the keys.
use Rattle.std.proofs.Common.{◌≡◌, ◌∙◌, ℕ, ◌+◌, ◌<◌, ◌≤◌, Bool, true, false, cond, List, [], ◌∷◌, Option, Some, None, ap, arith, drop, get_or, length, map, refl, suc, sym, zero}
use Rattle.std.specs.List.{position_from}

-- the keys from a place on, one more
pub position_drop : {Key : Type 0} (test : Key → Bool) (keys : List Key) (place from : ℕ) (d : Key) → place < length keys
    → position_from test from (drop place keys) ≡ cond (test (get_or keys place d)) (Some from) (position_from test (from + 1) (drop (place + 1) keys))
position_drop test [] place from d inside = absurd (omega arith)
position_drop test (key ∷ keys) zero from d inside = refl
position_drop test (key ∷ keys) (suc place) from d inside =
    let rest = position_drop test keys place from d (omega arith) in
    let e : suc place + 1 ≡ suc (place + 1) = omega arith in
    rest ∙ ap (λ n. cond (test (get_or keys place d)) (Some from) (position_from test (from + 1) (drop n (key ∷ keys)))) (sym e)

-- a test of keys is the same test of what they stand for
pub position_map : {Key Value : Type 0} (value_of : Key → Value) (test : Key → Bool) (recorded : Value → Bool) → ((key : Key) → test key ≡ recorded (value_of key))
    → (keys : List Key) (from : ℕ) → position_from test from keys ≡ position_from recorded from (map value_of keys)
position_map value_of test recorded same [] from = refl
position_map value_of test recorded same (key ∷ keys) from =
    ap (λ b. cond b (Some from) (position_from test (from + 1) keys)) (same key)
    ∙ ap (λ p. cond (recorded (value_of key)) (Some from) p) (position_map value_of test recorded same keys (from + 1))

-- a key that passes has a first place, which is not after it
pub place_at_most : {Key : Type 0} (test : Key → Bool) (keys : List Key) (place from : ℕ) (d : Key) → place < length keys → test (get_or keys place d) ≡ true
    → (first : ℕ) × (position_from test from keys ≡ Some first) × (first ≤ from + place)
place_at_most test [] place from d inside passes = absurd (omega arith)
place_at_most test (key ∷ keys) zero from d inside passes = (from, ap (λ b. cond b (Some from) (position_from test (from + 1) keys)) passes, omega arith)
place_at_most test (key ∷ keys) (suc place) from d inside passes =
    one_before test key keys from place (place_at_most test keys place (from + 1) d (omega arith) passes)
  where
    one_before : {K : Type 0} (t : K → Bool) (k : K) (ks : List K) (start at : ℕ) → ((first : ℕ) × (position_from t (start + 1) ks ≡ Some first) × (first ≤ start + 1 + at))
        → (first : ℕ) × (position_from t start (k ∷ ks) ≡ Some first) × (first ≤ start + suc at)
    one_before t k ks start at rest =
        elim (t k) as (λ b. (first : ℕ) × (cond b (Some start) (position_from t (start + 1) ks) ≡ Some first) × (first ≤ start + suc at)) [
          | true ↦ (start, refl, omega arith)
          | false ↦ (rest.0, rest.1, let below : rest.0 ≤ start + 1 + at = rest.2 in omega arith)
        ]

none_not_some : (n : ℕ) → (◌≡◌ {A = Option ℕ} None (Some n)) → ⊥
none_not_some n e = cc

-- at a first place the key passes
pub place_passes : {Key : Type 0} (test : Key → Bool) (keys : List Key) (from first : ℕ) (d : Key) → position_from test from keys ≡ Some first
    → (place : ℕ) × (first ≡ from + place) × (place < length keys) × (test (get_or keys place d) ≡ true)
place_passes test [] from first d is = absurd (none_not_some first is)
place_passes test (key ∷ keys) from first d is =
    one_before test key keys from first d is (λ at_rest. place_passes test keys (from + 1) first d at_rest)
  where
    one_before : {K : Type 0} (t : K → Bool) (k : K) (ks : List K) (start found : ℕ) (e : K) → position_from t start (k ∷ ks) ≡ Some found
        → (position_from t (start + 1) ks ≡ Some found → (place : ℕ) × (found ≡ start + 1 + place) × (place < length ks) × (t (get_or ks place e) ≡ true))
        → (place : ℕ) × (found ≡ start + place) × (place < length (k ∷ ks)) × (t (get_or (k ∷ ks) place e) ≡ true)
    one_before t k ks start found e at rest = by_test (t k) refl at
      where
        by_test : (b : Bool) → t k ≡ b → cond b (Some start) (position_from t (start + 1) ks) ≡ Some found
            → (place : ℕ) × (found ≡ start + place) × (place < length (k ∷ ks)) × (t (get_or (k ∷ ks) place e) ≡ true)
        by_test true passes here = let same : start ≡ found = cc in (zero, omega arith, omega arith, passes)
        by_test false fails here =
            let r = rest here in
            let same : found ≡ start + 1 + r.0 = r.1 in
            let inside : r.0 < length ks = r.2 in
            (suc r.0, omega arith, omega arith, r.3)
