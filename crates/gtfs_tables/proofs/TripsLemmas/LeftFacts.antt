-- The trips that are left out, as a sorted list.
use Rattle.std.proofs.Common.{Bor, ◌≡◌, ℕ, Bool, true, false, IsTrue, List, refl, sym}
use Rattle.std.proofs.lemmas.List.Folds.{Any-from_list_any, list_any-from_Any}
use Rattle.std.proofs.lemmas.Slice.Eq.{bytes_eq-Decides}
use Rattle.std.specs.List.{Any, list_any}
use Rattle.lc_model.specs.Change.{is_same_id}
use Rattle.gtfs_tables.specs.Trips.LeftOut.{is_in}
use Rattle.gtfs_tables.specs.declared.trips.left_out.Stopless.{Stopless}

same_bool : (a b : Bool) → (a ≡ true → b ≡ true) → (b ≡ true → a ≡ true) → a ≡ b
same_bool true b h k = sym (h refl)
same_bool false true h k = k refl
same_bool false false h k = refl

-- a test finds a text exactly where one of the list is that text
module _ {X : Type 0} (text_of : X → List ℕ) (xs : List X) (text : List ℕ) where
  pub any_found : Any (λ (x : X). text_of x ≡ text) xs → list_any (λ (x : X). is_same_id (text_of x) text) xs ≡ true
  any_found (k, x, inside, at, is) =
      list_any-from_Any (λ (x : X). is_same_id (text_of x) text) xs (k, x, inside, at, (bytes_eq-Decides (text_of x) text).1 is)

  pub found_any : list_any (λ (x : X). is_same_id (text_of x) text) xs ≡ true → Any (λ (x : X). text_of x ≡ text) xs
  found_any h =
      let found = Any-from_list_any (λ (x : X). is_same_id (text_of x) text) xs h in
      (found.0, found.1, found.2, found.3, (bytes_eq-Decides (text_of found.1) text).0 found.4)

-- a search answers as the test
pub search_tells : (left : List (Bor (List ℕ))) (trip : List ℕ) (recorded : Bool) → (IsTrue recorded → Any (λ (x : Bor (List ℕ)). x.now ≡ trip) left) → (Any (λ (x : Bor (List ℕ)). x.now ≡ trip) left → IsTrue recorded)
    → recorded ≡ is_in left trip
search_tells left trip recorded there back =
    same_bool recorded (is_in left trip) (λ t. any_found (λ (x : Bor (List ℕ)). x.now) left trip (there t)) (λ t. back (found_any (λ (x : Bor (List ℕ)). x.now) left trip t))

-- two lists of the same texts are tested alike
pub tested_alike : (left : List (Bor (List ℕ))) (stopless : List Stopless) (trip : List ℕ)
    → (Any (λ (x : Bor (List ℕ)). x.now ≡ trip) left → Any (λ (s : Stopless). s.trip ≡ trip) stopless)
    → (Any (λ (s : Stopless). s.trip ≡ trip) stopless → Any (λ (x : Bor (List ℕ)). x.now ≡ trip) left)
    → is_in left trip ≡ list_any (λ (s : Stopless). is_same_id s.trip trip) stopless
tested_alike left stopless trip there back =
    same_bool (is_in left trip) (list_any (λ (s : Stopless). is_same_id s.trip trip) stopless)
    (λ t. any_found (λ (s : Stopless). s.trip) stopless trip (there (found_any (λ (x : Bor (List ℕ)). x.now) left trip t)))
    (λ t. any_found (λ (x : Bor (List ℕ)). x.now) left trip (back (found_any (λ (s : Stopless). s.trip) stopless trip t)))
