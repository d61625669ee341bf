-- A set of places has each once, and what a search among those from the start does not find may come later.
use Rattle.std.proofs.Common.{Result, Ok, Err, ◌≡◌, ◌≢◌, ℕ, ◌<◌, ◌≤◌, ◌⊎◌, ◌↔◌, inl, inr, List, ◌++◌, length, get_or, Bool, true, false, cond, refl, sym, ap, ◌∙◌, subst, arith, ⊎_elim}
use Rattle.std.specs.Prelude.{IsTrue, is_err}
use Rattle.std.specs.BTreeSet.{BTreeSet, contains}
use Rattle.std.specs.List.{Contains}
use Rattle.std.specs.List.Sorted.{IsBinarySearchResult, IsSearchInRange, IsStrictlySortedBy}
use Rattle.std.specs.Ordering.{is_eq}
use Rattle.std.specs.declared.cmp.Ordering.{Ordering}
use Rattle.std.specs.declared.cmp.Ordering.TheVariants.{Equal, Greater, Less}
use Rattle.std.proofs.lemmas.Bool.{cases_lt}
use Rattle.std.proofs.lemmas.Cmp.{tied_itself}
use Rattle.std.proofs.lemmas.List.Elements.{Contains-append_cases, Contains-append_left, Contains-append_right}
use Rattle.std.proofs.lemmas.List.Sorted.{searchable_from_sorted}
use Rattle.std.proofs.lemmas.Map.Keys.{Less-from_sorted}
use Rattle.std.proofs.lemmas.Map.Views.{btree_set_contains_iff}
use Rattle.lc_model.specs.Order.{AreApart, IsStrict}
use Rattle.lc_model.proofs.ListLemmas.{AllPairs-append, AllPairs-weaker}
use Rattle.lc_model.proofs.SearchLemmas.{sorted_from_strict}
use Rattle.version_store.specs.Index.Places.{place_cmp}
use Rattle.version_store.specs.Index.PlaceSets.{AreOnce, all_of}
use Rattle.version_store.specs.declared.index.place.Place.{Place}
use Rattle.version_store.specs.declared.index.place_set.PlaceSet.TheInside.{Inside}
use Rattle.version_store.proofs.IndexLemmas.BaseLemmas.{tie_from}
use Rattle.version_store.proofs.IndexLemmas.PlaceLemmas.{place_cmp_total, place_exact}

less_is_untied : {o : Ordering} → o ≡ Less → o ≡ Equal → ⊥
less_is_untied less tie = let f : Less ≡ Equal = sym less ∙ tie in cc

-- no place of the set is twice in its list
pub once : (set : Inside) → AreOnce set → AreApart place_cmp (all_of set)
once set are =
    let first = set.first.items in
    let later = set.later.keys in
    AllPairs-append (λ p q. place_cmp p q ≢ Equal) first later
    (AllPairs-weaker (λ p q. place_cmp p q ≡ Less) (λ p q. place_cmp p q ≢ Equal) first (λ p q in_p in_q less. less_is_untied less) are.first)
    (λ i j d before inside. less_is_untied (Less-from_sorted place_cmp later i j d are.later before inside))
    (λ p q in_p in_q tie. are.apart p in_p (subst (Contains later) (sym (place_exact p q tie)) in_q))

pub not_found : (places : List Place) (place : Place) (r : Result ℕ ℕ) → IsStrict place_cmp places → IsBinarySearchResult (λ y. place_cmp y place) places r → is_err r ≡ true → Contains places place → ⊥
not_found places place (Ok i) up at is h = cc
not_found places place (Err i) up at is (k, there, at_k) =
    let parts = at (searchable_from_sorted place_cmp_total (λ (p : Place). p) places place (sorted_from_strict place_cmp place_cmp_total places up)) in
    let tie : place_cmp (get_or places k place) place ≡ Equal = ap (λ q. place_cmp q place) at_k ∙ tied_itself place_cmp_total place in
    ⊎_elim
    (λ (low : k < i). let f : Less ≡ Equal = sym (parts.0 k place (omega arith) low) ∙ tie in cc)
    (λ (high : i ≤ k). let f : Greater ≡ Equal = sym (parts.1 k place high there) ∙ tie in cc)
    (cases_lt k i)

pub found : (places : List Place) (place : Place) (r : Result ℕ ℕ) → IsSearchInRange r (length places) → IsBinarySearchResult (λ y. place_cmp y place) places r → is_err r ≡ false → Contains places place
found places place (Ok i) inside at is = (i, inside, place_exact (get_or places i place) place (at place))
found places place (Err i) inside at is = absurd (cc)

-- a set with a place more
pub set_more : (place : Place) (old new : BTreeSet Place) → ((q : Place) → contains place_cmp new q ≡ cond (is_eq (place_cmp place q)) true (contains place_cmp old q))
    → (q : Place) → Contains new.keys q ↔ ((place ≡ q) ⊎ Contains old.keys q)
set_more place old new updates q = (λ h. to (is_eq (place_cmp place q)) refl (sym (updates q) ∙ in_new.1 h), back) where
  in_new : IsTrue (contains place_cmp new q) ↔ Contains new.keys q
  in_new = btree_set_contains_iff place_cmp_total place_exact new q

  in_old : IsTrue (contains place_cmp old q) ↔ Contains old.keys q
  in_old = btree_set_contains_iff place_cmp_total place_exact old q

  to : (b : Bool) → is_eq (place_cmp place q) ≡ b → cond b true (contains place_cmp old q) ≡ true → (place ≡ q) ⊎ Contains old.keys q
  to true e f = inl (place_exact place q (tie_from (place_cmp place q) e))
  to false e f = inr (in_old.0 f)

  either : (b : Bool) → contains place_cmp old q ≡ true → cond b true (contains place_cmp old q) ≡ true
  either true e = refl
  either false e = e

  back : (place ≡ q) ⊎ Contains old.keys q → Contains new.keys q
  back (inl same) =
      let tie : place_cmp place q ≡ Equal = ap (place_cmp place) (sym same) ∙ tied_itself place_cmp_total place in
      in_new.0 (updates q ∙ ap (λ o. cond (is_eq o) true (contains place_cmp old q)) tie)
  back (inr h) = in_new.0 (updates q ∙ either (is_eq (place_cmp place q)) (in_old.1 h))

-- a place more among those that came later
pub once_more : (set new : Inside) (place : Place) → set.first ≡ new.first → AreOnce set → (Contains set.first.items place → ⊥) → IsStrictlySortedBy place_cmp new.later.keys
    → ((q : Place) → Contains new.later.keys q ↔ ((place ≡ q) ⊎ Contains set.later.keys q)) → AreOnce new
once_more set new place same are lacks rise more = record {
  first = subst (λ v. IsStrict place_cmp v.items) same are.first;
  later = rise;
  apart = λ p h k.
      let was : Contains set.first.items p = subst (λ v. Contains v.items p) (sym same) h in
      ⊎_elim (λ (e : place ≡ p). lacks (subst (Contains set.first.items) (sym e) was)) (λ (o : Contains set.later.keys p). are.apart p was o) ((more p).0 k);
}

pub has_more : (first old new : List Place) (place : Place) → ((q : Place) → Contains new q ↔ ((place ≡ q) ⊎ Contains old q)) → (q : Place) → Contains (first ++ new) q ↔ ((place ≡ q) ⊎ Contains (first ++ old) q)
has_more first old new place more q = (
  λ h.
      ⊎_elim (λ (f : Contains first q). inr (Contains-append_left first old q f))
      (λ (n : Contains new q). ⊎_elim (λ (e : place ≡ q). inl e) (λ (o : Contains old q). inr (Contains-append_right first old q o)) ((more q).0 n)) (Contains-append_cases first new q h),
  λ h.
      ⊎_elim (λ (e : place ≡ q). Contains-append_right first new q ((more q).1 (inl e)))
      (λ (k : Contains (first ++ old) q).
      ⊎_elim (λ (f : Contains first q). Contains-append_left first new q f) (λ (o : Contains old q). Contains-append_right first new q ((more q).1 (inr o))) (Contains-append_cases first old q k)) h,
)

-- a place that is there already
pub has_already : (first old : List Place) (place : Place) → Contains first place → (q : Place) → Contains (first ++ old) q ↔ ((place ≡ q) ⊎ Contains (first ++ old) q)
has_already first old place there q = (
  λ h. inr h,
  λ h. ⊎_elim (λ (e : place ≡ q). subst (Contains (first ++ old)) e (Contains-append_left first old place there)) (λ (k : Contains (first ++ old) q). k) h,
)
