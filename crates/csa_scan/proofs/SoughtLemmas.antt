-- What a binary search finds in stops and changes that are in strict order.
use Rattle.std.proofs.Common.{◌≡◌, ℕ, ◌+◌, ◌<◌, ◌≤◌, ◌⊎◌, suc, zero, Bor, List, Option, Some, Result, Ok, Err, false, length, get_or, refl, sym, ◌∙◌, ap, subst, inl, inr, arith}
use Rattle.std.specs.List.{slice_get, HoldsAt}
use Rattle.std.specs.List.Sorted.{IsBinarySearchResult, IsSearchInRange, IsPartitionPoint, IsNonDecreasingBy}
use Rattle.std.specs.Option.{MatchOption}
use Rattle.std.specs.Result.{result_ok}
use Rattle.std.specs.Slice.{IsItemAt}
use Rattle.std.specs.Ordering.{is_lt, is_le, ordering_index, ordering_then}
use Rattle.std.specs.declared.cmp.Ordering.TheVariants.{Less, Equal, Greater}
use Rattle.std.proofs.lemmas.Cmp.{tied_itself, nat_list_cmp_total}
use Rattle.std.proofs.lemmas.List.Sorted.{searchable_from_sorted}
use Rattle.std.proofs.lemmas.Option.{slice_get-get_or}
use Rattle.lc_model.specs.Question.{IsEnd}
use Rattle.lc_model.specs.Stop.{InStopOrder}
use Rattle.std.proofs.lemmas.List.{get_or_default}
use Rattle.lc_model.specs.Text.{id_cmp}
use Rattle.lc_model.specs.declared.stop.Stop.{Stop}
use Rattle.csa_scan.specs.PlaceOf.{IsPlaceOf, LacksId}
use Rattle.csa_scan.specs.Reach.{id_at}
use Rattle.csa_scan.proofs.ChangesLemmas.{id_at-is}
use Rattle.lc_model.proofs.KeyLemmas.{same_texts}
use Rattle.csa_scan.proofs.ListPlacesLemmas.{item_within}

-- numbers are less, the same or greater
three : (i j : ℕ) → (i < j) ⊎ ((i ≡ j) ⊎ (j < i))
three zero zero = inr (inl refl)
three zero (suc j) = inl (omega arith)
three (suc i) zero = inr (inr (omega arith))
three (suc i) (suc j) = elim (three i j) [ inl l ↦ inl (omega arith) | inr m ↦ elim m [ inl e ↦ inr (inl (ap suc e)) | inr g ↦ inr (inr (omega arith)) ] ]

pub below : (i j : ℕ) → (i < j) ⊎ (j ≤ i)
below zero zero = inr (omega arith)
below zero (suc j) = inl (omega arith)
below (suc i) zero = inr (omega arith)
below (suc i) (suc j) = elim (below i j) [ inl l ↦ inl (omega arith) | inr m ↦ inr (omega arith) ]

-- of two ids in order the later is not less
not_less : (x y : List ℕ) → id_cmp x y ≡ Less → is_lt (id_cmp y x) ≡ false
not_less x y e = let a = nat_list_cmp_total.antisymm y x in ap is_lt a ∙ ap (λ o. is_lt (Rattle.std.specs.Ordering.ordering_reverse o)) e

-- the id at a place is that of the item
pub id_at-get_or : (stops : List Stop) (place : ℕ) (d : Stop) → place < length stops → id_at stops place ≡ (get_or stops place d).id
id_at-get_or stops place d l = id_at-is stops place (get_or stops place d) (slice_get-get_or stops place d l)

-- ids before one another are not the same
not_same : (x y : List ℕ) → id_cmp x y ≡ Less → x ≡ y → ⊥
not_same x y less e = let P : List ℕ → Type 0 = λ z. id_cmp x z ≡ Less in let h = subst P (sym e) less in let t = tied_itself nat_list_cmp_total x in absurd (cc)

ids_rise : (stops : List Stop) → InStopOrder stops → (i j : ℕ) → i < j → j < length stops → id_at stops i ≡ id_at stops j → ⊥
ids_rise stops h i j l m e =
    let x = item_within stops j m in
    not_same (get_or stops i x.0).id (get_or stops j x.0).id (h i j x.0 l m)
    (sym (id_at-get_or stops i x.0 (omega arith)) ∙ e ∙ id_at-get_or stops j x.0 m)

-- an id is at one place
pub one_place : (stops : List Stop) → InStopOrder stops → (i j : ℕ) → i < length stops → j < length stops → id_at stops i ≡ id_at stops j → i ≡ j
one_place stops h i j l m e = elim (three i j) [ inl less ↦ absurd (ids_rise stops h i j less m e) | inr more ↦ elim more [ inl same ↦ same | inr greater ↦ absurd (ids_rise stops h j i greater l (sym e)) ] ]

-- the item that a list gave is at the place
pub item_found : {X : Type 0} (xs : List X) (i : ℕ) (r : Option (Bor X)) (x : Bor X) → IsItemAt xs i r → r ≡ Some x → (i < length xs) × (x.now ≡ get_or xs i x.now)
item_found xs i r x item is = let at : IsItemAt xs i (Some x) = subst (IsItemAt xs i) is item in (at.3.0, at.1)

-- a stop is at the place of its id
pub place_there : (stops : List Stop) → InStopOrder stops → (id : List ℕ) (place : ℕ) (s : Stop) → place < length stops → s ≡ get_or stops place s → s.id ≡ id → IsPlaceOf stops id place
place_there stops h id place s l at same =
    let is = id_at-get_or stops place s l ∙ ap (λ (t : Stop). t.id) (sym at) ∙ same in
    record { within = l; is = is; only = λ other m f. one_place stops h other place m l (f ∙ sym is) }

-- the place of a stop that was found
found_place : (stops : List Stop) → InStopOrder stops → (id : List ℕ) (place : ℕ) → place < length stops → HoldsAt (λ (s : Stop). id_cmp s.id id ≡ Equal) stops place → IsPlaceOf stops id place
found_place stops h id place l e =
    let x = item_within stops place l in
    let is = id_at-get_or stops place x.0 l ∙ same_texts (get_or stops place x.0).id id (e x.0) in
    record { within = l; is = is; only = λ other m f. one_place stops h other place m l (f ∙ sym is) }

-- strict order, as a search wants it
rises : (stops : List Stop) → InStopOrder stops → (id : List ℕ) → IsNonDecreasingBy (λ (s : Stop). ordering_index (id_cmp s.id id)) stops
rises stops h id = searchable_from_sorted nat_list_cmp_total (λ (s : Stop). s.id) stops id (λ k d l m. not_less (get_or stops k d).id (get_or stops (k + 1) d).id (h k (k + 1) d (omega arith) m))

-- where no stop is at the place between, none has the id
lacks : (stops : List Stop) (id : List ℕ) (place : ℕ) → IsPartitionPoint (λ (s : Stop). id_cmp s.id id ≡ Less) (λ (s : Stop). id_cmp s.id id ≡ Greater) stops place → LacksId stops id
lacks stops id place h q l e =
    let x = item_within stops q l in
    let same : (get_or stops q x.0).id ≡ id = sym (id_at-get_or stops q x.0 l) ∙ e in
    let t = ap (λ y. id_cmp y id) same ∙ tied_itself nat_list_cmp_total id in
    elim (below q place) [
      | inl before ↦ let f = h.0 q x.0 (omega arith) before in absurd (cc)
      | inr behind ↦ let f = h.1 q x.0 behind l in absurd (cc)
    ]

-- what a search for a stop answers
pub sought : (stops : List Stop) → InStopOrder stops → (id : List ℕ) (r : Result ℕ ℕ) → IsSearchInRange r (length stops) → IsBinarySearchResult (λ (s : Stop). id_cmp s.id id) stops r →
    MatchOption (result_ok r) (LacksId stops id) (IsPlaceOf stops id)
sought stops h id (Ok place) l s = found_place stops h id place l s
sought stops h id (Err place) l s = lacks stops id place (s (rises stops h id))

-- the stop at a place is an end where its id or its parent is the named one
pub end_there : (stops : List Stop) → InStopOrder stops → (place : ℕ) (s : Stop) → place < length stops → s ≡ get_or stops place s → (named : List ℕ) →
    ((s.id ≡ named) ⊎ (s.parent ≡ Some named) → IsEnd stops named (id_at stops place)) × (IsEnd stops named (id_at stops place) → (s.id ≡ named) ⊎ (s.parent ≡ Some named))
end_there stops h place s l e named =
    let at = id_at-get_or stops place s l ∙ ap (λ (x : Stop). x.id) (sym e) in (
      (λ d. elim d [
        | inl same ↦ inl (at ∙ same)
        | inr child ↦ inr (place, s, l, sym e, (sym at, child))
      ]),
      (λ d. elim d [
        | inl same ↦ inl (sym at ∙ same)
        | inr child ↦
            let one = one_place stops h child.0 place child.2 l (id_at-get_or stops child.0 child.1 child.2 ∙ ap (λ (x : Stop). x.id) child.3 ∙ child.4.0) in
            let P : ℕ → Type 0 = λ k. get_or stops k child.1 ≡ child.1 in
            let there = subst P one child.3 in
            let same : child.1 ≡ s = sym there ∙ get_or_default stops place child.1 s l ∙ sym e in
            inr (sym (ap (λ (x : Stop). x.parent) same) ∙ child.4.1)
      ]),
    )
