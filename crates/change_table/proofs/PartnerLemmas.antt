-- Places of stops: which of them an id names, and that all that a change may lead to are named.
use Rattle.std.proofs.Common.{◌≡◌, ◌↔◌, ℕ, ◌+◌, ◌<◌, ◌≤◌, suc, zero, ◌⊎◌, inl, inr, List, [], ◌∷◌, ◌++◌, Option, Some, None, Result, Ok, Err, length, get_or, map, take, true, false, sym, ap, ◌∙◌, subst, refl, arith}
use Rattle.std.specs.Prelude.{filter, option_map}
use Rattle.std.specs.Cmp.{IsTotalOrder}
use Rattle.std.specs.List.{Any, Contains, slice_get, dedup}
use Rattle.std.specs.List.Sorted.{IsBinarySearchResult, IsPermutation, IsSearchInRange}
use Rattle.std.specs.Option.{option_to_list}
use Rattle.std.specs.Result.{result_ok}
use Rattle.std.specs.Ordering.{on}
use Rattle.std.specs.declared.cmp.Ordering.TheVariants.{Less, Equal}
use Rattle.std.proofs.lemmas.Bool.{cases_order}
use Rattle.std.proofs.lemmas.Cmp.{nat_list_cmp_total, on_total}
use Rattle.std.proofs.lemmas.List.Elements.{Contains-append_cases, Contains-append_left, Contains-append_right}
use Rattle.std.proofs.lemmas.List.{map-append, take_all, take_more}
use Rattle.std.proofs.lemmas.List.Kept.{Contains-dedup_nat, Contains-from_dedup}
use Rattle.std.proofs.lemmas.List.Sorted.{Contains-permutation, IsPermutation-map, IsPermutation-sym}
use Rattle.std.proofs.lemmas.Option.{get_or_from_slice_get, slice_get_cases, slice_get_within}
use Rattle.std.proofs.lemmas.Slice.Eq.{bytes_eq-Decides}
use lib.Dec.{eqb}
use Rattle.lc_model.specs.Change.{is_same_id}
use Rattle.lc_model.specs.Stop.{InStopOrder}
use Rattle.lc_model.specs.Text.{id_cmp}
use Rattle.lc_model.specs.declared.stop.Stop.{Stop}
use Rattle.lc_model.proofs.SearchLemmas.{id_tie, same_id, search_tells, sorted_from_strict}
use Rattle.change_table.specs.Partners.{AreChildren, Gains, IsOf, all_shown, child_cmp, id_at, parent_at, places_of, shown, shown_at}
use Rattle.change_table.specs.Rows.{target}
use Rattle.change_table.specs.declared.children.Child.{Child}
use Rattle.change_table.specs.declared.rows.Row.{Row}
use Rattle.lc_model.proofs.ListLemmas.{ComesFrom-map, Contains-cases, Contains-filter, Contains-here, Contains-map, Contains-nil}
use Rattle.lc_model.proofs.ListLemmas.{IsKept-filter}

-- a stop of this id is at the place
pub record StandsAt (stops : List Stop) (place : ℕ) (id : List ℕ) : Type 0 where
  pub stop : Stop
  pub at : slice_get stops place ≡ Some stop
  pub is : stop.id ≡ id

pub stands_at : (stops : List Stop) (place : ℕ) (id : List ℕ) → id_at stops place ≡ Some id → StandsAt stops place id
stands_at stops place id e = go (slice_get stops place) refl e where
  go : (o : Option Stop) → slice_get stops place ≡ o → option_map (λ (s : Stop). s.id) o ≡ Some id → StandsAt stops place id
  go None at is = absurd (cc)
  go (Some s) at is = record { stop = s; at = at; is = cc }

-- one id is at one place
pub one_place : (stops : List Stop) → InStopOrder stops → (i j : ℕ) (x y : Stop) → slice_get stops i ≡ Some x → slice_get stops j ≡ Some y → x.id ≡ y.id → i ≡ j
one_place stops strict i j x y at_i at_j same =
    let xi : get_or stops i x ≡ x = get_or_from_slice_get stops i x x at_i in
    let yj : get_or stops j x ≡ y = get_or_from_slice_get stops j y x at_j in
    let li : i < length stops = slice_get_within stops i x at_i in
    let lj : j < length stops = slice_get_within stops j y at_j in
    elim (cases_order i j) [
      | inl e ↦ e
      | inr (inl low) ↦
          let less : id_cmp (get_or stops i x).id (get_or stops j x).id ≡ Less = strict i j x low lj in
          let ties : id_cmp (get_or stops i x).id (get_or stops j x).id ≡ Equal = same_id _ _ (ap (λ (s : Stop). s.id) xi ∙ same ∙ sym (ap (λ (s : Stop). s.id) yj)) in
          absurd (let f : Less ≡ Equal = sym less ∙ ties in cc)
      | inr (inr high) ↦
          let less : id_cmp (get_or stops j x).id (get_or stops i x).id ≡ Less = strict j i x high li in
          let ties : id_cmp (get_or stops j x).id (get_or stops i x).id ≡ Equal = same_id _ _ (ap (λ (s : Stop). s.id) yj ∙ sym same ∙ sym (ap (λ (s : Stop). s.id) xi)) in
          absurd (let f : Less ≡ Equal = sym less ∙ ties in cc)
    ]

-- what a binary search for an id answers
pub place_is : (stops : List Stop) (id : List ℕ) (r : Result ℕ ℕ) (place : ℕ) → InStopOrder stops → IsSearchInRange r (length stops) → IsBinarySearchResult (λ (s : Stop). id_cmp s.id id) stops r
    → (result_ok r ≡ Some place) ↔ (id_at stops place ≡ Some id)
place_is stops id (Ok i) place strict inside at = elim (slice_get_cases stops i).1 [
  | inl (x, lt, stands, is) ↦
      let x_id : x.id ≡ id = id_tie x.id id (subst (λ (s : Stop). id_cmp s.id id ≡ Equal) is (at x)) in (
        (λ found. let same : i ≡ place = cc in ap (λ k. option_map (λ (s : Stop). s.id) (slice_get stops k)) (sym same) ∙ ap (option_map (λ (s : Stop). s.id)) stands ∙ ap Some x_id),
        (λ there. let s = stands_at stops place id there in ap Some (one_place stops strict i place x s.stop stands s.at (x_id ∙ sym s.is))),
      )
  | inr (past, none) ↦ absurd (omega arith)
]
place_is stops id (Err i) place strict inside at = (
  (λ found. absurd (cc)),
  (λ there.
      let s = stands_at stops place id there in
      let key : Stop → List ℕ = λ s. s.id in
      let tells = search_tells key stops id (Err i) false (sorted_from_strict (on key id_cmp) (on_total key nat_list_cmp_total) stops strict) inside at refl in
      let is_true : false ≡ true = tells.1 (place, s.stop, slice_get_within stops place s.stop s.at, get_or_from_slice_get stops place s.stop s.stop s.at, s.is) in
      absurd (cc)),
)

-- the parent and the place are those of a stop from a first place on
abbrev IsShownFrom : ℕ → List Stop → List ℕ → ℕ → Type 0
IsShownFrom first stops id place = (k : ℕ) × (first + k ≡ place) × (parent_at stops k ≡ Some id)

shown_one : (first : ℕ) (parent : Option (List ℕ)) (id : List ℕ) (place : ℕ) → Contains {X = List ℕ × ℕ} (option_to_list (option_map (λ (p : List ℕ). (p, first)) parent)) (id, place) → (first ≡ place) × (parent ≡ Some id)
shown_one first None id place h = absurd (Contains-nil (id, place) h)
shown_one first (Some p) id place h = elim (Contains-cases (p, first) [] (id, place) h) [
  | inl e ↦ (ap (λ (v : List ℕ × ℕ). v.1) e, ap (λ (v : List ℕ × ℕ). Some v.0) e)
  | inr k ↦ absurd (Contains-nil (id, place) k)
]

one_shown : (first : ℕ) (parent : Option (List ℕ)) (id : List ℕ) → parent ≡ Some id → Contains {X = List ℕ × ℕ} (option_to_list (option_map (λ (p : List ℕ). (p, first)) parent)) (id, first)
one_shown first parent id e = subst (λ o. Contains {X = List ℕ × ℕ} (option_to_list (option_map (λ (p : List ℕ). (p, first)) o)) (id, first)) (sym e) (Contains-here (id, first) [])

shown_there : (first : ℕ) (stops : List Stop) (id : List ℕ) (place : ℕ) → Contains (all_shown first stops) (id, place) → IsShownFrom first stops id place
shown_there first [] id place h = absurd (Contains-nil (id, place) h)
shown_there first (s ∷ rest) id place h = elim (Contains-append_cases (shown_at first s) (all_shown (suc first) rest) (id, place) h) [
  | inl k ↦ let one = shown_one first s.parent id place k in let same : first ≡ place = one.0 in (0, omega arith, one.1)
  | inr k ↦ let (j, at, is) = shown_there (suc first) rest id place k in (suc j, omega arith, is)
]

there_shown : (first : ℕ) (stops : List Stop) (id : List ℕ) (k : ℕ) → parent_at stops k ≡ Some id → Contains (all_shown first stops) (id, first + k)
there_shown first [] id k e = absurd (let f : None ≡ Some id = e in cc)
there_shown first (s ∷ rest) id zero e =
    let at : first + 0 ≡ first = omega arith in
    Contains-append_left (shown_at first s) (all_shown (suc first) rest) (id, first + 0)
    (subst (λ v. Contains (shown_at first s) (id, v)) (sym at) (one_shown first s.parent id e))
there_shown first (s ∷ rest) id (suc k) e =
    let at : suc first + k ≡ first + suc k = omega arith in
    Contains-append_right (shown_at first s) (all_shown (suc first) rest) (id, first + suc k)
    (subst (λ v. Contains (all_shown (suc first) rest) (id, v)) at (there_shown (suc first) rest id k e))

-- the children of all stops, in any order
pub AreChildren-moved : (stops : List Stop) (children moved : List Child) → shown children ≡ all_shown 0 stops → IsPermutation children moved → AreChildren stops moved
AreChildren-moved stops children moved are by = λ id place. (
  (λ h.
      let there : Contains (all_shown 0 stops) (id, place) = subst (λ v. Contains v (id, place)) are (Contains-permutation (shown moved) (shown children) (id, place) (IsPermutation-sym _ _ (IsPermutation-map pair children moved by)) h) in
      let (k, at, is) = shown_there 0 stops id place there in
      let same : k ≡ place = omega arith in
      subst (λ v. parent_at stops v ≡ Some id) same is),
  (λ e.
      let at : 0 + place ≡ place = omega arith in
      let there : Contains (all_shown 0 stops) (id, place) = subst (λ v. Contains (all_shown 0 stops) (id, v)) at (there_shown 0 stops id place e) in
      Contains-permutation (shown children) (shown moved) (id, place) (IsPermutation-map pair children moved by) (subst (λ v. Contains v (id, place)) (sym are) there)),
) where
  pair : Child → List ℕ × ℕ
  pair c = (c.parent.now, c.place)

-- the places of the children of an id
pub children_there : (children : List Child) (id : List ℕ) (place : ℕ) → Contains (places_of (filter (λ (c : Child). is_same_id c.parent.now id) children)) place ↔ Contains (shown children) (id, place)
children_there children id place = (
  (λ h.
      let of = ComesFrom-map (λ (c : Child). c.place) (filter (λ (c : Child). is_same_id c.parent.now id) children) place h in
      let kept = IsKept-filter (λ (c : Child). is_same_id c.parent.now id) children of.from of.stands in
      let parent : of.from.parent.now ≡ id = (bytes_eq-Decides of.from.parent.now id).0 kept.passes in
      let there = Contains-map (λ (c : Child). (c.parent.now, c.place)) children of.from kept.stands in
      subst (λ v. Contains (shown children) (v, place)) parent (subst (λ v. Contains (shown children) (of.from.parent.now, v)) of.is there)),
  (λ h.
      let of = ComesFrom-map (λ (c : Child). (c.parent.now, c.place)) children (id, place) h in
      let parent : of.from.parent.now ≡ id = ap (λ (v : List ℕ × ℕ). v.0) of.is in
      let at : of.from.place ≡ place = ap (λ (v : List ℕ × ℕ). v.1) of.is in
      let kept = Contains-filter (λ (c : Child). is_same_id c.parent.now id) children of.from of.stands ((bytes_eq-Decides of.from.parent.now id).1 parent) in
      subst (λ v. Contains (places_of (filter (λ (c : Child). is_same_id c.parent.now id) children)) v) at
      (Contains-map (λ (c : Child). c.place) (filter (λ (c : Child). is_same_id c.parent.now id) children) of.from kept)),
)

-- one of the items is so
pub any : {X : Type 0} (P : X → Type 0) (xs : List X) (x : X) → Contains xs x → P x → Any P xs
any P xs x (k, inside, at) p = (k, x, inside, at, p)

any_cases : {X : Type 0} (P : X → Type 0) (xs ys : List X) → Any P (xs ++ ys) → Any P xs ⊎ Any P ys
any_cases P xs ys (k, x, inside, at, p) = elim (Contains-append_cases xs ys x (k, inside, at)) [
  | inl h ↦ inl (any P xs x h p)
  | inr h ↦ inr (any P ys x h p)
]

any_left : {X : Type 0} (P : X → Type 0) (xs ys : List X) → Any P xs → Any P (xs ++ ys)
any_left P xs ys (k, x, inside, at, p) = any P (xs ++ ys) x (Contains-append_left xs ys x (k, inside, at)) p

any_right : {X : Type 0} (P : X → Type 0) (xs ys : List X) → Any P ys → Any P (xs ++ ys)
any_right P xs ys (k, x, inside, at, p) = any P (xs ++ ys) x (Contains-append_right xs ys x (k, inside, at)) p

any_of_one : {X : Type 0} (P : X → Type 0) (x : X) → Any P (x ∷ []) → P x
any_of_one P x (k, y, inside, at, p) = elim (Contains-cases x [] y (k, inside, at)) [
  | inl e ↦ subst P (sym e) p
  | inr h ↦ absurd (Contains-nil y h)
]

-- first by some ids and then by others is by all of them
pub Gains-both : (stops : List Stop) (ids more : List (List ℕ)) (a b c : List ℕ) → Gains stops ids a b → Gains stops more b c → Gains stops (ids ++ more) a c
Gains-both stops ids more a b c first second = λ place. (
  (λ h. elim ((second place).0 h) [
    | inl k ↦ elim ((first place).0 k) [
      | inl m ↦ inl m
      | inr n ↦ inr (any_left (IsOf stops place) ids more n)
    ]
    | inr n ↦ inr (any_right (IsOf stops place) ids more n)
  ]),
  (λ either. elim either [
    | inl m ↦ (second place).1 (inl ((first place).1 (inl m)))
    | inr n ↦ elim (any_cases (IsOf stops place) ids more n) [
      | inl k ↦ (second place).1 (inl ((first place).1 (inr k)))
      | inr k ↦ (second place).1 (inr k)
    ]
  ]),
)

-- by no id nothing is gained
pub Gains-none : (stops : List Stop) (a : List ℕ) → Gains stops [] a a
Gains-none stops a = λ place. (
  (λ h. inl h),
  (λ either. elim either [
    | inl h ↦ h
    | inr (k, x, inside, at, p) ↦ absurd (omega arith)
  ]),
)

one_there : (found : Option ℕ) (place : ℕ) → Contains (option_to_list found) place → found ≡ Some place
one_there None place h = absurd (Contains-nil place h)
one_there (Some k) place h = elim (Contains-cases k [] place h) [
  | inl e ↦ ap Some e
  | inr m ↦ absurd (Contains-nil place m)
]

there_one : (found : Option ℕ) (place : ℕ) → found ≡ Some place → Contains (option_to_list found) place
there_one found place e = subst (λ o. Contains (option_to_list o) place) (sym e) (Contains-here place [])

-- the place of an id, and those of its children
pub Gains-one : (stops : List Stop) (children of : List Child) (id : List ℕ) (old between new : List ℕ) (found : Option ℕ) → AreChildren stops children → ((place : ℕ) → (found ≡ Some place) ↔ (id_at stops place ≡ Some id))
    → between ≡ old ++ option_to_list found → of ≡ filter (λ (c : Child). is_same_id c.parent.now id) children → new ≡ between ++ places_of of → Gains stops (id ∷ []) old new
Gains-one stops children of id old between new found are at first kept second = λ place. (
  (λ h. elim (Contains-append_cases (old ++ option_to_list found) (places_of mine) place (subst (λ v. Contains v place) whole h)) [
    | inl k ↦ elim (Contains-append_cases old (option_to_list found) place k) [
      | inl m ↦ inl m
      | inr m ↦ inr (any (IsOf stops place) (id ∷ []) id (Contains-here id []) (inl ((at place).0 (one_there found place m))))
    ]
    | inr k ↦ inr (any (IsOf stops place) (id ∷ []) id (Contains-here id []) (inr ((are id place).0 ((children_there children id place).0 k))))
  ]),
  (λ either. subst (λ v. Contains v place) (sym whole) (elim either [
    | inl m ↦ Contains-append_left (old ++ option_to_list found) (places_of mine) place (Contains-append_left old (option_to_list found) place m)
    | inr n ↦ elim (any_of_one (IsOf stops place) id n) [
      | inl e ↦ Contains-append_left (old ++ option_to_list found) (places_of mine) place (Contains-append_right old (option_to_list found) place (there_one found place ((at place).1 e)))
      | inr e ↦ Contains-append_right (old ++ option_to_list found) (places_of mine) place ((children_there children id place).1 ((are id place).1 e))
    ]
  ])),
) where
  mine : List Child
  mine = filter (λ (c : Child). is_same_id c.parent.now id) children

  whole : new ≡ (old ++ option_to_list found) ++ places_of mine
  whole = second ∙ ap (λ v. v ++ places_of of) first ∙ ap (λ v. (old ++ option_to_list found) ++ places_of v) kept

-- places that are sorted, each once
pub Gains-dedup : (stops : List Stop) (ids : List (List ℕ)) (old new sorted : List ℕ) → Gains stops ids old new → IsPermutation new sorted → Gains stops ids old (dedup eqb sorted)
Gains-dedup stops ids old new sorted gains moved = λ place. (
  (λ h. (gains place).0 (Contains-permutation sorted new place (IsPermutation-sym new sorted moved) (Contains-from_dedup eqb sorted place h))),
  (λ either. Contains-dedup_nat sorted place (Contains-permutation new sorted place moved ((gains place).1 either))),
)

map_take_more : {X Y : Type 0} (f : X → Y) (xs : List X) (i : ℕ) (x : X) → i < length xs → x ≡ get_or xs i x → map f (take (i + 1) xs) ≡ map f (take i xs) ++ f x ∷ []
map_take_more f xs i x inside is =
    ap (map f) (take_more xs i x inside) ∙ map-append f (take i xs) (get_or xs i x ∷ []) ∙ ap (λ v. map f (take i xs) ++ f v ∷ []) (sym is)

-- what one more row names is gained
pub Gains-more : (stops : List Stop) (rows : List Row) (i : ℕ) (r : Row) (a b c : List ℕ) → i < length rows → r ≡ get_or rows i r → Gains stops (map target (take i rows)) a b → Gains stops (target r ∷ []) b c
    → Gains stops (map target (take (i + 1) rows)) a c
Gains-more stops rows i r a b c inside is so_far one =
    subst (λ v. Gains stops v a c) (sym (map_take_more target rows i r inside is)) (Gains-both stops (map target (take i rows)) (target r ∷ []) a b c so_far one)

pub Gains-all : (stops : List Stop) (rows : List Row) (i : ℕ) (a b : List ℕ) → length rows ≤ i → Gains stops (map target (take i rows)) a b → Gains stops (map target rows) a b
Gains-all stops rows i a b past gains = subst (λ v. Gains stops (map target v) a b) (take_all i rows past) gains

-- by four lists of ids, one after the other
pub Gains-four : (stops : List Stop) (i j k l : List (List ℕ)) (a b c d e : List ℕ) → a ≡ [] → Gains stops i a b → Gains stops j b c → Gains stops k c d → Gains stops l d e → Gains stops ((i ++ j) ++ (k ++ l)) [] e
Gains-four stops i j k l a b c d e none first second third fourth =
    subst (λ v. Gains stops ((i ++ j) ++ (k ++ l)) v e) none
    (Gains-both stops (i ++ j) (k ++ l) a c e (Gains-both stops i j a b c first second) (Gains-both stops k l c d e third fourth))

pub child_cmp_total : IsTotalOrder child_cmp
child_cmp_total = on_total (λ (c : Child). c.parent.now) nat_list_cmp_total
