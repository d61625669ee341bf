-- A stop has a walk before the first ride, or none, and a walk after the last one, or none.
use Rattle.std.proofs.Common.{◌≡◌, ◌≢◌, ◌∙◌, ℕ, ◌<◌, ◌⊎◌, inl, inr, false, List, [], ◌∷◌, Option, None, Some, refl, ap, subst, arith}
use Rattle.std.proofs.Math.Decide.{dec_lt}
use Rattle.std.proofs.lemmas.Cmp.{nat_list_cmp_total, tied_itself, upto}
use Rattle.std.specs.List.{Any, Contains}
use Rattle.std.specs.Ordering.{is_gt, ordering_reverse}
use Rattle.std.specs.declared.cmp.Ordering.{Ordering}
use Rattle.std.specs.declared.cmp.Ordering.TheVariants.{Less, Equal, Greater}
use Rattle.page_json.proofs.ObjectMembersLemmas.DecisionsLemmas.{any, both, same_text}
use Rattle.lc_model.specs.Change.{change_between}
use Rattle.lc_model.specs.Question.{IsEnd, IsFrom, IsTo}
use Rattle.lc_model.specs.Text.{id_cmp}
use Rattle.lc_model.specs.Walk.{IsNearer, IsNearest, IsWalkAfter, IsWalkBefore}
use Rattle.lc_model.specs.declared.doc.StopsDoc.{StopsDoc}
use Rattle.lc_model.specs.declared.query.Query.{Query}
use Rattle.lc_model.specs.declared.stop.Stop.{Stop}
use Rattle.lc_model.specs.declared.walk.Walk.{Walk}
use Rattle.lc_model.proofs.ListLemmas.{Contains-cases, Contains-here, Contains-nil, Contains-there}
use Rattle.convoy.proofs.PageLawsLemmas.ListedLemmas.{Listed, ends_of, is_parent}

-- ---- the order by nearness

not_greater : (o : Ordering) → is_gt o ≡ false → o ≢ Greater
not_greater Less e = λ f. cc
not_greater Equal e = λ f. cc
not_greater Greater e = absurd (cc)

not_gt : (o : Ordering) → o ≢ Greater → is_gt o ≡ false
not_gt Less other = refl
not_gt Equal other = refl
not_gt Greater other = absurd (other refl)

along_ids : (a b c : List ℕ) → id_cmp a b ≢ Greater → id_cmp b c ≢ Greater → id_cmp a c ≢ Greater
along_ids a b c first second = not_greater (id_cmp a c) (upto nat_list_cmp_total a b c (not_gt (id_cmp a b) first) (not_gt (id_cmp b c) second))

nearer_itself : (a : List ℕ) (m : ℕ) → IsNearer a m a m
nearer_itself a m = inr (refl, let e = tied_itself nat_list_cmp_total a in λ f. cc)

along : (a b c : List ℕ) (m n k : ℕ) → IsNearer a m b n → IsNearer b n c k → IsNearer a m c k
along a b c m n k (inl less) (inl more) = inl (omega arith)
along a b c m n k (inl less) (inr (same, _)) = inl (omega arith)
along a b c m n k (inr (same, _)) (inl more) = inl (omega arith)
along a b c m n k (inr (same, first)) (inr (equal, second)) = inr (same ∙ equal, along_ids a b c first second)

by_ids : (a b : List ℕ) (m : ℕ) (o : Ordering) → id_cmp a b ≡ o → IsNearer a m b m ⊎ IsNearer b m a m
by_ids a b m Less e = inl (inr (refl, λ f. cc))
by_ids a b m Equal e = inl (inr (refl, λ f. cc))
by_ids a b m Greater e =
    let back : id_cmp b a ≡ Less = nat_list_cmp_total.antisymm b a ∙ ap ordering_reverse e in
    inr (inr (refl, λ f. cc))

less_or_not : (m n : ℕ) → (m < n) ⊎ ((n < m) ⊎ (m ≡ n))
less_or_not m n = by_orders (dec_lt m n) (dec_lt n m) where
  by_orders : Dec (m < n) → Dec (n < m) → (m < n) ⊎ ((n < m) ⊎ (m ≡ n))
  by_orders (yes less) d = inl less
  by_orders (no not) (yes more) = inr (inl more)
  by_orders (no not) (no nor) = inr (inr (omega (arith, not, nor)))

either_nearer : (a : List ℕ) (m : ℕ) (b : List ℕ) (n : ℕ) → IsNearer a m b n ⊎ IsNearer b n a m
either_nearer a m b n = elim (less_or_not m n) [
  | inl less ↦ inl (inl less)
  | inr more ↦ elim more [ inl less ↦ inr (inl less) | inr same ↦ subst (λ k. IsNearer a m b k ⊎ IsNearer b k a m) same (by_ids a b m (id_cmp a b) refl) ]
]

-- ---- the nearest of a list

-- of the stops of the list, each of which takes some seconds where there is a change, this one takes least
record IsNearestOf (takes : List ℕ → Option ℕ) (list : List (List ℕ)) (stop : List ℕ) (seconds : ℕ) : Type 0 where
  stands : Contains list stop
  takes_so_long : takes stop ≡ Some seconds
  none_is_nearer : (other : List ℕ) (longer : ℕ) → Contains list other → takes other ≡ Some longer → IsNearer stop seconds other longer

-- a stop of the list is nearest, or there is a change for none
abbrev Finds : (List ℕ → Option ℕ) → List (List ℕ) → Type 0
Finds takes list = ((stop : List ℕ) (seconds : ℕ) → Contains list stop → takes stop ≡ Some seconds → ⊥) ⊎ ((stop : List ℕ) × (seconds : ℕ) × IsNearestOf takes list stop seconds)

module _ (takes : List ℕ → Option ℕ) (first : List ℕ) (list : List (List ℕ)) where
  passes : takes first ≡ None → Finds takes list → Finds takes (first ∷ list)
  passes far (inl none) = inl (λ stop seconds h e. elim (Contains-cases first list stop h) [
    | inl same ↦ let f : takes first ≡ takes stop = ap takes same in cc
    | inr k ↦ none stop seconds k e
  ])
  passes far (inr (stop, seconds, is)) = inr (
    stop,
    seconds,
    record {
      stands = Contains-there first list stop is.stands;
      takes_so_long = is.takes_so_long;
      none_is_nearer = λ other longer h e. elim (Contains-cases first list other h) [
        | inl same ↦ absurd (let f : takes first ≡ takes other = ap takes same in cc)
        | inr k ↦ is.none_is_nearer other longer k e
      ];
    },
  )

  -- a stop no farther than the first one, and no farther than the others, is nearest
  least : (stop : List ℕ) (seconds near : ℕ) → takes first ≡ Some near → Contains (first ∷ list) stop → takes stop ≡ Some seconds → IsNearer stop seconds first near
      → ((other : List ℕ) (longer : ℕ) → Contains list other → takes other ≡ Some longer → IsNearer stop seconds other longer) → IsNearestOf takes (first ∷ list) stop seconds
  least stop seconds near is_near stands takes_so_long nearer rest = record {
    stands = stands;
    takes_so_long = takes_so_long;
    none_is_nearer = λ other longer h e. elim (Contains-cases first list other h) [
      | inl same ↦
          let f : takes first ≡ takes other = ap takes same in
          let equal : near ≡ longer = cc in
          subst (λ k. IsNearer stop seconds other k) equal (subst (λ o. IsNearer stop seconds o near) same nearer)
      | inr k ↦ rest other longer k e
    ];
  }

  takes_part : (near : ℕ) → takes first ≡ Some near → Finds takes list → Finds takes (first ∷ list)
  takes_part near is_near (inl none) =
      inr (first, near, least first near near is_near (Contains-here first list) is_near (nearer_itself first near) (λ other longer h e. absurd (none other longer h e)))
  takes_part near is_near (inr (stop, seconds, is)) = elim (either_nearer first near stop seconds) [
    | inl nearer ↦ inr (
      first,
      near,
      least first near near is_near (Contains-here first list) is_near (nearer_itself first near) (λ other longer h e.
          along first stop other near seconds longer nearer (is.none_is_nearer other longer h e)),
    )
    | inr nearer ↦ inr (stop, seconds, least stop seconds near is_near (Contains-there first list stop is.stands) is.takes_so_long nearer is.none_is_nearer)
  ]

  find_with : (o : Option ℕ) → takes first ≡ o → Finds takes list → Finds takes (first ∷ list)
  find_with None e rest = passes e rest
  find_with (Some near) e rest = takes_part near e rest

nearest_of : (takes : List ℕ → Option ℕ) (list : List (List ℕ)) → Finds takes list
nearest_of takes [] = inl (λ stop seconds h e. Contains-nil stop h)
nearest_of takes (first ∷ list) = find_with takes first list (takes first) refl (nearest_of takes list)

-- ---- walks

-- there is a nearest end
abbrev HasNearest : (List ℕ → Type 0) → (List ℕ → Option ℕ) → Type 0
HasNearest IsAnEnd takes = (stop : List ℕ) × (seconds : ℕ) × IsNearest IsAnEnd takes stop seconds

has_nearest : (IsAnEnd : List ℕ → Type 0) (takes : List ℕ → Option ℕ) → Listed IsAnEnd → Dec (HasNearest IsAnEnd takes)
has_nearest IsAnEnd takes ends = elim (nearest_of takes ends.items) [
  | inl none ↦ no (λ h. let is = h.2 in none h.0 h.1 (ends.complete h.0 is.is_an_end) is.takes_so_long)
  | inr found ↦ let is = found.2 in yes (
    found.0,
    found.1,
    record {
      is_an_end = ends.sound found.0 is.stands;
      takes_so_long = is.takes_so_long;
      none_is_nearer = λ other longer end e. is.none_is_nearer other longer (ends.complete other end) e;
    },
  )
]

-- the stop of the list is the child
abbrev IsTheChild : List ℕ → List ℕ → Stop → Type 0
IsTheChild named id stop = (stop.id ≡ id) × (stop.parent ≡ Some named)

is_end : (stops : List Stop) (named id : List ℕ) → Dec (IsEnd stops named id)
is_end stops named id = by_name (same_text id named) (any (IsTheChild named id) (λ stop. both (same_text stop.id id) (is_parent stop.parent named)) stops) where
  by_name : Dec (id ≡ named) → Dec (Any (IsTheChild named id) stops) → Dec (IsEnd stops named id)
  by_name (yes same) d = yes (inl same)
  by_name (no other) (yes child) = yes (inr child)
  by_name (no other) (no none) = no (λ h. elim h [ inl same ↦ other same | inr child ↦ none child ])

module _ (query : Query) (doc : StopsDoc) (board : List ℕ) where
  abbrev NearFrom : Type 0
  NearFrom = HasNearest (IsFrom doc.stops query) (λ stop. change_between doc.changes stop board)

  none_before : (IsFrom doc.stops query board → ⊥) → (NearFrom → ⊥) → (before : Option Walk) → IsWalkBefore query doc board before → ⊥
  none_before apart far None is = apart is
  none_before apart far (Some walk) is = far (walk.from, walk.seconds, is.2)

  by_start : Dec (IsFrom doc.stops query board) → Dec NearFrom → Dec ((before : Option Walk) × IsWalkBefore query doc board before)
  by_start (yes from) d = yes (None, from)
  by_start (no apart) (yes near) = yes (Some (record { from = near.0; to = board; seconds = near.1 }), (apart, refl, near.2))
  by_start (no apart) (no far) = no (λ h. none_before apart far h.0 h.1)

  pub walk_before : Dec ((before : Option Walk) × IsWalkBefore query doc board before)
  walk_before =
      by_start (is_end doc.stops query.from board)
      (has_nearest (IsFrom doc.stops query) (λ stop. change_between doc.changes stop board) (ends_of doc.stops query.from))

module _ (query : Query) (doc : StopsDoc) (alight : List ℕ) where
  abbrev NearTo : Type 0
  NearTo = HasNearest (IsTo doc.stops query) (λ stop. change_between doc.changes alight stop)

  none_after : (IsTo doc.stops query alight → ⊥) → (NearTo → ⊥) → (after : Option Walk) → IsWalkAfter query doc alight after → ⊥
  none_after apart far None is = apart is
  none_after apart far (Some walk) is = far (walk.to, walk.seconds, is.2)

  by_goal : Dec (IsTo doc.stops query alight) → Dec NearTo → Dec ((after : Option Walk) × IsWalkAfter query doc alight after)
  by_goal (yes to) d = yes (None, to)
  by_goal (no apart) (yes near) = yes (Some (record { from = alight; to = near.0; seconds = near.1 }), (apart, refl, near.2))
  by_goal (no apart) (no far) = no (λ h. none_after apart far h.0 h.1)

  pub walk_after : Dec ((after : Option Walk) × IsWalkAfter query doc alight after)
  walk_after =
      by_goal (is_end doc.stops query.to alight)
      (has_nearest (IsTo doc.stops query) (λ stop. change_between doc.changes alight stop) (ends_of doc.stops query.to))
