-- What a walk over the places shows are the connections of the runs that hold, and their departures.
use Rattle.std.proofs.Common.{◌≡◌, ◌≢◌, ℕ, ◌≤◌, List, [], ◌∷◌, ◌++◌, append_assoc, map, cond, Bool, true, false, Option, Some, None, refl, sym, ap, ◌∙◌, subst, arith, get_or, take, ◌+◌, ◌<◌, length}
use Rattle.std.specs.Prelude.{◌&&◌, if◌then◌else◌, is_some, nat_le}
use Rattle.std.specs.List.{All, AllPairs, Contains, cons_option, filter, filter_map, slice_get}
use Rattle.std.specs.Option.{option_and_then}
use Rattle.std.specs.List.Sorted.{IsPermutation, IsSorted}
use Rattle.std.specs.Ordering.{is_lt, nat_cmp}
use Rattle.std.specs.Cmp.{nat_cmp_total}
use Rattle.std.specs.declared.cmp.Ordering.TheVariants.{Equal, Less}
use Rattle.std.proofs.lemmas.Bool.Decides.{nat_tests}
use Rattle.std.proofs.lemmas.List.{map-append, take_more}
use Rattle.std.proofs.lemmas.List.Elements.{All-contains, filter-append}
use Rattle.std.proofs.lemmas.List.Kept.{AllPairs-filter}
use Rattle.std.proofs.lemmas.List.Sorted.{Contains-permutation, IsPermutation-map, IsPermutation-sym, ranks_by, sorted_far, sum_by-IsPermutation}
use Rattle.lc_model.specs.Call.{GoesForward}
use Rattle.lc_model.specs.Connection.{NoneArrivesEarly, connections_of, departure_cmp}
use Rattle.lc_model.specs.Order.{AreApart}
use Rattle.lc_model.specs.Run.{RunsForward}
use Rattle.lc_model.specs.Totals.{departure_cmp_total}
use Rattle.lc_model.specs.declared.connection.Connection.{Connection}
use Rattle.lc_model.specs.declared.run.Run.{Run}
use Rattle.lc_model.proofs.ConnectionLemmas.{NoneArrivesEarly-connections_of, departs_by}
use Rattle.lc_model.proofs.ListLemmas.{All-from_contains, AllPairs-map, AllPairs-weaker, Contains-filter, Contains-here, Contains-there, IsKept-filter}
use Rattle.lc_model.proofs.OrdersLemmas.{IsStrict-from_sorted, strict_lists_are_one}
use Rattle.lc_model.specs.Versions.Pages.{departing, departures_of, is_before}
use Rattle.version_store.specs.Index.Gathered.{IsOfStates}
use Rattle.version_store.specs.Index.Inside.{ArePlaced, AreSpans}
use Rattle.version_store.specs.Index.Places.{connection_of, holds_there, is_between, is_held, place_cmp, shown, shown_of}
use Rattle.version_store.specs.Index.Rows.{AreDepartures, AreRows}
use Rattle.version_store.specs.Index.Spans.{held, holds}
use Rattle.version_store.specs.declared.index.place.Place.{Place}
use Rattle.version_store.specs.declared.index.state.State.{State}
use Rattle.version_store.proofs.IndexLemmas.ApartLemmas.{Depart, keys_apart, shown_apart}
use Rattle.version_store.proofs.IndexLemmas.CountLemmas.{count, is_it, one_order}
use Rattle.version_store.proofs.IndexLemmas.OrderedLemmas.{Ordered, ordered}
use Rattle.lc_model.proofs.PlacedLemmas.{in_strict_order}
use Rattle.version_store.proofs.IndexLemmas.ShownLemmas.{Contains-filter_map, Contains-slice_get, Gives-filter_map, has_place, holding, shown_is_of_held, shown_is_there}

abbrev Untied : Connection → Connection → Type 0
Untied c d = departure_cmp c d ≢ Equal

abbrev Differ : Place → Place → Type 0
Differ p q = place_cmp p q ≢ Equal

-- the places have the departures of their connections
departs_of : (states : List State) (places : List Place) → ArePlaced states places → Depart states places
departs_of states places placed p c h at =
    let of = placed.of_states p h in
    let both : Some of.connection ≡ Some c = sym of.is ∙ at in
    let same : of.connection ≡ c = cc in
    sym (ap (λ (d : Connection). d.dep) same) ∙ of.departs

-- the runs that hold go forward
held_forward : (version : ℕ) (states : List State) → All (λ (s : State). GoesForward s.calls) states → RunsForward (held version states)
held_forward version states forward =
    All-from_contains (λ (r : Run). GoesForward r.calls) (held version states) (λ r h.
    let run = holding version states r h in
    subst (λ (v : Run). GoesForward v.calls) run.same (All-contains (λ (s : State). GoesForward s.calls) states run.state forward (Contains-slice_get states run.at run.state run.is)))

-- the runs that hold in a version, in their order
in_order : (version : ℕ) (states : List State) (places : List Place) → AreSpans states places → Ordered (held version states)
in_order version states places spans = ordered (held version states) (keys_apart version states (spans.apart version)) (held_forward version states spans.forward)

-- what a walk over the places of a span of departures shows, once it is sorted, are the rows of the span
pub rows_are : (version from : ℕ) (to : Option ℕ) (states : List State) (places : List Place) (made sorted : List Connection) → AreSpans states places → AreApart place_cmp places
    → made ≡ filter_map (shown version states) (filter (is_between from to) places) → IsPermutation made sorted → IsSorted departure_cmp sorted → AreRows (held version states) from to sorted
rows_are version from to states places made sorted spans once e moved by_departure =
    let p = λ (c : Connection). nat_le from c.dep && is_before to c.dep in
    let here = filter (is_between from to) places in
    let order = in_order version states places spans in
    let all = order.all in
    let departs : Depart states here = λ q c h at. departs_of states places spans.placed q c (IsKept-filter (is_between from to) places q h).stands at in
    let apart = subst (AllPairs Untied) (sym e) (shown_apart version states here spans.forward spans.apart departs (AllPairs-filter Differ (is_between from to) places once)) in
    record {
      all = all;
      of_runs = record { live = order.live; are_runs = order.are_runs; are_connections = order.are_connections };
      departing =
          strict_lists_are_one departure_cmp departure_cmp_total sorted (departing from to all)
          (IsStrict-from_sorted departure_cmp departure_cmp_total made sorted moved by_departure apart)
          (AllPairs-filter (λ (c d : Connection). departure_cmp c d ≡ Less) p all order.are_connections.in_order)
          (λ c h.
          let from_place = Gives-filter_map (shown version states) here c (subst (λ (v : List Connection). Contains v c) e (Contains-permutation sorted made c (IsPermutation-sym made sorted moved) h)) in
          let q = from_place.from in
          let kept = IsKept-filter (is_between from to) places q from_place.stands in
          let dep = departs_of states places spans.placed q c kept.stands (shown_is_there version states q c from_place.is) in
          Contains-filter p all c (order.there c (shown_is_of_held version states q c from_place.is)) (ap (λ n. nat_le from n && is_before to n) dep ∙ kept.passes))
          (λ c h.
          let kept = IsKept-filter p all c h in
          let has = has_place version states c (order.back c kept.stands) in
          let q = has.place in
          let stands = spans.placed.there version q c has.shows has.departs in
          let within = Contains-filter (is_between from to) places q stands (ap (λ n. nat_le from n && is_before to n) (sym has.departs) ∙ kept.passes) in
          Contains-permutation made sorted c moved (subst (λ (v : List Connection). Contains v c) (sym e) (Contains-filter_map (shown version states) here q c within has.shows)));
    }

-- none of them arrives before it departs
pub rows_forward : (version from : ℕ) (to : Option ℕ) (states : List State) (places : List Place) (made sorted : List Connection) → AreSpans states places
    → made ≡ filter_map (shown version states) (filter (is_between from to) places) → IsPermutation made sorted → NoneArrivesEarly sorted
rows_forward version from to states places made sorted spans e moved =
    let here = filter (is_between from to) places in
    let forward = NoneArrivesEarly-connections_of (held version states) (held_forward version states spans.forward) in
    All-from_contains (λ (c : Connection). c.dep ≤ c.arr) sorted (λ c h.
    let from_place = Gives-filter_map (shown version states) here c (subst (λ (v : List Connection). Contains v c) e (Contains-permutation sorted made c (IsPermutation-sym made sorted moved) h)) in
    All-contains (λ (c : Connection). c.dep ≤ c.arr) (connections_of (held version states)) c forward (shown_is_of_held version states from_place.from c from_place.is))

-- a place of a connection shows it where its state holds
held_shows : (version : ℕ) (states : List State) (p : Place) → IsOfStates states p → is_held version states p ≡ is_some (shown version states p)
held_shows version states p of = go (slice_get states p.state) of.is where
  of_state : (b : Bool) (o : Option Connection) → o ≡ Some of.connection → b ≡ is_some (if b then o else None)
  of_state true o is = sym (ap is_some is)
  of_state false o is = refl

  go : (o : Option State) → option_and_then (connection_of p.at) o ≡ Some of.connection → holds_there version o ≡ is_some (option_and_then (shown_of version p.at) o)
  go None is = refl
  go (Some state) is = of_state (holds version state) (connection_of p.at state) is

-- the departures of the places whose states hold are those of the connections that are shown
same_departures : (version : ℕ) (states : List State) (places : List Place) → ((p : Place) → Contains places p → IsOfStates states p) → Depart states places
    → map (λ (p : Place). p.dep) (filter (is_held version states) places) ≡ departures_of (filter_map (shown version states) places)
same_departures version states [] of departs = refl
same_departures version states (p ∷ places) of departs =
    ap (λ (b : Bool). map (λ (q : Place). q.dep) (cond b (p ∷ filter (is_held version states) places) (filter (is_held version states) places))) (held_shows version states p (of p (Contains-here p places)))
    ∙ go (shown version states p) refl (same_departures version states places (λ q h. of q (Contains-there p places q h)) (λ q c h. departs q c (Contains-there p places q h))) where
      go : (o : Option Connection) → shown version states p ≡ o → map (λ (p : Place). p.dep) (filter (is_held version states) places) ≡ departures_of (filter_map (shown version states) places)
          → map (λ (p : Place). p.dep) (cond (is_some o) (p ∷ filter (is_held version states) places) (filter (is_held version states) places)) ≡ departures_of (cons_option o (filter_map (shown version states) places))
      go None e rest = rest
      go (Some c) e rest =
          let dep : c.dep ≡ p.dep = departs p c (Contains-here p places) (shown_is_there version states p c e) in
          rw (dep, rest) refl

-- a walk over a list takes the next item
pub walk_more : (states : List State) (version : ℕ) (done new all : List ℕ) (p : Place) (rest next : List Place) → rest ≡ p ∷ next
    → done ++ map (λ (q : Place). q.dep) (filter (is_held version states) rest) ≡ all → new ≡ done ++ map (λ (q : Place). q.dep) (filter (is_held version states) (p ∷ []))
    → new ++ map (λ (q : Place). q.dep) (filter (is_held version states) next) ≡ all
walk_more states version done new all p rest next is walked pushed =
    let test = is_held version states in
    let dep = λ (q : Place). q.dep in
    let tail = map dep (filter test next) in
    ap (λ (v : List ℕ). v ++ tail) pushed ∙ append_assoc done (map dep (filter test (p ∷ []))) tail
    ∙ ap (λ (v : List ℕ). done ++ v) (sym (map-append dep (filter test (p ∷ [])) (filter test next)) ∙ ap (map dep) (sym (filter-append test (p ∷ []) next)))
    ∙ ap (λ (v : List Place). done ++ map dep (filter test v)) (sym is) ∙ walked

-- a walk over a list by its places takes the next item
pub took_more : {X Y : Type 0} (f : List X → List Y) → ((xs ys : List X) → f (xs ++ ys) ≡ f xs ++ f ys) → (xs : List X) (k : ℕ) (x : X) (begun old new : List Y) → k < length xs → x ≡ get_or xs k x
    → new ≡ old ++ f (x ∷ []) → old ≡ begun ++ f (take k xs) → new ≡ begun ++ f (take (k + 1) xs)
took_more f parts xs k x begun old new inside is pushed done =
    let one = take_more xs k x inside ∙ ap (λ v. take k xs ++ v ∷ []) (sym is) in
    pushed ∙ ap (λ v. v ++ f (x ∷ [])) done ∙ append_assoc begun (f (take k xs)) (f (x ∷ [])) ∙ ap (λ v. begun ++ v) (sym (parts (take k xs) (x ∷ [])) ∙ ap f (sym one))

-- a walk over the one list and then over the other is one over both
pub both_parts : {X Y : Type 0} (f : List X → List Y) → ((xs ys : List X) → f (xs ++ ys) ≡ f xs ++ f ys) → (first later now : List X) (begun made all : List Y) → first ++ later ≡ now → begun ≡ []
    → made ≡ begun ++ f first → all ≡ made ++ f later → all ≡ f now
both_parts f parts first later now begun made all both none one two =
    two ∙ ap (λ v. v ++ f later) (one ∙ ap (λ v. v ++ f first) none) ∙ sym (parts first later) ∙ ap f both

-- the departures of the places whose states hold
abbrev pub departures_at : List State → ℕ → List Place → List ℕ
departures_at states version places = map (λ (p : Place). p.dep) (filter (is_held version states) places)

pub departure_parts : (states : List State) (version : ℕ) (xs ys : List Place) → departures_at states version (xs ++ ys) ≡ departures_at states version xs ++ departures_at states version ys
departure_parts states version xs ys =
    ap (map (λ (p : Place). p.dep)) (filter-append (is_held version states) xs ys) ∙ map-append (λ (p : Place). p.dep) (filter (is_held version states) xs) (filter (is_held version states) ys)

-- a sorted list never falls
never_falls : (list : List ℕ) → IsSorted nat_cmp list → AllPairs (λ (m n : ℕ). m ≤ n) list
never_falls list up i j d before inside =
    let far : is_lt (nat_cmp (get_or list j d) (get_or list i d)) ≡ false = sorted_far (λ x y. is_lt (nat_cmp x y)) (ranks_by nat_cmp_total (λ x. x)) list up i j d (omega arith) inside in
    grind (far, arith, nat_tests)

-- what a walk over all places shows, once it is sorted, are the departures in their order
pub departures_are : (version : ℕ) (states : List State) (places : List Place) (walked made : List ℕ) → AreSpans states places → AreApart place_cmp places
    → walked ≡ map (λ (p : Place). p.dep) (filter (is_held version states) places) → IsPermutation walked made → IsSorted nat_cmp made → AreDepartures (held version states) made
departures_are version states places walked made spans once e merged up =
    let order = in_order version states places spans in
    let all = order.all in
    let whole = filter_map (shown version states) places in
    let dep = λ (c : Connection). c.dep in
    let apart = shown_apart version states places spans.forward spans.apart (departs_of states places spans.placed) once in
    let sorted = in_strict_order departure_cmp departure_cmp_total whole apart in
    let moved : IsPermutation whole sorted.0 = sorted.1.0 in
    let same : sorted.0 ≡ all =
    strict_lists_are_one departure_cmp departure_cmp_total sorted.0 all sorted.1.1 order.are_connections.in_order
    (λ c h.
    let from_place = Gives-filter_map (shown version states) places c (Contains-permutation sorted.0 whole c (IsPermutation-sym whole sorted.0 moved) h) in
    order.there c (shown_is_of_held version states from_place.from c from_place.is))
    (λ c h.
    let has = has_place version states c (order.back c h) in
    let stands = spans.placed.there version has.place c has.shows has.departs in
    Contains-permutation whole sorted.0 c moved (Contains-filter_map (shown version states) places has.place c stands has.shows)) in
    let shuffled : IsPermutation whole all = subst (IsPermutation whole) same moved in
    record {
      all = all;
      of_runs = record { live = order.live; are_runs = order.are_runs; are_connections = order.are_connections };
      one_each =
          one_order made (departures_of all) (never_falls made up)
          (AllPairs-map (λ (m n : ℕ). m ≤ n) dep all (AllPairs-weaker (λ (c d : Connection). departure_cmp c d ≡ Less) (λ (c d : Connection). c.dep ≤ d.dep) all (λ c d in_c in_d less. departs_by c d less) order.are_connections.in_order))
          (λ k.
          sum_by-IsPermutation (is_it k) walked made merged
          ∙ ap (count k) (e ∙ same_departures version states places spans.placed.of_states (departs_of states places spans.placed))
          ∙ sym (sum_by-IsPermutation (is_it k) (departures_of whole) (departures_of all) (IsPermutation-map dep whole all shuffled)));
    }
