-- A walk over places gives the connections of the runs that hold, whatever a place is.
use Rattle.std.proofs.Common.{◌≡◌, ◌≢◌, ◌↔◌, inl, inr, ℕ, suc, ◌+◌, ◌≤◌, List, [], ◌∷◌, ◌++◌, filter, map, Bool, true, false, Option, Some, refl, sym, ap, ap₂, ◌∙◌, subst, subst₂, arith}
use Rattle.std.specs.Prelude.{if◌then◌else◌, option_and_then, unwrap_or}
use Rattle.std.specs.List.{All, Contains, slice_get}
use Rattle.std.specs.List.Sorted.{IsPermutation}
use Rattle.std.proofs.lemmas.List.{length-map, map-append, nil_from_length}
use Rattle.std.proofs.lemmas.List.Elements.{All-cons, All-contains, All-nil, All-weaker, Contains-append_cases, filter-append}
use Rattle.std.proofs.lemmas.List.Kept.{AllPairs-cons}
use Rattle.std.proofs.lemmas.List.Sorted.{IsPermutation-map, IsPermutation-refl, IsPermutation-sym, length_permutation}
use Rattle.lc_model.specs.Connection.{connection_between, connections_of, connections_of_calls}
use Rattle.lc_model.specs.declared.call.Call.{Call}
use Rattle.lc_model.specs.declared.connection.Connection.{Connection}
use Rattle.lc_model.specs.declared.run.Run.{Run}
use Rattle.lc_model.proofs.ListLemmas.{AllPairs-append, AllPairs-nil, Contains-nil}
use Rattle.lc_model.proofs.RangesLemmas.{filter_all, filter_none}
use Rattle.version_store.specs.IndexLaws.Held.{NoneTwice}
use Rattle.version_store.specs.IndexLaws.Walk.{Spot, WalkedAreConnections, between_calls, connection_at, held_from, spots_from, spots_of}
use Rattle.version_store.proofs.IndexLawsLemmas.ItemsLemmas.{same_kept}

some_back : {X : Type 0} (x : X) (xs : List X) → map (λ (o : Option X). unwrap_or o x) (map Some xs) ≡ xs
some_back x [] = refl
some_back x (y ∷ xs) = ap (λ v. y ∷ v) (some_back x xs)

-- values that are there are the same in another order
some_moved : {X : Type 0} (xs ys : List X) → IsPermutation (map Some xs) (map Some ys) → IsPermutation xs ys
some_moved {X} [] ys moved =
    let none : ys ≡ [] = nil_from_length ys (sym (length-map ys (λ (x : X). Some x)) ∙ length_permutation (map Some []) (map Some ys) moved) in
    subst (λ v. IsPermutation [] v) (sym none) (IsPermutation-refl [])
some_moved {X} (x ∷ xs) ys moved =
    subst₂ (λ these others. IsPermutation these others) (some_back x (x ∷ xs)) (some_back x ys)
    (IsPermutation-map (λ (o : Option X). unwrap_or o x) (map Some (x ∷ xs)) (map Some ys) moved)

module _ {P : Type 0} (number_of : P → ℕ) (places : ℕ → Run → List P) (connection : P → Option Connection) where
  -- the places of runs, of which the first has this number
  abbrev pub places_of : ℕ → List Run → List P
  places_of number [] = []
  places_of number (run ∷ rest) = places number run ++ places_of (suc number) rest

  -- the places of the run of a number: of this number, none twice, and at each a connection of the run, in their order
  pub record ArePlaces (number : ℕ) (run : Run) : Type 0 where
    pub of_number : All (λ (p : P). number_of p ≡ number) (places number run)
    pub once : NoneTwice (places number run)
    pub connections : map connection (places number run) ≡ map Some (connections_of_calls run.key run.calls)

  -- each of these runs has its places, where the first one has this number
  abbrev pub HavePlaces : ℕ → List Run → Type 0
  HavePlaces number runs = (k : ℕ) (run : Run) → slice_get runs k ≡ Some run → ArePlaces (number + k) run

  first_has : (number : ℕ) (run : Run) (rest : List Run) → HavePlaces number (run ∷ rest) → ArePlaces number run
  first_has number run rest have = subst (λ n. ArePlaces n run) (let e : number + 0 ≡ number = omega arith in e) (have 0 run refl)

  others_have : (number : ℕ) (run : Run) (rest : List Run) → HavePlaces number (run ∷ rest) → HavePlaces (suc number) rest
  others_have number run rest have k other at = subst (λ n. ArePlaces n other) (let e : number + suc k ≡ suc number + k = omega arith in e) (have (suc k) other at)

  from_number : (number : ℕ) (runs : List Run) → HavePlaces number runs → (p : P) → Contains (places_of number runs) p → number ≤ number_of p
  from_number number [] have p there = absurd (Contains-nil p there)
  from_number number (run ∷ rest) have p there = elim (Contains-append_cases (places number run) (places_of (suc number) rest) p there) [
    | inl here ↦
        let same : number_of p ≡ number = All-contains (λ (p : P). number_of p ≡ number) (places number run) p (first_has number run rest have).of_number here in
        omega (arith, same)
    | inr behind ↦
        let above : suc number ≤ number_of p = from_number (suc number) rest (others_have number run rest have) p behind in
        omega (arith, above)
  ]

  places_once : (number : ℕ) (runs : List Run) → HavePlaces number runs → NoneTwice (places_of number runs)
  places_once number [] have = AllPairs-nil (λ (p q : P). p ≢ q)
  places_once number (run ∷ rest) have =
      AllPairs-append (λ (p q : P). p ≢ q) (places number run) (places_of (suc number) rest) (first_has number run rest have).once
      (places_once (suc number) rest (others_have number run rest have))
      (λ p q here behind same.
      let of_p : number_of p ≡ number = All-contains (λ (p : P). number_of p ≡ number) (places number run) p (first_has number run rest have).of_number here in
      let above : suc number ≤ number_of q = from_number (suc number) rest (others_have number run rest have) q behind in
      let e : number_of p ≡ number_of q = ap number_of same in
      omega (arith, of_p, above, e))

  module _ (holds : ℕ → Bool) where
    abbrev stays : P → Bool
    stays p = holds (number_of p)

    kept_of_run : (number : ℕ) (run : Run) (b : Bool) → ArePlaces number run → holds number ≡ b
        → map connection (filter stays (places number run)) ≡ (if b then map Some (connections_of_calls run.key run.calls) else [])
    kept_of_run number run true are e =
        ap (map connection) (filter_all stays (places number run) (All-weaker (λ (p : P). number_of p ≡ number) (λ (p : P). holds (number_of p) ≡ true) (λ p same. ap holds same ∙ e) (places number run) are.of_number))
        ∙ are.connections
    kept_of_run number run false are e =
        ap (map connection) (filter_none stays (places number run) (All-weaker (λ (p : P). number_of p ≡ number) (λ (p : P). holds (number_of p) ≡ false) (λ p same. ap holds same ∙ e) (places number run) are.of_number))

    one_more : (run : Run) (held : List Run) (b : Bool)
        → (if b then map Some (connections_of_calls run.key run.calls) else []) ++ map Some (connections_of held) ≡ map Some (connections_of (if b then run ∷ held else held))
    one_more run held true = sym (map-append Some (connections_of_calls run.key run.calls) (connections_of held))
    one_more run held false = refl

    -- along the places of all runs, those of runs that hold give their connections
    along : (number : ℕ) (runs : List Run) → HavePlaces number runs → map connection (filter stays (places_of number runs)) ≡ map Some (connections_of (held_from holds number runs))
    along number [] have = refl
    along number (run ∷ rest) have =
        ap (map connection) (filter-append stays (places number run) (places_of (suc number) rest))
        ∙ map-append connection (filter stays (places number run)) (filter stays (places_of (suc number) rest))
        ∙ ap₂ (λ first second. first ++ second) (kept_of_run number run (holds number) (first_has number run rest have) refl) (along (suc number) rest (others_have number run rest have))
        ∙ one_more run (held_from holds (suc number) rest) (holds number)

    -- what a walk gives at the places of runs that hold are their connections, in some order
    pub walked_moved : (runs : List Run) (walk : List P) (walked : List Connection) → HavePlaces 0 runs → NoneTwice walk
        → ((p : P) → holds (number_of p) ≡ true → (Contains walk p ↔ Contains (places_of 0 runs) p)) → map Some walked ≡ map connection (filter stays walk)
        → IsPermutation (connections_of (held_from holds 0 runs)) walked
    walked_moved runs walk walked have once same e =
        let all = places_of 0 runs in
        let moved = IsPermutation-map connection (filter stays walk) (filter stays all) (same_kept stays walk all once (places_once 0 runs have) same) in
        let somes : IsPermutation (map Some walked) (map Some (connections_of (held_from holds 0 runs))) = subst₂ (λ these others. IsPermutation these others) (sym e) (along 0 runs have) moved in
        IsPermutation-sym walked (connections_of (held_from holds 0 runs)) (some_moved walked (connections_of (held_from holds 0 runs)) somes)

spots_number : (run call : ℕ) (calls : List Call) → All (λ (s : Spot). s.run ≡ run) (spots_from run call calls)
spots_number run call [] = All-nil (λ (s : Spot). s.run ≡ run)
spots_number run call (last ∷ []) = All-nil (λ (s : Spot). s.run ≡ run)
spots_number run call (from ∷ to ∷ rest) =
    All-cons (λ (s : Spot). s.run ≡ run) (record { run = run; call = call }) (spots_from run (suc call) (to ∷ rest)) refl (spots_number run (suc call) (to ∷ rest))

spots_behind : (run call least : ℕ) (calls : List Call) → least ≤ call → All (λ (s : Spot). least ≤ s.call) (spots_from run call calls)
spots_behind run call least [] le = All-nil (λ (s : Spot). least ≤ s.call)
spots_behind run call least (last ∷ []) le = All-nil (λ (s : Spot). least ≤ s.call)
spots_behind run call least (from ∷ to ∷ rest) le =
    All-cons (λ (s : Spot). least ≤ s.call) (record { run = run; call = call }) (spots_from run (suc call) (to ∷ rest)) le
    (spots_behind run (suc call) least (to ∷ rest) (omega (arith, le)))

spots_once : (run call : ℕ) (calls : List Call) → NoneTwice (spots_from run call calls)
spots_once run call [] = AllPairs-nil (λ (s t : Spot). s ≢ t)
spots_once run call (last ∷ []) = AllPairs-nil (λ (s t : Spot). s ≢ t)
spots_once run call (from ∷ to ∷ rest) =
    let here : Spot = record { run = run; call = call } in
    let behind = spots_from run (suc call) (to ∷ rest) in
    AllPairs-cons (λ (s t : Spot). s ≢ t) here behind
    (All-weaker (λ (s : Spot). suc call ≤ s.call) (λ (s : Spot). here ≢ s) (λ s above same. let e : call ≡ s.call = ap (λ (s : Spot). s.call) same in omega (arith, above, e)) behind (spots_behind run (suc call) (suc call) (to ∷ rest) (omega arith)))
    (spots_once run (suc call) (to ∷ rest))

departs_at : (runs : List Run) (number : ℕ) (run : Run) (call : ℕ) (from to : Call) → slice_get runs number ≡ Some run → slice_get run.calls call ≡ Some from → slice_get run.calls (suc call) ≡ Some to
    → connection_at runs (record { run = number; call = call }) ≡ Some (connection_between run.key from to)
departs_at runs number run call from to is is_from is_to =
    ap (option_and_then (λ (r : Run). between_calls r.key (slice_get r.calls call) (slice_get r.calls (suc call)))) is ∙ ap₂ (between_calls run.key) is_from is_to

spots_connect : (runs : List Run) (number : ℕ) (run : Run) (call : ℕ) (calls : List Call) → slice_get runs number ≡ Some run → ((j : ℕ) → slice_get run.calls (call + j) ≡ slice_get calls j)
    → map (connection_at runs) (spots_from number call calls) ≡ map Some (connections_of_calls run.key calls)
spots_connect runs number run call [] is behind = refl
spots_connect runs number run call (last ∷ []) is behind = refl
spots_connect runs number run call (from ∷ to ∷ rest) is behind =
    let is_from : slice_get run.calls call ≡ Some from = ap (slice_get run.calls) (let e : call ≡ call + 0 = omega arith in e) ∙ behind 0 in
    let is_to : slice_get run.calls (suc call) ≡ Some to = ap (slice_get run.calls) (let e : suc call ≡ call + 1 = omega arith in e) ∙ behind 1 in
    ap₂ (λ c cs. c ∷ cs) (departs_at runs number run call from to is is_from is_to)
    (spots_connect runs number run (suc call) (to ∷ rest) is (λ j. ap (slice_get run.calls) (let e : suc call + j ≡ call + suc j = omega arith in e) ∙ behind (suc j)))

-- runs have their spots
spots_have : (runs : List Run) → HavePlaces (λ (s : Spot). s.run) (λ number run. spots_from number 0 run.calls) (connection_at runs) 0 runs
spots_have runs k run at =
    let zero_more : k ≡ 0 + k = omega arith in
    subst (λ n. ArePlaces (λ (s : Spot). s.run) (λ number run. spots_from number 0 run.calls) (connection_at runs) n run) zero_more (record {
      of_number = spots_number k 0 run.calls;
      once = spots_once k 0 run.calls;
      connections = spots_connect runs k run 0 run.calls at (λ j. ap (slice_get run.calls) (let e : 0 + j ≡ j = omega arith in e));
    })

spots_are_places : (runs all : List Run) (number : ℕ) → places_of (λ (s : Spot). s.run) (λ number run. spots_from number 0 run.calls) (connection_at all) number runs ≡ spots_of number runs
spots_are_places [] all number = refl
spots_are_places (run ∷ rest) all number = ap (λ v. spots_from number 0 run.calls ++ v) (spots_are_places rest all (suc number))

pub walked_are : WalkedAreConnections
walked_are runs holds spots walked has are =
    walked_moved (λ (s : Spot). s.run) (λ number run. spots_from number 0 run.calls) (connection_at runs) holds runs spots walked (spots_have runs) has.once
    (λ spot stays. subst (λ v. Contains spots spot ↔ Contains v spot) (sym (spots_are_places runs runs 0)) (has.exactly spot stays)) are
