-- Each way to cut gives cuts.
use Rattle.std.proofs.Common.{◌≡◌, inl, inr, ℕ, suc, ◌<◌, ◌≤◌, ◌/◌, List, [], ◌∷◌, get_or, Bool, true, false, ◌&&◌, not, ◌==◌, nat_lt, nat_le, if◌then◌else◌, Some, refl, sym, arith, subst}
use Rattle.std.specs.List.{All, AllPairs, Contains}
use Rattle.std.proofs.lemmas.Bool.{cases_order}
use Rattle.std.proofs.lemmas.Bool.Decides.{nat_tests}
use Rattle.std.proofs.lemmas.List.Kept.{AllPairs-cons}
use Rattle.std.proofs.lemmas.List.Elements.{All-cons}
use Rattle.lc_model.specs.Versions.Cuts.{AreCuts, NeverFalls}
use Rattle.fragmenter.specs.Cutting.{chosen_cuts}
use Rattle.fragmenter.specs.Ways.{count_cuts, count_cuts_behind, span_cuts, span_cuts_behind, whole_cuts}
use Rattle.fragmenter.specs.declared.cutting.Cutting.{Cutting}
use Rattle.fragmenter.specs.declared.cutting.Cutting.TheVariants as ways

Contains-here : (x : ℕ) (xs : List ℕ) → Contains (x ∷ xs) x
Contains-here x xs = (0, omega arith, refl)

Contains-there : (y : ℕ) (xs : List ℕ) (x : ℕ) → Contains xs x → Contains (y ∷ xs) x
Contains-there y xs x h = (suc h.0, omega (arith, h.1), h.2)

none_less : (n : ℕ) → nat_lt n n ≡ true → ⊥
none_less n e = grind (arith, nat_tests)

-- a departure in a later span is later
later_span : (before d seconds : ℕ) → nat_lt (before / seconds) (d / seconds) ≡ true → before ≤ d → before < d
later_span before d seconds e up = elim (cases_order before d) [
  | inl same ↦ absurd (none_less (before / seconds) (subst (λ v. nat_lt (before / seconds) (v / seconds) ≡ true) (sym same) e))
  | inr (inl lt) ↦ lt
  | inr (inr gt) ↦ absurd (omega arith)
]

-- another departure is later
other_departure : (before d : ℕ) → (before == d) ≡ false → before ≤ d → before < d
other_departure before d e up = grind (arith, nat_tests)

-- cuts among the departures after one
record Later (before : ℕ) (departures cuts : List ℕ) : Type 0 where
  above : All (λ (cut : ℕ). before < cut) cuts
  rising : AllPairs (λ (x y : ℕ). x < y) cuts
  members : All (λ (cut : ℕ). Contains departures cut) cuts

none : (P : ℕ → Type 0) → All P []
none P = λ k d lt. absurd (omega (arith, lt))

no_pairs : (R : ℕ → ℕ → Type 0) → AllPairs R []
no_pairs R = λ i j d lt lj. absurd (omega (arith, lj))

no_more : (before : ℕ) → Later before [] []
no_more before = record { above = none (λ cut. before < cut); rising = no_pairs (λ x y. x < y); members = none (λ cut. Contains [] cut) }

above_too : (before d : ℕ) (cuts : List ℕ) → before ≤ d → All (λ (cut : ℕ). d < cut) cuts → All (λ (cut : ℕ). before < cut) cuts
above_too before d cuts up above = λ k x lt. let h = above k x lt in omega arith

behind : (d : ℕ) (rest cuts : List ℕ) → All (λ (cut : ℕ). Contains rest cut) cuts → All (λ (cut : ℕ). Contains (d ∷ rest) cut) cuts
behind d rest cuts members = λ k x lt. Contains-there d rest (get_or cuts k x) (members k x lt)

passed : (before d : ℕ) (rest cuts : List ℕ) → before ≤ d → Later d rest cuts → Later before (d ∷ rest) cuts
passed before d rest cuts up later = record {
  above = above_too before d cuts up later.above;
  rising = later.rising;
  members = behind d rest cuts later.members;
}

taken : (before d : ℕ) (rest cuts : List ℕ) → before < d → Later d rest cuts → Later before (d ∷ rest) (d ∷ cuts)
taken before d rest cuts up later = record {
  above = All-cons (λ cut. before < cut) d cuts up (above_too before d cuts (omega arith) later.above);
  rising = AllPairs-cons (λ x y. x < y) d cuts later.above later.rising;
  members = All-cons (λ cut. Contains (d ∷ rest) cut) d cuts (Contains-here d rest) (behind d rest cuts later.members);
}

-- a departure and those after it
record Falls (before d : ℕ) (rest : List ℕ) : Type 0 where
  up : before ≤ d
  rest_too : NeverFalls (d ∷ rest)

falls : (before d : ℕ) (rest : List ℕ) → NeverFalls (before ∷ d ∷ rest) → Falls before d rest
falls before d rest h = record {
  up = h 0 1 0 (omega arith) (omega arith);
  rest_too = λ i j x lt lj. h (suc i) (suc j) x (omega arith) (omega arith);
}

span_step : (seconds before d : ℕ) (rest cuts : List ℕ) (t : Bool) → nat_lt (before / seconds) (d / seconds) ≡ t → before ≤ d → Later d rest cuts
    → Later before (d ∷ rest) (if t then d ∷ cuts else cuts)
span_step seconds before d rest cuts false e up later = passed before d rest cuts up later
span_step seconds before d rest cuts true e up later = taken before d rest cuts (later_span before d seconds e up) later

span_later : (seconds before : ℕ) (departures : List ℕ) → NeverFalls (before ∷ departures) → Later before departures (span_cuts_behind seconds (Some before) departures)
span_later seconds before [] h = no_more before
span_later seconds before (d ∷ rest) h =
    let f = falls before d rest h in
    span_step seconds before d rest (span_cuts_behind seconds (Some d) rest) (nat_lt (before / seconds) (d / seconds)) refl f.up (span_later seconds d rest f.rest_too)

count_step : (count on_page before d : ℕ) (rest taken_cuts passed_cuts : List ℕ) (t u : Bool) → nat_le count on_page ≡ t → (before == d) ≡ u → before ≤ d → Later d rest taken_cuts → Later d rest passed_cuts
    → Later before (d ∷ rest) (if t && not u then d ∷ taken_cuts else passed_cuts)
count_step count on_page before d rest taken_cuts passed_cuts false u e f up first second = passed before d rest passed_cuts up second
count_step count on_page before d rest taken_cuts passed_cuts true true e f up first second = passed before d rest passed_cuts up second
count_step count on_page before d rest taken_cuts passed_cuts true false e f up first second = taken before d rest taken_cuts (other_departure before d f up) first

count_later : (count on_page before : ℕ) (departures : List ℕ) → NeverFalls (before ∷ departures) → Later before departures (count_cuts_behind count on_page (Some before) departures)
count_later count on_page before [] h = no_more before
count_later count on_page before (d ∷ rest) h =
    let f = falls before d rest h in
    count_step count on_page before d rest (count_cuts_behind count 1 (Some d) rest) (count_cuts_behind count (suc on_page) (Some d) rest)
    (nat_le count on_page) (before == d) refl refl f.up (count_later count 1 d rest f.rest_too) (count_later count (suc on_page) d rest f.rest_too)

-- the first departure, and cuts after it
first_and : (first : ℕ) (rest cuts : List ℕ) → Later first rest cuts → AreCuts (first ∷ rest) (first ∷ cuts)
first_and first rest cuts later = record {
  rising = AllPairs-cons (λ x y. x < y) first cuts later.above later.rising;
  members = All-cons (λ cut. Contains (first ∷ rest) cut) first cuts (Contains-here first rest) (behind first rest cuts later.members);
  begin = refl;
}

no_cuts : AreCuts [] []
no_cuts = record { rising = no_pairs (λ x y. x < y); members = none (λ cut. Contains [] cut); begin = refl }

pub span_cuts_are_cuts : (seconds : ℕ) (departures : List ℕ) → NeverFalls departures → AreCuts departures (span_cuts seconds departures)
span_cuts_are_cuts seconds [] h = no_cuts
span_cuts_are_cuts seconds (first ∷ rest) h = first_and first rest (span_cuts_behind seconds (Some first) rest) (span_later seconds first rest h)

pub count_cuts_are_cuts : (count : ℕ) (departures : List ℕ) → NeverFalls departures → AreCuts departures (count_cuts count departures)
count_cuts_are_cuts count [] h = no_cuts
count_cuts_are_cuts count (first ∷ rest) h = first_and first rest (count_cuts_behind count 1 (Some first) rest) (count_later count 1 first rest h)

pub whole_cuts_are_cuts : (departures : List ℕ) → AreCuts departures (whole_cuts departures)
whole_cuts_are_cuts [] = no_cuts
whole_cuts_are_cuts (first ∷ rest) =
    first_and first rest [] (record { above = none (λ cut. first < cut); rising = no_pairs (λ x y. x < y); members = none (λ cut. Contains rest cut) })

pub chosen_cuts_are_cuts : (way : Cutting) (departures : List ℕ) → NeverFalls departures → AreCuts departures (chosen_cuts way departures)
chosen_cuts_are_cuts (ways.Span way) departures h = span_cuts_are_cuts way.seconds departures h
chosen_cuts_are_cuts (ways.Count way) departures h = count_cuts_are_cuts way.count departures h
chosen_cuts_are_cuts ways.Whole departures h = whole_cuts_are_cuts departures
