-- The place of a moment among cuts is that of the page for it.
use Rattle.std.proofs.Common.{◌≡◌, ℕ, suc, ◌<◌, ◌≤◌, List, [], ◌∷◌, Bool, true, false, Option, Some, None, refl, sym, subst, arith}
use Rattle.std.specs.Prelude.{nat_le, nat_lt}
use Rattle.std.specs.List.{All, filter, last_or}
use Rattle.std.proofs.lemmas.Bool.{lt-leb, lt-ltb, leb-false}
use Rattle.std.proofs.lemmas.Bool.Decides.{nat_tests}
use Rattle.std.proofs.lemmas.List.Elements.{All-head, All-tail, All-weaker}
use Rattle.lc_model.specs.declared.connection.Connection.{Connection}
use Rattle.lc_model.specs.Versions.Cuts.{first_of}
use Rattle.lc_model.specs.Versions.Pages.{CutPage, departing, page_for, pages_from, pages_of}
use Rattle.publisher.specs.Place.{AreRising, place_behind, place_of}
use Rattle.publisher.specs.declared.place.Place.{Place}
use Rattle.lc_world.specs.Sides.PageAt.{next_cut, page_among, previous_cut}

rising_tail : (x : ℕ) (xs : List ℕ) → AreRising (x ∷ xs) → AreRising xs
rising_tail x xs rising i j d before inside = rising (suc i) (suc j) d (omega arith) (omega arith)

rising_head : (x : ℕ) (xs : List ℕ) → AreRising (x ∷ xs) → All (λ (y : ℕ). x < y) xs
rising_head x xs rising = λ k d inside. rising 0 (suc k) d (omega arith) (omega arith)

-- of pages that begin after the moment none is named at or before it
none_named : (moment : ℕ) (cuts : List ℕ) (list : List Connection) → All (λ (cut : ℕ). moment < cut) cuts
    → filter (λ (p : CutPage). nat_le p.departs moment) (pages_from cuts list) ≡ []
none_named moment [] list later = refl
none_named moment (cut ∷ cuts) list later =
    let first : moment < cut = All-head (λ (c : ℕ). moment < c) cut cuts later in
    let over : nat_le cut moment ≡ false = lt-leb cut moment first in
    rw over (none_named moment cuts list (All-tail (λ (c : ℕ). moment < c) cut cuts later))

-- the page at a place
abbrev pub page_of_place : Place → List Connection → CutPage
page_of_place place list = record { departs = place.cut; connections = departing place.cut place.next list }

page_behind_by : (is_by : Bool) (previous : Option ℕ) (cut next : ℕ) (rest : List ℕ) (list : List Connection) (moment : ℕ) → nat_le next moment ≡ is_by
    → AreRising (cut ∷ next ∷ rest)
    → ((previous : Option ℕ) → page_for (record { departs = next; connections = departing next (first_of rest) list }) (pages_from rest list) moment ≡ page_of_place (place_behind previous next rest moment) list)
    → page_for (record { departs = cut; connections = departing cut (Some next) list }) (pages_from (next ∷ rest) list) moment
    ≡ page_of_place (place_behind previous cut (next ∷ rest) moment) list
page_behind_by true previous cut next rest list moment is rising goes_on = rw is (goes_on (Some cut))
page_behind_by false previous cut next rest list moment is rising goes_on =
    let over : moment < next = leb-false next moment is in
    let none = none_named moment rest list (All-weaker (λ (y : ℕ). next < y) (λ (y : ℕ). moment < y) (λ y h. omega arith) rest (rising_head next rest (rising_tail cut (next ∷ rest) rising))) in
    rw (is, none) refl

-- the page for a moment is the one at its place
page_behind : (previous : Option ℕ) (cut : ℕ) (rest : List ℕ) (list : List Connection) (moment : ℕ) → AreRising (cut ∷ rest)
    → page_for (record { departs = cut; connections = departing cut (first_of rest) list }) (pages_from rest list) moment
    ≡ page_of_place (place_behind previous cut rest moment) list
page_behind previous cut [] list moment rising = refl
page_behind previous cut (next ∷ rest) list moment rising =
    page_behind_by (nat_le next moment) previous cut next rest list moment refl rising
    (λ before. page_behind before next rest list moment (rising_tail cut (next ∷ rest) rising))

-- the cut of a place is not before the first one
cut_behind_by : (is_by : Bool) (previous : Option ℕ) (cut next : ℕ) (rest : List ℕ) (moment : ℕ) → nat_le next moment ≡ is_by → cut < next
    → next ≤ (place_behind (Some cut) next rest moment).cut
    → cut ≤ (place_behind previous cut (next ∷ rest) moment).cut
cut_behind_by true previous cut next rest moment is before behind = rw is (omega arith)
cut_behind_by false previous cut next rest moment is before behind = rw is (omega arith)

cut_behind : (previous : Option ℕ) (cut : ℕ) (rest : List ℕ) (moment : ℕ) → AreRising (cut ∷ rest) → cut ≤ (place_behind previous cut rest moment).cut
cut_behind previous cut [] moment rising = omega arith
cut_behind previous cut (next ∷ rest) moment rising =
    cut_behind_by (nat_le next moment) previous cut next rest moment refl
    (All-head (λ (y : ℕ). cut < y) next rest (rising_head cut (next ∷ rest) rising))
    (cut_behind (Some cut) next rest moment (rising_tail cut (next ∷ rest) rising))

-- no later cut is before
none_before : (cut : ℕ) (cuts : List ℕ) → All (λ (y : ℕ). cut < y) cuts → filter (λ (y : ℕ). nat_lt y cut) cuts ≡ []
none_before cut [] later = refl
none_before cut (first ∷ rest) later =
    let behind : cut < first = All-head (λ (y : ℕ). cut < y) first rest later in
    let not : nat_lt first cut ≡ false = grind (arith, nat_tests) in
    rw not (none_before cut rest (All-tail (λ (y : ℕ). cut < y) first rest later))

not_below_itself : (cut : ℕ) → nat_lt cut cut ≡ false
not_below_itself cut = grind (arith, nat_tests)

-- a cut at or before the moment is passed
pub passed : (previous : Option ℕ) (cut next : ℕ) (rest : List ℕ) (moment : ℕ) → nat_le next moment ≡ true → place_behind previous cut (next ∷ rest) moment ≡ place_behind (Some cut) next rest moment
passed previous cut next rest moment is = rw is refl

-- one after it is not
pub stopped : (previous : Option ℕ) (cut next : ℕ) (rest : List ℕ) (moment : ℕ) → nat_le next moment ≡ false
    → place_behind previous cut (next ∷ rest) moment ≡ record { previous = previous; cut = cut; next = Some next }
stopped previous cut next rest moment is = rw is refl

-- the cuts after that of a place begin with its next one
next_passed : (p : Place) (cut : ℕ) (cuts : List ℕ) → cut < p.cut → first_of (filter (nat_lt p.cut) cuts) ≡ p.next → first_of (filter (nat_lt p.cut) (cut ∷ cuts)) ≡ p.next
next_passed p cut cuts before goes_on =
    let over : nat_lt p.cut cut ≡ false = grind (arith, nat_tests) in
    rw over goes_on

next_stopped : (cut next : ℕ) (rest : List ℕ) → cut < next → first_of (filter (nat_lt cut) (cut ∷ next ∷ rest)) ≡ Some next
next_stopped cut next rest before =
    let under : nat_lt cut next ≡ true = lt-ltb cut next before in
    rw (not_below_itself cut, under) refl

next_behind_by : (is_by : Bool) (previous : Option ℕ) (cut next : ℕ) (rest : List ℕ) (moment : ℕ) → nat_le next moment ≡ is_by → cut < next
    → next ≤ (place_behind (Some cut) next rest moment).cut
    → first_of (filter (nat_lt (place_behind (Some cut) next rest moment).cut) (next ∷ rest)) ≡ (place_behind (Some cut) next rest moment).next
    → first_of (filter (nat_lt (place_behind previous cut (next ∷ rest) moment).cut) (cut ∷ next ∷ rest)) ≡ (place_behind previous cut (next ∷ rest) moment).next
next_behind_by true previous cut next rest moment is before behind goes_on =
    subst (λ (p : Place). first_of (filter (nat_lt p.cut) (cut ∷ next ∷ rest)) ≡ p.next) (sym (passed previous cut next rest moment is))
    (next_passed (place_behind (Some cut) next rest moment) cut (next ∷ rest) (omega arith) goes_on)
next_behind_by false previous cut next rest moment is before behind goes_on =
    subst (λ (p : Place). first_of (filter (nat_lt p.cut) (cut ∷ next ∷ rest)) ≡ p.next) (sym (stopped previous cut next rest moment is))
    (next_stopped cut next rest before)

next_behind : (previous : Option ℕ) (cut : ℕ) (rest : List ℕ) (moment : ℕ) → AreRising (cut ∷ rest)
    → first_of (filter (nat_lt (place_behind previous cut rest moment).cut) (cut ∷ rest)) ≡ (place_behind previous cut rest moment).next
next_behind previous cut [] moment rising = rw (not_below_itself cut) refl
next_behind previous cut (next ∷ rest) moment rising =
    let tail = rising_tail cut (next ∷ rest) rising in
    next_behind_by (nat_le next moment) previous cut next rest moment refl
    (All-head (λ (y : ℕ). cut < y) next rest (rising_head cut (next ∷ rest) rising))
    (cut_behind (Some cut) next rest moment tail)
    (next_behind (Some cut) next rest moment tail)

-- the cuts before that of a place end with its previous one
previous_passed : (p : Place) (before : Option ℕ) (cut : ℕ) (cuts : List ℕ) → cut < p.cut → last_or (Some cut) (filter (λ (y : ℕ). nat_lt y p.cut) cuts) ≡ p.previous
    → last_or before (filter (λ (y : ℕ). nat_lt y p.cut) (cut ∷ cuts)) ≡ p.previous
previous_passed p before cut cuts less goes_on =
    let under : nat_lt cut p.cut ≡ true = lt-ltb cut p.cut less in
    rw under goes_on

previous_stopped : (before : Option ℕ) (cut : ℕ) (cuts : List ℕ) → All (λ (y : ℕ). cut < y) cuts → last_or before (filter (λ (y : ℕ). nat_lt y cut) (cut ∷ cuts)) ≡ before
previous_stopped before cut cuts later = rw (not_below_itself cut, none_before cut cuts later) refl

previous_behind_by : (is_by : Bool) (previous : Option ℕ) (cut next : ℕ) (rest : List ℕ) (moment : ℕ) → nat_le next moment ≡ is_by → AreRising (cut ∷ next ∷ rest)
    → next ≤ (place_behind (Some cut) next rest moment).cut
    → last_or (Some cut) (filter (λ (y : ℕ). nat_lt y (place_behind (Some cut) next rest moment).cut) (next ∷ rest)) ≡ (place_behind (Some cut) next rest moment).previous
    → last_or previous (filter (λ (y : ℕ). nat_lt y (place_behind previous cut (next ∷ rest) moment).cut) (cut ∷ next ∷ rest)) ≡ (place_behind previous cut (next ∷ rest) moment).previous
previous_behind_by true previous cut next rest moment is rising behind goes_on =
    let less : cut < next = All-head (λ (y : ℕ). cut < y) next rest (rising_head cut (next ∷ rest) rising) in
    subst (λ (p : Place). last_or previous (filter (λ (y : ℕ). nat_lt y p.cut) (cut ∷ next ∷ rest)) ≡ p.previous) (sym (passed previous cut next rest moment is))
    (previous_passed (place_behind (Some cut) next rest moment) previous cut (next ∷ rest) (omega arith) goes_on)
previous_behind_by false previous cut next rest moment is rising behind goes_on =
    subst (λ (p : Place). last_or previous (filter (λ (y : ℕ). nat_lt y p.cut) (cut ∷ next ∷ rest)) ≡ p.previous) (sym (stopped previous cut next rest moment is))
    (previous_stopped previous cut (next ∷ rest) (rising_head cut (next ∷ rest) rising))

previous_behind : (previous : Option ℕ) (cut : ℕ) (rest : List ℕ) (moment : ℕ) → AreRising (cut ∷ rest)
    → last_or previous (filter (λ (y : ℕ). nat_lt y (place_behind previous cut rest moment).cut) (cut ∷ rest)) ≡ (place_behind previous cut rest moment).previous
previous_behind previous cut [] moment rising = rw (not_below_itself cut) refl
previous_behind previous cut (next ∷ rest) moment rising =
    let tail = rising_tail cut (next ∷ rest) rising in
    previous_behind_by (nat_le next moment) previous cut next rest moment refl rising
    (cut_behind (Some cut) next rest moment tail)
    (previous_behind (Some cut) next rest moment tail)

-- the page for a moment is the one at its place
pub page_at_place : (cuts : List ℕ) (list : List Connection) (moment : ℕ) → AreRising cuts → (cuts ≡ [] → list ≡ [])
    → page_among (pages_of cuts list) moment ≡ page_of_place (place_of cuts moment) list
page_at_place [] list moment rising empty = rw (empty refl) refl
page_at_place (first ∷ rest) list moment rising empty = page_behind None first rest list moment rising

pub next_at_place : (cuts : List ℕ) (moment : ℕ) → AreRising cuts → next_cut cuts (place_of cuts moment).cut ≡ (place_of cuts moment).next
next_at_place [] moment rising = refl
next_at_place (first ∷ rest) moment rising = next_behind None first rest moment rising

pub previous_at_place : (cuts : List ℕ) (moment : ℕ) → AreRising cuts → previous_cut cuts (place_of cuts moment).cut ≡ (place_of cuts moment).previous
previous_at_place [] moment rising = refl
previous_at_place (first ∷ rest) moment rising = previous_behind None first rest moment rising
