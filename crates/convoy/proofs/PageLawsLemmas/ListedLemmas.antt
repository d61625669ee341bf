-- The rides of runs, and the ends of a question, are lists.
use Rattle.std.proofs.Common.{◌≡◌, ℕ, zero, suc, ◌<◌, ◌≤◌, ◌⊎◌, inl, inr, Bool, true, false, List, [], ◌∷◌, ◌++◌, Option, None, Some, length, get_or, refl, sym, ap, subst, arith}
use Rattle.std.proofs.Math.Decide.{dec_le}
use Rattle.std.proofs.lemmas.List.Elements.{Contains-append_cases, Contains-append_left, Contains-append_right}
use Rattle.std.proofs.lemmas.Option.{slice_get_within}
use Rattle.std.specs.List.{Any, Contains, slice_get}
use Rattle.page_json.proofs.ObjectMembersLemmas.DecisionsLemmas.{same_number, same_text, turn}
use Rattle.lc_model.specs.Question.{IsEnd}
use Rattle.lc_model.specs.Ride.{IsRideAt, IsRideOn}
use Rattle.lc_model.specs.declared.call.Call.{Call}
use Rattle.lc_model.specs.declared.key.RunKey.{RunKey}
use Rattle.lc_model.specs.declared.ride.Ride.{Ride}
use Rattle.lc_model.specs.declared.run.Run.{Run}
use Rattle.lc_model.specs.declared.stop.Stop.{Stop}
use Rattle.lc_model.proofs.ListLemmas.{Contains-cases, Contains-here, Contains-nil}

-- a list has exactly the items that are so
pub record Listed {X : Type 0} (IsSo : X → Type 0) : Type 0 where
  pub items : List X
  pub sound : (x : X) → Contains items x → IsSo x
  pub complete : (x : X) → IsSo x → Contains items x

none_listed : {X : Type 0} (IsSo : X → Type 0) → ((x : X) → IsSo x → ⊥) → Listed IsSo
none_listed IsSo none = record { items = []; sound = λ x h. absurd (Contains-nil x h); complete = λ x so. absurd (none x so) }

one_listed : {X : Type 0} (x : X) → Listed (λ (y : X). y ≡ x)
one_listed {X} x = record {
  items = x ∷ [];
  sound = λ y h. elim (Contains-cases x [] y h) [ inl e ↦ sym e | inr k ↦ absurd (Contains-nil y k) ];
  complete = λ y e. subst (λ (z : X). Contains (x ∷ []) z) (sym e) (Contains-here x []);
}

turned : {X : Type 0} (A B : X → Type 0) → ((x : X) → A x → B x) → ((x : X) → B x → A x) → Listed A → Listed B
turned A B to from list = record { items = list.items; sound = λ x h. to x (list.sound x h); complete = λ x b. list.complete x (from x b) }

two_listed : {X : Type 0} (A B : X → Type 0) → Listed A → Listed B → Listed (λ (x : X). A x ⊎ B x)
two_listed A B a b = record {
  items = a.items ++ b.items;
  sound = λ x h. elim (Contains-append_cases a.items b.items x h) [ inl k ↦ inl (a.sound x k) | inr k ↦ inr (b.sound x k) ];
  complete = λ x so. elim so [
    | inl k ↦ Contains-append_left a.items b.items x (a.complete x k)
    | inr k ↦ Contains-append_right a.items b.items x (b.complete x k)
  ];
}

-- what is so at a number below the bound
below_listed : {X : Type 0} (IsSo : ℕ → X → Type 0) → ((k : ℕ) → Listed (IsSo k)) → (n : ℕ) → Listed (λ (x : X). (k : ℕ) × (k < n) × IsSo k x)
below_listed IsSo each zero = none_listed _ (λ x h. let low = h.1 in omega arith)
below_listed {X} IsSo each (suc n) =
    turned (λ (x : X). IsSo n x ⊎ ((k : ℕ) × (k < n) × IsSo k x)) (λ (x : X). (k : ℕ) × (k < suc n) × IsSo k x)
    (λ x h. elim h [ inl so ↦ (n, omega arith, so) | inr so ↦ let low = so.1 in (so.0, omega arith, so.2) ])
    (λ x h. elim (same_number h.0 n) [
      | yes same ↦ inl (subst (λ k. IsSo k x) same h.2)
      | no other ↦ let low = h.1 in inr (h.0, omega arith, h.2)
    ])
    (two_listed (IsSo n) (λ (x : X). (k : ℕ) × (k < n) × IsSo k x) (each n) (below_listed IsSo each n))

-- what is so of an item of a list
first_or_later : {X Y : Type 0} (IsSo : Y → X → Type 0) (y : Y) (ys : List Y) (x : X) (k : ℕ) (z : Y) → k < length (y ∷ ys) → get_or (y ∷ ys) k z ≡ z → IsSo z x
    → IsSo y x ⊎ Any (λ (z : Y). IsSo z x) ys
first_or_later IsSo y ys x zero z inside at so = inl (subst (λ w. IsSo w x) (sym at) so)
first_or_later IsSo y ys x (suc k) z inside at so = inr (k, z, omega arith, at, so)

any_listed : {X Y : Type 0} (IsSo : Y → X → Type 0) → ((y : Y) → Listed (IsSo y)) → (ys : List Y) → Listed (λ (x : X). Any (λ (y : Y). IsSo y x) ys)
any_listed IsSo each [] = none_listed _ (λ x h. let inside = h.2 in omega arith)
any_listed {X} {Y} IsSo each (y ∷ ys) =
    turned (λ (x : X). IsSo y x ⊎ Any (λ (z : Y). IsSo z x) ys) (λ (x : X). Any (λ (z : Y). IsSo z x) (y ∷ ys))
    (λ x h. elim h [ inl so ↦ (0, y, omega arith, refl, so) | inr so ↦ let inside = so.2 in (suc so.0, so.1, omega arith, so.3, so.4) ])
    (λ x h. first_or_later IsSo y ys x h.0 h.1 h.2 h.3 h.4)
    (two_listed (IsSo y) (λ (x : X). Any (λ (z : Y). IsSo z x) ys) (each y) (any_listed IsSo each ys))

-- what is so of a value that may be missing
some_listed : {X Y : Type 0} (o : Option Y) (IsSo : Y → X → Type 0) → ((y : Y) → Listed (IsSo y)) → Listed (λ (x : X). (y : Y) × (o ≡ Some y) × IsSo y x)
some_listed None IsSo each = none_listed _ (λ x h. let e = h.1 in cc)
some_listed {X} {Y} (Some y) IsSo each =
    turned (IsSo y) (λ (x : X). (z : Y) × (Some y ≡ Some z) × IsSo z x)
    (λ x so. (y, refl, so))
    (λ x h. let e = h.1 in let same : h.0 ≡ y = cc in subst (λ w. IsSo w x) same h.2)
    (each y)

-- what is so under a condition
if_listed : {X : Type 0} (P : Type 0) (IsSo : X → Type 0) → Dec P → Listed IsSo → Listed (λ (x : X). P × IsSo x)
if_listed {X} P IsSo (yes p) list = turned IsSo (λ (x : X). P × IsSo x) (λ x so. (p, so)) (λ x h. h.1) list
if_listed P IsSo (no not) list = none_listed _ (λ x h. not h.0)

is_true : (b : Bool) → Dec (b ≡ true)
is_true true = yes refl
is_true false = no (λ e. cc)

-- ---- rides

-- from boarding at one call to alighting at another, where `last` is the call before that
abbrev ride_of : RunKey → Call → Call → Call → Ride
ride_of key boards last alights = record {
  key = key;
  first_seq = boards.seq;
  last_seq = last.seq;
  board = boards.stop;
  dep = boards.dep;
  alight = alights.stop;
  arr = alights.arr;
}

module _ (key : RunKey) (calls : List Call) where
  -- the ride is that of these three calls, and one may board and alight so
  abbrev IsByCalls : Call → Call → Call → Ride → Type 0
  IsByCalls boards last alights ride = (boards.board ≡ true) × ((alights.alight ≡ true) × (ride ≡ ride_of key boards last alights))

  by_calls : (boards last alights : Call) → Listed (IsByCalls boards last alights)
  by_calls boards last alights =
      if_listed (boards.board ≡ true) (λ ride. (alights.alight ≡ true) × (ride ≡ ride_of key boards last alights)) (is_true boards.board)
      (if_listed (alights.alight ≡ true) (λ ride. ride ≡ ride_of key boards last alights) (is_true alights.alight) (one_listed (ride_of key boards last alights)))

  -- it alights at the call right after this place
  abbrev AlightsBehind : ℕ → Call → Call → Ride → Type 0
  AlightsBehind last_at boards last ride = (alights : Call) × (slice_get calls (suc last_at) ≡ Some alights) × IsByCalls boards last alights ride

  -- its last call before it alights is at this place
  abbrev RidesOver : ℕ → Call → Ride → Type 0
  RidesOver last_at boards ride = (last : Call) × (slice_get calls last_at ≡ Some last) × AlightsBehind last_at boards last ride

  -- it boards at the one place, and its last call before it alights is at the other
  abbrev IsBetween : ℕ → ℕ → Ride → Type 0
  IsBetween boards_at last_at ride = (boards_at ≤ last_at) × ((boards : Call) × (slice_get calls boards_at ≡ Some boards) × RidesOver last_at boards ride)

  between : (boards_at last_at : ℕ) → Listed (IsBetween boards_at last_at)
  between boards_at last_at =
      if_listed (boards_at ≤ last_at) (λ ride. (boards : Call) × (slice_get calls boards_at ≡ Some boards) × RidesOver last_at boards ride) (dec_le boards_at last_at)
      (some_listed (slice_get calls boards_at) (RidesOver last_at) (λ boards.
      some_listed (slice_get calls last_at) (AlightsBehind last_at boards) (λ last.
      some_listed (slice_get calls (suc last_at)) (IsByCalls boards last) (λ alights. by_calls boards last alights))))

  -- it boards at this place
  abbrev BoardsAt : ℕ → Ride → Type 0
  BoardsAt boards_at ride = (last_at : ℕ) × (last_at < length calls) × IsBetween boards_at last_at ride

  -- it boards at some place
  abbrev IsOnCalls : Ride → Type 0
  IsOnCalls ride = (boards_at : ℕ) × (boards_at < length calls) × BoardsAt boards_at ride

  to_ride : (ride : Ride) → IsOnCalls ride → IsRideOn key calls ride
  to_ride ride (boards_at, _, (last_at, _, (in_order, (boards, is_boards, (last, is_last, (alights, is_alights, (may_board, (may_alight, is)))))))) = record {
    boards_at = boards_at;
    last_at = last_at;
    in_order = in_order;
    boards = boards;
    last = last;
    alights = alights;
    is_boards = is_boards;
    is_last = is_last;
    is_alights = is_alights;
    may_board = may_board;
    may_alight = may_alight;
    is_ride = is;
  }

  from_ride : (ride : Ride) → IsRideOn key calls ride → IsOnCalls ride
  from_ride ride is = (
    is.boards_at,
    slice_get_within calls is.boards_at is.boards is.is_boards,
    (
      is.last_at,
      slice_get_within calls is.last_at is.last is.is_last,
      (is.in_order, (is.boards, is.is_boards, (is.last, is.is_last, (is.alights, is.is_alights, (is.may_board, (is.may_alight, is.is_ride)))))),
    ),
  )

  on_calls : Listed (IsRideOn key calls)
  on_calls =
      turned IsOnCalls (IsRideOn key calls) to_ride from_ride
      (below_listed BoardsAt (λ boards_at. below_listed (IsBetween boards_at) (λ last_at. between boards_at last_at) (length calls)) (length calls))

-- the rides of runs
pub rides_of : (runs : List Run) → Listed (IsRideAt runs)
rides_of runs = any_listed (λ (run : Run). IsRideOn run.key run.calls) (λ run. on_calls run.key run.calls) runs

-- ---- ends of a question

pub is_parent : (parent : Option (List ℕ)) (named : List ℕ) → Dec (parent ≡ Some named)
is_parent None named = no (λ e. cc)
is_parent (Some other) named = turn (λ e. ap Some e) (λ e. let same : other ≡ named = cc in same) (same_text other named)

-- the stop has this id, and the named one is its parent
abbrev IsChild : List ℕ → Stop → List ℕ → Type 0
IsChild named stop id = (stop.id ≡ id) × (stop.parent ≡ Some named)

children : (named : List ℕ) (stop : Stop) → Listed (IsChild named stop)
children named stop =
    turned (λ id. (stop.parent ≡ Some named) × (id ≡ stop.id)) (IsChild named stop) (λ id h. (sym h.1, h.0)) (λ id h. (h.1, sym h.0))
    (if_listed (stop.parent ≡ Some named) (λ id. id ≡ stop.id) (is_parent stop.parent named) (one_listed stop.id))

-- the stops where a journey may begin, or end
pub ends_of : (stops : List Stop) (named : List ℕ) → Listed (IsEnd stops named)
ends_of stops named =
    two_listed (λ id. id ≡ named) (λ id. Any (λ (stop : Stop). IsChild named stop id) stops) (one_listed named)
    (any_listed (λ (stop : Stop). IsChild named stop) (λ stop. children named stop) stops)
