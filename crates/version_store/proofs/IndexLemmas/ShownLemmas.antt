-- What a version shows at the places are the connections of the runs that hold in it.
use Rattle.std.proofs.Common.{◌≡◌, ℕ, zero, suc, inl, inr, List, [], ◌∷◌, length, Bool, true, false, Option, Some, None, refl, sym, ap, ◌∙◌, subst}
use Rattle.std.specs.Prelude.{if◌then◌else◌}
use Rattle.std.specs.List.{Contains, cons_option, filter, filter_map, slice_get}
use Rattle.std.specs.Option.{option_and_then}
use Rattle.std.proofs.lemmas.Option.{get_or_from_slice_get, slice_get_read, slice_get_within}
use Rattle.lc_model.specs.Connection.{connection_between, connections_from, connections_of, connections_of_calls}
use Rattle.lc_model.specs.declared.call.Call.{Call}
use Rattle.lc_model.specs.declared.connection.Connection.{Connection}
use Rattle.lc_model.specs.declared.key.RunKey.{RunKey}
use Rattle.lc_model.specs.declared.run.Run.{Run}
use Rattle.lc_model.proofs.ListLemmas.{ComesFrom-map, Contains-cases, Contains-filter, Contains-flat_map, Contains-here, Contains-map, Contains-nil, Contains-there, IsKept-filter, StandsIn-flat_map}
use Rattle.version_store.specs.Index.Places.{between, connection_at, connection_of, shown, shown_of}
use Rattle.version_store.specs.Index.Spans.{held, holds, run_of}
use Rattle.version_store.specs.declared.index.place.Place.{Place}
use Rattle.version_store.specs.declared.index.state.State.{State}

-- the item at a place of a list is in it
pub Contains-slice_get : {X : Type 0} (xs : List X) (i : ℕ) (x : X) → slice_get xs i ≡ Some x → Contains xs x
Contains-slice_get xs i x e = (i, slice_get_within xs i x e, get_or_from_slice_get xs i x x e)

-- an item of a list has a place in it
pub record Stands {X : Type 0} (xs : List X) (x : X) : Type 0 where
  pub at : ℕ
  pub is : slice_get xs at ≡ Some x

pub Stands-contains : {X : Type 0} (xs : List X) (x : X) → Contains xs x → Stands xs x
Stands-contains xs x (k, inside, at) = record { at = k; is = slice_get_read xs (length xs) k x refl inside (sym at) }

-- an item of a list of results comes from one that gives it
pub record Gives {X Y : Type 0} (f : X → Option Y) (xs : List X) (y : Y) : Type 0 where
  pub from : X
  pub stands : Contains xs from
  pub is : f from ≡ Some y

pub Gives-filter_map : {X Y : Type 0} (f : X → Option Y) (xs : List X) (y : Y) → Contains (filter_map f xs) y → Gives f xs y
Gives-filter_map f [] y h = absurd (Contains-nil y h)
Gives-filter_map {X} {Y} f (x ∷ xs) y h = go (f x) refl (λ k. Gives-filter_map f xs y k) h where
  later : Gives f xs y → Gives f (x ∷ xs) y
  later r = record { from = r.from; stands = Contains-there x xs r.from r.stands; is = r.is }

  go : (o : Option Y) → f x ≡ o → (Contains (filter_map f xs) y → Gives f xs y) → Contains (cons_option o (filter_map f xs)) y → Gives f (x ∷ xs) y
  go None e rest k = later (rest k)
  go (Some z) e rest k = elim (Contains-cases z (filter_map f xs) y k) [
    | inl same ↦ record { from = x; stands = Contains-here x xs; is = e ∙ ap Some same }
    | inr m ↦ later (rest m)
  ]

pub Contains-filter_map : {X Y : Type 0} (f : X → Option Y) (xs : List X) (x : X) (y : Y) → Contains xs x → f x ≡ Some y → Contains (filter_map f xs) y
Contains-filter_map f [] x y h e = absurd (Contains-nil x h)
Contains-filter_map {X} {Y} f (z ∷ xs) x y h e = elim (Contains-cases z xs x h) [
  | inl same ↦ here (f z) (ap f same ∙ e)
  | inr k ↦ later (f z) (Contains-filter_map f xs x y k e)
] where
  here : (o : Option Y) → o ≡ Some y → Contains (cons_option o (filter_map f xs)) y
  here None g = absurd (cc)
  here (Some w) g = let same : w ≡ y = cc in subst (λ v. Contains (v ∷ filter_map f xs) y) (sym same) (Contains-here y (filter_map f xs))

  later : (o : Option Y) → Contains (filter_map f xs) y → Contains (cons_option o (filter_map f xs)) y
  later None k = k
  later (Some w) k = Contains-there w (filter_map f xs) y k

-- the connection from a call to the next is one of the run's
pub connection_there : (key : RunKey) (calls : List Call) (at : ℕ) (c : Connection) → between key (slice_get calls at) (slice_get calls (suc at)) ≡ Some c → Contains (connections_of_calls key calls) c
connection_there key [] at c e = absurd (cc)
connection_there key (a ∷ []) zero c e = absurd (cc)
connection_there key (a ∷ []) (suc n) c e = absurd (cc)
connection_there key (a ∷ b ∷ rest) zero c e =
    let same : connection_between key a b ≡ c = cc in
    subst (λ (v : Connection). Contains (connection_between key a b ∷ connections_from key b rest) v) same (Contains-here (connection_between key a b) (connections_from key b rest))
connection_there key (a ∷ b ∷ rest) (suc n) c e =
    Contains-there (connection_between key a b) (connections_from key b rest) c (connection_there key (b ∷ rest) n c e)

-- a connection of a run goes from one of its calls to the next
pub record GoesFrom (key : RunKey) (calls : List Call) (c : Connection) : Type 0 where
  pub at : ℕ
  pub is : between key (slice_get calls at) (slice_get calls (suc at)) ≡ Some c

pub goes_from : (key : RunKey) (calls : List Call) (c : Connection) → Contains (connections_of_calls key calls) c → GoesFrom key calls c
goes_from key [] c h = absurd (Contains-nil c h)
goes_from key (a ∷ []) c h = absurd (Contains-nil c h)
goes_from key (a ∷ b ∷ rest) c h = elim (Contains-cases (connection_between key a b) (connections_from key b rest) c h) [
  | inl same ↦ record { at = 0; is = ap Some same }
  | inr k ↦ let r = goes_from key (b ∷ rest) c k in record { at = suc r.at; is = r.is }
]

-- a place shows a connection of a state that holds
pub record Shown (version : ℕ) (states : List State) (place : Place) (c : Connection) : Type 0 where
  pub state : State
  pub is : slice_get states place.state ≡ Some state
  pub here : holds version state ≡ true
  pub connection : connection_of place.at state ≡ Some c

pub shown_from : (version : ℕ) (states : List State) (place : Place) (c : Connection) → shown version states place ≡ Some c → Shown version states place c
shown_from version states place c e = go (slice_get states place.state) refl e where
  of_state : (s : State) (b : Bool) → slice_get states place.state ≡ Some s → holds version s ≡ b → (if b then connection_of place.at s else None) ≡ Some c → Shown version states place c
  of_state s true is here f = record { state = s; is = is; here = here; connection = f }
  of_state s false is here f = absurd (cc)

  go : (o : Option State) → slice_get states place.state ≡ o → option_and_then (shown_of version place.at) o ≡ Some c → Shown version states place c
  go None is f = absurd (cc)
  go (Some s) is f = of_state s (holds version s) is refl f

pub shown_at : (version : ℕ) (states : List State) (place : Place) (c : Connection) → Shown version states place c → shown version states place ≡ Some c
shown_at version states place c s =
    ap (option_and_then (shown_of version place.at)) s.is ∙ ap (λ (b : Bool). if b then connection_of place.at s.state else None) s.here ∙ s.connection

-- what is shown at a place is the connection there
pub shown_is_there : (version : ℕ) (states : List State) (place : Place) (c : Connection) → shown version states place ≡ Some c → connection_at states place ≡ Some c
shown_is_there version states place c e =
    let s = shown_from version states place c e in ap (option_and_then (connection_of place.at)) s.is ∙ s.connection

-- it is one of the connections of the runs that hold
pub shown_is_of_held : (version : ℕ) (states : List State) (place : Place) (c : Connection) → shown version states place ≡ Some c → Contains (connections_of (held version states)) c
shown_is_of_held version states place c e =
    let s = shown_from version states place c e in
    let state = s.state in
    let kept = Contains-filter (holds version) states state (Contains-slice_get states place.state state s.is) s.here in
    Contains-flat_map (λ (r : Run). connections_of_calls r.key r.calls) (held version states) (run_of state) c (Contains-map run_of (filter (holds version) states) state kept)
    (connection_there state.key state.calls place.at c s.connection)

-- a run that holds has a state
pub record Holding (version : ℕ) (states : List State) (run : Run) : Type 0 where
  pub at : ℕ
  pub state : State
  pub is : slice_get states at ≡ Some state
  pub here : holds version state ≡ true
  pub same : run_of state ≡ run

pub holding : (version : ℕ) (states : List State) (run : Run) → Contains (held version states) run → Holding version states run
holding version states run h =
    let from = ComesFrom-map run_of (filter (holds version) states) run h in
    let kept = IsKept-filter (holds version) states from.from from.stands in
    let stands = Stands-contains states from.from kept.stands in
    record { at = stands.at; state = from.from; is = stands.is; here = kept.passes; same = from.is }

pub held_there : (version : ℕ) (states : List State) (i : ℕ) (s : State) → slice_get states i ≡ Some s → holds version s ≡ true → Contains (held version states) (run_of s)
held_there version states i s is here =
    Contains-map run_of (filter (holds version) states) s (Contains-filter (holds version) states s (Contains-slice_get states i s is) here)

-- each connection of the runs that hold has a place that shows it
pub record HasPlace (version : ℕ) (states : List State) (c : Connection) : Type 0 where
  pub place : Place
  pub shows : shown version states place ≡ Some c
  pub departs : c.dep ≡ place.dep

pub has_place : (version : ℕ) (states : List State) (c : Connection) → Contains (connections_of (held version states)) c → HasPlace version states c
has_place version states c h =
    let within = StandsIn-flat_map (λ (r : Run). connections_of_calls r.key r.calls) (held version states) c h in
    let run = holding version states within.of within.stands in
    let state = run.state in
    let of_state = subst (λ (r : Run). Contains (connections_of_calls r.key r.calls) c) (sym run.same) within.within in
    let goes = goes_from state.key state.calls c of_state in
    let place : Place = record { dep = c.dep; state = run.at; at = goes.at } in
    record { place = place; shows = shown_at version states place c (record { state = state; is = run.is; here = run.here; connection = goes.is }); departs = refl }
