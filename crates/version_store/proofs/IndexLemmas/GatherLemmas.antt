-- The places of states: those of one after the other, and of all.
use Rattle.std.proofs.Common.{◌≡◌, ◌≢◌, ℕ, zero, suc, ◌+◌, ◌<◌, ◌≤◌, ◌⊎◌, ◌↔◌, inl, inr, List, [], ◌∷◌, ◌++◌, length, get_or, take, Option, Some, None, refl, sym, ap, ◌∙◌, subst, arith, ⊎_elim}
use Rattle.std.specs.List.{All, Contains, slice_get}
use Rattle.std.specs.Option.{option_and_then}
use Rattle.std.specs.declared.cmp.Ordering.TheVariants.{Equal}
use Rattle.std.proofs.lemmas.Bool.{cases_lt}
use Rattle.std.proofs.lemmas.List.{length-take, take_all, take_more}
use Rattle.std.proofs.lemmas.List.Elements.{All-contains, Contains-append_left, Contains-push, Contains-push_cases}
use Rattle.std.proofs.lemmas.Option.{slice_get-get_or, slice_get_within}
use Rattle.lc_model.specs.Connection.{connection_between}
use Rattle.lc_model.specs.declared.call.Call.{Call}
use Rattle.lc_model.specs.declared.connection.Connection.{Connection}
use Rattle.lc_model.specs.declared.key.RunKey.{RunKey}
use Rattle.lc_model.specs.Order.{AreApart}
use Rattle.lc_model.proofs.ListLemmas.{All-from_contains, AllPairs-append, Contains-cases, Contains-nil}
use Rattle.version_store.specs.Index.Gathered.{AreOfStates, IsOf, IsOfStates}
use Rattle.version_store.specs.Index.Places.{between, connection_at, connection_of, place_cmp}
use Rattle.version_store.specs.declared.index.place.Place.{Place}
use Rattle.version_store.specs.declared.index.state.State.{State}
use Rattle.version_store.proofs.IndexLemmas.PlaceLemmas.{place_exact, same_parts}

-- ---- a list with an item more

pub get_before : {X : Type 0} (xs ys : List X) (i : ℕ) (x : X) → slice_get xs i ≡ Some x → slice_get (xs ++ ys) i ≡ Some x
get_before [] ys i x e = absurd (cc)
get_before (y ∷ xs) ys zero x e = e
get_before (y ∷ xs) ys (suc i) x e = get_before xs ys i x e

pub get_pushed : {X : Type 0} (xs : List X) (y : X) → slice_get (xs ++ y ∷ []) (length xs) ≡ Some y
get_pushed [] y = refl
get_pushed (x ∷ xs) y = get_pushed xs y

pub get_cases : {X : Type 0} (xs : List X) (y : X) (i : ℕ) (x : X) → slice_get (xs ++ y ∷ []) i ≡ Some x → (slice_get xs i ≡ Some x) ⊎ ((i ≡ length xs) × (y ≡ x))
get_cases [] y zero x e = inr (refl, cc)
get_cases [] y (suc i) x e = absurd (cc)
get_cases (z ∷ xs) y zero x e = inl e
get_cases (z ∷ xs) y (suc i) x e = elim (get_cases xs y i x e) [
  | inl h ↦ inl h
  | inr (at, is) ↦ inr (ap suc at, is)
]

-- ---- the places of a state

-- the call that a connection leaves departs with it
departs_with : (key : RunKey) (calls : List Call) (at : ℕ) (c : Connection) (call : Call) → between key (slice_get calls at) (slice_get calls (suc at)) ≡ Some c → slice_get calls at ≡ Some call → c.dep ≡ call.dep
departs_with key calls at c call e is = go (slice_get calls at) (slice_get calls (suc at)) is e where
  go : (from to : Option Call) → from ≡ Some call → between key from to ≡ Some c → c.dep ≡ call.dep
  go None to f g = absurd (cc)
  go (Some from) None f g = absurd (cc)
  go (Some from) (Some to) f g =
      let one : connection_between key from to ≡ c = cc in
      let same : from ≡ call = cc in
      sym (ap (λ (d : Connection). d.dep) one) ∙ ap (λ (a : Call). a.dep) same

-- a connection leaves a call that another one follows
has_next : (key : RunKey) (calls : List Call) (at : ℕ) (c : Connection) → between key (slice_get calls at) (slice_get calls (suc at)) ≡ Some c → suc at < length calls
has_next key calls at c e = go (slice_get calls at) (slice_get calls (suc at)) refl e where
  go : (from to : Option Call) → slice_get calls (suc at) ≡ to → between key from to ≡ Some c → suc at < length calls
  go None to f g = absurd (cc)
  go (Some from) None f g = absurd (cc)
  go (Some from) (Some to) f g = slice_get_within calls (suc at) to f

-- beside the old places, the list has those of a state up to a call
abbrev pub HasUpTo : ℕ → State → ℕ → List Place → List Place → Type 0
HasUpTo number state next old new = (p : Place) → Contains new p ↔ (Contains old p ⊎ (IsOf number state p × (suc p.at < next)))

pub up_to_none : (number : ℕ) (state : State) (next : ℕ) (old : List Place) → next ≤ 1 → HasUpTo number state next old old
up_to_none number state next old low p = (λ h. inl h, λ h. ⊎_elim (λ (k : Contains old p). k) (λ (k : IsOf number state p × (suc p.at < next)). absurd (omega (arith, k.1, low))) h)

pub up_to_more : (number : ℕ) (state : State) (next at : ℕ) (d : Call) (old list new : List Place) (pushed : Place) → suc at ≡ next → next < length state.calls
    → pushed.state ≡ number → pushed.at ≡ at → pushed.dep ≡ (get_or state.calls at d).dep → new ≡ list ++ pushed ∷ []
    → HasUpTo number state next old list → HasUpTo number state (next + 1) old new
up_to_more number state next at d old list new pushed follows inside of_number of_at of_dep e done p = (to, back) where
  call : Call
  call = get_or state.calls at d

  is_call : slice_get state.calls at ≡ Some call
  is_call = slice_get-get_or state.calls at d (omega (arith, follows, inside))

  is_next : slice_get state.calls (suc at) ≡ Some (get_or state.calls (suc at) d)
  is_next = slice_get-get_or state.calls (suc at) d (omega (arith, follows, inside))

  made : connection_of at state ≡ Some (connection_between state.key call (get_or state.calls (suc at) d))
  made = ap (λ (o : Option Call). between state.key o (slice_get state.calls (suc at))) is_call ∙ ap (between state.key (Some call)) is_next

  pushed_is_of : IsOf number state pushed
  pushed_is_of = record {
    of_number = of_number;
    connection = connection_between state.key call (get_or state.calls (suc at) d);
    is = ap (λ (n : ℕ). connection_of n state) of_at ∙ made;
    departs = sym of_dep;
  }

  to : Contains new p → Contains old p ⊎ (IsOf number state p × (suc p.at < next + 1))
  to h = elim (Contains-push_cases list pushed p (subst (λ (v : List Place). Contains v p) e h)) [
    | inl k ↦ ⊎_elim (λ (o : Contains old p). inl o) (λ (n : IsOf number state p × (suc p.at < next)). inr (n.0, omega (arith, n.1))) ((done p).0 k)
    | inr same ↦ inr (subst (IsOf number state) same pushed_is_of, omega (arith, ap (λ (q : Place). q.at) same, of_at, follows))
  ]

  before : Contains list p → Contains new p
  before k = subst (λ (v : List Place). Contains v p) (sym e) (Contains-append_left list (pushed ∷ []) p k)

  last : IsOf number state p → suc p.at < next + 1 → next ≤ suc p.at → Contains new p
  last of low high =
      let same_at : p.at ≡ at = omega (arith, low, high, follows) in
      let is_p : slice_get state.calls p.at ≡ Some call = ap (slice_get state.calls) same_at ∙ is_call in
      let dep : p.dep ≡ call.dep = sym of.departs ∙ departs_with state.key state.calls p.at of.connection call of.is is_p in
      let same : pushed ≡ p = same_parts pushed p (of_dep ∙ sym dep) (of_number ∙ sym of.of_number) (of_at ∙ sym same_at) in
      subst (Contains new) same (subst (λ (v : List Place). Contains v pushed) (sym e) (Contains-push list pushed))

  back : Contains old p ⊎ (IsOf number state p × (suc p.at < next + 1)) → Contains new p
  back (inl o) = before ((done p).1 (inl o))
  back (inr (of, low)) =
      ⊎_elim (λ (under : suc p.at < next). before ((done p).1 (inr (of, under)))) (λ (high : next ≤ suc p.at). last of low high) (cases_lt (suc p.at) next)

pub up_to_all : (number : ℕ) (state : State) (next : ℕ) (old new : List Place) → length state.calls ≤ next → HasUpTo number state next old new
    → (p : Place) → Contains new p ↔ (Contains old p ⊎ IsOf number state p)
up_to_all number state next old new past done p = (
  λ h. ⊎_elim (λ (o : Contains old p). inl o) (λ (n : IsOf number state p × (suc p.at < next)). inr n.0) ((done p).0 h),
  λ h. (done p).1 (⊎_elim (λ (o : Contains old p). inl o) (λ (of : IsOf number state p). inr (of, omega (arith, past, has_next state.key state.calls p.at of.connection of.is))) h),
)

-- a place that is pushed differs from those that are there
pub up_to_apart : (number : ℕ) (state : State) (next at : ℕ) (old list new : List Place) (pushed : Place) → suc at ≡ next → pushed.state ≡ number → pushed.at ≡ at → new ≡ list ++ pushed ∷ []
    → HasUpTo number state next old list → All (λ (p : Place). p.state < number) old → AreApart place_cmp list → AreApart place_cmp new
up_to_apart number state next at old list new pushed follows of_number of_at e done below apart =
    subst (AreApart place_cmp) (sym e)
    (AllPairs-append (λ p q. place_cmp p q ≢ Equal) list (pushed ∷ []) apart (λ i j d before inside. absurd (omega arith)) (λ p q in_p in_q tie.
    let one : pushed ≡ q = ⊎_elim (λ (same : pushed ≡ q). same) (λ (k : Contains [] q). absurd (Contains-nil q k)) (Contains-cases pushed [] q in_q) in
    let same : p ≡ pushed = place_exact p q tie ∙ sym one in
    ⊎_elim
    (λ (o : Contains old p). absurd (omega (arith, All-contains (λ (r : Place). r.state < number) old p below o, ap (λ (r : Place). r.state) same, of_number)))
    (λ (n : IsOf number state p × (suc p.at < next)). absurd (omega (arith, n.1, ap (λ (r : Place). r.at) same, of_at, follows)))
    ((done p).0 in_p)))

-- ---- the places of all states

-- a place of a state, by the state
pub record OfState (states : List State) (p : Place) (c : Connection) : Type 0 where
  pub state : State
  pub is : slice_get states p.state ≡ Some state
  pub connection : connection_of p.at state ≡ Some c

pub of_state : (states : List State) (p : Place) (c : Connection) → connection_at states p ≡ Some c → OfState states p c
of_state states p c e = go (slice_get states p.state) refl e where
  go : (o : Option State) → slice_get states p.state ≡ o → option_and_then (connection_of p.at) o ≡ Some c → OfState states p c
  go None is f = absurd (cc)
  go (Some s) is f = record { state = s; is = is; connection = f }

pub at_state : (states : List State) (p : Place) (c : Connection) (s : State) → slice_get states p.state ≡ Some s → connection_of p.at s ≡ Some c → connection_at states p ≡ Some c
at_state states p c s is e = ap (option_and_then (connection_of p.at)) is ∙ e

pub places_none : AreOfStates [] []
places_none p = (λ h. absurd (omega (arith, h.1)), λ of. absurd (let f = of.is in cc))

places_push : (states : List State) (s : State) (old new : List Place) → AreOfStates states old → ((p : Place) → Contains new p ↔ (Contains old p ⊎ IsOf (length states) s p)) → AreOfStates (states ++ s ∷ []) new
places_push states s old new done pushed p = (to, back) where
  to : Contains new p → IsOfStates (states ++ s ∷ []) p
  to h = elim ((pushed p).0 h) [
    | inl k ↦
        let of = (done p).0 k in
        let at = of_state states p of.connection of.is in
        record { connection = of.connection; is = at_state (states ++ s ∷ []) p of.connection at.state (get_before states (s ∷ []) p.state at.state at.is) at.connection; departs = of.departs }
    | inr of ↦
        let is : slice_get (states ++ s ∷ []) p.state ≡ Some s = ap (slice_get (states ++ s ∷ [])) of.of_number ∙ get_pushed states s in
        record { connection = of.connection; is = at_state (states ++ s ∷ []) p of.connection s is of.is; departs = of.departs }
  ]

  back : IsOfStates (states ++ s ∷ []) p → Contains new p
  back of =
      let at = of_state (states ++ s ∷ []) p of.connection of.is in
      elim (get_cases states s p.state at.state at.is) [
        | inl is ↦ (pushed p).1 (inl ((done p).1 (record { connection = of.connection; is = at_state states p of.connection at.state is at.connection; departs = of.departs })))
        | inr (last, same) ↦ (pushed p).1 (inr (record { of_number = last; connection = of.connection; is = ap (connection_of p.at) same ∙ at.connection; departs = of.departs }))
      ]

pub places_more : (states : List State) (k : ℕ) (s : State) (old new : List Place) → k < length states → s ≡ get_or states k s → AreOfStates (take k states) old
    → ((p : Place) → Contains new p ↔ (Contains old p ⊎ IsOf k s p)) → AreOfStates (take (k + 1) states) new
places_more states k s old new inside is done pushed =
    let long : k ≡ length (take k states) = omega (arith, length-take k states, inside) in
    let more = take_more states k s inside ∙ ap (λ (v : State). take k states ++ v ∷ []) (sym is) in
    subst (λ (v : List State). AreOfStates v new) (sym more)
    (places_push (take k states) s old new done (subst (λ (n : ℕ). (p : Place) → Contains new p ↔ (Contains old p ⊎ IsOf n s p)) long pushed))

-- the places of the states before this one
pub places_below : (states : List State) (k : ℕ) (places : List Place) → k < length states → AreOfStates (take k states) places → All (λ (p : Place). p.state < k) places
places_below states k places inside are = All-from_contains (λ (p : Place). p.state < k) places (λ p h.
    let of = (are p).0 h in
    let at = of_state (take k states) p of.connection of.is in
    omega (arith, length-take k states, inside, slice_get_within (take k states) p.state at.state at.is))

pub places_all : (states : List State) (k : ℕ) (places : List Place) → length states ≤ k → AreOfStates (take k states) places → AreOfStates states places
places_all states k places past done = subst (λ (v : List State). AreOfStates v places) (take_all k states past) done
