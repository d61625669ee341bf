-- The runs of version 0: they hold in every version, and their numbers are at their keys.
use Rattle.std.proofs.Common.{◌≡◌, ℕ, ◌+◌, ◌<◌, ◌≤◌, ◌↔◌, ◌⊎◌, inl, inr, List, [], ◌∷◌, ◌++◌, length, get_or, map, Bool, true, cond, Option, Some, None, refl, sym, ap, ◌∙◌, subst, arith, ⊎_elim}
use Rattle.std.specs.Prelude.{◌&&◌, IfSome, IsSome, nat_le}
use Rattle.std.specs.BTreeMap.{BTreeMap, IsFromIterResult, get}
use Rattle.std.specs.List.{All, Contains, filter, slice_get}
use Rattle.std.specs.Ordering.{is_eq, ordering_reverse}
use Rattle.std.specs.declared.cmp.Ordering.{Ordering}
use Rattle.std.specs.declared.cmp.Ordering.TheVariants.{Equal, Greater, Less}
use Rattle.std.proofs.lemmas.Bool.{cases_lt, cases_order}
use Rattle.std.proofs.lemmas.Map.Lookups.{CmpEqualImpliesEq}
use Rattle.std.proofs.lemmas.Map.Views.{IfSome-btree_map_get_from_list, btree_map_contains_key_from_list}
use Rattle.std.proofs.lemmas.List.Elements.{All-map, Contains-append_left, Contains-push, Contains-push_cases}
use Rattle.std.proofs.lemmas.Cmp.{tied_itself}
use Rattle.std.proofs.lemmas.Option.{get_or_from_slice_get, slice_get_read, slice_get_within}
use Rattle.lc_model.specs.Call.{GoesForward}
use Rattle.lc_model.specs.Run.{InKeyOrder, RunsForward}
use Rattle.lc_model.specs.RunKey.{key_cmp}
use Rattle.lc_model.specs.Totals.{key_cmp_total}
use Rattle.lc_model.specs.declared.key.RunKey.{RunKey}
use Rattle.lc_model.specs.declared.run.Run.{Run}
use Rattle.lc_model.proofs.KeyLemmas.{same_keys}
use Rattle.lc_model.proofs.ListLemmas.{AllPairs-map, Contains-map, Contains-nil}
use Rattle.version_store.specs.Index.Base.{AreKeysInOrder, AreNumbered, HasNumbers, IsNumbered, base_state}
use Rattle.version_store.specs.Index.Gathered.{AreOfStates}
use Rattle.version_store.specs.Index.Inside.{AreApart, AreKept, AreOpen, ArePlaced, AreSpans, IsPast}
use Rattle.version_store.specs.Index.Spans.{held, holds, run_of}
use Rattle.version_store.specs.declared.index.place.Place.{Place}
use Rattle.version_store.specs.declared.index.state.State.{State}
use Rattle.version_store.proofs.IndexLemmas.ShownLemmas.{shown_is_there}

from_start : (version : ℕ) → nat_le 0 version ≡ true
from_start version = grind arith

-- a run that holds from version 0 on holds in each
base_holds : (version : ℕ) (run : Run) → holds version (base_state run) ≡ true
base_holds version run = ap (λ (b : Bool). b && true) (from_start version)

pub base_held : (version : ℕ) (runs : List Run) → held version (map base_state runs) ≡ runs
base_held version [] = refl
base_held version (run ∷ runs) =
    ap (λ (b : Bool). map run_of (cond b (base_state run ∷ filter (holds version) (map base_state runs)) (filter (holds version) (map base_state runs)))) (base_holds version run)
    ∙ ap (λ (v : List Run). run ∷ v) (base_held version runs)

pub keys_in_order : (runs : List Run) → InKeyOrder runs → AreKeysInOrder (map base_state runs)
keys_in_order runs up = AllPairs-map (λ (s t : State). key_cmp s.key t.key ≡ Less) base_state runs up

-- states in the order of their keys have different keys
one_key : (states : List State) (i j : ℕ) (s t : State) → AreKeysInOrder states → slice_get states i ≡ Some s → slice_get states j ≡ Some t → i < j → key_cmp s.key t.key ≡ Less
one_key states i j s t up is_s is_t before =
    let less : key_cmp (get_or states i s).key (get_or states j s).key ≡ Less = up i j s before (slice_get_within states j t is_t) in
    ap (λ (v : State). key_cmp v.key t.key) (sym (get_or_from_slice_get states i s s is_s)) ∙ ap (λ (v : State). key_cmp (get_or states i s).key v.key) (sym (get_or_from_slice_get states j t s is_t)) ∙ less

pub apart_in_order : (states : List State) → AreKeysInOrder states → AreApart states
apart_in_order states up version i j s t is_s is_t here_s here_t tie =
    elim (cases_order i j) [
      | inl e ↦ e
      | inr (inl before) ↦ let less = one_key states i j s t up is_s is_t before in absurd (let f : Less ≡ Equal = sym less ∙ tie in cc)
      | inr (inr after) ↦ absurd (behind after)
    ] where
      behind : j < i → ⊥
      behind after =
          let less = one_key states j i t s up is_t is_s after in
          let back = key_cmp_total.antisymm s.key t.key in
          let f : Equal ≡ ordering_reverse Less = sym tie ∙ back ∙ ap ordering_reverse less in
          cc

-- places that are exactly those of the states
pub placed_from : (states : List State) (places : List Place) → AreOfStates states places → ArePlaced states places
placed_from states places are = record {
  of_states = λ p h. (are p).0 h;
  there = λ version p c shows dep. (are p).1 (record { connection = c; is = shown_is_there version states p c shows; departs = dep });
}

pub base_spans : (runs : List Run) (states : List State) (places : List Place) → InKeyOrder runs → RunsForward runs → states ≡ map base_state runs → AreOfStates states places → AreSpans states places
base_spans runs states places up forward e are = record {
  forward = subst (All (λ (s : State). GoesForward s.calls)) (sym e) (All-map (λ (s : State). GoesForward s.calls) base_state runs forward);
  apart = subst AreApart (sym e) (apart_in_order (map base_state runs) (keys_in_order runs up));
  placed = placed_from states places are;
}

none_later : (run : Run) → IsPast 0 (base_state run)
none_later run = record { begins = omega arith; ends = λ end e. absurd (cc) }

pub base_past : (runs : List Run) (states : List State) → states ≡ map base_state runs → All (IsPast 0) states
base_past runs states e = subst (All (IsPast 0)) (sym e) (All-map (IsPast 0) base_state runs (λ k d inside. none_later (get_or runs k d)))

base_here : (version : ℕ) (runs : List Run) (states : List State) → states ≡ map base_state runs → All (λ (s : State). holds version s ≡ true) states
base_here version runs states e = subst (All (λ (s : State). holds version s ≡ true)) (sym e) (All-map (λ (s : State). holds version s ≡ true) base_state runs (λ k d inside. base_holds version (get_or runs k d)))

pub base_open : (runs : List Run) (states : List State) (numbers : BTreeMap RunKey (Option ℕ)) → states ≡ map base_state runs → AreNumbered states numbers → AreOpen 0 states (get key_cmp numbers)
base_open runs states numbers e are key i = (
  λ found.
      let of = (are key i).0 found in
      let here = subst (λ (v : State). holds 0 v ≡ true) (get_or_from_slice_get states i of.state of.state of.is) (base_here 0 runs states e i of.state (slice_get_within states i of.state of.is)) in
      record { state = of.state; is = of.is; here = here; same_key = of.same_key },
  λ at. (are key i).1 (record { state = at.state; is = at.is; same_key = at.same_key }),
)

pub base_kept : (runs : List Run) (states : List State) (places : List Place) (numbers : BTreeMap RunKey (Option ℕ)) → InKeyOrder runs → RunsForward runs → states ≡ map base_state runs
    → AreOfStates states places → AreNumbered states numbers → AreKept 0 states places (get key_cmp numbers)
base_kept runs states places numbers up forward e are numbered = record {
  spans = base_spans runs states places up forward e are;
  past = base_past runs states e;
  are_open = base_open runs states numbers e numbered;
}

-- a list of the same places has those of the states too
pub are_also : (states : List State) (list places : List Place) → AreOfStates states list → ((p : Place) → Contains places p ↔ Contains list p) → AreOfStates states places
are_also states list places are same p = (λ h. (are p).0 ((same p).0 h), λ of. (same p).1 ((are p).1 of))

-- ---- the numbers of states, one after the other

pub tie_from : (o : Ordering) → is_eq o ≡ true → o ≡ Equal
tie_from Less e = absurd (cc)
tie_from Equal e = refl
tie_from Greater e = absurd (cc)

-- the number of each state before this one is with its key
pub record HasUpTo (states : List State) (next : ℕ) (numbers : List (RunKey × Option ℕ)) : Type 0 where
  pub exactly : (key : RunKey) (n : ℕ) → Contains numbers (key, Some n) ↔ ((n < next) × IsNumbered states key n)
  pub none_lacks : (key : RunKey) → Contains numbers (key, None) → ⊥

pub none_numbered : (states : List State) (numbers : List (RunKey × Option ℕ)) → numbers ≡ [] → HasUpTo states 0 numbers
none_numbered states numbers e = record {
  exactly = λ key n. (λ h. absurd (Contains-nil (key, Some n) (subst (λ v. Contains v (key, Some n)) e h)), λ h. absurd (omega (arith, h.0)));
  none_lacks = λ key h. Contains-nil (key, None) (subst (λ v. Contains v (key, None)) e h);
}

pub numbered_more : (states : List State) (k : ℕ) (s : State) (key : RunKey) (number : ℕ) (old new : List (RunKey × Option ℕ)) → k < length states → s ≡ get_or states k s → key ≡ s.key → number ≡ k
    → new ≡ old ++ (key, Some number) ∷ [] → HasUpTo states k old → HasUpTo states (k + 1) new
numbered_more states k s key number old new inside is same_key same pushed done = record { exactly = λ q n. (to q n, back q n); none_lacks = lacks } where
  is_s : slice_get states k ≡ Some s
  is_s = slice_get_read states (length states) k s refl inside is

  in_new : (x : RunKey × Option ℕ) → Contains new x → Contains old x ⊎ ((key, Some number) ≡ x)
  in_new x h = Contains-push_cases old (key, Some number) x (subst (λ v. Contains v x) pushed h)

  was_old : (x : RunKey × Option ℕ) → Contains old x → Contains new x
  was_old x h = subst (λ v. Contains v x) (sym pushed) (Contains-append_left old ((key, Some number) ∷ []) x h)

  to : (q : RunKey) (n : ℕ) → Contains new (q, Some n) → (n < k + 1) × IsNumbered states q n
  to q n h = elim (in_new (q, Some n) h) [
    | inl o ↦ let was = (done.exactly q n).0 o in (omega (arith, was.0), was.1)
    | inr e ↦
        let keys : key ≡ q = ap (λ (x : RunKey × Option ℕ). x.0) e in
        let some : Some number ≡ Some n = ap (λ (x : RunKey × Option ℕ). x.1) e in
        let at : number ≡ n = cc in
        let here : k ≡ n = sym same ∙ at in
        (omega (arith, here), record { state = s; is = ap (slice_get states) (sym here) ∙ is_s; same_key = sym same_key ∙ keys })
  ]

  last : (q : RunKey) (n : ℕ) → n ≡ k → IsNumbered states q n → Contains new (q, Some n)
  last q n at of =
      let both : Some of.state ≡ Some s = sym of.is ∙ ap (slice_get states) at ∙ is_s in
      let one : of.state ≡ s = cc in
      let keys : key ≡ q = same_key ∙ ap (λ (v : State). v.key) (sym one) ∙ of.same_key in
      let there : Contains new (key, Some number) = subst (λ (v : List (RunKey × Option ℕ)). Contains v (key, Some number)) (sym pushed) (Contains-push old (key, Some number)) in
      let with_key : Contains new (q, Some number) = subst (λ (k : RunKey). Contains new (k, Some number)) keys there in
      subst (λ (m : ℕ). Contains new (q, Some m)) (same ∙ sym at) with_key

  back : (q : RunKey) (n : ℕ) → (n < k + 1) × IsNumbered states q n → Contains new (q, Some n)
  back q n (low, of) =
      ⊎_elim (λ (under : n < k). was_old (q, Some n) ((done.exactly q n).1 (under, of))) (λ (high : k ≤ n). last q n (omega (arith, low, high)) of) (cases_lt n k)

  lacks : (q : RunKey) → Contains new (q, None) → ⊥
  lacks q h = elim (in_new (q, None) h) [
    | inl o ↦ done.none_lacks q o
    | inr e ↦ let f : Some number ≡ None = ap (λ (x : RunKey × Option ℕ). x.1) e in cc
  ]

pub numbered_all : (states : List State) (next : ℕ) (numbers : List (RunKey × Option ℕ)) → length states ≤ next → HasUpTo states next numbers → HasNumbers states numbers
numbered_all states next numbers past done = record {
  exactly = λ key n. (λ h. ((done.exactly key n).0 h).1, λ (of : IsNumbered states key n). (done.exactly key n).1 (omega (arith, past, slice_get_within states n of.state of.is), of));
  none_lacks = done.none_lacks;
}

key_exact : CmpEqualImpliesEq key_cmp
key_exact a b e = same_keys a b e

-- a map that is made of the list
pub numbered_map : (states : List State) (list : List (RunKey × Option ℕ)) (numbers : BTreeMap RunKey (Option ℕ)) → AreKeysInOrder states → HasNumbers states list → IsFromIterResult key_cmp list numbers
    → AreNumbered states numbers
numbered_map states list numbers up has made key n = (to, λ of. back of (get key_cmp numbers key) refl) where
  found : IfSome (get key_cmp numbers key) (λ v. Contains list (key, v))
  found = IfSome-btree_map_get_from_list key_cmp_total key_exact list numbers made key

  to : get key_cmp numbers key ≡ Some (Some n) → IsNumbered states key n
  to e = (has.exactly key n).0 (subst (λ o. IfSome o (λ v. Contains list (key, v))) e found)

  one_number : (m : ℕ) → IsNumbered states key m → IsNumbered states key n → m ≡ n
  one_number m a b =
      let tie : key_cmp a.state.key b.state.key ≡ Equal = ap (λ k. key_cmp k b.state.key) (a.same_key ∙ sym b.same_key) ∙ tied_itself key_cmp_total b.state.key in
      elim (cases_order m n) [
        | inl e ↦ e
        | inr (inl before) ↦ let less = one_key states m n a.state b.state up a.is b.is before in absurd (let f : Less ≡ Equal = sym less ∙ tie in cc)
        | inr (inr after) ↦
            let less = one_key states n m b.state a.state up b.is a.is after in
            absurd (let f : Equal ≡ ordering_reverse Less = sym tie ∙ key_cmp_total.antisymm a.state.key b.state.key ∙ ap ordering_reverse less in cc)
      ]

  back : IsNumbered states key n → (o : Option (Option ℕ)) → get key_cmp numbers key ≡ o → get key_cmp numbers key ≡ Some (Some n)
  back of None e =
      let is_some = (btree_map_contains_key_from_list key_cmp_total key_exact list numbers made key).1 (Contains-map (λ (x : RunKey × Option ℕ). x.0) list (key, Some n) ((has.exactly key n).1 of)) in
      absurd (let f = subst IsSome e is_some in cc)
  back of (Some None) e = absurd (has.none_lacks key (subst (λ o. IfSome o (λ v. Contains list (key, v))) e found))
  back of (Some (Some m)) e =
      let there = (has.exactly key m).0 (subst (λ o. IfSome o (λ v. Contains list (key, v))) e found) in
      e ∙ ap (λ (i : ℕ). Some (Some i)) (one_number m there of)
