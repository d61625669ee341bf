-- Runs that end and begin one after the other, and what an update results in.
use Rattle.std.proofs.Common.{◌≡◌, ℕ, suc, ◌<◌, ◌≤◌, ◌⊎◌, inl, inr, List, [], ◌∷◌, ◌++◌, append_assoc, length, set, map, Bool, true, false, cond, Option, Some, None, Result, Ok, Err, refl, sym, ap, ◌∙◌, subst, arith, ⊎_elim}
use Rattle.std.specs.Prelude.{IsSome, OnErr, OnOk, is_some}
use Rattle.std.specs.BTreeMap.{BTreeMap, IsUnchanged, Updates, get}
use Rattle.std.specs.List.{All, AllZip, Contains, filter, slice_get}
use Rattle.std.specs.Map.{lookup}
use Rattle.std.specs.Ordering.{is_eq}
use Rattle.std.specs.declared.cmp.Ordering.TheVariants.{Equal, Less}
use Rattle.std.proofs.lemmas.Cmp.{tied_itself}
use Rattle.std.proofs.lemmas.List.{append-nil}
use Rattle.std.proofs.lemmas.List.Elements.{All-contains, All-head, All-tail, All-weaker, Contains-append_right, Contains-push, Contains-push_cases, Contains-append_left}
use Rattle.std.proofs.lemmas.Option.{slice_get_within}
use Rattle.lc_model.specs.Run.{InKeyOrder}
use Rattle.lc_model.specs.RunKey.{key_cmp}
use Rattle.lc_model.specs.Totals.{key_cmp_total}
use Rattle.lc_model.specs.declared.key.RunKey.{RunKey}
use Rattle.lc_model.specs.declared.run.Run.{Run}
use Rattle.lc_model.proofs.ListLemmas.{AllPairs-head, AllPairs-tail, Contains-cases, Contains-here, Contains-nil}
use Rattle.version_store.specs.Index.Inside.{AreKept, IsPast}
use Rattle.version_store.specs.Index.Prepared.{Carries, BeginsAll, BeginsRun, EndsAll, EndsRun, EndsState, Found, HaveAlike, IsReady, KeepKeys, put_at}
use Rattle.version_store.specs.Index.Spans.{held, holds, run_of}
use Rattle.version_store.specs.Index.Turns.{ended}
use Rattle.version_store.specs.Index.Updates.{AreAfter, IsLeft, NoneHas}
use Rattle.version_store.specs.declared.index.place.Place.{Place}
use Rattle.version_store.specs.declared.index.prepare.Ready.{Ready}
use Rattle.version_store.specs.declared.index.state.State.{State}
use Rattle.version_store.proofs.IndexLemmas.ShownLemmas.{Contains-slice_get}
use Rattle.version_store.proofs.IndexLemmas.SpanLemmas.{past_later, stays, steady}
use Rattle.version_store.proofs.IndexLemmas.TurnLemmas.{has_put, put_here, put_other, tied_or_not}

-- ---- a state ends

pub ends_one : (next : ℕ) (key : RunKey) (found : Found) (states new : List State) (place : ℕ) → found key ≡ Some (Some place)
    → ((s : State) → slice_get states place ≡ Some s → new ≡ set states place (ended next s)) → EndsState next key found states new
ends_one next key found states new place is ends = record {
  one = λ n s e at.
      let both : Some (Some place) ≡ Some (Some n) = sym is ∙ e in
      let same : place ≡ n = cc in
      ends s (ap (slice_get states) same ∙ at) ∙ ap (λ (m : ℕ). set states m (ended next s)) same;
  none = λ nothing. absurd (nothing place is);
}

pub ends_past : (next : ℕ) (key : RunKey) (found : Found) (states : List State) (place : ℕ) → found key ≡ Some (Some place) → length states ≤ place → EndsState next key found states states
ends_past next key found states place is past = record {
  one = λ n s e at.
      let both : Some (Some place) ≡ Some (Some n) = sym is ∙ e in
      let same : place ≡ n = cc in
      absurd (omega (arith, slice_get_within states n s at, past, same));
  none = λ nothing. refl;
}

pub ends_none : (next : ℕ) (key : RunKey) (found : Found) (states : List State) → ((n : ℕ) → found key ≡ Some (Some n) → ⊥) → EndsState next key found states states
ends_none next key found states nothing = record { one = λ n s e at. absurd (nothing n e); none = λ same. refl }

-- ---- a number is put at a key

-- what is found in a map that was not changed
same_found : (old new : BTreeMap RunKey (Option ℕ)) → new.entries ≡ old.entries → (q : RunKey) → get key_cmp new q ≡ get key_cmp old q
same_found old new e q = ap (lookup (λ (k : RunKey). is_eq (key_cmp q k))) e

pub put_alike : {A E : Type 0} (result : Result A E) (key : RunKey) (number : Option ℕ) (old new : BTreeMap RunKey (Option ℕ)) → OnOk result (Updates key_cmp old new key (Some number))
    → OnErr result (get key_cmp old key ≡ None) → OnErr result (IsUnchanged old new) → (number ≡ None) ⊎ IsSome (get key_cmp old key) → HaveAlike (put_at key number (get key_cmp old)) (get key_cmp new)
put_alike (Ok x) key number old new updates absent same either q n = (λ e. sym (updates.0 q) ∙ e, λ e. updates.0 q ∙ e)
put_alike (Err x) key number old new updates absent same (inr has) q n = absurd (let f : true ≡ false = sym has ∙ ap is_some absent in cc)
put_alike (Err x) key number old new updates absent same (inl none) q n = (to, back) where
  to : get key_cmp new q ≡ Some (Some n) → put_at key number (get key_cmp old) q ≡ Some (Some n)
  to e = elim (tied_or_not key q) [
    | inl tie ↦ absurd (let f : None ≡ Some (Some n) = sym absent ∙ ap (get key_cmp old) tie ∙ sym (same_found old new same q) ∙ e in cc)
    | inr apart ↦ put_other key number (get key_cmp old) q apart ∙ sym (same_found old new same q) ∙ e
  ]

  back : put_at key number (get key_cmp old) q ≡ Some (Some n) → get key_cmp new q ≡ Some (Some n)
  back e = elim (tied_or_not key q) [
    | inl tie ↦ absurd (let f : Some None ≡ Some (Some n) = ap Some (sym none) ∙ sym (put_here key number (get key_cmp old) q tie) ∙ e in cc)
    | inr apart ↦ same_found old new same q ∙ sym (put_other key number (get key_cmp old) q apart) ∙ e
  ]

pub put_stays : {A E : Type 0} (result : Result A E) (key : RunKey) (number : Option ℕ) (old new : BTreeMap RunKey (Option ℕ)) → OnOk result (Updates key_cmp old new key (Some number))
    → OnErr result (IsUnchanged old new) → KeepKeys (get key_cmp old) (get key_cmp new)
put_stays (Ok x) key number old new updates same q has = subst IsSome (sym (updates.0 q)) (has_put key number (get key_cmp old) q has)
put_stays (Err x) key number old new updates same q has = subst IsSome (sym (same_found old new same q)) has

-- ---- runs end one after the other

pub ends_all_none : (next : ℕ) (s : List State) (p : List Place) (f : Found) → AreKept next s p f → EndsAll next [] s p f s p f
ends_all_none next s p f kept = record {
  kept = kept;
  before = λ version under. refl;
  now = λ run. (λ h. (h, λ k. Contains-nil run.key k), λ h. h.0);
  ready = λ r run ready. ready;
}

pub ends_all_more : (next : ℕ) (keys : List RunKey) (key : RunKey) (s t u : List State) (p q r : List Place) (f g h : Found) → EndsAll next keys s p f t q g → EndsRun next key t q g u r h → EndsAll next (keys ++ key ∷ []) s p f u r h
ends_all_more next keys key s t u p q r f g h all one = record {
  kept = one.kept;
  before = λ version under. one.before version under ∙ all.before version under;
  now = λ run. (to run, back run);
  ready = λ x run ready. one.ready x run (all.ready x run ready);
} where
  to : (run : Run) → Contains (held next u) run → Contains (held next s) run × (Contains (keys ++ key ∷ []) run.key → ⊥)
  to run c =
      let a = (one.now run).0 c in
      let b = (all.now run).0 a.0 in
      (b.0, λ k. ⊎_elim (λ (e : Contains keys run.key). b.1 e) (λ (e : key ≡ run.key). a.1 (sym e)) (Contains-push_cases keys key run.key k))

  back : (run : Run) → Contains (held next s) run × (Contains (keys ++ key ∷ []) run.key → ⊥) → Contains (held next u) run
  back run c =
      (one.now run).1
      ((all.now run).1 (c.0, λ e. c.1 (Contains-append_left keys (key ∷ []) run.key e)), λ e. c.1 (subst (Contains (keys ++ key ∷ [])) (sym e) (Contains-push keys key)))

-- ---- runs begin one after the other

abbrev Less_keys : Run → Run → Type 0
Less_keys r s = key_cmp r.key s.key ≡ Less

keys_apart : (r s : Run) → Less_keys r s → r.key ≡ s.key → ⊥
keys_apart r s less same = let tie : key_cmp r.key s.key ≡ Equal = ap (key_cmp r.key) (sym same) ∙ tied_itself key_cmp_total r.key in let f : Less ≡ Equal = sym less ∙ tie in cc

earlier : (done : List Run) (run : Run) (rest : List Run) (r : Run) → InKeyOrder (done ++ run ∷ rest) → Contains done r → Less_keys r run
earlier [] run rest r up h = absurd (Contains-nil r h)
earlier (x ∷ done) run rest r up h = elim (Contains-cases x done r h) [
  | inl same ↦ subst (λ (v : Run). Less_keys v run) same (All-contains (Less_keys x) (done ++ run ∷ rest) run (AllPairs-head Less_keys x (done ++ run ∷ rest) up) (Contains-append_right done (run ∷ rest) run (Contains-here run rest)))
  | inr k ↦ earlier done run rest r (AllPairs-tail Less_keys x (done ++ run ∷ rest) up) k
]

from_here : (done ys : List Run) → InKeyOrder (done ++ ys) → InKeyOrder ys
from_here [] ys up = up
from_here (x ∷ done) ys up = from_here done ys (AllPairs-tail Less_keys x (done ++ ys) up)

pub later : (done : List Run) (run : Run) (rest : List Run) → InKeyOrder (done ++ run ∷ rest) → All (Less_keys run) rest
later done run rest up = AllPairs-head Less_keys run rest (from_here done (run ∷ rest) up)

pub begins_all_none : (next : ℕ) (s : List State) (p : List Place) (f : Found) → AreKept next s p f → BeginsAll next [] s s p f
begins_all_none next s p f kept = record {
  kept = kept;
  before = λ version under. refl;
  now = λ run. (
    λ h. inr (h, λ r k e. Contains-nil r k),
    λ h. ⊎_elim (λ (k : Contains [] run). absurd (Contains-nil run k)) (λ (k : Contains (held next s) run × NoneHas [] run.key). k.0) h,
  );
}

pub begins_all_more : (next : ℕ) (done : List Run) (run : Run) (rest : List Run) (s t u : List State) (q r : List Place) (g h : Found) → InKeyOrder (done ++ run ∷ rest) → BeginsAll next done s t q g
    → BeginsRun next run t q g u r h → BeginsAll next (done ++ run ∷ []) s u r h
begins_all_more next done run rest s t u q r g h up all one = record {
  kept = one.kept;
  before = λ version under. one.before version under ∙ all.before version under;
  now = λ x. (to x, back x);
} where
  here : Contains (done ++ run ∷ []) run
  here = Contains-push done run

  to_rest : (x : Run) → Contains (held next t) x × (x.key ≡ run.key → ⊥) → Contains (done ++ run ∷ []) x ⊎ (Contains (held next s) x × NoneHas (done ++ run ∷ []) x.key)
  to_rest x (c, apart) =
      ⊎_elim (λ (k : Contains done x). inl (Contains-append_left done (run ∷ []) x k))
      (λ (k : Contains (held next s) x × NoneHas done x.key).
      inr (k.0, λ y m e. ⊎_elim (λ (o : Contains done y). k.1 y o e) (λ (same : run ≡ y). apart (sym e ∙ sym (ap (λ (v : Run). v.key) same))) (Contains-push_cases done run y m)))
      ((all.now x).0 c)

  to : (x : Run) → Contains (held next u) x → Contains (done ++ run ∷ []) x ⊎ (Contains (held next s) x × NoneHas (done ++ run ∷ []) x.key)
  to x c = ⊎_elim (λ (same : run ≡ x). inl (subst (Contains (done ++ run ∷ [])) same here)) (λ (k : Contains (held next t) x × (x.key ≡ run.key → ⊥)). to_rest x k) ((one.now x).0 c)

  back : (x : Run) → Contains (done ++ run ∷ []) x ⊎ (Contains (held next s) x × NoneHas (done ++ run ∷ []) x.key) → Contains (held next u) x
  back x (inl k) =
      ⊎_elim (λ (o : Contains done x). (one.now x).1 (inr ((all.now x).1 (inl o), λ e. keys_apart x run (earlier done run rest x up o) e))) (λ (same : run ≡ x). (one.now x).1 (inl same)) (Contains-push_cases done run x k)
  back x (inr k) =
      (one.now x).1 (inr ((all.now x).1 (inr (k.0, λ y o e. k.1 y (Contains-append_left done (run ∷ []) y o) e)), λ e. k.1 run here (sym e)))

-- what is ready is ready still, under other keys
still_ready : (next : ℕ) (run : Run) (t u : List State) (q r : List Place) (g h : Found) → BeginsRun next run t q g u r h → (list : List Ready) (runs : List Run) → All (Less_keys run) runs
    → AllZip (IsReady t q g) list runs → AllZip (IsReady u r h) list runs
still_ready next run t u q r g h one [] [] up all = all
still_ready next run t u q r g h one [] (x ∷ runs) up all = all
still_ready next run t u q r g h one (y ∷ list) [] up all = all
still_ready next run t u q r g h one (y ∷ list) (x ∷ runs) up all = (
  one.ready y x all.0 (λ e. keys_apart run x (All-head (Less_keys run) x runs up) (sym e)),
  still_ready next run t u q r g h one list runs (All-tail (Less_keys run) x runs up) all.1,
)

-- some of the runs have begun, and the others are ready
pub record BeganSo (next : ℕ) (runs : List Run) (left : List Ready) (s t : List State) (q : List Place) (g : Found) : Type 0 where
  pub done : List Run
  pub rest : List Run
  pub is : done ++ rest ≡ runs
  pub ready : AllZip (IsReady t q g) left rest
  pub begins : BeginsAll next done s t q g

pub began_none : (next : ℕ) (runs : List Run) (list : List Ready) (s : List State) (p : List Place) (f : Found) → AreKept next s p f → AllZip (IsReady s p f) list runs → BeganSo next runs list s s p f
began_none next runs list s p f kept ready = record { done = []; rest = runs; is = refl; ready = ready; begins = begins_all_none next s p f kept }

pub began_more : (next : ℕ) (runs : List Run) (left then : List Ready) (x : Ready) (s t u : List State) (q r : List Place) (g h : Found) → left ≡ x ∷ then → InKeyOrder runs
    → ((run : Run) → AreKept next t q g → IsReady t q g x run → BeginsRun next run t q g u r h) → BeganSo next runs left s t q g → BeganSo next runs then s u r h
began_more next runs left then x s t u q r g h is up turns so = go so.rest so.is (subst (λ (v : List Ready). AllZip (IsReady t q g) v so.rest) is so.ready) where
  go : (rest : List Run) → so.done ++ rest ≡ runs → AllZip (IsReady t q g) (x ∷ then) rest → BeganSo next runs then s u r h
  go [] all zip = absurd zip
  go (run ∷ rest) all zip =
      let up_to : InKeyOrder (so.done ++ run ∷ rest) = subst InKeyOrder (sym all) up in
      let one = turns run so.begins.kept zip.0 in
      record {
        done = so.done ++ run ∷ [];
        rest = rest;
        is = append_assoc so.done (run ∷ []) rest ∙ all;
        ready = still_ready next run t u q r g h one then rest (later so.done run rest up_to) zip.1;
        begins = begins_all_more next so.done run rest s t u q r g h up_to so.begins one;
      }

pub began_all : (next : ℕ) (runs : List Run) (left : List Ready) (s t : List State) (q : List Place) (g : Found) → left ≡ [] → BeganSo next runs left s t q g → BeginsAll next runs s t q g
began_all next runs left s t q g none so = go so.rest so.is (subst (λ (v : List Ready). AllZip (IsReady t q g) v so.rest) none so.ready) where
  go : (rest : List Run) → so.done ++ rest ≡ runs → AllZip (IsReady t q g) [] rest → BeginsAll next runs s t q g
  go [] all zip = subst (λ (v : List Run). BeginsAll next v s t q g) (sym (append-nil so.done) ∙ all) so.begins
  go (run ∷ rest) all zip = absurd zip

-- ---- the next version

-- two tests that imply one another are one
one_test : (a b : Bool) → (a ≡ true → b ≡ true) → (b ≡ true → a ≡ true) → a ≡ b
one_test true b to back = sym (to refl)
one_test false true to back = back refl
one_test false false to back = refl

-- a version that is not made yet has the runs of the newest one
pub held_next : (newest next : ℕ) (states : List State) → newest ≤ next → All (IsPast newest) states → held next states ≡ held newest states
held_next newest next states after past = ap (map run_of) (same states past) where
  same : (states : List State) → All (IsPast newest) states → filter (holds next) states ≡ filter (holds newest) states
  same [] past = refl
  same (s ∷ states) past =
      let here = All-head (IsPast newest) s states past in
      let one : holds next s ≡ holds newest s = one_test (holds next s) (holds newest s) (steady newest next s here after) (stays newest next s here after) in
      ap (λ (b : Bool). cond b (s ∷ filter (holds next) states) (filter (holds next) states)) one
      ∙ ap (λ (v : List State). cond (holds newest s) (s ∷ v) v) (same states (All-tail (IsPast newest) s states past))

pub kept_next : (newest next : ℕ) (s : List State) (p : List Place) (f : Found) → next ≡ suc newest → AreKept newest s p f → AreKept next s p f
kept_next newest next s p f follows kept = record {
  spans = kept.spans;
  past = subst (λ (n : ℕ). All (IsPast n) s) (sym follows) (All-weaker (IsPast newest) (IsPast (suc newest)) (λ u past. past_later newest u past) s kept.past);
  are_open = λ key n. (
    λ e.
        let at = (kept.are_open key n).0 e in
        record { state = at.state; is = at.is; here = stays newest next at.state (past_at at.state n at.is) after at.here; same_key = at.same_key },
    λ at. (kept.are_open key n).1 (record { state = at.state; is = at.is; here = steady newest next at.state (past_at at.state n at.is) after at.here; same_key = at.same_key }),
  );
} where
  after : newest ≤ next
  after = omega (arith, follows)

  past_at : (u : State) (n : ℕ) → slice_get s n ≡ Some u → IsPast newest u
  past_at u n is = All-contains (IsPast newest) s u kept.past (Contains-slice_get s n u is)

-- what is ready is ready still once runs have ended
pub ready_ends : (next : ℕ) (keys : List RunKey) (s t : List State) (p q : List Place) (f g : Found) → EndsAll next keys s p f t q g → (list : List Ready) (runs : List Run) → AllZip (IsReady s p f) list runs → AllZip (IsReady t q g) list runs
ready_ends next keys s t p q f g ends [] [] all = all
ready_ends next keys s t p q f g ends [] (x ∷ runs) all = all
ready_ends next keys s t p q f g ends (y ∷ list) [] all = all
ready_ends next keys s t p q f g ends (y ∷ list) (x ∷ runs) all = (ends.ready y x all.0, ready_ends next keys s t p q f g ends list runs all.1)

module _ (newest next : ℕ) (keys : List RunKey) (begun : List Run) (s t u w : List State) (p q r z : List Place) (f g h i : Found) (follows : next ≡ suc newest) (kept : AreKept newest s p f)
    (carries : Carries s p f t q g) (ends : EndsAll next keys t q g u r h) (begins : BeginsAll next begun u w z i) where
  pub updated_before : (version : ℕ) → version ≤ newest → held version w ≡ held version s
  updated_before version low =
      let under : version < next = omega (arith, low, follows) in
      begins.before version under ∙ ends.before version under ∙ carries.same version

  start : held next t ≡ held newest s
  start = held_next newest next t (omega (arith, follows)) (carries.kept newest kept).past ∙ carries.same newest

  pub updated_after : AreAfter keys begun (held newest s) (held next w)
  updated_after run = (to, back) where
    to : Contains (held next w) run → Contains begun run ⊎ IsLeft keys begun (held newest s) run
    to c =
        ⊎_elim (λ (b : Contains begun run). inl b)
        (λ (b : Contains (held next u) run × NoneHas begun run.key).
        let e = (ends.now run).0 b.0 in
        inr (record { was = subst (λ (v : List Run). Contains v run) start e.0; stays = e.1; alone = b.1 }))
        ((begins.now run).0 c)

    back : Contains begun run ⊎ IsLeft keys begun (held newest s) run → Contains (held next w) run
    back (inl b) = (begins.now run).1 (inl b)
    back (inr left) = (begins.now run).1 (inr ((ends.now run).1 (subst (λ (v : List Run). Contains v run) (sym start) left.was, left.stays), left.alone))
