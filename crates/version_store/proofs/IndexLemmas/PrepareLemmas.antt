-- A run that holds in no version is added with its places. What was stored is stored, and no version shows it.
use Rattle.std.proofs.Common.{Result, Ok, Err, ◌≡◌, ℕ, ◌⊎◌, ◌↔◌, inl, inr, List, [], ◌∷◌, ◌++◌, append_assoc, length, map, Bool, true, false, cond, Some, None, refl, sym, ap, ◌∙◌, subst, arith, ⊎_elim}
use Rattle.std.specs.Prelude.{IsSome, OnOk, is_some}
use Rattle.std.specs.List.{AllZip, Contains, filter, slice_get}
use Rattle.std.proofs.lemmas.List.{append-nil}
use Rattle.std.proofs.lemmas.List.Elements.{All-push}
use Rattle.lc_model.specs.Call.{GoesForward}
use Rattle.lc_model.specs.declared.connection.Connection.{Connection}
use Rattle.lc_model.specs.declared.key.RunKey.{RunKey}
use Rattle.lc_model.specs.declared.run.Run.{Run}
use Rattle.lc_model.proofs.ListLemmas.{Contains-cases, Contains-here, Contains-nil, Contains-there}
use Rattle.version_store.specs.Index.Gathered.{IsOf, IsOfStates}
use Rattle.version_store.specs.Index.Inside.{AreApart, AreKept, ArePlaced, IsPast}
use Rattle.version_store.specs.Index.Places.{shown}
use Rattle.version_store.specs.Index.Prepared.{Carries, Found, HasPlaces, HaveAlike, IsReady, KeepKeys, PutsState, put_at}
use Rattle.version_store.specs.Index.Spans.{held, holds, run_of}
use Rattle.version_store.specs.Index.Turns.{closed_state}
use Rattle.version_store.specs.declared.index.place.Place.{Place}
use Rattle.version_store.specs.declared.index.prepare.Ready.{Ready}
use Rattle.version_store.specs.declared.index.state.State.{State}
use Rattle.version_store.proofs.IndexLemmas.GatherLemmas.{at_state, get_before, get_cases, get_pushed, of_state}
use Rattle.version_store.proofs.IndexLemmas.ShownLemmas.{shown_at, shown_from}
use Rattle.version_store.proofs.IndexLemmas.SpanLemmas.{closed_gone, past_closed}
use Rattle.version_store.proofs.IndexLemmas.TurnLemmas.{has_put, put_here, put_other, tied_or_not}

pub carries_nothing : (states : List State) (places : List Place) (found : Found) → Carries states places found states places found
carries_nothing states places found = record { kept = λ newest kept. kept; same = λ version. refl; ready = λ r run ready. ready }

pub carries_then : (s t u : List State) (p q r : List Place) (f g h : Found) → Carries s p f t q g → Carries t q g u r h → Carries s p f u r h
carries_then s t u p q r f g h a b = record {
  kept = λ newest kept. b.kept newest (a.kept newest kept);
  same = λ version. b.same version ∙ a.same version;
  ready = λ x run ready. b.ready x run (a.ready x run ready);
}

-- a key more, or none
pub carries_key : (states : List State) (places : List Place) (found new : Found) → HaveAlike found new → KeepKeys found new → Carries states places found states places new
carries_key states places found new same stays = record {
  kept = λ newest kept. record {
    spans = kept.spans;
    past = kept.past;
    are_open = λ k n. (λ e. (kept.are_open k n).0 ((same k n).0 e), λ at. (same k n).1 ((kept.are_open k n).1 at));
  };
  same = λ version. refl;
  ready = λ r run ready. record { stands = ready.stands; same_key = ready.same_key; has_key = stays run.key ready.has_key; has = ready.has };
}

-- the states with a run that holds in no version
pub held_push : (version : ℕ) (states : List State) (run : Run) → held version (states ++ closed_state run ∷ []) ≡ held version states
held_push version [] run = ap (λ (b : Bool). map run_of (cond b (closed_state run ∷ []) [])) (closed_gone version run)
held_push version (s ∷ states) run = go (holds version s) (held_push version states run) where
  go : (b : Bool) → held version (states ++ closed_state run ∷ []) ≡ held version states → map run_of (cond b (s ∷ filter (holds version) (states ++ closed_state run ∷ [])) (filter (holds version) (states ++ closed_state run ∷ []))) ≡ map run_of (cond b (s ∷ filter (holds version) states) (filter (holds version) states))
  go true rest = ap (λ (v : List Run). run_of s ∷ v) rest
  go false rest = rest

module _ (states : List State) (places new : List Place) (found : Found) (run : Run) (forward : GoesForward run.calls)
    (stay : (p : Place) → Contains places p → Contains new p) (only : (p : Place) → Contains new p → Contains places p ⊎ IsOf (length states) (closed_state run) p) where
  abbrev extended : List State
  extended = states ++ closed_state run ∷ []

  -- a state that holds was there
  was : (version i : ℕ) (s : State) → slice_get extended i ≡ Some s → holds version s ≡ true → slice_get states i ≡ Some s
  was version i s e here = elim (get_cases states (closed_state run) i s e) [
    | inl is ↦ is
    | inr (at, same) ↦ absurd (let f : true ≡ false = sym here ∙ ap (holds version) (sym same) ∙ closed_gone version run in cc)
  ]

  old_place : (p : Place) → IsOfStates states p → IsOfStates extended p
  old_place p of =
      let at = of_state states p of.connection of.is in
      record { connection = of.connection; is = at_state extended p of.connection at.state (get_before states (closed_state run ∷ []) p.state at.state at.is) at.connection; departs = of.departs }

  new_place : (p : Place) → IsOf (length states) (closed_state run) p → IsOfStates extended p
  new_place p of = record {
    connection = of.connection;
    is = at_state extended p of.connection (closed_state run) (ap (slice_get extended) of.of_number ∙ get_pushed states (closed_state run)) of.is;
    departs = of.departs;
  }

  apart_more : AreApart states → AreApart extended
  apart_more apart version i j s t is_s is_t here_s here_t tie = apart version i j s t (was version i s is_s here_s) (was version j t is_t here_t) here_s here_t tie

  there_more : ArePlaced states places → (version : ℕ) (p : Place) (c : Connection) → shown version extended p ≡ Some c → c.dep ≡ p.dep → Contains new p
  there_more placed version p c e departs =
      let sh = shown_from version extended p c e in
      stay p (placed.there version p c (shown_at version states p c (record { state = sh.state; is = was version p.state sh.state sh.is sh.here; here = sh.here; connection = sh.connection })) departs)

  kept_more : (newest : ℕ) → AreKept newest states places found → AreKept newest extended new found
  kept_more newest kept = record {
    spans = record {
      forward = All-push (λ (s : State). GoesForward s.calls) states (closed_state run) kept.spans.forward forward;
      apart = apart_more kept.spans.apart;
      placed = record {
        of_states = λ p h. ⊎_elim (λ (o : Contains places p). old_place p (kept.spans.placed.of_states p o)) (λ (of : IsOf (length states) (closed_state run) p). new_place p of) (only p h);
        there = there_more kept.spans.placed;
      };
    };
    past = All-push (IsPast newest) states (closed_state run) kept.past (past_closed newest run);
    are_open = λ k n. (
      λ e.
          let at = (kept.are_open k n).0 e in
          record { state = at.state; is = get_before states (closed_state run ∷ []) n at.state at.is; here = at.here; same_key = at.same_key },
      λ at. (kept.are_open k n).1 (record { state = at.state; is = was newest n at.state at.is at.here; here = at.here; same_key = at.same_key }),
    );
  }

  pub carries_more : Carries states places found extended new found
  carries_more = record {
    kept = kept_more;
    same = λ version. held_push version states run;
    ready = λ r other ready. record {
      stands = get_before states (closed_state run ∷ []) r.number (closed_state other) ready.stands;
      same_key = ready.same_key;
      has_key = ready.has_key;
      has = λ p of. stay p (ready.has p of);
    };
  }

-- the state of a run more, or none, and what there is of its places
pub carries_state : (number : ℕ) (run : Run) (states new : List State) (places more : List Place) (found : Found) → number ≡ length states → GoesForward run.calls → PutsState number run states places new more
    → Carries states places found new more found
carries_state number run states new places more found at forward puts = ⊎_elim unchanged pushed puts.pushed where
  unchanged : (new ≡ states) × (more ≡ places) → Carries states places found new more found
  unchanged same =
      subst (λ (v : List State). Carries states places found v more found) (sym same.0)
      (subst (λ (v : List Place). Carries states places found states v found) (sym same.1) (carries_nothing states places found))

  pushed : new ≡ states ++ closed_state run ∷ [] → Carries states places found new more found
  pushed same =
      subst (λ (v : List State). Carries states places found v more found) (sym same)
      (carries_more states places more found run forward puts.stay (λ p h. ⊎_elim (λ (o : Contains places p). inl o) (λ of. inr (subst (λ (n : ℕ). IsOf n (closed_state run) p) at of)) (puts.only p h)))

-- ---- a key more

module _ (key : RunKey) (found new : Found) (put : (q : RunKey) → new q ≡ put_at key None found q) (lacks : is_some (found key) ≡ false) where
  was_none : (n : ℕ) → found key ≡ Some (Some n) → ⊥
  was_none n e = let f : true ≡ false = sym (ap is_some e) ∙ lacks in cc

  pub key_alike : HaveAlike found new
  key_alike q n = (to, back) where
    to : new q ≡ Some (Some n) → found q ≡ Some (Some n)
    to e = elim (tied_or_not key q) [
      | inl same ↦ absurd (let f : Some None ≡ Some (Some n) = sym (put_here key None found q same) ∙ sym (put q) ∙ e in cc)
      | inr apart ↦ sym (put_other key None found q apart) ∙ sym (put q) ∙ e
    ]

    back : found q ≡ Some (Some n) → new q ≡ Some (Some n)
    back e = elim (tied_or_not key q) [
      | inl same ↦ absurd (was_none n (ap found same ∙ e))
      | inr apart ↦ put q ∙ put_other key None found q apart ∙ e
    ]

  pub key_stays : KeepKeys found new
  key_stays q has = subst IsSome (sym (put q)) (has_put key None found q has)

-- ---- places more

-- some of the places of a list were put beside those of a set, and these are left
pub record PutsSome (old new more left : List Place) : Type 0 where
  pub stay : (p : Place) → Contains old p → Contains new p
  pub only : (p : Place) → Contains new p → Contains old p ⊎ Contains more p
  pub all : (p : Place) → Contains more p → Contains new p ⊎ Contains left p
  pub of_more : (p : Place) → Contains left p → Contains more p

pub puts_none : (old more : List Place) → PutsSome old old more more
puts_none old more = record { stay = λ p h. h; only = λ p h. inl h; all = λ p h. inr h; of_more = λ p h. h }

pub puts_one : (old now new more left next : List Place) (place : Place) → left ≡ place ∷ next → ((q : Place) → Contains new q ↔ ((place ≡ q) ⊎ Contains now q)) → PutsSome old now more left → PutsSome old new more next
puts_one old now new more left next place is added puts = record {
  stay = λ p h. (added p).1 (inr (puts.stay p h));
  only = λ p h. ⊎_elim (λ (same : place ≡ p). inr (puts.of_more p (in_left p (inl same)))) (λ (k : Contains now p). puts.only p k) ((added p).0 h);
  all = λ p h. ⊎_elim (λ (k : Contains now p). inl ((added p).1 (inr k))) (λ (k : Contains left p). in_next p (Contains-cases place next p (subst (λ (v : List Place). Contains v p) is k))) (puts.all p h);
  of_more = λ p h. puts.of_more p (in_left p (inr h));
} where
  in_left : (p : Place) → (place ≡ p) ⊎ Contains next p → Contains left p
  in_left p (inl same) = subst (λ (v : List Place). Contains v p) (sym is) (subst (Contains (place ∷ next)) same (Contains-here place next))
  in_left p (inr h) = subst (λ (v : List Place). Contains v p) (sym is) (Contains-there place next p h)

  in_next : (p : Place) → (place ≡ p) ⊎ Contains next p → Contains new p ⊎ Contains next p
  in_next p (inl same) = inl ((added p).1 (inl same))
  in_next p (inr h) = inr h

pub puts_all : (old new more left : List Place) → left ≡ [] → PutsSome old new more left → (p : Place) → Contains more p → Contains new p
puts_all old new more left none puts p h =
    ⊎_elim (λ (k : Contains new p). k) (λ (k : Contains left p). absurd (Contains-nil p (subst (λ (v : List Place). Contains v p) none k))) (puts.all p h)

-- the places of one state alone
pub only_new : (number : ℕ) (state : State) (old new : List Place) → old ≡ [] → ((p : Place) → Contains new p ↔ (Contains old p ⊎ IsOf number state p)) → (p : Place) → Contains new p ↔ IsOf number state p
only_new number state old new none pushed p = (
  λ h. ⊎_elim (λ (k : Contains old p). absurd (Contains-nil p (subst (λ (v : List Place). Contains v p) none k))) (λ (of : IsOf number state p). of) ((pushed p).0 h),
  λ of. (pushed p).1 (inr of),
)

-- ---- runs one after the other

pub nothing_left : {X : Type 0} (xs : List X) (n : ℕ) → n ≡ length xs → n ≡ 0 → xs ≡ []
nothing_left [] n long none = refl
nothing_left (x ∷ xs) n long none = absurd (omega (arith, long, none))

-- what was ready is ready still
pub ready_still : (s t : List State) (p q : List Place) (f g : Found) → Carries s p f t q g → (list : List Ready) (runs : List Run) → AllZip (IsReady s p f) list runs → AllZip (IsReady t q g) list runs
ready_still s t p q f g carries [] [] all = all
ready_still s t p q f g carries [] (run ∷ runs) all = all
ready_still s t p q f g carries (r ∷ list) [] all = all
ready_still s t p q f g carries (r ∷ list) (run ∷ runs) all = (carries.ready r run all.0, ready_still s t p q f g carries list runs all.1)

pub one_more : {X : Type 0} (done rest next all : List X) (x : X) → rest ≡ x ∷ next → done ++ rest ≡ all → (done ++ x ∷ []) ++ next ≡ all
one_more done rest next all x is done_is = append_assoc done (x ∷ []) next ∙ ap (λ v. done ++ v) (sym is) ∙ done_is

pub no_more : {X : Type 0} (done rest all : List X) → rest ≡ [] → done ++ rest ≡ all → done ≡ all
no_more done rest all none done_is = sym (append-nil done) ∙ ap (λ v. done ++ v) (sym none) ∙ done_is

pub ready_push : (s : List State) (p : List Place) (f : Found) (list new : List Ready) (runs : List Run) (r : Ready) (run : Run) → new ≡ list ++ r ∷ [] → AllZip (IsReady s p f) list runs → IsReady s p f r run
    → AllZip (IsReady s p f) new (runs ++ run ∷ [])
ready_push s p f list new runs r run is all ready = subst (λ (v : List Ready). AllZip (IsReady s p f) v (runs ++ run ∷ [])) (sym is) (zip_push list runs all) where
  zip_push : (list : List Ready) (runs : List Run) → AllZip (IsReady s p f) list runs → AllZip (IsReady s p f) (list ++ r ∷ []) (runs ++ run ∷ [])
  zip_push [] [] all = (ready, tt)
  zip_push [] (x ∷ runs) all = absurd all
  zip_push (x ∷ list) [] all = absurd all
  zip_push (x ∷ list) (y ∷ runs) all = (all.0, zip_push list runs all.1)

-- a run whose state was pushed, and whose places and key are there, is ready
pub ready_put : {A E : Type 0} (result : Result A E) (number : ℕ) (run : Run) (states new : List State) (places : List Place) (found : Found) → number ≡ length states → IsSome (found run.key)
    → OnOk result (new ≡ states ++ closed_state run ∷ []) → OnOk result (HasPlaces number (closed_state run) places) → OnOk result (IsReady new places found (record { key = run.key; number = number }) run)
ready_put (Ok x) number run states new places found at has_key pushed has = record {
  stands = ap (slice_get new) at ∙ ap (λ (v : List State). slice_get v (length states)) pushed ∙ get_pushed states (closed_state run);
  same_key = refl;
  has_key = has_key;
  has = has;
}
ready_put (Err e) number run states new places found at has_key pushed has = tt
