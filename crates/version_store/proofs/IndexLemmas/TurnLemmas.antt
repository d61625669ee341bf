-- A run of the newest version ends, and one begins. What is stored, and which runs there are then.
use Rattle.std.proofs.Common.{◌≡◌, ℕ, ◌<◌, ◌≤◌, ◌⊎◌, ◌↔◌, inl, inr, List, set, Bool, true, false, cond, Option, Some, None, refl, sym, ap, ◌∙◌, subst, rules, ⊎_elim}
use Rattle.std.specs.Prelude.{IsSome}
use Rattle.std.specs.List.{Contains, slice_get}
use Rattle.std.specs.Ordering.{is_eq}
use Rattle.std.specs.declared.cmp.Ordering.TheVariants.{Equal}
use Rattle.std.proofs.lemmas.Bool.{cases_Bool, cases_eq}
use Rattle.std.proofs.lemmas.Cmp.{tied_itself}
use Rattle.std.proofs.lemmas.List.Elements.{All-contains, All-set}
use Rattle.lc_model.specs.Call.{GoesForward}
use Rattle.lc_model.specs.RunKey.{key_cmp}
use Rattle.lc_model.specs.Totals.{key_cmp_total}
use Rattle.lc_model.specs.declared.connection.Connection.{Connection}
use Rattle.lc_model.specs.declared.key.RunKey.{RunKey}
use Rattle.lc_model.specs.declared.run.Run.{Run}
use Rattle.lc_model.proofs.KeyLemmas.{same_keys}
use Rattle.version_store.specs.Index.Gathered.{IsOfStates}
use Rattle.version_store.specs.Index.Inside.{AreApart, AreKept, AreOpen, IsOpenAt, IsPast}
use Rattle.version_store.specs.Index.Places.{connection_at, connection_of, shown}
use Rattle.version_store.specs.Index.Prepared.{BeginsRun, EndsRun, EndsState, Found, HasPlaces, HaveAlike, IsReady, KeepKeys, put_at}
use Rattle.version_store.specs.Index.Spans.{held, holds, run_of}
use Rattle.version_store.specs.Index.Turns.{begun, closed_state, ended}
use Rattle.version_store.specs.declared.index.place.Place.{Place}
use Rattle.version_store.specs.declared.index.prepare.Ready.{Ready}
use Rattle.version_store.specs.declared.index.state.State.{State}
use Rattle.version_store.proofs.IndexLemmas.BaseLemmas.{tie_from}
use Rattle.version_store.proofs.IndexLemmas.GatherLemmas.{at_state, of_state}
use Rattle.version_store.proofs.IndexLemmas.ShownLemmas.{Contains-slice_get, held_there, holding, shown_at, shown_from}
use Rattle.version_store.proofs.IndexLemmas.SpanLemmas.{begun_before, begun_from, begun_here, closed_gone, ended_before, ended_gone, ended_held, get_set_here, get_set_other, held_set, past_begun, past_ended, steady}

pub put_here : (key : RunKey) (value : Option ℕ) (found : Found) (q : RunKey) → key ≡ q → put_at key value found q ≡ Some value
put_here key value found q same =
    let tie : key_cmp key q ≡ Equal = ap (key_cmp key) (sym same) ∙ tied_itself key_cmp_total key in
    ap (λ o. cond (is_eq o) (Some value) (found q)) tie

pub put_other : (key : RunKey) (value : Option ℕ) (found : Found) (q : RunKey) → is_eq (key_cmp key q) ≡ false → put_at key value found q ≡ found q
put_other key value found q apart = ap (λ (b : Bool). cond b (Some value) (found q)) apart

-- a key is this one, or is distinguished from it
pub tied_or_not : (key q : RunKey) → (key ≡ q) ⊎ (is_eq (key_cmp key q) ≡ false)
tied_or_not key q = ⊎_elim (λ (e : is_eq (key_cmp key q) ≡ true). inl (same_keys key q (tie_from (key_cmp key q) e))) (λ (e : is_eq (key_cmp key q) ≡ false). inr e) (cases_Bool (is_eq (key_cmp key q)))

-- two numbers that are found at one key are one
one_found : (next : ℕ) (states : List State) (found : Found) (i j : ℕ) (s t : State) → AreOpen next states found → slice_get states i ≡ Some s → slice_get states j ≡ Some t
    → holds next s ≡ true → holds next t ≡ true → s.key ≡ t.key → i ≡ j
one_found next states found i j s t are is_s is_t here_s here_t same =
    let at_s : found s.key ≡ Some (Some i) = (are s.key i).1 (record { state = s; is = is_s; here = here_s; same_key = refl }) in
    let at_t : found t.key ≡ Some (Some j) = (are t.key j).1 (record { state = t; is = is_t; here = here_t; same_key = refl }) in
    let both : Some (Some i) ≡ Some (Some j) = sym at_s ∙ ap found same ∙ at_t in
    cc

-- ---- one state is another one of the same run

module _ (states : List State) (i : ℕ) (s t : State) (is_s : slice_get states i ≡ Some s) (one_run : run_of t ≡ run_of s) where
  -- a state of the new list is the new one, or is as it was
  is_new_or_was : (j : ℕ) (u : State) → slice_get (set states i t) j ≡ Some u → ((i ≡ j) × (t ≡ u)) ⊎ ((i ≡ j → ⊥) × (slice_get states j ≡ Some u))
  is_new_or_was j u e = elim (cases_eq i j) [
    | inl same ↦ let both : Some t ≡ Some u = sym (get_set_here states i s t is_s) ∙ ap (slice_get (set states i t)) same ∙ e in inl (same, cc)
    | inr apart ↦ inr (apart, sym (get_set_other states i j t apart) ∙ e)
  ]

  connection_same : (at : ℕ) → connection_of at t ≡ connection_of at s
  connection_same at = ap (λ (r : Run). connection_of at (closed_state r)) one_run

  still_there : (p : Place) (c : Connection) → connection_at states p ≡ Some c → connection_at (set states i t) p ≡ Some c
  still_there p c e =
      let of = of_state states p c e in
      elim (cases_eq i p.state) [
        | inl same ↦
            let both : Some s ≡ Some of.state = sym is_s ∙ ap (slice_get states) same ∙ of.is in
            let one : s ≡ of.state = cc in
            at_state (set states i t) p c t (ap (slice_get (set states i t)) (sym same) ∙ get_set_here states i s t is_s) (connection_same p.at ∙ ap (connection_of p.at) one ∙ of.connection)
        | inr apart ↦ at_state (set states i t) p c of.state (get_set_other states i p.state t apart ∙ of.is) of.connection
      ]

  still_of : (p : Place) → IsOfStates states p → IsOfStates (set states i t) p
  still_of p of = record { connection = of.connection; is = still_there p of.connection of.is; departs = of.departs }

-- ---- a run ends

module _ (next : ℕ) (states : List State) (places : List Place) (found : Found) (i : ℕ) (s : State) (kept : AreKept next states places found) (is_s : slice_get states i ≡ Some s) (here : holds next s ≡ true) where
  abbrev ends_in : List State
  ends_in = set states i (ended next s)

  -- what holds in the new list held at its place
  held_was : (version j : ℕ) (u : State) → slice_get ends_in j ≡ Some u → holds version u ≡ true → (v : State) × (slice_get states j ≡ Some v) × (holds version v ≡ true) × (run_of v ≡ run_of u)
  held_was version j u e holds_u = elim (is_new_or_was states i s (ended next s) is_s refl j u e) [
    | inl (same, one) ↦
        (s, ap (slice_get states) (sym same) ∙ is_s, ended_held version next s here (ap (holds version) one ∙ holds_u), ap run_of one)
    | inr (apart, was) ↦ (u, was, holds_u, refl)
  ]

  apart_then : AreApart ends_in
  apart_then version j k a b is_a is_b here_a here_b tie =
      let was_a = held_was version j a is_a here_a in
      let was_b = held_was version k b is_b here_b in
      kept.spans.apart version j k was_a.0 was_b.0 was_a.1 was_b.1 was_a.2 was_b.2
      (ap (λ (r : Run). key_cmp r.key was_b.0.key) was_a.3 ∙ ap (λ (r : Run). key_cmp a.key r.key) was_b.3 ∙ tie)

  shown_was : (version : ℕ) (p : Place) (c : Connection) → shown version ends_in p ≡ Some c → shown version states p ≡ Some c
  shown_was version p c e =
      let sh = shown_from version ends_in p c e in
      let was = held_was version p.state sh.state sh.is sh.here in
      shown_at version states p c (record { state = was.0; is = was.1; here = was.2; connection = ap (λ (r : Run). connection_of p.at (closed_state r)) was.3 ∙ sh.connection })

  open_then : AreOpen next ends_in (put_at s.key None found)
  open_then q n = (to, back) where
    to : put_at s.key None found q ≡ Some (Some n) → IsOpenAt next ends_in q n
    to e = elim (tied_or_not s.key q) [
      | inl same ↦ absurd (let f : Some None ≡ Some (Some n) = sym (put_here s.key None found q same) ∙ e in cc)
      | inr apart ↦
          let at = (kept.are_open q n).0 (sym (put_other s.key None found q apart) ∙ e) in
          elim (cases_eq i n) [
            | inl same ↦
                let both : Some s ≡ Some at.state = sym is_s ∙ ap (slice_get states) same ∙ at.is in
                let one : s ≡ at.state = cc in
                let keys : s.key ≡ q = ap (λ (v : State). v.key) one ∙ at.same_key in
                let tie : is_eq (key_cmp s.key q) ≡ true = ap is_eq (ap (key_cmp s.key) (sym keys) ∙ tied_itself key_cmp_total s.key) in
                absurd (let f : true ≡ false = sym tie ∙ apart in cc)
            | inr other ↦ record { state = at.state; is = get_set_other states i n (ended next s) other ∙ at.is; here = at.here; same_key = at.same_key }
          ]
    ]

    back : IsOpenAt next ends_in q n → put_at s.key None found q ≡ Some (Some n)
    back at = elim (is_new_or_was states i s (ended next s) is_s refl n at.state at.is) [
      | inl (same, one) ↦ absurd (ended_gone next s (ap (holds next) one ∙ at.here))
      | inr (other, was) ↦
          let old : found q ≡ Some (Some n) = (kept.are_open q n).1 (record { state = at.state; is = was; here = at.here; same_key = at.same_key }) in
          elim (tied_or_not s.key q) [
            | inl same ↦ absurd (other (one_found next states found i n s at.state kept.are_open is_s was here at.here (same ∙ sym at.same_key)))
            | inr apart ↦ put_other s.key None found q apart ∙ old
          ]
    ]

  pub end_kept : AreKept next ends_in places (put_at s.key None found)
  end_kept = record {
    spans = record {
      forward = All-set (λ (v : State). GoesForward v.calls) states i (ended next s) (All-contains (λ (v : State). GoesForward v.calls) states s kept.spans.forward (Contains-slice_get states i s is_s)) kept.spans.forward;
      apart = apart_then;
      placed = record {
        of_states = λ p h. still_of states i s (ended next s) is_s refl p (kept.spans.placed.of_states p h);
        there = λ version p c shows departs. kept.spans.placed.there version p c (shown_was version p c shows) departs;
      };
    };
    past = All-set (IsPast next) states i (ended next s) (past_ended next s (All-contains (IsPast next) states s kept.past (Contains-slice_get states i s is_s))) kept.past;
    are_open = open_then;
  }

  pub end_before : (version : ℕ) → version < next → held version ends_in ≡ held version states
  end_before version under = held_set version states i s (ended next s) is_s refl (ended_before version next s under here)

  pub end_now : (run : Run) → Contains (held next ends_in) run ↔ (Contains (held next states) run × (run.key ≡ s.key → ⊥))
  end_now run = (to, back) where
    to : Contains (held next ends_in) run → Contains (held next states) run × (run.key ≡ s.key → ⊥)
    to h =
        let at = holding next ends_in run h in
        elim (is_new_or_was states i s (ended next s) is_s refl at.at at.state at.is) [
          | inl (same, one) ↦ absurd (ended_gone next s (ap (holds next) one ∙ at.here))
          | inr (other, was) ↦ (
            subst (Contains (held next states)) at.same (held_there next states at.at at.state was at.here),
            λ keys. other (one_found next states found i at.at s at.state kept.are_open is_s was here at.here (sym keys ∙ ap (λ (r : Run). r.key) (sym at.same))),
          )
        ]

    back : Contains (held next states) run × (run.key ≡ s.key → ⊥) → Contains (held next ends_in) run
    back (h, other) =
        let at = holding next states run h in
        elim (cases_eq i at.at) [
          | inl same ↦
              let both : Some s ≡ Some at.state = sym is_s ∙ ap (slice_get states) same ∙ at.is in
              let one : s ≡ at.state = cc in
              absurd (other (sym (ap (λ (r : Run). r.key) at.same) ∙ sym (ap (λ (v : State). v.key) one)))
          | inr apart ↦ subst (Contains (held next ends_in)) at.same (held_there next ends_in at.at at.state (get_set_other states i at.at (ended next s) apart ∙ at.is) at.here)
        ]

  -- a state that is ready is another one
  pub ready_ended : (number : ℕ) (run : Run) → slice_get states number ≡ Some (closed_state run) → slice_get ends_in number ≡ Some (closed_state run)
  ready_ended number run is = elim (cases_eq i number) [
    | inl same ↦
        let both : Some s ≡ Some (closed_state run) = sym is_s ∙ ap (slice_get states) same ∙ is in
        let one : s ≡ closed_state run = cc in
        absurd (let f : true ≡ false = sym here ∙ ap (holds next) one ∙ closed_gone next run in cc)
    | inr apart ↦ get_set_other states i number (ended next s) apart ∙ is
  ]

-- ---- where no run has the key, nothing ends

pub none_kept : (next : ℕ) (states : List State) (places : List Place) (found : Found) (key : RunKey) → AreKept next states places found → ((n : ℕ) → found key ≡ Some (Some n) → ⊥)
    → AreKept next states places (put_at key None found)
none_kept next states places found key kept none = record { spans = kept.spans; past = kept.past; are_open = open_then } where
  open_then : AreOpen next states (put_at key None found)
  open_then q n = (to, back) where
    to : put_at key None found q ≡ Some (Some n) → IsOpenAt next states q n
    to e = elim (tied_or_not key q) [
      | inl same ↦ absurd (let f : Some None ≡ Some (Some n) = sym (put_here key None found q same) ∙ e in cc)
      | inr apart ↦ (kept.are_open q n).0 (sym (put_other key None found q apart) ∙ e)
    ]

    back : IsOpenAt next states q n → put_at key None found q ≡ Some (Some n)
    back at =
        let old : found q ≡ Some (Some n) = (kept.are_open q n).1 at in
        elim (tied_or_not key q) [
          | inl same ↦ absurd (none n (ap found same ∙ old))
          | inr apart ↦ put_other key None found q apart ∙ old
        ]

pub none_now : (next : ℕ) (states : List State) (places : List Place) (found : Found) (key : RunKey) → AreKept next states places found → ((n : ℕ) → found key ≡ Some (Some n) → ⊥)
    → (run : Run) → Contains (held next states) run ↔ (Contains (held next states) run × (run.key ≡ key → ⊥))
none_now next states places found key kept none run = (
  λ h.
      let at = holding next states run h in
      (h, λ keys. none at.at ((kept.are_open key at.at).1 (record { state = at.state; is = at.is; here = at.here; same_key = ap (λ (r : Run). r.key) at.same ∙ keys }))),
  λ h. h.0,
)

-- ---- a run begins

module _ (next : ℕ) (states : List State) (places : List Place) (found : Found) (i : ℕ) (run : Run) (kept : AreKept next states places found) (is_s : slice_get states i ≡ Some (closed_state run))
    (none : (n : ℕ) → found run.key ≡ Some (Some n) → ⊥) (has : HasPlaces i (closed_state run) places) where
  abbrev s : State
  s = closed_state run

  abbrev begins_in : List State
  begins_in = set states i (begun next s)

  not_here : (version : ℕ) → holds version s ≡ true → ⊥
  not_here version e = let f : true ≡ false = sym e ∙ closed_gone version run in cc

  -- no other state with the key holds from now on
  none_other : (version j : ℕ) (u : State) → slice_get states j ≡ Some u → holds version u ≡ true → next ≤ version → run.key ≡ u.key → ⊥
  none_other version j u is_u here_u after keys =
      let past = All-contains (IsPast next) states u kept.past (Contains-slice_get states j u is_u) in
      none j ((kept.are_open run.key j).1 (record { state = u; is = is_u; here = steady next version u past after here_u; same_key = sym keys }))

  new_apart : (version j : ℕ) (b : State) → slice_get states j ≡ Some b → holds version (begun next s) ≡ true → holds version b ≡ true → run.key ≡ b.key → ⊥
  new_apart version j b is_b here_a here_b keys = none_other version j b is_b here_b (begun_from version next s here_a) keys

  apart_begun : AreApart begins_in
  apart_begun version j k a b is_a is_b here_a here_b tie =
      let keys : a.key ≡ b.key = same_keys a.key b.key tie in
      elim (is_new_or_was states i s (begun next s) is_s refl j a is_a) [
        | inl (at_a, one_a) ↦ elim (is_new_or_was states i s (begun next s) is_s refl k b is_b) [
          | inl (at_b, one_b) ↦ sym at_a ∙ at_b
          | inr (other, was) ↦ absurd (new_apart version k b was (ap (holds version) one_a ∙ here_a) here_b (ap (λ (v : State). v.key) one_a ∙ keys))
        ]
        | inr (other_a, was_a) ↦ elim (is_new_or_was states i s (begun next s) is_s refl k b is_b) [
          | inl (at_b, one_b) ↦ absurd (new_apart version j a was_a (ap (holds version) one_b ∙ here_b) here_a (ap (λ (v : State). v.key) one_b ∙ sym keys))
          | inr (other_b, was_b) ↦ kept.spans.apart version j k a b was_a was_b here_a here_b tie
        ]
      ]

  there_then : (version : ℕ) (p : Place) (c : Connection) → shown version begins_in p ≡ Some c → c.dep ≡ p.dep → Contains places p
  there_then version p c e departs =
      let sh = shown_from version begins_in p c e in
      elim (is_new_or_was states i s (begun next s) is_s refl p.state sh.state sh.is) [
        | inl (at, one) ↦ has p (record { of_number = sym at; connection = c; is = ap (λ (v : State). connection_of p.at v) one ∙ sh.connection; departs = departs })
        | inr (other, was) ↦ kept.spans.placed.there version p c (shown_at version states p c (record { state = sh.state; is = was; here = sh.here; connection = sh.connection })) departs
      ]

  open_begun : AreOpen next begins_in (put_at run.key (Some i) found)
  open_begun q n = (to, back) where
    to : put_at run.key (Some i) found q ≡ Some (Some n) → IsOpenAt next begins_in q n
    to e = elim (tied_or_not run.key q) [
      | inl same ↦
          let both : Some (Some i) ≡ Some (Some n) = sym (put_here run.key (Some i) found q same) ∙ e in
          let at : i ≡ n = cc in
          record { state = begun next s; is = ap (slice_get begins_in) (sym at) ∙ get_set_here states i s (begun next s) is_s; here = begun_here next s; same_key = same }
      | inr apart ↦
          let at = (kept.are_open q n).0 (sym (put_other run.key (Some i) found q apart) ∙ e) in
          elim (cases_eq i n) [
            | inl same ↦
                let both : Some s ≡ Some at.state = sym is_s ∙ ap (slice_get states) same ∙ at.is in
                let one : s ≡ at.state = cc in
                absurd (not_here next (ap (holds next) one ∙ at.here))
            | inr other ↦ record { state = at.state; is = get_set_other states i n (begun next s) other ∙ at.is; here = at.here; same_key = at.same_key }
          ]
    ]

    back : IsOpenAt next begins_in q n → put_at run.key (Some i) found q ≡ Some (Some n)
    back at = elim (is_new_or_was states i s (begun next s) is_s refl n at.state at.is) [
      | inl (same, one) ↦ put_here run.key (Some i) found q (ap (λ (v : State). v.key) one ∙ at.same_key) ∙ ap (λ (m : ℕ). Some (Some m)) same
      | inr (other, was) ↦
          let old : found q ≡ Some (Some n) = (kept.are_open q n).1 (record { state = at.state; is = was; here = at.here; same_key = at.same_key }) in
          elim (tied_or_not run.key q) [
            | inl same ↦ absurd (none n (ap found same ∙ old))
            | inr apart ↦ put_other run.key (Some i) found q apart ∙ old
          ]
    ]

  pub begin_kept : AreKept next begins_in places (put_at run.key (Some i) found)
  begin_kept = record {
    spans = record {
      forward = All-set (λ (v : State). GoesForward v.calls) states i (begun next s) (All-contains (λ (v : State). GoesForward v.calls) states s kept.spans.forward (Contains-slice_get states i s is_s)) kept.spans.forward;
      apart = apart_begun;
      placed = record { of_states = λ p h. still_of states i s (begun next s) is_s refl p (kept.spans.placed.of_states p h); there = there_then };
    };
    past = All-set (IsPast next) states i (begun next s) (past_begun next s) kept.past;
    are_open = open_begun;
  }

  pub begin_before : (version : ℕ) → version < next → held version begins_in ≡ held version states
  begin_before version under = held_set version states i s (begun next s) is_s refl (begun_before version next s under ∙ sym (closed_gone version run))

  pub begin_now : (r : Run) → Contains (held next begins_in) r ↔ ((run ≡ r) ⊎ Contains (held next states) r)
  begin_now r = (to, back) where
    to : Contains (held next begins_in) r → (run ≡ r) ⊎ Contains (held next states) r
    to h =
        let at = holding next begins_in r h in
        elim (is_new_or_was states i s (begun next s) is_s refl at.at at.state at.is) [
          | inl (same, one) ↦ inl (ap run_of one ∙ at.same)
          | inr (other, was) ↦ inr (subst (Contains (held next states)) at.same (held_there next states at.at at.state was at.here))
        ]

    back : (run ≡ r) ⊎ Contains (held next states) r → Contains (held next begins_in) r
    back (inl same) = subst (Contains (held next begins_in)) same (held_there next begins_in i (begun next s) (get_set_here states i s (begun next s) is_s) (begun_here next s))
    back (inr h) =
        let at = holding next states r h in
        elim (cases_eq i at.at) [
          | inl same ↦
              let both : Some s ≡ Some at.state = sym is_s ∙ ap (slice_get states) same ∙ at.is in
              let one : s ≡ at.state = cc in
              absurd (not_here next (ap (holds next) one ∙ at.here))
          | inr apart ↦ subst (Contains (held next begins_in)) at.same (held_there next begins_in at.at at.state (get_set_other states i at.at (begun next s) apart ∙ at.is) at.here)
        ]

  -- a state that is ready under another key is another one
  pub ready_begun : (number : ℕ) (other : Run) → slice_get states number ≡ Some (closed_state other) → (other.key ≡ run.key → ⊥) → slice_get begins_in number ≡ Some (closed_state other)
  ready_begun number other is apart_keys = elim (cases_eq i number) [
    | inl same ↦
        let both : Some s ≡ Some (closed_state other) = sym is_s ∙ ap (slice_get states) same ∙ is in
        let one : s ≡ closed_state other = cc in
        absurd (apart_keys (sym (ap (λ (v : State). v.key) one)))
    | inr apart ↦ get_set_other states i number (begun next s) apart ∙ is
  ]

-- ---- the turns

-- what is found may be any that has the same numbers
kept_alike : (next : ℕ) (states : List State) (places : List Place) (found new : Found) → HaveAlike found new → AreKept next states places found → AreKept next states places new
kept_alike next states places found new alike kept = record {
  spans = kept.spans;
  past = kept.past;
  are_open = λ q n. (λ e. (kept.are_open q n).0 ((alike q n).0 e), λ at. (alike q n).1 ((kept.are_open q n).1 at));
}

alike_itself : (found : Found) → HaveAlike found found
alike_itself found q n = (λ e. e, λ e. e)

pub has_put : (key : RunKey) (value : Option ℕ) (found : Found) → KeepKeys found (put_at key value found)
has_put key value found q has = go (is_eq (key_cmp key q)) where
  go : (b : Bool) → IsSome (cond b (Some value) (found q))
  go true = search rules
  go false = has

pub end_turn : (next : ℕ) (key : RunKey) (states : List State) (places : List Place) (found : Found) (new : List State) (new_found : Found) → AreKept next states places found
    → EndsState next key found states new → HaveAlike (put_at key None found) new_found → KeepKeys found new_found → EndsRun next key states places found new places new_found
end_turn next key states places found new new_found kept ends alike keep = go (found key) refl where
  ready_then : (list : List State) → ((number : ℕ) (run : Run) → slice_get states number ≡ Some (closed_state run) → slice_get list number ≡ Some (closed_state run))
      → (r : Ready) (run : Run) → IsReady states places found r run → IsReady list places new_found r run
  ready_then list stands r run ready = record { stands = stands r.number run ready.stands; same_key = ready.same_key; has_key = keep run.key ready.has_key; has = ready.has }

  none : ((n : ℕ) → found key ≡ Some (Some n) → ⊥) → EndsRun next key states places found new places new_found
  none nothing =
      subst (λ (v : List State). EndsRun next key states places found v places new_found) (sym (ends.none nothing))
      (record {
        kept = kept_alike next states places (put_at key None found) new_found alike (none_kept next states places found key kept nothing);
        before = λ version under. refl;
        now = none_now next states places found key kept nothing;
        ready = ready_then states (λ number run is. is);
      })

  one : (n : ℕ) → found key ≡ Some (Some n) → EndsRun next key states places found new places new_found
  one n e =
      let at = (kept.are_open key n).0 e in
      let s = at.state in
      let list = set states n (ended next s) in
      let is : new ≡ list = ends.one n s e at.is in
      let there : AreKept next list places (put_at key None found) = subst (λ (k : RunKey). AreKept next list places (put_at k None found)) at.same_key (end_kept next states places found n s kept at.is at.here) in
      let now = subst (λ (k : RunKey). (run : Run) → Contains (held next list) run ↔ (Contains (held next states) run × (run.key ≡ k → ⊥))) at.same_key (end_now next states places found n s kept at.is at.here) in
      subst (λ (v : List State). EndsRun next key states places found v places new_found) (sym is)
      (record {
        kept = kept_alike next list places (put_at key None found) new_found alike there;
        before = end_before next states places found n s kept at.is at.here;
        now = now;
        ready = ready_then list (ready_ended next states places found n s kept at.is at.here);
      })

  go : (o : Option (Option ℕ)) → found key ≡ o → EndsRun next key states places found new places new_found
  go None e = none (λ n f. let g : None ≡ Some (Some n) = sym e ∙ f in absurd (cc))
  go (Some None) e = none (λ n f. let g : Some None ≡ Some (Some n) = sym e ∙ f in absurd (cc))
  go (Some (Some n)) e = one n e

put_twice : (key : RunKey) (value : Option ℕ) (found : Found) (q : RunKey) → put_at key value (put_at key None found) q ≡ put_at key value found q
put_twice key value found q = go (is_eq (key_cmp key q)) where
  go : (b : Bool) → cond b (Some value) (cond b (Some None) (found q)) ≡ cond b (Some value) (found q)
  go true = refl
  go false = refl

pub begin_turn : (next : ℕ) (run : Run) (ready : Ready) (states : List State) (places : List Place) (found : Found) (middle new : List State) (new_found : Found) → AreKept next states places found
    → IsReady states places found ready run → EndsState next ready.key found states middle → ((s : State) → slice_get middle ready.number ≡ Some s → new ≡ set middle ready.number (begun next s))
    → HaveAlike (put_at ready.key (Some ready.number) found) new_found → KeepKeys found new_found → BeginsRun next run states places found new places new_found
begin_turn next run ready states places found middle new new_found kept is_ready ends begins alike keep =
    let key = ready.key in
    let cleared = put_at key None found in
    let end = end_turn next key states places found middle cleared kept ends (alike_itself cleared) (has_put key None found) in
    let then = end.ready ready run is_ready in
    let nothing : (n : ℕ) → cleared run.key ≡ Some (Some n) → ⊥ = λ n e. let f : Some None ≡ Some (Some n) = sym (put_here key None found run.key is_ready.same_key) ∙ e in cc in
    let list = set middle ready.number (begun next (closed_state run)) in
    let is : new ≡ list = begins (closed_state run) then.stands in
    let put = put_at run.key (Some ready.number) cleared in
    let there : AreKept next list places put = begin_kept next middle places cleared ready.number run end.kept then.stands nothing then.has in
    let same : (q : RunKey) → put q ≡ put_at key (Some ready.number) found q =
    λ q. ap (λ (k : RunKey). put_at k (Some ready.number) cleared q) (sym is_ready.same_key) ∙ put_twice key (Some ready.number) found q in
    let both : HaveAlike put new_found = λ q n. (λ e. same q ∙ (alike q n).0 e, λ e. (alike q n).1 (sym (same q) ∙ e)) in
    let now = begin_now next middle places cleared ready.number run end.kept then.stands nothing then.has in
    subst (λ (v : List State). BeginsRun next run states places found v places new_found) (sym is)
    (record {
      kept = kept_alike next list places put new_found both there;
      before = λ version under. begin_before next middle places cleared ready.number run end.kept then.stands nothing then.has version under ∙ end.before version under;
      now = λ r. (
        λ h. ⊎_elim (λ (e : run ≡ r). inl e) (λ (k : Contains (held next middle) r). let m = (end.now r).0 k in inr (m.0, λ keys. m.1 (keys ∙ sym is_ready.same_key))) ((now r).0 h),
        λ h. (now r).1 (⊎_elim (λ (e : run ≡ r). inl e) (λ (k : Contains (held next states) r × (r.key ≡ run.key → ⊥)). inr ((end.now r).1 (k.0, λ keys. k.1 (keys ∙ is_ready.same_key)))) h),
      );
      ready = λ r other is_other apart.
          let moved = end.ready r other is_other in
          record {
            stands = ready_begun next middle places cleared ready.number run end.kept then.stands nothing then.has r.number other moved.stands apart;
            same_key = moved.same_key;
            has_key = keep other.key is_other.has_key;
            has = moved.has;
          };
    })
