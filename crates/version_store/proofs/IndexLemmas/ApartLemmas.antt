-- No two places show connections that tie, and no two runs that hold in one version have one key.
use Rattle.std.proofs.Common.{◌≡◌, ◌≢◌, ℕ, suc, ◌<◌, inl, inr, List, [], ◌∷◌, get_or, map, Bool, true, false, cond, Option, Some, None, refl, sym, ap, ◌∙◌, subst, arith}
use Rattle.std.specs.List.{All, AllPairs, Contains, cons_option, filter, filter_map, slice_get}
use Rattle.std.specs.Ordering.{nat_cmp, ordering_then}
use Rattle.std.specs.declared.cmp.Ordering.TheVariants.{Equal}
use Rattle.std.proofs.lemmas.Bool.{cases_order}
use Rattle.std.proofs.lemmas.Cmp.{tied_itself}
use Rattle.std.proofs.lemmas.List.Elements.{All-contains}
use Rattle.std.proofs.lemmas.List.Kept.{AllPairs-cons}
use Rattle.std.proofs.lemmas.Option.{get_or_from_slice_get, slice_get_within}
use Rattle.lc_model.specs.Call.{GoesForward, InSequence}
use Rattle.lc_model.specs.Connection.{connection_between, departure_cmp}
use Rattle.lc_model.specs.RunKey.{key_cmp}
use Rattle.lc_model.specs.declared.call.Call.{Call}
use Rattle.lc_model.specs.declared.connection.Connection.{Connection}
use Rattle.lc_model.specs.declared.key.RunKey.{RunKey}
use Rattle.lc_model.specs.declared.run.Run.{Run}
use Rattle.lc_model.proofs.ConnectionLemmas.{tied_parts}
use Rattle.lc_model.proofs.ListLemmas.{All-from_contains, AllPairs-head, AllPairs-nil, AllPairs-tail, Contains-here, Contains-there}
use Rattle.lc_model.proofs.SearchLemmas.{both_tie}
use Rattle.version_store.specs.Index.Inside.{AreApart}
use Rattle.version_store.specs.Index.Places.{between, connection_at, place_cmp, shown}
use Rattle.version_store.specs.Index.Spans.{held, holds, run_of}
use Rattle.version_store.specs.declared.index.place.Place.{Place}
use Rattle.version_store.specs.declared.index.state.State.{State}
use Rattle.version_store.proofs.IndexLemmas.PlaceLemmas.{place_cmp_total, same_number, same_parts}
use Rattle.version_store.proofs.IndexLemmas.ShownLemmas.{Contains-slice_get, Gives-filter_map, holding, shown_from, shown_is_there}

-- the call that a connection leaves
record Leaves (key : RunKey) (calls : List Call) (at : ℕ) (c : Connection) : Type 0 where
  call : Call
  is : slice_get calls at ≡ Some call
  same_key : c.key ≡ key
  same_seq : c.seq ≡ call.seq

leaves : (key : RunKey) (calls : List Call) (at : ℕ) (c : Connection) → between key (slice_get calls at) (slice_get calls (suc at)) ≡ Some c → Leaves key calls at c
leaves key calls at c e = go (slice_get calls at) (slice_get calls (suc at)) refl e where
  go : (from to : Option Call) → slice_get calls at ≡ from → between key from to ≡ Some c → Leaves key calls at c
  go None to is f = absurd (cc)
  go (Some from) None is f = absurd (cc)
  go (Some from) (Some to) is f =
      let same : connection_between key from to ≡ c = cc in
      record { call = from; is = is; same_key = sym (ap (λ (d : Connection). d.key) same); same_seq = sym (ap (λ (d : Connection). d.seq) same) }

-- calls of one sequence are at one place
one_place : (calls : List Call) (i j : ℕ) (a b : Call) → InSequence calls → slice_get calls i ≡ Some a → slice_get calls j ≡ Some b → a.seq ≡ b.seq → i ≡ j
one_place calls i j a b rise is_a is_b same =
    let in_i = slice_get_within calls i a is_a in
    let in_j = slice_get_within calls j b is_b in
    elim (cases_order i j) [
      | inl e ↦ e
      | inr (inl before) ↦
          let up : (get_or calls i a).seq < (get_or calls j a).seq = rise i j a before in_j in
          absurd (omega (arith, up, ap (λ (c : Call). c.seq) (get_or_from_slice_get calls i a a is_a), ap (λ (c : Call). c.seq) (get_or_from_slice_get calls j b a is_b), same))
      | inr (inr after) ↦
          let up : (get_or calls j a).seq < (get_or calls i a).seq = rise j i a after in_i in
          absurd (omega (arith, up, ap (λ (c : Call). c.seq) (get_or_from_slice_get calls i a a is_a), ap (λ (c : Call). c.seq) (get_or_from_slice_get calls j b a is_b), same))
    ]

abbrev Untied : Connection → Connection → Type 0
Untied c d = departure_cmp c d ≢ Equal

abbrev Differ : Place → Place → Type 0
Differ p q = place_cmp p q ≢ Equal

-- the places have the departures of their connections
abbrev pub Depart : List State → List Place → Type 0
Depart states places = (p : Place) (c : Connection) → Contains places p → connection_at states p ≡ Some c → c.dep ≡ p.dep

-- what two places show does not tie
untied : (version : ℕ) (states : List State) → All (λ (s : State). GoesForward s.calls) states → AreApart states → (p q : Place) (c d : Connection) → Differ p q
    → shown version states p ≡ Some c → shown version states q ≡ Some d → c.dep ≡ p.dep → d.dep ≡ q.dep → Untied c d
untied version states forward apart p q c d differ shows_p shows_q at_p at_q e =
    let sp = shown_from version states p c shows_p in
    let sq = shown_from version states q d shows_q in
    let s = sp.state in
    let t = sq.state in
    let lp = leaves s.key s.calls p.at c sp.connection in
    let lq = leaves t.key t.calls q.at d sq.connection in
    let ties = tied_parts c d e in
    let keys : key_cmp s.key t.key ≡ Equal = ap (λ (k : RunKey). key_cmp k t.key) (sym lp.same_key) ∙ ap (key_cmp c.key) (sym lq.same_key) ∙ ties.0 in
    let one_state : p.state ≡ q.state = apart version p.state q.state s t sp.is sq.is sp.here sq.here keys in
    let both : Some s ≡ Some t = sym sp.is ∙ ap (slice_get states) one_state ∙ sq.is in
    let same : s ≡ t = cc in
    let seqs : lp.call.seq ≡ lq.call.seq = sym lp.same_seq ∙ same_number c.seq d.seq ties.1 ∙ lq.same_seq in
    let rise = (All-contains (λ (v : State). GoesForward v.calls) states t forward (Contains-slice_get states q.state t sq.is)).in_sequence in
    let one_call : p.at ≡ q.at = one_place t.calls p.at q.at lp.call lq.call rise (subst (λ (v : State). slice_get v.calls p.at ≡ Some lp.call) same lp.is) lq.is seqs in
    let deps : c.dep ≡ d.dep = same_number c.dep d.dep (both_tie (nat_cmp c.dep d.dep) (ordering_then (key_cmp c.key d.key) (nat_cmp c.seq d.seq)) e).0 in
    let one : p ≡ q = same_parts p q (sym at_p ∙ deps ∙ at_q) one_state one_call in
    absurd (differ (ap (place_cmp p) (sym one) ∙ tied_itself place_cmp_total p))

-- what different places show does not tie
pub shown_apart : (version : ℕ) (states : List State) (places : List Place) → All (λ (s : State). GoesForward s.calls) states → AreApart states → Depart states places
    → AllPairs Differ places → AllPairs Untied (filter_map (shown version states) places)
shown_apart version states [] forward apart departs up = AllPairs-nil Untied
shown_apart version states (p ∷ places) forward apart departs up =
    go (shown version states p) refl (shown_apart version states places forward apart (λ q c h. departs q c (Contains-there p places q h)) (AllPairs-tail Differ p places up)) where
      go : (o : Option Connection) → shown version states p ≡ o → AllPairs Untied (filter_map (shown version states) places) → AllPairs Untied (cons_option o (filter_map (shown version states) places))
      go None e rest = rest
      go (Some c) e rest =
          AllPairs-cons Untied c (filter_map (shown version states) places)
          (All-from_contains (Untied c) (filter_map (shown version states) places) (λ d h.
          let from = Gives-filter_map (shown version states) places d h in
          let q = from.from in
          untied version states forward apart p q c d (All-contains (Differ p) places q (AllPairs-head Differ p places up) from.stands) e from.is
          (departs p c (Contains-here p places) (shown_is_there version states p c e))
          (departs q d (Contains-there p places q from.stands) (shown_is_there version states q d from.is))))
          rest

abbrev KeysApart : Run → Run → Type 0
KeysApart r s = key_cmp r.key s.key ≢ Equal

-- no two runs that hold in one version have one key
pub keys_apart : (version : ℕ) (states : List State)
    → ((i j : ℕ) (s t : State) → slice_get states i ≡ Some s → slice_get states j ≡ Some t → holds version s ≡ true → holds version t ≡ true → key_cmp s.key t.key ≡ Equal → i ≡ j)
    → AllPairs KeysApart (held version states)
keys_apart version [] apart = AllPairs-nil KeysApart
keys_apart version (s ∷ states) apart =
    go (holds version s) refl (keys_apart version states (λ i j a b is_a is_b here_a here_b tie. let e : suc i ≡ suc j = apart (suc i) (suc j) a b is_a is_b here_a here_b tie in omega (arith, e))) where
      go : (b : Bool) → holds version s ≡ b → AllPairs KeysApart (held version states) → AllPairs KeysApart (map run_of (cond b (s ∷ filter (holds version) states) (filter (holds version) states)))
      go false e rest = rest
      go true e rest =
          AllPairs-cons KeysApart (run_of s) (held version states)
          (All-from_contains (KeysApart (run_of s)) (held version states) (λ r h tie.
          let run = holding version states r h in
          let t = run.state in
          let keys : key_cmp s.key t.key ≡ Equal = ap (λ (v : Run). key_cmp s.key v.key) run.same ∙ tie in
          let one : 0 ≡ suc run.at = apart 0 (suc run.at) s t refl run.is e run.here keys in
          absurd (omega (arith, one))))
          rest
