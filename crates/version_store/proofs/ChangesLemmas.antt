-- What changes from one list of news to the next one, key by key.
use Rattle.std.proofs.Common.{◌≡◌, ◌⊎◌, ◌∙◌, inl, inr, List, [], ◌∷◌, Option, Some, None, refl, sym, ap, ap₂, subst}
use Rattle.std.specs.Prelude.{if◌then◌else◌}
use Rattle.std.specs.BTreeMap.{BTreeMap, get}
use Rattle.std.specs.BTreeSet.{BTreeSet}
use Rattle.std.specs.List.{All, Contains}
use Rattle.std.specs.Map.{lookup}
use Rattle.std.proofs.lemmas.List.Elements.{All-contains, Contains-append_cases, Contains-append_left, Contains-push, Contains-push_cases}
use Rattle.std.proofs.lemmas.Map.Views.{btree_set_contains_iff}
use Rattle.lc_model.specs.Call.{GoesForward}
use Rattle.lc_model.specs.Run.{InKeyOrder}
use Rattle.lc_model.specs.RunKey.{key_cmp}
use Rattle.lc_model.specs.Text.{IsIdText}
use Rattle.lc_model.specs.Totals.{key_cmp_total}
use Rattle.lc_model.specs.declared.call.Call.{Call}
use Rattle.lc_model.specs.declared.key.RunKey.{RunKey}
use Rattle.lc_model.specs.declared.run.Run.{Run}
use Rattle.lc_model.specs.declared.stop.Stop.{Stop}
use Rattle.lc_model.proofs.KeyLemmas.{same_keys}
use Rattle.lc_model.proofs.ListLemmas.{Contains-nil}
use Rattle.lc_model.specs.Versions.News.{TripSaid}
use Rattle.version_store.specs.IndexLaws.Held.{IsRunBy}
use Rattle.version_store.specs.IndexLaws.Touched.{NoneHas, is_touched}
use Rattle.version_store.proofs.IndexLawsLemmas.HeldLemmas.{one_run}
use Rattle.version_store.proofs.IndexLawsLemmas.TouchedLemmas.{same_news}
use Rattle.version_store.specs.Index.Spans.{Indexed}
use Rattle.version_store.specs.CallsBy.{AreCallsBy, run_with}
use Rattle.version_store.specs.Changes.{AreChangesAt, AreChangesBy, AreNearAt, HasTurned, IsUpdatedBy, Leaves, PutsCalls, PutsChange, Stands, TurnsKey}
use Rattle.version_store.specs.Differing.{DifferBy}
use Rattle.version_store.specs.LastNews.{HasLast, HasLastOf}
use Rattle.version_store.specs.TouchedKeys.{Has, HasTouched}
use Rattle.version_store.specs.declared.last_news.LastNews.{LastNews}
use Rattle.version_store.specs.declared.changes.Changes.{Changes}
use Rattle.version_store.proofs.DifferingLemmas.{alike_last}
use Rattle.version_store.proofs.FurtherLemmas.{by_bool, same_from_tie, tie, tie_from_same}

same_run : (a b : Run) → a.key ≡ b.key → a.calls ≡ b.calls → a ≡ b
same_run a b key calls = ap₂ (λ (k : RunKey) (list : List Call). let run : Run = record { key = k; calls = list } in run) key calls

some_is_one : {X : Type 0} (x y : X) → Some x ≡ Some y → x ≡ y
some_is_one x y e = cc

by_option : {X : Type 0} (G : Type 0) (o : Option X) → ((x : X) → o ≡ Some x → G) → (o ≡ None → G) → G
by_option G None some none = none refl
by_option G (Some x) some none = some x refl

-- calls at the key itself, and at another one
put_here : (key other : RunKey) (calls : List Call) (old new : BTreeMap RunKey (List Call)) → PutsCalls key calls old new → key ≡ other → get key_cmp new other ≡ Some calls
put_here key other calls old new puts same = puts other ∙ ap (λ b. if b then Some calls else get key_cmp old other) (tie_from_same key other same)

-- maps of news that are all news of some keys have the last of all news at these keys
pub last_near : (keys : BTreeSet RunKey) (near list : List TripSaid) (last : LastNews) → HasLast near last → AreNearAt keys near list → HasLastOf keys list last
last_near keys near list last has are = λ key there.
    let same = alike_last key near list (are key there) in
    record { named = λ id. has.named key id ∙ same.named; own = λ id. has.own key id ∙ same.of_key }

module _ (runs : List Run) (stops : List Stop) (before after : List TripSaid) (up : InKeyOrder runs) where
  -- by the news of after a key has one list of calls
  one_list : (key : RunKey) (calls : List Call) (run : Run) → key ≡ run.key → IsRunBy runs stops after (run_with key calls) → IsRunBy runs stops after run → calls ≡ run.calls
  one_list key calls run same is other = ap (λ (r : Run). r.calls) (one_run runs stops after (run_with key calls) run up is other same)

  at_key : (list : List TripSaid) (key : RunKey) (run : Run) → key ≡ run.key → IsRunBy runs stops list run → IsRunBy runs stops list (run_with key run.calls)
  at_key list key run same is = subst (λ (k : RunKey). IsRunBy runs stops list (run_with k run.calls)) (sym same) is

  -- a run of the key itself
  stands_here : (key : RunKey) (was is_now : Option (List Call)) (old new : Changes) (run : Run) → AreCallsBy runs stops before key was → AreCallsBy runs stops after key is_now → PutsChange key was is_now old new → key ≡ run.key
      → Stands runs stops before after new.begun run
  stands_here key was None old new run by_before by_after puts same is = absurd (by_after run.calls (at_key after key run same is))
  stands_here key was (Some calls) old new run by_before by_after (e, inr puts) same is =
      inl (put_here key run.key calls old.begun new.begun puts same ∙ ap Some (one_list key calls run same by_after is))
  stands_here key was (Some calls) old new run by_before by_after (e, inl (had, stay)) same is =
      let there : IsRunBy runs stops before (run_with key calls) = subst (AreCallsBy runs stops before key) had by_before in
      inr (subst (IsRunBy runs stops before) (same_run (run_with key calls) run same (one_list key calls run same by_after is)) there)

  found_still : (key : RunKey) (was is_now : Option (List Call)) (old new : Changes) (run : Run) → AreCallsBy runs stops after key is_now → PutsChange key was is_now old new → IsRunBy runs stops after run
      → get key_cmp old.begun run.key ≡ Some run.calls → get key_cmp new.begun run.key ≡ Some run.calls
  found_still key was None old new run by_after puts is found = ap (λ (m : BTreeMap RunKey (List Call)). get key_cmp m run.key) puts.1 ∙ found
  found_still key was (Some calls) old new run by_after (e, inl (had, stay)) is found = ap (λ (m : BTreeMap RunKey (List Call)). get key_cmp m run.key) stay ∙ found
  found_still key was (Some calls) old new run by_after (e, inr puts) is found =
      by_bool (get key_cmp new.begun run.key ≡ Some run.calls) (tie key run.key)
      (λ t. let same = same_from_tie key run.key t in put_here key run.key calls old.begun new.begun puts same ∙ ap Some (one_list key calls run same by_after is))
      (λ t. puts run.key ∙ ap (λ b. if b then Some calls else get key_cmp old.begun run.key) t ∙ found)

  stands_still : (key : RunKey) (was is_now : Option (List Call)) (old new : Changes) (run : Run) → AreCallsBy runs stops after key is_now → PutsChange key was is_now old new → Stands runs stops before after old.begun run
      → Stands runs stops before after new.begun run
  stands_still key was is_now old new run by_after puts stands is =
      elim (stands is) [ inl found ↦ inl (found_still key was is_now old new run by_after puts is found) | inr there ↦ inr there ]

  leaves_here : (key : RunKey) (was is_now : Option (List Call)) (old new : Changes) (run : Run) → AreCallsBy runs stops before key was → AreCallsBy runs stops after key is_now → PutsChange key was is_now old new → key ≡ run.key
      → Leaves runs stops before after new.ended.items run
  leaves_here key was (Some calls) old new run by_before by_after puts same is = inr (run_with key calls, same, by_after)
  leaves_here key None None old new run by_before by_after puts same is = absurd (by_before run.calls (at_key before key run same is))
  leaves_here key (Some calls) None old new run by_before by_after puts same is =
      let there : Contains new.ended.items key = subst (λ (v : List RunKey). Contains v key) (sym puts.0) (Contains-push old.ended.items key) in
      inl (subst (Contains new.ended.items) same there)

  ended_still : (key other : RunKey) (was is_now : Option (List Call)) (old new : Changes) → PutsChange key was is_now old new → Contains old.ended.items other → Contains new.ended.items other
  ended_still key other was (Some calls) old new puts there = subst (λ (v : List RunKey). Contains v other) (sym puts.0) there
  ended_still key other None None old new puts there = subst (λ (v : List RunKey). Contains v other) (sym puts.0) there
  ended_still key other (Some calls) None old new puts there = subst (λ (v : List RunKey). Contains v other) (sym puts.0) (Contains-append_left old.ended.items (key ∷ []) other there)

  leaves_still : (key : RunKey) (was is_now : Option (List Call)) (old new : Changes) (run : Run) → PutsChange key was is_now old new → Leaves runs stops before after old.ended.items run → Leaves runs stops before after new.ended.items run
  leaves_still key was is_now old new run puts leaves is = elim (leaves is) [ inl there ↦ inl (ended_still key run.key was is_now old new puts there) | inr other ↦ inr other ]

  -- a key that ends is the key itself, which has no run, or one of before
  ends_more : (key : RunKey) (was is_now : Option (List Call)) (old new : Changes) (run : Run) → AreCallsBy runs stops after key is_now → PutsChange key was is_now old new
      → (Contains old.ended.items run.key → IsRunBy runs stops after run → ⊥) → Contains new.ended.items run.key → IsRunBy runs stops after run → ⊥
  ends_more key was (Some calls) old new run by_after puts none there is = none (subst (λ (v : List RunKey). Contains v run.key) puts.0 there) is
  ends_more key None None old new run by_after puts none there is = none (subst (λ (v : List RunKey). Contains v run.key) puts.0 there) is
  ends_more key (Some calls) None old new run by_after puts none there is = elim (Contains-push_cases old.ended.items key run.key (subst (λ (v : List RunKey). Contains v run.key) puts.0 there)) [
    | inl earlier ↦ none earlier is
    | inr same ↦ by_after run.calls (at_key after key run same is)
  ]

  -- what the map has is the calls of the key itself, or of before
  found_more : (P : RunKey → List Call → Type 0) (key other : RunKey) (was is_now : Option (List Call)) (old new : Changes) (calls : List Call) → PutsChange key was is_now old new
      → ((made : List Call) → is_now ≡ Some made → P key made) → (get key_cmp old.begun other ≡ Some calls → P other calls) → get key_cmp new.begun other ≡ Some calls → P other calls
  found_more P key other was None old new calls puts here there found = there (ap (λ (m : BTreeMap RunKey (List Call)). get key_cmp m other) (sym puts.1) ∙ found)
  found_more P key other was (Some made) old new calls (e, inl (had, stay)) here there found = there (ap (λ (m : BTreeMap RunKey (List Call)). get key_cmp m other) (sym stay) ∙ found)
  found_more P key other was (Some made) old new calls (e, inr puts) here there found =
      by_bool (P other calls) (tie key other)
      (λ t.
      let same = same_from_tie key other t in
      let list : made ≡ calls = some_is_one made calls (sym (put_here key other made old.begun new.begun puts same) ∙ found) in
      subst (λ (k : RunKey). P k calls) same (subst (P key) list (here made refl)))
      (λ t. there (sym (puts other ∙ ap (λ b. if b then Some made else get key_cmp old.begun other) t) ∙ found))

  rest_cases : (key other : RunKey) (rest : List RunKey) → Contains (key ∷ rest) other → (key ≡ other) ⊎ Contains rest other
  rest_cases key other rest there = elim (Contains-append_cases (key ∷ []) rest other there) [
    | inr behind ↦ inr behind
    | inl first ↦ elim (Contains-push_cases [] key other first) [ inl none ↦ absurd (Contains-nil other none) | inr same ↦ inl same ]
  ]

  -- one key more
  pub changes_more : (keys : BTreeSet RunKey) (key : RunKey) (left rest : List RunKey) (old new : Changes) → left ≡ key ∷ rest → AreChangesAt runs stops before after keys left old → TurnsKey runs stops before after key old new
      → AreChangesAt runs stops before after keys rest new
  changes_more keys key left rest old new first are turns = record {
    begins = λ other calls.
        found_more (λ (k : RunKey) (list : List Call). IsRunBy runs stops after (run_with k list)) key other turns.was turns.is_now old new calls turns.puts
        (λ made e. subst (AreCallsBy runs stops after key) e turns.by_after) (are.begins other calls);
    forward = λ other calls.
        found_more (λ (k : RunKey) (list : List Call). GoesForward list) key other turns.was turns.is_now old new calls turns.puts
        (λ made e. turns.forward made e) (are.forward other calls);
    ends = λ run. ends_more key turns.was turns.is_now old new run turns.by_after turns.puts (are.ends run);
    all = λ run has. elim (are.all run has) [
      | inr stands ↦ inr (stands_still key turns.was turns.is_now old new run turns.by_after turns.puts stands)
      | inl there ↦ elim (rest_cases key run.key rest (subst (λ (v : List RunKey). Contains v run.key) first there)) [
        | inr behind ↦ inl behind
        | inl same ↦ inr (stands_here key turns.was turns.is_now old new run turns.by_before turns.by_after turns.puts same)
      ]
    ];
    gone = λ run has. elim (are.gone run has) [
      | inr leaves ↦ inr (leaves_still key turns.was turns.is_now old new run turns.puts leaves)
      | inl there ↦ elim (rest_cases key run.key rest (subst (λ (v : List RunKey). Contains v run.key) first there)) [
        | inr behind ↦ inl behind
        | inl same ↦ inr (leaves_here key turns.was turns.is_now old new run turns.by_before turns.by_after turns.puts same)
      ]
    ];
  }

  named : All (λ (r : Run). IsIdText r.key.trip) runs → (list : List TripSaid) (run : Run) → IsRunBy runs stops list run → IsIdText run.key.trip
  named trips list run (inl live) = subst (λ (k : RunKey). IsIdText k.trip) (sym live.same_key) (All-contains (λ (r : Run). IsIdText r.key.trip) runs live.run trips live.of_timetable)
  named trips list run (inr further) = further.trip_named

  none_left : {P : Type 0} (key : RunKey) → Contains [] key ⊎ P → P
  none_left key (inl there) = absurd (Contains-nil key there)
  none_left key (inr p) = p

  -- a key that the differing news touch is in the set, and at all others nothing changes
  pub changes_by : (keys : BTreeSet RunKey) (list : List TripSaid) (changes : Changes) → All (λ (r : Run). IsIdText r.key.trip) runs → HasTouched list keys → DifferBy list before after → AreChangesAt runs stops before after keys [] changes
      → AreChangesBy runs stops before after changes
  changes_by keys list changes trips in_list differ are = record {
    begins = are.begins;
    forward = are.forward;
    ends = are.ends;
    all = λ run is.
        by_bool _ (is_touched run.key list)
        (λ t. none_left run.key (are.all run (in_list run.key (named trips after run is) t)) is)
        (λ f. inr ((same_news runs stops before after run (alike_last run.key before after (differ run.key f))).1 is));
    gone = λ run was.
        by_bool _ (is_touched run.key list)
        (λ t. none_left run.key (are.gone run (in_list run.key (named trips before run was) t)) was)
        (λ f. inr (run, refl, (same_news runs stops before after run (alike_last run.key before after (differ run.key f))).0 was));
  }

  -- the index is updated by what changes from the news of before to those of after
  pub turned_by : (changes : Changes) (old new : Indexed) → AreChangesBy runs stops before after changes → IsUpdatedBy changes old new → HasTurned runs stops before after old new
  turned_by changes old new are updated = record {
    ended = changes.ended.items;
    begun = updated.begun;
    changes = record {
      begins = λ run there. are.begins run.key run.calls ((updated.exactly run).0 there);
      all = λ run is.
          by_option _ (get key_cmp changes.begun run.key)
          (λ calls found.
          let list : calls ≡ run.calls = one_list run.key calls run refl (are.begins run.key calls found) is in
          inl ((updated.exactly run).1 (found ∙ ap Some list)))
          (λ none. inr (was_there run none (are.all run is), none_has run none));
      ends = are.ends;
      gone = are.gone;
    };
    updated = updated.updated;
  } where
    was_there : (run : Run) → get key_cmp changes.begun run.key ≡ None → (get key_cmp changes.begun run.key ≡ Some run.calls) ⊎ IsRunBy runs stops before run → IsRunBy runs stops before run
    was_there run none (inl found) = absurd (let f : None ≡ Some run.calls = sym none ∙ found in cc)
    was_there run none (inr was) = was

    none_has : (run : Run) → get key_cmp changes.begun run.key ≡ None → NoneHas updated.begun run.key
    none_has run none other there same =
        let found : get key_cmp changes.begun run.key ≡ Some other.calls = ap (get key_cmp changes.begun) (sym same) ∙ (updated.exactly other).0 there in
        let f : None ≡ Some other.calls = sym none ∙ found in cc

-- before the first key
pub no_changes : (runs : List Run) (stops : List Stop) (before after : List TripSaid) (keys : BTreeSet RunKey) (left : List RunKey) (changes : Changes) → left ≡ keys.keys → changes.ended.items ≡ [] → changes.begun.entries ≡ []
    → AreChangesAt runs stops before after keys left changes
no_changes runs stops before after keys left changes all none nothing = record {
  begins = λ key calls found. absurd (not_found key calls found);
  forward = λ key calls found. absurd (not_found key calls found);
  ends = λ run there is. Contains-nil run.key (subst (λ (v : List RunKey). Contains v run.key) none there);
  all = λ run has. inl (in_list run.key has);
  gone = λ run has. inl (in_list run.key has);
} where
  not_found : (key : RunKey) (calls : List Call) → get key_cmp changes.begun key ≡ Some calls → ⊥
  not_found key calls found = let f : None ≡ Some calls = sym (ap (lookup (λ (k : RunKey). tie key k)) nothing) ∙ found in cc

  in_list : (key : RunKey) → Has keys key → Contains left key
  in_list key has = subst (λ (v : List RunKey). Contains v key) (sym all) ((btree_set_contains_iff key_cmp_total same_keys keys key).0 has)
