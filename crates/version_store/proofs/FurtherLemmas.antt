-- Further runs by the news one after the other, and the runs of the timetable in their places.
use Rattle.std.proofs.Common.{◌≡◌, ◌⊎◌, inl, inr, ℕ, ◌+◌, ◌<◌, ◌≤◌, List, [], ◌∷◌, ◌++◌, length, filter, get_or, map, take, Bool, true, false, Option, Some, None, refl, sym, ap, ◌∙◌, subst, arith}
use Rattle.std.specs.Prelude.{◌↔◌, if◌then◌else◌}
use Rattle.std.specs.BTreeMap.{BTreeMap, IsOrdered, get}
use Rattle.std.specs.Map.{keys_of, lookup}
use Rattle.std.specs.List.{All, Any, Contains, last_or}
use Rattle.std.specs.Ordering.{is_eq}
use Rattle.std.specs.declared.cmp.Ordering.{Ordering}
use Rattle.std.specs.declared.cmp.Ordering.TheVariants.{Less, Equal, Greater}
use Rattle.std.proofs.lemmas.Cmp.{tied_itself}
use Rattle.std.proofs.lemmas.List.{get_or-map, get_or-take, get_or_default, length-map, length-take, map-append, take_more}
use Rattle.std.proofs.lemmas.Map.Keys.{Less-from_sorted}
use Rattle.std.proofs.lemmas.Map.Views.{btree_map_get_iff}
use Rattle.std.proofs.lemmas.List.Elements.{filter-append, Contains-append_left, Contains-push, Contains-push_cases}
use Rattle.lc_model.specs.Call.{GoesForward}
use Rattle.lc_model.specs.Run.{InKeyOrder}
use Rattle.lc_model.specs.RunKey.{key_cmp}
use Rattle.lc_model.specs.Text.{IsIdText}
use Rattle.lc_model.specs.Totals.{key_cmp_total}
use Rattle.lc_model.specs.declared.call.Call.{Call}
use Rattle.lc_model.specs.declared.key.RunKey.{RunKey}
use Rattle.lc_model.specs.declared.run.Run.{Run}
use Rattle.lc_model.specs.declared.stop.Stop.{Stop}
use Rattle.lc_model.specs.Versions.Added.{IsFurtherRun, added_calls, has_key, news_of_key}
use Rattle.lc_model.specs.Versions.Live.{live_calls_of}
use Rattle.lc_model.specs.Versions.Naming.{is_added, news_for}
use Rattle.lc_model.specs.Versions.News.{TripSaid}
use Rattle.lc_model.specs.Versions.Timetable.{AreLiveRuns, IsLiveRun}
use Rattle.lc_model.proofs.KeyLemmas.{same_keys}
use Rattle.live_calls.proofs.LawLemmas.{keys_are_one, no_key_names_none}
use Rattle.live_calls.proofs.AddedLemmas.{added_go_forward}
use Rattle.version_store.specs.Kept.{news_said}
use Rattle.version_store.specs.declared.dated.DatedNews.{DatedNews}
use Rattle.version_store.specs.Further.{GoForward, HasExactly, IsFurther, IsOfEither, PutsFurther, calls_of}

last_pushed : {X : Type 0} (o : Option X) (xs : List X) (x : X) → last_or o (xs ++ x ∷ []) ≡ Some x
last_pushed o [] x = refl
last_pushed o (y ∷ xs) x = last_pushed (Some y) xs x

last_kept : {X : Type 0} (o : Option X) (xs : List X) → last_or o (xs ++ []) ≡ last_or o xs
last_kept o [] = refl
last_kept o (y ∷ xs) = last_kept (Some y) xs

news_pushed : (key : RunKey) (list : List TripSaid) (news : TripSaid) (b : Bool) → has_key key news ≡ b → news_of_key key (list ++ news ∷ []) ≡ (if b then Some news else news_of_key key list)
news_pushed key list news true e = ap (last_or None) (filter-append (has_key key) list (news ∷ [])) ∙ rw e (last_pushed None (filter (has_key key) list) news)
news_pushed key list news false e = ap (last_or None) (filter-append (has_key key) list (news ∷ [])) ∙ rw e (last_kept None (filter (has_key key) list))

some_is_one : {X : Type 0} (x y : X) → Some x ≡ Some y → x ≡ y
some_is_one x y e = cc

-- the news of a key are others where the last ones have another key
not_of_key : (stops : List Stop) (list : List TripSaid) (news : TripSaid) (run : Run) → has_key run.key news ≡ false → IsFurtherRun [] stops list run ↔ IsFurtherRun [] stops (list ++ news ∷ []) run
not_of_key stops list news run e =
    let same = news_pushed run.key list news false e in (
      (λ is. record { is_new = is.is_new; news = is.news; last = same ∙ is.last; added = is.added; trip_named = is.trip_named; calls = is.calls; two_at_least = is.two_at_least }),
      (λ is. record { is_new = is.is_new; news = is.news; last = sym same ∙ is.last; added = is.added; trip_named = is.trip_named; calls = is.calls; two_at_least = is.two_at_least }),
    )

pub by_bool : (G : Type 0) (b : Bool) → (b ≡ true → G) → (b ≡ false → G) → G
by_bool G true f g = f refl
by_bool G false f g = g refl

ties : (o : Ordering) → is_eq o ≡ true → o ≡ Equal
ties Less e = absurd (cc)
ties Equal e = refl
ties Greater e = absurd (cc)

abbrev pub tie : RunKey → RunKey → Bool
tie a b = is_eq (key_cmp a b)

pub same_from_tie : (a b : RunKey) → tie a b ≡ true → a ≡ b
same_from_tie a b e = same_keys a b (ties (key_cmp a b) e)

pub tie_from_same : (a b : RunKey) → a ≡ b → tie a b ≡ true
tie_from_same a b e = ap is_eq (subst (λ (k : RunKey). key_cmp a k ≡ Equal) e (tied_itself key_cmp_total a))

-- at the key of the news the map has the run that they make
pub at_its_key : (stops : List Stop) (list : List TripSaid) (news : TripSaid) (made : Option Run) (run : Run) → IsFurther stops news made → has_key run.key news ≡ true
    → (calls_of made ≡ Some run.calls) ↔ IsFurtherRun [] stops (list ++ news ∷ []) run
at_its_key stops list news (Some made) run is of =
    let last = news_pushed run.key list news true of in
    let same : made.key ≡ run.key = keys_are_one made.key run.key news is.1.same_key of in (
      (λ e. let calls : made.calls ≡ run.calls = some_is_one made.calls run.calls e in record {
        is_new = λ (k, r, inside, at, tied). omega (arith, inside);
        news = news;
        last = last;
        added = is.0;
        trip_named = subst (λ (k : RunKey). IsIdText k.trip) same is.1.trip_named;
        calls = sym calls ∙ is.1.calls;
        two_at_least = subst (λ (v : List Call). 2 ≤ length v) calls is.1.two_at_least;
      }),
      (λ further.
          let one : news ≡ further.news = some_is_one news further.news (sym last ∙ further.last) in
          ap Some (is.1.calls ∙ ap (λ (n : TripSaid). added_calls stops n.stops) one ∙ sym further.calls)),
    )
at_its_key stops list news None run (inl not_added) of =
    let last = news_pushed run.key list news true of in (
      (λ e. absurd (let f : None ≡ Some run.calls = e in cc)),
      (λ further.
          let one : news ≡ further.news = some_is_one news further.news (sym last ∙ further.last) in
          let f : false ≡ true = sym not_added ∙ ap (λ (n : TripSaid). is_added n.kind) one ∙ further.added in absurd (cc)),
    )
at_its_key stops list news None run (inr (inl no_key)) of =
    let last = news_pushed run.key list news true of in (
      (λ e. absurd (let f : None ≡ Some run.calls = e in cc)),
      (λ further. absurd (no_key_names_none news run.key of further.trip_named no_key)),
    )
at_its_key stops list news None run (inr (inr few)) of =
    let last = news_pushed run.key list news true of in (
      (λ e. absurd (let f : None ≡ Some run.calls = e in cc)),
      (λ further.
          let one : news ≡ further.news = some_is_one news further.news (sym last ∙ further.last) in
          let calls : run.calls ≡ added_calls stops news.stops = further.calls ∙ ap (λ (n : TripSaid). added_calls stops n.stops) (sym one) in
          let enough : 2 ≤ length (added_calls stops news.stops) = subst (λ (v : List Call). 2 ≤ length v) calls further.two_at_least in
          absurd (omega (arith, few, enough))),
    )

-- the news of one trip more
pub further_more : (stops : List Stop) (list : List TripSaid) (news : TripSaid) (old new : BTreeMap RunKey (List Call)) → HasExactly old (IsFurtherRun [] stops list) → PutsFurther stops news old new → HasExactly new (IsFurtherRun [] stops (list ++ news ∷ []))
further_more stops list news old new has (inl puts) run =
    by_bool _ (tie puts.key run.key)
    (λ e.
    let same : puts.key ≡ run.key = same_from_tie puts.key run.key e in
    let of : has_key run.key news ≡ true = subst (λ (k : RunKey). has_key k news ≡ true) same puts.of_news in
    let now : get key_cmp new run.key ≡ calls_of puts.run = puts.at run.key ∙ ap (λ b. if b then calls_of puts.run else get key_cmp old run.key) e in
    let is = at_its_key stops list news puts.run run puts.made of in
    ((λ f. is.0 (sym now ∙ f)), (λ f. now ∙ is.1 f)))
    (λ e.
    let now : get key_cmp new run.key ≡ get key_cmp old run.key = puts.at run.key ∙ ap (λ b. if b then calls_of puts.run else get key_cmp old run.key) e in
    let other : has_key run.key news ≡ false = by_bool (has_key run.key news ≡ false) (has_key run.key news) (λ of. let same = keys_are_one puts.key run.key news puts.of_news of in let f : false ≡ true = sym e ∙ tie_from_same puts.key run.key same in absurd (cc)) (λ e. e) in
    let is = not_of_key stops list news run other in
    ((λ f. is.0 ((has run).0 (sym now ∙ f))), (λ f. now ∙ (has run).1 (is.1 f))))
further_more stops list news old new has (inr (no_key, same)) run =
    by_bool _ (has_key run.key news)
    (λ of.
    let last = news_pushed run.key list news true of in (
      (λ f. absurd (let further = (has run).0 (sym (same run.key) ∙ f) in no_key_names_none news run.key of further.trip_named no_key)),
      (λ further. absurd (no_key_names_none news run.key of further.trip_named no_key)),
    ))
    (λ other.
    let is = not_of_key stops list news run other in
    ((λ f. is.0 ((has run).0 (sym (same run.key) ∙ f))), (λ f. same run.key ∙ (has run).1 (is.1 f))))

pub none_put : (stops : List Stop) (list : List TripSaid) (map : BTreeMap RunKey (List Call)) → HasExactly map (IsFurtherRun [] stops list) → HasExactly map (IsOfEither [] stops list)
none_put stops list map has run = (
  (λ f. inr ((has run).0 f)),
  (λ either. (has run).1 (only_further either)),
) where
  only_further : IsOfEither [] stops list run → IsFurtherRun [] stops list run
  only_further (inl live) = absurd (omega (arith, live.of_timetable.1))
  only_further (inr further) = further

-- no earlier run of the timetable has the key
abbrev pub IsLater : List Run → Run → Type 0
IsLater runs next = (run : Run) → Contains runs run → key_cmp run.key next.key ≡ Less

any_pushed : (runs : List Run) (next : Run) (key : RunKey) → (next.key ≡ key → ⊥) → (Any (λ (r : Run). r.key ≡ key) runs → ⊥) → Any (λ (r : Run). r.key ≡ key) (runs ++ next ∷ []) → ⊥
any_pushed runs next key other none (k, r, inside, at, same) = by_place (Contains-push_cases runs next r (k, inside, at)) where
  by_place : Contains runs r ⊎ (next ≡ r) → ⊥
  by_place (inl (j, there, is)) = none (j, r, there, is, same)
  by_place (inr is) = other (ap (λ (r : Run). r.key) is ∙ same)

any_kept : (runs : List Run) (next : Run) (key : RunKey) → Any (λ (r : Run). r.key ≡ key) runs → Any (λ (r : Run). r.key ≡ key) (runs ++ next ∷ [])
any_kept runs next key (k, r, inside, at, same) = let there = Contains-append_left runs (next ∷ []) r (k, inside, at) in (there.0, r, there.1, there.2, same)

live_kept : (runs : List Run) (next : Run) (list : List TripSaid) (run : Run) → IsLiveRun runs list run → IsLiveRun (runs ++ next ∷ []) list run
live_kept runs next list run live = record { run = live.run; of_timetable = Contains-append_left runs (next ∷ []) live.run live.of_timetable; same_key = live.same_key; calls = live.calls }

-- one run of the timetable more
pub live_more : (runs : List Run) (stops : List Stop) (list : List TripSaid) (next : Run) (calls : List Call) (old new : BTreeMap RunKey (List Call)) → IsLater runs next → calls ≡ live_calls_of next.calls (news_for next.key list)
    → ((key : RunKey) → get key_cmp new key ≡ (if tie next.key key then Some calls else get key_cmp old key))
    → HasExactly old (IsOfEither runs stops list) → HasExactly new (IsOfEither (runs ++ next ∷ []) stops list)
live_more runs stops list next calls old new later are at has run = by_bool _ (tie next.key run.key) here there where
  here : tie next.key run.key ≡ true → (get key_cmp new run.key ≡ Some run.calls) ↔ IsOfEither (runs ++ next ∷ []) stops list run
  here e =
      let same : next.key ≡ run.key = same_from_tie next.key run.key e in
      let now : get key_cmp new run.key ≡ Some calls = at run.key ∙ ap (λ b. if b then Some calls else get key_cmp old run.key) e in (
        (λ f. inl (record { run = next; of_timetable = Contains-push runs next; same_key = sym same; calls = sym (some_is_one calls run.calls (sym now ∙ f)) ∙ are })),
        (λ either. now ∙ ap Some (its_calls same either)),
      ) where
        its_calls : next.key ≡ run.key → IsOfEither (runs ++ next ∷ []) stops list run → calls ≡ run.calls
        its_calls same (inr further) = absurd (let put = Contains-push runs next in further.is_new (put.0, next, put.1, put.2, same))
        its_calls same (inl live) = by_place (Contains-push_cases runs next live.run live.of_timetable) where
          by_place : Contains runs live.run ⊎ (next ≡ live.run) → calls ≡ run.calls
          by_place (inl before) =
              let less : key_cmp live.run.key next.key ≡ Less = later live.run before in
              let equal : key_cmp live.run.key next.key ≡ Equal = subst (λ (k : RunKey). key_cmp live.run.key k ≡ Equal) (sym live.same_key ∙ sym same) (tied_itself key_cmp_total live.run.key) in
              absurd (cc)
          by_place (inr is) = are ∙ ap (λ (r : Run). live_calls_of r.calls (news_for r.key list)) is ∙ sym live.calls

  there : tie next.key run.key ≡ false → (get key_cmp new run.key ≡ Some run.calls) ↔ IsOfEither (runs ++ next ∷ []) stops list run
  there e =
      let now : get key_cmp new run.key ≡ get key_cmp old run.key = at run.key ∙ ap (λ b. if b then Some calls else get key_cmp old run.key) e in (
        (λ f. forth ((has run).0 (sym now ∙ f))),
        (λ either. now ∙ (has run).1 (back either)),
      ) where
        other : next.key ≡ run.key → ⊥
        other same = let f : false ≡ true = sym e ∙ tie_from_same next.key run.key same in absurd (cc)

        forth : IsOfEither runs stops list run → IsOfEither (runs ++ next ∷ []) stops list run
        forth (inl live) = inl (live_kept runs next list run live)
        forth (inr f) = inr (record { is_new = any_pushed runs next run.key other f.is_new; news = f.news; last = f.last; added = f.added; trip_named = f.trip_named; calls = f.calls; two_at_least = f.two_at_least })

        back : IsOfEither (runs ++ next ∷ []) stops list run → IsOfEither runs stops list run
        back (inr f) = inr (record { is_new = λ any. f.is_new (any_kept runs next run.key any); news = f.news; last = f.last; added = f.added; trip_named = f.trip_named; calls = f.calls; two_at_least = f.two_at_least })
        back (inl live) = by_place (Contains-push_cases runs next live.run live.of_timetable) where
          by_place : Contains runs live.run ⊎ (next ≡ live.run) → IsOfEither runs stops list run
          by_place (inl before) = inl (record { run = live.run; of_timetable = before; same_key = live.same_key; calls = live.calls })
          by_place (inr is) = absurd (other (ap (λ (r : Run). r.key) is ∙ sym live.same_key))

-- before any news there are no further runs
pub no_further : (stops : List Stop) (live : BTreeMap RunKey (List Call)) → live.entries ≡ [] → HasExactly live (IsFurtherRun [] stops [])
no_further stops live e run = (
  (λ f. absurd (let g : None ≡ Some run.calls = sym (ap (lookup (λ (k : RunKey). tie run.key k)) e) ∙ f in cc)),
  (λ further. absurd (let g : None ≡ Some further.news = further.last in cc)),
)

abbrev pub run_of : RunKey × List Call → Run
run_of entry = record { key = entry.0; calls = entry.1 }

-- the runs of a map are in the order of their keys
pub runs_in_order : (live : BTreeMap RunKey (List Call)) (runs : List Run) → IsOrdered key_cmp live → runs ≡ map run_of live.entries → InKeyOrder runs
runs_in_order live runs ordered e = subst InKeyOrder (sym e) (λ i j d before inside.
    let es = live.entries in
    let there : j < length es = omega (arith, length-map es run_of, inside) in
    let less : key_cmp (get_or (keys_of es) i d.key) (get_or (keys_of es) j d.key) ≡ Less = Less-from_sorted key_cmp (keys_of es) i j d.key ordered before (omega (arith, length-map es (λ (p : RunKey × List Call). p.0), there)) in
    let at_i : (get_or (map run_of es) i d).key ≡ get_or (keys_of es) i d.key = ap (λ (r : Run). r.key) (get_or-map run_of es i (d.key, d.calls) d (omega (arith, before, there))) ∙ sym (get_or-map (λ (p : RunKey × List Call). p.0) es i (d.key, d.calls) d.key (omega (arith, before, there))) in
    let at_j : (get_or (map run_of es) j d).key ≡ get_or (keys_of es) j d.key = ap (λ (r : Run). r.key) (get_or-map run_of es j (d.key, d.calls) d there) ∙ sym (get_or-map (λ (p : RunKey × List Call). p.0) es j (d.key, d.calls) d.key there) in
    rw (at_i, at_j) less)

run_stands : (es : List (RunKey × List Call)) (run : Run) → Contains (map run_of es) run ↔ Contains es (run.key, run.calls)
run_stands es run = (
  (λ (k, inside, at).
      let there : k < length es = omega (arith, length-map es run_of, inside) in
      (k, there, ap (λ (r : Run). let p : RunKey × List Call = (r.key, r.calls) in p) (sym (get_or-map run_of es k (run.key, run.calls) run there) ∙ at))),
  (λ (k, there, at).
      (k, omega (arith, length-map es run_of, there), get_or-map run_of es k (run.key, run.calls) run there ∙ ap run_of at)),
)

-- the runs of a map are exactly those of which it has the calls
pub runs_exactly : (live : BTreeMap RunKey (List Call)) (runs : List Run) → IsOrdered key_cmp live → runs ≡ map run_of live.entries → (run : Run) → Contains runs run ↔ (get key_cmp live run.key ≡ Some run.calls)
runs_exactly live runs ordered e run =
    let iff = btree_map_get_iff key_cmp_total same_keys live ordered run.key run.calls in
    let stands = run_stands live.entries run in (
      (λ there. iff.1 (stands.0 (subst (λ (v : List Run). Contains v run) e there))),
      (λ found. subst (λ (v : List Run). Contains v run) (sym e) (stands.1 (iff.0 found))),
    )

pub no_forward : (live : BTreeMap RunKey (List Call)) → live.entries ≡ [] → GoForward live
no_forward live e key calls f = absurd (let g : None ≡ Some calls = sym (ap (lookup (λ (k : RunKey). tie key k)) e) ∙ f in cc)

pub made_forward : (stops : List Stop) (news : TripSaid) (made : Option Run) (calls : List Call) → IsFurther stops news made → calls_of made ≡ Some calls → GoesForward calls
made_forward stops news None calls is e = absurd (let g : None ≡ Some calls = e in cc)
made_forward stops news (Some run) calls is e = subst GoesForward (sym is.1.calls ∙ some_is_one run.calls calls e) (added_go_forward stops news.stops)

pub further_forward : (stops : List Stop) (news : TripSaid) (old new : BTreeMap RunKey (List Call)) → PutsFurther stops news old new → GoForward old → GoForward new
further_forward stops news old new (inr (no_key, same)) forward key calls f = forward key calls (sym (same key) ∙ f)
further_forward stops news old new (inl puts) forward key calls f =
    by_bool (GoesForward calls) (tie puts.key key)
    (λ e. made_forward stops news puts.run calls puts.made (sym (puts.at key ∙ ap (λ b. if b then calls_of puts.run else get key_cmp old key) e) ∙ f))
    (λ e. forward key calls (sym (puts.at key ∙ ap (λ b. if b then calls_of puts.run else get key_cmp old key) e) ∙ f))

pub live_forward : (next : Run) (live : List Call) (old new : BTreeMap RunKey (List Call)) → ((key : RunKey) → get key_cmp new key ≡ (if tie next.key key then Some live else get key_cmp old key)) → GoesForward live → GoForward old → GoForward new
live_forward next live old new at here forward key calls f =
    by_bool (GoesForward calls) (tie next.key key)
    (λ e. subst GoesForward (some_is_one live calls (sym (at key ∙ ap (λ b. if b then Some live else get key_cmp old key) e) ∙ f)) here)
    (λ e. forward key calls (sym (at key ∙ ap (λ b. if b then Some live else get key_cmp old key) e) ∙ f))

pub said_taken : (news : List DatedNews) (i : ℕ) (dated : DatedNews) → i < length news → dated ≡ get_or news i dated → map news_said (take (i + 1) news) ≡ map news_said (take i news) ++ news_said dated ∷ []
said_taken news i dated inside is = ap (map news_said) (take_more news i dated inside) ∙ map-append news_said (take i news) (get_or news i dated ∷ []) ∙ ap (λ (d : DatedNews). map news_said (take i news) ++ news_said d ∷ []) (sym is)

pub runs_taken : (runs : List Run) (i : ℕ) (next : Run) → i < length runs → next ≡ get_or runs i next → take (i + 1) runs ≡ take i runs ++ next ∷ []
runs_taken runs i next inside is = take_more runs i next inside ∙ ap (λ (r : Run). take i runs ++ r ∷ []) (sym is)

pub later_run : (runs : List Run) (i : ℕ) (next : Run) → i < length runs → next ≡ get_or runs i next → InKeyOrder runs → IsLater (take i runs) next
later_run runs i next inside is ordered run (k, there, at) =
    let before : k < i = omega (arith, length-take i runs, there) in
    let here : get_or runs k run ≡ run = sym (get_or-take i runs k run before) ∙ at in
    let at_i : get_or runs i run ≡ next = get_or_default runs i run next inside ∙ sym is in
    ap (λ (r : Run). key_cmp r.key next.key) (sym here) ∙ ap (λ (r : Run). key_cmp (get_or runs k run).key r.key) (sym at_i) ∙ ordered k i run before inside

-- the runs of a map that has exactly them are the live runs
pub are_live : (runs : List Run) (stops : List Stop) (list : List TripSaid) (live : BTreeMap RunKey (List Call)) (made : List Run) → HasExactly live (IsOfEither runs stops list) → InKeyOrder made
    → ((run : Run) → Contains made run ↔ (get key_cmp live run.key ≡ Some run.calls)) → AreLiveRuns runs stops list made
are_live runs stops list live made has ordered exactly = record {
  in_order = ordered;
  exactly = λ run. ((λ there. (has run).0 ((exactly run).0 there)), (λ either. (exactly run).1 ((has run).1 either)));
}

pub runs_forward : (live : BTreeMap RunKey (List Call)) (made : List Run) → GoForward live → ((run : Run) → Contains made run ↔ (get key_cmp live run.key ≡ Some run.calls)) → All (λ (r : Run). GoesForward r.calls) made
runs_forward live made forward exactly k d inside =
    let run = get_or made k d in
    forward run.key run.calls ((exactly run).0 (k, inside, get_or_default made k run d inside))

last_filtered : (p : TripSaid → Bool) (list : List TripSaid) (news : TripSaid) (b : Bool) → p news ≡ b → last_or None (filter p (list ++ news ∷ [])) ≡ (if b then Some news else last_or None (filter p list))
last_filtered p list news true e = ap (last_or None) (filter-append p list (news ∷ [])) ∙ rw e (last_pushed None (filter p list) news)
last_filtered p list news false e = ap (last_or None) (filter-append p list (news ∷ [])) ∙ rw e (last_kept None (filter p list))

-- news more, of which the last that name a run are looked for
pub named_more : (p : TripSaid → Bool) (news : List DatedNews) (i : ℕ) (dated : DatedNews) (found more : Option TripSaid) → i < length news → dated ≡ get_or news i dated
    → more ≡ (if p (news_said dated) then Some (news_said dated) else found) → found ≡ last_or None (filter p (map news_said (take i news))) → more ≡ last_or None (filter p (map news_said (take (i + 1) news)))
named_more p news i dated found more inside is e f =
    e ∙ ap (λ v. if p (news_said dated) then Some (news_said dated) else v) f
    ∙ sym (last_filtered p (map news_said (take i news)) (news_said dated) (p (news_said dated)) refl)
    ∙ ap (λ v. last_or None (filter p v)) (sym (said_taken news i dated inside is))
