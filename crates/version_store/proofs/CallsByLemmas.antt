-- The run of a key, and the calls that it has by the news.
use Rattle.std.proofs.Common.{◌≡◌, ◌∙◌, inl, inr, ℕ, ◌<◌, ◌≤◌, List, [], ◌∷◌, filter, get_or, length, Bool, true, cond, Option, Some, None, Err, sym, ap, subst, arith, ⊎_elim}
use Rattle.std.specs.List.{last_or}
use Rattle.std.specs.List.Sorted.{IsBinarySearchResult}
use Rattle.std.specs.Option.{ForSome}
use Rattle.std.specs.Ordering.{on}
use Rattle.std.specs.declared.cmp.Ordering.TheVariants.{Less, Equal, Greater}
use Rattle.std.proofs.lemmas.Bool.{cases_lt}
use Rattle.std.proofs.lemmas.Cmp.{tied_itself}
use Rattle.std.proofs.lemmas.List.Sorted.{searchable_from_sorted}
use Rattle.lc_model.specs.Call.{GoesForward}
use Rattle.lc_model.specs.Run.{InKeyOrder}
use Rattle.lc_model.specs.RunKey.{key_cmp}
use Rattle.lc_model.specs.Text.{IsIdText}
use Rattle.lc_model.specs.Totals.{key_cmp_total, run_cmp_total}
use Rattle.lc_model.specs.declared.call.Call.{Call}
use Rattle.lc_model.specs.declared.key.RunKey.{RunKey}
use Rattle.lc_model.specs.declared.run.Run.{Run}
use Rattle.lc_model.specs.declared.stop.Stop.{Stop}
use Rattle.lc_model.proofs.KeyLemmas.{same_keys}
use Rattle.lc_model.proofs.SearchLemmas.{sorted_from_strict}
use Rattle.lc_model.specs.Versions.Added.{IsFurtherRun, has_key, news_of_key}
use Rattle.lc_model.specs.Versions.Live.{live_calls_of}
use Rattle.lc_model.specs.Versions.Naming.{news_for}
use Rattle.lc_model.specs.Versions.News.{TripSaid}
use Rattle.version_store.specs.IndexLaws.Held.{IsRunBy}
use Rattle.version_store.specs.CallsBy.{AreCallsBy, AreFurtherCalls, IsRunOfKey, run_with}
use Rattle.version_store.specs.Further.{IsFurther, calls_of}
use Rattle.version_store.specs.LastNews.{HasLastAt}
use Rattle.version_store.specs.Named.{said_at}
use Rattle.version_store.specs.declared.last_news.LastNews.{LastNews}
use Rattle.version_store.proofs.FurtherLemmas.{at_its_key, by_bool, made_forward}

-- a search finds the run of the key
pub run_found : (runs : List Run) (key : RunKey) (i : ℕ) (run : Run) → i < length runs → run ≡ get_or runs i run → ((d : Run) → key_cmp (get_or runs i d).key key ≡ Equal) → IsRunOfKey runs key (Some run)
run_found runs key i run inside is at = ((i, inside, sym is), ap (λ (r : Run). r.key) is ∙ same_keys (get_or runs i run).key key (at run))

pub run_not_found : (runs : List Run) (key : RunKey) (i : ℕ) → InKeyOrder runs → IsBinarySearchResult (λ (r : Run). key_cmp r.key key) runs (Err i) → IsRunOfKey runs key None
run_not_found runs key i up at (k, run, there, at_k, tie) =
    let parts = at (searchable_from_sorted key_cmp_total (λ (r : Run). r.key) runs key (sorted_from_strict (on (λ (r : Run). r.key) key_cmp) run_cmp_total runs up)) in
    let itself : key_cmp run.key key ≡ Equal = subst (λ (k : RunKey). key_cmp run.key k ≡ Equal) tie (tied_itself key_cmp_total run.key) in
    let equal : key_cmp (get_or runs k run).key key ≡ Equal = subst (λ (r : Run). key_cmp r.key key ≡ Equal) (sym at_k) itself in
    ⊎_elim
    (λ (low : k < i). absurd (let f : Less ≡ Equal = sym (parts.0 k run (omega arith) low) ∙ equal in cc))
    (λ (high : i ≤ k). absurd (let f : Greater ≡ Equal = sym (parts.1 k run high there) ∙ equal in cc))
    (cases_lt k i)

-- the last item that passes a test passes it
last_passes : (p : TripSaid → Bool) (o : Option TripSaid) (list : List TripSaid) (news : TripSaid) → ((x : TripSaid) → o ≡ Some x → p x ≡ true) → last_or o (filter p list) ≡ Some news → p news ≡ true
last_passes p o [] news before e = before news e
last_passes p o (x ∷ list) news before e =
    by_bool (p news ≡ true) (p x)
    (λ passes.
    last_passes p (Some x) list news (λ y same. let one : x ≡ y = cc in subst (λ (z : TripSaid). p z ≡ true) one passes)
    (sym (ap (λ b. last_or o (cond b (x ∷ filter p list) (filter p list))) passes) ∙ e))
    (λ fails. last_passes p o list news before (sym (ap (λ b. last_or o (cond b (x ∷ filter p list) (filter p list))) fails) ∙ e))

-- the run of the timetable with the key has its live calls
pub calls_of_run : (runs : List Run) (stops : List Stop) (list : List TripSaid) (last : LastNews) (key : RunKey) (run : Run) (calls : List Call) → IsIdText key.trip → HasLastAt key list last → IsRunOfKey runs key (Some run)
    → calls ≡ live_calls_of run.calls (said_at last.named run.key) → AreCallsBy runs stops list key (Some calls)
calls_of_run runs stops list last key run calls named has of_key are =
    let said : said_at last.named run.key ≡ news_for run.key list = subst (λ (k : RunKey). said_at last.named k ≡ news_for k list) (sym of_key.1) (has.named named) in
    inl (record { run = run; of_timetable = of_key.0; same_key = sym of_key.1; calls = are ∙ ap (live_calls_of run.calls) said })

-- a further run of one news alone is one of the list in which these are the last of its key
one_of_list : (runs : List Run) (stops : List Stop) (list : List TripSaid) (news : TripSaid) (run : Run) → IsRunOfKey runs run.key None → news_of_key run.key list ≡ news_of_key run.key (news ∷ [])
    → IsFurtherRun [] stops (news ∷ []) run → IsFurtherRun runs stops list run
one_of_list runs stops list news run none same is = record { is_new = none; news = is.news; last = same ∙ is.last; added = is.added; trip_named = is.trip_named; calls = is.calls; two_at_least = is.two_at_least }

list_of_one : (runs : List Run) (stops : List Stop) (list : List TripSaid) (news : TripSaid) (run : Run) → news_of_key run.key list ≡ news_of_key run.key (news ∷ [])
    → IsFurtherRun runs stops list run → IsFurtherRun [] stops (news ∷ []) run
list_of_one runs stops list news run same is = record {
  is_new = λ (k, r, inside, at, tied). omega (arith, inside);
  news = is.news;
  last = sym same ∙ is.last;
  added = is.added;
  trip_named = is.trip_named;
  calls = is.calls;
  two_at_least = is.two_at_least;
}

only_further : (runs : List Run) (stops : List Stop) (list : List TripSaid) (key : RunKey) (calls : List Call) → IsRunOfKey runs key None → IsRunBy runs stops list (run_with key calls) → IsFurtherRun runs stops list (run_with key calls)
only_further runs stops list key calls none (inl live) = let there = live.of_timetable in absurd (none (there.0, live.run, there.1, there.2, sym live.same_key))
only_further runs stops list key calls none (inr further) = further

-- what the news of a key make, where no run of the timetable has it
made_calls : (runs : List Run) (stops : List Stop) (list : List TripSaid) (key : RunKey) (news : TripSaid) (made : Option Run) (calls : Option (List Call)) → IsRunOfKey runs key None → news_of_key key list ≡ Some news
    → IsFurther stops news made → calls ≡ calls_of made → AreCallsBy runs stops list key calls
made_calls runs stops list key news made calls none last is e = by_calls calls e where
  of : has_key key news ≡ true
  of = last_passes (has_key key) None list news (λ x f. absurd (let g : None ≡ Some x = f in cc)) last

  alone : news_of_key key list ≡ news_of_key key (news ∷ [])
  alone = last ∙ sym (ap (λ b. last_or None (cond b (news ∷ []) [])) of)

  by_calls : (calls : Option (List Call)) → calls ≡ calls_of made → AreCallsBy runs stops list key calls
  by_calls (Some calls) e = inr (one_of_list runs stops list news (run_with key calls) none alone ((at_its_key stops [] news made (run_with key calls) is of).0 (sym e)))
  by_calls None e = λ calls by.
      let further = list_of_one runs stops list news (run_with key calls) alone (only_further runs stops list key calls none by) in
      let found : calls_of made ≡ Some calls = (at_its_key stops [] news made (run_with key calls) is of).1 further in
      let f : None ≡ Some calls = e ∙ found in cc

-- the calls of a key that no run of the timetable has
pub further_calls_by : (runs : List Run) (stops : List Stop) (list : List TripSaid) (key : RunKey) (news : Option TripSaid) (calls : Option (List Call)) → IsRunOfKey runs key None → news_of_key key list ≡ news
    → AreFurtherCalls stops news calls → AreCallsBy runs stops list key calls
further_calls_by runs stops list key None calls none last are = subst (AreCallsBy runs stops list key) (sym are) (λ calls by.
    let further = only_further runs stops list key calls none by in
    let f : None ≡ Some further.news = sym last ∙ further.last in cc)
further_calls_by runs stops list key (Some news) calls none last (made, is, e) = made_calls runs stops list key news made calls none last is e

-- the calls that news make go forward
pub further_calls_forward : (stops : List Stop) (news : Option TripSaid) (calls : Option (List Call)) → AreFurtherCalls stops news calls → ForSome calls GoesForward
further_calls_forward stops None calls e = λ x f. absurd (let g : None ≡ Some x = sym e ∙ f in cc)
further_calls_forward stops (Some news) calls (made, is, e) = λ x f. made_forward stops news made x is (sym e ∙ f)
