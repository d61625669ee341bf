-- Without news a run that goes forward and is not late has its own calls as its live ones.
use Rattle.std.proofs.Common.{◌≡◌, ◌⊎◌, inl, inr, ◌∙◌, ℕ, suc, ◌+◌, ◌<◌, ◌≤◌, max, ℤ, pos, List, [], ◌∷◌, length, get_or, drop, Some, None, refl, sym, ap, ap₂, subst, add-one, arith}
use Rattle.std.specs.Prelude.{◌+ℤ◌, ◌-ℤ◌}
use Rattle.std.specs.List.{All, Contains}
use Rattle.std.proofs.lemmas.Int.{ints}
use Rattle.std.proofs.lemmas.List.{drop_more}
use Rattle.std.proofs.lemmas.List.Elements.{All-head, All-tail}
use Rattle.lc_model.specs.Call.{GoesForward}
use Rattle.lc_model.specs.declared.call.Call.{Call}
use Rattle.lc_model.specs.declared.key.RunKey.{RunKey}
use Rattle.lc_model.specs.declared.moment.TheConstants.{MOMENTS_END}
use Rattle.lc_model.specs.declared.run.Run.{Run}
use Rattle.lc_model.specs.Versions.Added.{IsFurtherRun}
use Rattle.lc_model.specs.Versions.Live.{call_at, calls_with, in_range, raised, stated_calls}
use Rattle.lc_model.specs.Versions.Timetable.{IsLiveRun}
use Rattle.live_calls.specs.Laws.{IsOnTime, LiveWithoutNews, RunsAreLive, RunsOnTime}
use Rattle.live_calls.specs.Walk.{IsKeptAfter}
use Rattle.live_calls.proofs.ForwardLemmas.{AllPairs-head, AllPairs-tail}
use Rattle.live_calls.proofs.LawLemmas.{one_live_list}

not_late : (n : ℕ) (delay : ℤ) → delay ≡ pos 0 → pos n -ℤ pos n ≡ delay
not_late n delay e = (let zero : pos n -ℤ pos n ≡ pos 0 = omega (arith, ints) in zero) ∙ sym e

-- a call that is not late, at its own moments
own_moments : (call : Call) → IsOnTime call → call_at call call.arr call.dep ≡ call
own_moments call on =
    let arr = not_late call.arr call.arr_delay on.arr_delay in
    let dep = not_late call.dep call.dep_delay on.dep_delay in
    λ i. record {
      stop = call.stop;
      seq = call.seq;
      arr = call.arr;
      dep = call.dep;
      board = call.board;
      alight = call.alight;
      arr_delay = arr i;
      dep_delay = dep i;
    }

-- a moment in range, without a delay, after an earlier one
raised_none : (before n : ℕ) → before ≤ n → n < MOMENTS_END → max before (in_range (pos n +ℤ pos 0)) ≡ n
raised_none before n le under =
    let same : in_range (pos n +ℤ pos 0) ≡ n = omega arith in
    omega (arith, same)

-- a call that is kept, before those after its departure
kept_call : (before place : ℕ) (call : Call) (rest : List Call) → IsKeptAfter before call
    → raised before (stated_calls [] place (pos 0) (call ∷ rest)) ≡ call ∷ raised call.dep (stated_calls [] (suc place) (pos 0) rest)
kept_call before place call rest kept =
    let arr : max before (in_range (pos call.arr +ℤ pos 0)) ≡ call.arr = raised_none before call.arr kept.after kept.on_time.arr in
    let dep : max call.arr (in_range (pos call.dep +ℤ pos 0)) ≡ call.dep = raised_none call.arr call.dep kept.stays kept.on_time.dep in
    ap (λ a. call_at call a (max a (in_range (pos call.dep +ℤ pos 0))) ∷ raised (max a (in_range (pos call.dep +ℤ pos 0))) (stated_calls [] (suc place) (pos 0) rest)) arr
    ∙ ap (λ d. call_at call call.arr d ∷ raised d (stated_calls [] (suc place) (pos 0) rest)) dep
    ∙ ap (λ (c : Call). c ∷ raised call.dep (stated_calls [] (suc place) (pos 0) rest)) (own_moments call kept.on_time)

-- where the calls after one that is kept are the live ones, so are they with it
pub kept_more : (calls : List Call) (place before : ℕ) (call : Call) → place < length calls → call ≡ get_or calls place call → IsKeptAfter before call
    → raised call.dep (stated_calls [] (place + 1) (pos 0) (drop (place + 1) calls)) ≡ drop (place + 1) calls
    → raised before (stated_calls [] place (pos 0) (drop place calls)) ≡ drop place calls
kept_more calls place before call inside is kept rest =
    let later : List Call = drop (place + 1) calls in
    let here : drop place calls ≡ call ∷ later = drop_more calls place call inside ∙ ap (λ (c : Call). c ∷ later) (sym is) in
    subst (λ (list : List Call). raised before (stated_calls [] place (pos 0) list) ≡ list) (sym here)
    (kept_call before place call later kept ∙ ap (λ (list : List Call). call ∷ list) (subst (λ n. raised call.dep (stated_calls [] n (pos 0) later) ≡ later) (add-one place) rest))

same_calls : (before place : ℕ) (calls : List Call) → All (λ (c : Call). before ≤ c.arr) calls → GoesForward calls → All IsOnTime calls → raised before (stated_calls [] place (pos 0) calls) ≡ calls
same_calls before place [] above forward on = refl
same_calls before place (call ∷ rest) above forward on =
    let kept : IsKeptAfter before call = record {
      on_time = All-head IsOnTime call rest on;
      after = All-head (λ (c : Call). before ≤ c.arr) call rest above;
      stays = All-head (λ (x : Call). x.arr ≤ x.dep) call rest forward.at_a_stop;
    } in
    let later = same_calls call.dep (suc place) rest (AllPairs-head (λ (x y : Call). x.dep ≤ y.arr) call rest forward.along)
    (record {
      in_sequence = AllPairs-tail (λ (x y : Call). x.seq < y.seq) call rest forward.in_sequence;
      at_a_stop = All-tail (λ (x : Call). x.arr ≤ x.dep) call rest forward.at_a_stop;
      along = AllPairs-tail (λ (x y : Call). x.dep ≤ y.arr) call rest forward.along;
    }) (All-tail IsOnTime call rest on) in
    kept_call before place call rest kept ∙ ap (λ (list : List Call). call ∷ list) later

own_calls : (calls : List Call) → GoesForward calls → All IsOnTime calls → calls_with calls [] ≡ calls
own_calls calls forward on = same_calls 0 0 calls (λ k d inside. omega arith) forward on

-- the run at a place of a list
run_there : (P : Run → Type 0) (runs : List Run) (run : Run) → All P runs → Contains runs run → P run
run_there P runs run all (k, inside, at) = subst P at (all k run inside)

same_run : (a b : Run) → a.key ≡ b.key → a.calls ≡ b.calls → a ≡ b
same_run a b key calls = ap₂ (λ (k : RunKey) (list : List Call). let run : Run = record { key = k; calls = list } in run) key calls

-- the runs are live runs of their own
pub runs_are_live : RunsAreLive
runs_are_live runs stops order on = record { in_order = order; exactly = λ run. (forth run, back run) } where
  forth : (run : Run) → Contains runs run → IsLiveRun runs [] run ⊎ IsFurtherRun runs stops [] run
  forth run there =
      let time = run_there RunsOnTime runs run on there in
      inl (record { run = run; of_timetable = there; same_key = refl; calls = sym (own_calls run.calls time.forward time.on_time) })

  back : (run : Run) → IsLiveRun runs [] run ⊎ IsFurtherRun runs stops [] run → Contains runs run
  back run (inl live) =
      let time = run_there RunsOnTime runs live.run on live.of_timetable in
      subst (Contains runs) (sym (same_run run live.run live.same_key (live.calls ∙ own_calls live.run.calls time.forward time.on_time))) live.of_timetable
  back run (inr further) = absurd (let f : None ≡ Some further.news = further.last in cc)

pub live_without : LiveWithoutNews
live_without runs stops live order on are = one_live_list runs stops [] live runs are (runs_are_live runs stops order on)
