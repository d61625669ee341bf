-- The walk over the calls of a run, one call at a time, and that live calls go forward.
use Rattle.std.proofs.Common.{◌≡◌, ℕ, suc, ◌+◌, ◌<◌, ◌≤◌, ℤ, pos, List, [], ◌∷◌, ◌++◌, length, get_or, drop, true, false, Option, Some, None, refl, sym, ap, ◌∙◌, subst, add-one}
use Rattle.std.specs.List.{All}
use Rattle.std.specs.Prelude.{if◌then◌else◌}
use Rattle.std.proofs.lemmas.List.{drop_more}
use Rattle.std.proofs.lemmas.List.Elements.{All-nil, All-cons, All-head, All-tail, All-append}
use Rattle.std.proofs.lemmas.List.Kept.{AllPairs-cons}
use Rattle.lc_model.specs.Call.{GoesForward, InSequence}
use Rattle.lc_model.specs.declared.call.Call.{Call}
use Rattle.lc_model.specs.Versions.Live.{StatedCall, call_at, calls_with, live_calls_of, raised, stated_calls, stated_with, stated_related}
use Rattle.lc_model.specs.Versions.Naming.{Naming, is_canceled, namings, news_at_place}
use Rattle.lc_model.specs.Versions.News.{StopSaid, TripSaid}
use Rattle.lc_model.specs.declared.versions.event.Relation.{Relation}
use Rattle.lc_model.specs.declared.versions.event.Relation.TheVariants as relations
use Rattle.live_calls.specs.Walk.{stated_list}
use Rattle.live_calls.specs.declared.stated.Times.{Times}
use Rattle.live_calls.proofs.ForwardLemmas.{AllPairs-head, AllPairs-nil, AllPairs-tail, KeepsTimes, RiseInStated, raised_go_forward, seq_of}

stated_here : (all : List Naming) (calls : List Call) (place : ℕ) (call : Call) (late : ℤ) (news : Option StopSaid) → place < length calls → call ≡ get_or calls place call → news ≡ news_at_place all place
    → stated_with call (λ delay. stated_calls all (place + 1) delay (drop (place + 1) calls)) late news ≡ stated_calls all place late (drop place calls)
stated_here all calls place call late news inside is of_news =
    ap (stated_with call (λ delay. stated_calls all (place + 1) delay (drop (place + 1) calls)) late) of_news
    ∙ ap (λ n. stated_with call (λ delay. stated_calls all n delay (drop (place + 1) calls)) late (news_at_place all place)) (add-one place)
    ∙ ap (λ (v : Call). stated_calls all place late (v ∷ drop (place + 1) calls)) is
    ∙ ap (stated_calls all place late) (sym (drop_more calls place call inside))

-- one call more
pub live_more : (all : List Naming) (calls : List Call) (place : ℕ) (call : Call) (late late' : ℤ) (before before' : ℕ) (old new whole : List Call) (news : Option StopSaid) (times : Option Times)
    → place < length calls → call ≡ get_or calls place call → news ≡ news_at_place all place
    → ((behind : ℤ → List StatedCall) → stated_with call behind late news ≡ stated_list (call_at call) times ++ behind late')
    → ((behind : List StatedCall) → old ++ raised before (stated_list (call_at call) times ++ behind) ≡ new ++ raised before' behind)
    → old ++ raised before (stated_calls all place late (drop place calls)) ≡ whole → new ++ raised before' (stated_calls all (place + 1) late' (drop (place + 1) calls)) ≡ whole
live_more all calls place call late late' before before' old new whole news times inside is of_news tells pushed e =
    sym (pushed (stated_calls all (place + 1) late' (drop (place + 1) calls)))
    ∙ ap (λ v. old ++ raised before v) (sym (tells (λ delay. stated_calls all (place + 1) delay (drop (place + 1) calls))))
    ∙ ap (λ v. old ++ raised before v) (stated_here all calls place call late news inside is of_news)
    ∙ e

-- a call as it is stated, before those after a delay
record IsStated (call : Call) (behind : ℤ → List StatedCall) (list : List StatedCall) : Type 0 where
  times : Option Times
  late : ℤ
  is : list ≡ stated_list (call_at call) times ++ behind late

related : (call : Call) (behind : ℤ → List StatedCall) (late : ℤ) (news : StopSaid) (relation : Relation) → IsStated call behind (stated_related call behind late news relation)
related call behind late news relations.Scheduled = record { times = Some (record { arr = _; dep = _ }); late = _; is = refl }
related call behind late news relations.Skipped = record { times = None; late = late; is = refl }
related call behind late news relations.NoData = record { times = Some (record { arr = _; dep = _ }); late = _; is = refl }

tells_call : (call : Call) (behind : ℤ → List StatedCall) (late : ℤ) (news : Option StopSaid) → IsStated call behind (stated_with call behind late news)
tells_call call behind late None = record { times = Some (record { arr = _; dep = _ }); late = late; is = refl }
tells_call call behind late (Some news) = related call behind late news news.relation

call_keeps : (call : Call) (times : Option Times) → All KeepsTimes (stated_list (call_at call) times)
call_keeps call None = All-nil KeepsTimes
call_keeps call (Some times) =
    All-cons KeepsTimes (record { at = call_at call; arr = times.arr; dep = times.dep }) [] (record { arr = λ a d. refl; dep = λ a d. refl; seq = λ a d. refl }) (All-nil KeepsTimes)

calls_keep : (all : List Naming) (place : ℕ) (late : ℤ) (calls : List Call) → All KeepsTimes (stated_calls all place late calls)
calls_keep all place late [] = All-nil KeepsTimes
calls_keep all place late (call ∷ rest) =
    let behind : ℤ → List StatedCall = λ delay. stated_calls all (suc place) delay rest in
    let tells = tells_call call behind late (news_at_place all place) in
    subst (All KeepsTimes) (sym tells.is) (All-append KeepsTimes (stated_list (call_at call) tells.times) (behind tells.late) (call_keeps call tells.times) (calls_keep all (suc place) tells.late rest))

call_seq : (P : ℕ → Type 0) (call : Call) (times : Option Times) → P call.seq → All (λ (t : StatedCall). P (seq_of t)) (stated_list (call_at call) times)
call_seq P call None h = All-nil (λ (t : StatedCall). P (seq_of t))
call_seq P call (Some times) h =
    All-cons (λ (t : StatedCall). P (seq_of t)) (record { at = call_at call; arr = times.arr; dep = times.dep }) [] h (All-nil (λ (t : StatedCall). P (seq_of t)))

-- what holds of the sequences of the calls holds of those that are stated
calls_seq : (P : ℕ → Type 0) (all : List Naming) (place : ℕ) (late : ℤ) (calls : List Call) → All (λ (c : Call). P c.seq) calls → All (λ (t : StatedCall). P (seq_of t)) (stated_calls all place late calls)
calls_seq P all place late [] h = All-nil (λ (t : StatedCall). P (seq_of t))
calls_seq P all place late (call ∷ rest) h =
    let behind : ℤ → List StatedCall = λ delay. stated_calls all (suc place) delay rest in
    let tells = tells_call call behind late (news_at_place all place) in
    subst (All (λ (t : StatedCall). P (seq_of t))) (sym tells.is)
    (All-append (λ (t : StatedCall). P (seq_of t)) (stated_list (call_at call) tells.times) (behind tells.late)
    (call_seq P call tells.times (All-head (λ (c : Call). P c.seq) call rest h))
    (calls_seq P all (suc place) tells.late rest (All-tail (λ (c : Call). P c.seq) call rest h)))

call_then : (call : Call) (times : Option Times) (list : List StatedCall) → All (λ (t : StatedCall). call.seq < seq_of t) list → RiseInStated list → RiseInStated (stated_list (call_at call) times ++ list)
call_then call None list later rise = rise
call_then call (Some times) list later rise =
    AllPairs-cons (λ (x y : StatedCall). seq_of x < seq_of y) (record { at = call_at call; arr = times.arr; dep = times.dep }) list later rise

calls_rise : (all : List Naming) (place : ℕ) (late : ℤ) (calls : List Call) → InSequence calls → RiseInStated (stated_calls all place late calls)
calls_rise all place late [] h = AllPairs-nil (λ (x y : StatedCall). seq_of x < seq_of y)
calls_rise all place late (call ∷ rest) h =
    let behind : ℤ → List StatedCall = λ delay. stated_calls all (suc place) delay rest in
    let tells = tells_call call behind late (news_at_place all place) in
    subst RiseInStated (sym tells.is)
    (call_then call tells.times (behind tells.late)
    (calls_seq (λ n. call.seq < n) all (suc place) tells.late rest (AllPairs-head (λ (x y : Call). x.seq < y.seq) call rest h))
    (calls_rise all (suc place) tells.late rest (AllPairs-tail (λ (x y : Call). x.seq < y.seq) call rest h)))

pub with_go_forward : (calls : List Call) (stops : List StopSaid) → InSequence calls → GoesForward (calls_with calls stops)
with_go_forward calls stops rising =
    let all = namings calls 0 stops in
    raised_go_forward 0 (stated_calls all 0 (pos 0) calls) (calls_keep all 0 (pos 0) calls) (calls_rise all 0 (pos 0) calls rising)

none_go_forward : GoesForward []
none_go_forward = record {
  in_sequence = AllPairs-nil (λ (x y : Call). x.seq < y.seq);
  at_a_stop = All-nil (λ (c : Call). c.arr ≤ c.dep);
  along = AllPairs-nil (λ (x y : Call). x.dep ≤ y.arr);
}

-- live calls go forward, whatever the timetable and the news say
pub live_go_forward : (calls : List Call) (news : Option TripSaid) → InSequence calls → GoesForward (live_calls_of calls news)
live_go_forward calls None rising = with_go_forward calls [] rising
live_go_forward calls (Some news) rising =
    elim (is_canceled news.kind) as (λ b. GoesForward (if b then [] else calls_with calls news.stops)) [
      | true ↦ none_go_forward
      | false ↦ with_go_forward calls news.stops rising
    ]
