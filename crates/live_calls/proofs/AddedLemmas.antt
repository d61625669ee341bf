-- The calls of added trips, one stop at a time, and that they go forward.
use Rattle.std.proofs.Common.{◌≡◌, ℕ, suc, ◌+◌, ◌<◌, ◌≤◌, ℤ, List, [], ◌∷◌, ◌++◌, length, get_or, drop, Bool, true, false, Option, Some, None, option_to_list, Result, Ok, Err, refl, sym, ap, ◌∙◌, subst, arith, add-one, ⊎_elim}
use Rattle.std.specs.Prelude.{if◌then◌else◌, is_some}
use Rattle.std.specs.List.{All}
use Rattle.std.specs.List.Sorted.{IsBinarySearchResult, IsSearchInRange}
use Rattle.std.specs.Ordering.{on}
use Rattle.std.specs.Option.{IfSome}
use Rattle.std.specs.Result.{result_ok}
use Rattle.std.specs.declared.cmp.Ordering.TheVariants.{Less, Equal, Greater}
use Rattle.std.proofs.lemmas.Bool.{cases_lt}
use Rattle.std.proofs.lemmas.Cmp.{nat_list_cmp_total, on_total}
use Rattle.std.proofs.lemmas.Slice.Eq.{bytes_eq-Decides}
use Rattle.std.proofs.lemmas.List.{drop_more}
use Rattle.std.proofs.lemmas.List.Elements.{All-nil, All-cons, All-append, All-weaker}
use Rattle.std.proofs.lemmas.List.Folds.{list_any_at, list_any_none}
use Rattle.std.proofs.lemmas.List.Kept.{AllPairs-cons}
use Rattle.std.proofs.lemmas.List.Sorted.{searchable_from_sorted}
use Rattle.lc_model.specs.Call.{GoesForward}
use Rattle.lc_model.specs.Change.{is_same_id}
use Rattle.lc_model.specs.Stop.{InStopOrder}
use Rattle.lc_model.specs.Text.{id_cmp}
use Rattle.lc_model.specs.declared.call.Call.{Call}
use Rattle.lc_model.specs.declared.stop.Stop.{Stop}
use Rattle.lc_model.proofs.SearchLemmas.{id_tie, same_id, sorted_from_strict}
use Rattle.lc_model.specs.Versions.Added.{added_at, added_call, added_call_at, added_calls, added_from, added_known, has_stop, is_skipped, time_of}
use Rattle.lc_model.specs.Versions.Live.{StatedCall, raised}
use Rattle.lc_model.specs.Versions.News.{StopSaid}
use Rattle.live_calls.specs.Walk.{added_by, served_times, times_said}
use Rattle.live_calls.specs.declared.stated.Times.{Times}
use Rattle.live_calls.proofs.ForwardLemmas.{AllPairs-nil, KeepsTimes, RiseInStated, raised_go_forward, seq_of}

at_times : (stops : List Stop) (seq : ℕ) (stop : Option (List ℕ)) (arr dep : Option ℤ) → added_at stops seq stop arr dep ≡ added_by stops seq (times_said arr dep) stop
at_times stops seq None None None = refl
at_times stops seq None None (Some dep) = refl
at_times stops seq None (Some arr) None = refl
at_times stops seq None (Some arr) (Some dep) = refl
at_times stops seq (Some stop) None None = refl
at_times stops seq (Some stop) None (Some dep) = refl
at_times stops seq (Some stop) (Some arr) None = refl
at_times stops seq (Some stop) (Some arr) (Some dep) = refl

by_relation : (stops : List Stop) (seq : ℕ) (news : StopSaid) (skipped : Bool) →
    (if skipped then None else added_at stops seq news.stop (time_of news.arr) (time_of news.dep)) ≡ added_by stops seq (if skipped then None else times_said (time_of news.arr) (time_of news.dep)) news.stop
by_relation stops seq news true = refl
by_relation stops seq news false = at_times stops seq news.stop (time_of news.arr) (time_of news.dep)

-- the call that the news of a stop give, by its times and its stop
pub added_call-by : (stops : List Stop) (seq : ℕ) (news : StopSaid) → added_call stops seq news ≡ added_by stops seq (served_times news) news.stop
added_call-by stops seq news = by_relation stops seq news (is_skipped news.relation)

-- one call more
pub added_more : (stops : List Stop) (list : List StopSaid) (place : ℕ) (news : StopSaid) (seq before before' : ℕ) (old new : List Call) (whole : List Call) → place < length list → news ≡ get_or list place news → seq ≡ suc place
    → ((behind : List StatedCall) → old ++ raised before (option_to_list (added_by stops seq (served_times news) news.stop) ++ behind) ≡ new ++ raised before' behind)
    → old ++ raised before (added_from stops (place + 1) (drop place list)) ≡ whole → new ++ raised before' (added_from stops (place + 1 + 1) (drop (place + 1) list)) ≡ whole
added_more stops list place news seq before before' old new whole inside is of pushed e =
    let rest = drop (place + 1) list in
    sym (pushed (added_from stops (place + 1 + 1) rest))
    ∙ ap (λ v. old ++ raised before (option_to_list v ++ added_from stops (place + 1 + 1) rest)) (sym (added_call-by stops seq news))
    ∙ ap (λ n. old ++ raised before (option_to_list (added_call stops n news) ++ added_from stops (place + 1 + 1) rest)) of
    ∙ ap (λ n. old ++ raised before (option_to_list (added_call stops (suc place) news) ++ added_from stops n rest)) (add-one (place + 1) ∙ ap suc (add-one place))
    ∙ ap (λ (v : StopSaid). old ++ raised before (added_from stops (suc place) (v ∷ rest))) is
    ∙ ap (λ v. old ++ raised before (added_from stops (suc place) v)) (sym (drop_more list place news inside))
    ∙ ap (λ n. old ++ raised before (added_from stops n (drop place list))) (sym (add-one place))
    ∙ e

known_keeps : (seq : ℕ) (stop : List ℕ) (arr dep : ℤ) (known : Bool) → All KeepsTimes (option_to_list (added_known seq stop arr dep known))
known_keeps seq stop arr dep false = All-nil KeepsTimes
known_keeps seq stop arr dep true =
    All-cons KeepsTimes (record { at = added_call_at stop seq; arr = arr; dep = dep }) [] (record { arr = λ a d. refl; dep = λ a d. refl; seq = λ a d. refl }) (All-nil KeepsTimes)

by_keeps : (stops : List Stop) (seq : ℕ) (times : Option Times) (stop : Option (List ℕ)) → All KeepsTimes (option_to_list (added_by stops seq times stop))
by_keeps stops seq None stop = All-nil KeepsTimes
by_keeps stops seq (Some times) None = All-nil KeepsTimes
by_keeps stops seq (Some times) (Some stop) = known_keeps seq stop times.arr times.dep (has_stop stops stop)

from_keeps : (stops : List Stop) (seq : ℕ) (list : List StopSaid) → All KeepsTimes (added_from stops seq list)
from_keeps stops seq [] = All-nil KeepsTimes
from_keeps stops seq (news ∷ rest) =
    All-append KeepsTimes (option_to_list (added_call stops seq news)) (added_from stops (suc seq) rest)
    (subst (λ v. All KeepsTimes (option_to_list v)) (sym (added_call-by stops seq news)) (by_keeps stops seq (served_times news) news.stop)) (from_keeps stops (suc seq) rest)

-- each call that is stated has this sequence
abbrev HaveSeq : ℕ → List StatedCall → Type 0
HaveSeq seq list = All (λ (t : StatedCall). seq_of t ≡ seq) list

known_seq : (seq : ℕ) (stop : List ℕ) (arr dep : ℤ) (known : Bool) → HaveSeq seq (option_to_list (added_known seq stop arr dep known))
known_seq seq stop arr dep false = All-nil (λ (t : StatedCall). seq_of t ≡ seq)
known_seq seq stop arr dep true = All-cons (λ (t : StatedCall). seq_of t ≡ seq) (record { at = added_call_at stop seq; arr = arr; dep = dep }) [] refl (All-nil (λ (t : StatedCall). seq_of t ≡ seq))

by_seq : (stops : List Stop) (seq : ℕ) (times : Option Times) (stop : Option (List ℕ)) → HaveSeq seq (option_to_list (added_by stops seq times stop))
by_seq stops seq None stop = All-nil (λ (t : StatedCall). seq_of t ≡ seq)
by_seq stops seq (Some times) None = All-nil (λ (t : StatedCall). seq_of t ≡ seq)
by_seq stops seq (Some times) (Some stop) = known_seq seq stop times.arr times.dep (has_stop stops stop)

call_seq : (stops : List Stop) (seq : ℕ) (news : StopSaid) → HaveSeq seq (option_to_list (added_call stops seq news))
call_seq stops seq news = subst (λ v. HaveSeq seq (option_to_list v)) (sym (added_call-by stops seq news)) (by_seq stops seq (served_times news) news.stop)

from_seq : (stops : List Stop) (seq : ℕ) (list : List StopSaid) → All (λ (t : StatedCall). seq ≤ seq_of t) (added_from stops seq list)
from_seq stops seq [] = All-nil (λ (t : StatedCall). seq ≤ seq_of t)
from_seq stops seq (news ∷ rest) =
    All-append (λ (t : StatedCall). seq ≤ seq_of t) (option_to_list (added_call stops seq news)) (added_from stops (suc seq) rest)
    (All-weaker (λ (t : StatedCall). seq_of t ≡ seq) (λ (t : StatedCall). seq ≤ seq_of t) (λ t e. omega (arith, e)) (option_to_list (added_call stops seq news)) (call_seq stops seq news))
    (All-weaker (λ (t : StatedCall). suc seq ≤ seq_of t) (λ (t : StatedCall). seq ≤ seq_of t) (λ t le. omega (arith, le)) (added_from stops (suc seq) rest) (from_seq stops (suc seq) rest))

call_then : (seq : ℕ) (call : Option StatedCall) (list : List StatedCall) → HaveSeq seq (option_to_list call) → All (λ (t : StatedCall). suc seq ≤ seq_of t) list → RiseInStated list → RiseInStated (option_to_list call ++ list)
call_then seq None list here later rise = rise
call_then seq (Some call) list here later rise =
    let is : seq_of call ≡ seq = here 0 call (omega arith) in
    AllPairs-cons (λ (x y : StatedCall). seq_of x < seq_of y) call list
    (All-weaker (λ (t : StatedCall). suc seq ≤ seq_of t) (λ (t : StatedCall). seq_of call < seq_of t) (λ t le. omega (arith, le, is)) list later) rise

from_rise : (stops : List Stop) (seq : ℕ) (list : List StopSaid) → RiseInStated (added_from stops seq list)
from_rise stops seq [] = AllPairs-nil (λ (x y : StatedCall). seq_of x < seq_of y)
from_rise stops seq (news ∷ rest) =
    call_then seq (added_call stops seq news) (added_from stops (suc seq) rest) (call_seq stops seq news) (from_seq stops (suc seq) rest) (from_rise stops (suc seq) rest)

-- the calls of added trips go forward
pub added_go_forward : (stops : List Stop) (list : List StopSaid) → GoesForward (added_calls stops list)
added_go_forward stops list = raised_go_forward 0 (added_from stops 1 list) (from_keeps stops 1 list) (from_rise stops 1 list)

-- what a search for a stop answers: its place, or that there is none
pub record IsStopSearch (stops : List Stop) (id : List ℕ) (place : Option ℕ) : Type 0 where
  pub known : is_some place ≡ has_stop stops id
  pub inside : IfSome place (λ k. k < length stops)
  pub named : IfSome place (λ k. (d : Stop) → (get_or stops k d).id ≡ id)

not_same : (x y : List ℕ) (b : Bool) → is_same_id x y ≡ b → (x ≡ y → ⊥) → b ≡ false
not_same x y true e other = absurd (other (id_of_same x y e)) where
  id_of_same : (x y : List ℕ) → is_same_id x y ≡ true → x ≡ y
  id_of_same x y e = (bytes_eq-Decides x y).0 e
not_same x y false e other = refl

pub stop_search : (stops : List Stop) (id : List ℕ) (r : Result ℕ ℕ) → InStopOrder stops → IsSearchInRange r (length stops) → IsBinarySearchResult (λ (s : Stop). id_cmp s.id id) stops r → IsStopSearch stops id (result_ok r)
stop_search stops id (Ok k) sorted inside at = record {
  known = sym (list_any_at (λ (s : Stop). is_same_id s.id id) stops k (get_or stops k stand_in) inside ((bytes_eq-Decides _ id).1 (id_tie _ id (at _))));
  inside = inside;
  named = λ d. id_tie (get_or stops k d).id id (at d);
} where
  stand_in : Stop
  stand_in = record { id = []; name = []; parent = None }
stop_search stops id (Err k) sorted inside at =
    let parts = at (searchable_from_sorted nat_list_cmp_total (λ (s : Stop). s.id) stops id (sorted_from_strict (on (λ (s : Stop). s.id) id_cmp) (on_total (λ (s : Stop). s.id) nat_list_cmp_total) stops sorted)) in
    record {
      known = sym (list_any_none (λ (s : Stop). is_same_id s.id id) stops (λ n d there.
          not_same (get_or stops n d).id id (is_same_id (get_or stops n d).id id) refl (λ same.
          ⊎_elim
          (λ (low : n < k). let f : Less ≡ Equal = sym (parts.0 n d (omega arith) low) ∙ same_id (get_or stops n d).id id same in cc)
          (λ (high : k ≤ n). let f : Greater ≡ Equal = sym (parts.1 n d high there) ∙ same_id (get_or stops n d).id id same in cc)
          (cases_lt n k))));
      inside = tt;
      named = tt;
    }
