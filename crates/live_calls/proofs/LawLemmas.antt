-- Live runs are one list, and the news of an added trip make one run.
use Rattle.std.proofs.Common.{◌≡◌, inl, inr, ℕ, ◌<◌, ◌≤◌, List, length, Bool, true, false, Option, Some, None, refl, sym, ap, ap₂, ◌∙◌, subst, arith}
use Rattle.std.specs.Prelude.{◌&&◌}
use Rattle.std.specs.Ordering.{is_eq, on}
use Rattle.std.specs.Option.{IsSomeAnd}
use Rattle.std.proofs.lemmas.Bool.{eqb-true}
use Rattle.std.proofs.lemmas.Slice.Eq.{bytes_eq-Decides}
use Rattle.std.specs.declared.cmp.Ordering.{Ordering}
use Rattle.std.specs.declared.cmp.Ordering.TheVariants.{Less, Equal, Greater}
use Rattle.lc_model.specs.Change.{is_same_id}
use Rattle.lc_model.specs.RunKey.{date_cmp, key_cmp}
use Rattle.lc_model.specs.Text.{IsIdText}
use Rattle.lc_model.specs.Totals.{run_cmp_total}
use Rattle.lc_model.specs.declared.call.Call.{Call}
use Rattle.lc_model.specs.declared.date.ServiceDate.{ServiceDate}
use Rattle.lc_model.specs.declared.key.RunKey.{RunKey}
use Rattle.lc_model.specs.declared.run.Run.{Run}
use Rattle.lc_model.specs.declared.stop.Stop.{Stop}
use Rattle.lc_model.proofs.OrdersLemmas.{strict_lists_are_one}
use Rattle.lc_model.specs.Versions.Added.{added_calls, has_key, is_start}
use Rattle.lc_model.specs.Versions.Naming.{is_on}
use Rattle.lc_model.specs.Versions.News.{TripSaid}
use Rattle.live_calls.specs.AddedRun.{HasNoKey, IsAdded, IsAddedRun}
use Rattle.live_calls.specs.Laws.{OneAddedRun, OneListOfLiveRuns}
use Rattle.lc_model.proofs.KeyLemmas.{same_dates, same_key_parts}

pub one_live_list : OneListOfLiveRuns
one_live_list runs stops list a b first second =
    strict_lists_are_one (on (λ (r : Run). r.key) key_cmp) run_cmp_total a b first.in_order second.in_order
    (λ run there. (second.exactly run).1 ((first.exactly run).0 there)) (λ run there. (first.exactly run).1 ((second.exactly run).0 there))

both_true : (a b : Bool) → (a && b) ≡ true → (a ≡ true) × (b ≡ true)
both_true true b e = (refl, e)
both_true false b e = absurd (let f : false ≡ true = e in cc)

equal_from : (o : Ordering) → is_eq o ≡ true → o ≡ Equal
equal_from Less e = absurd (let f : false ≡ true = e in cc)
equal_from Equal e = refl
equal_from Greater e = absurd (let f : false ≡ true = e in cc)

-- the news have this trip, date and start
pub record HaveParts (key : RunKey) (news : TripSaid) : Type 0 where
  pub trip : news.trip ≡ key.trip
  pub date : news.date ≡ Some key.date
  pub start : news.start ≡ key.start

date_on : (date : ServiceDate) (said : Option ServiceDate) → is_on date said ≡ true → said ≡ Some date
date_on date None e = absurd (let f : false ≡ true = e in cc)
date_on date (Some other) e = ap Some (same_dates other date (equal_from (date_cmp other date) e))

start_on : (start said : Option ℕ) → is_start start said ≡ true → said ≡ start
start_on None None e = refl
start_on None (Some said) e = absurd (let f : false ≡ true = e in cc)
start_on (Some start) None e = absurd (let f : false ≡ true = e in cc)
start_on (Some start) (Some said) e = ap Some (eqb-true said start e)

pub parts_of_key : (key : RunKey) (news : TripSaid) → has_key key news ≡ true → HaveParts key news
parts_of_key key news e =
    let first = both_true (is_same_id news.trip key.trip) (is_on key.date news.date && is_start key.start news.start) e in
    let second = both_true (is_on key.date news.date) (is_start key.start news.start) first.1 in
    record { trip = (bytes_eq-Decides news.trip key.trip).0 first.0; date = date_on key.date news.date second.0; start = start_on key.start news.start second.1 }

some_is_one : {X : Type 0} (x y : X) → Some x ≡ Some y → x ≡ y
some_is_one x y e = cc

-- the news have one key
pub keys_are_one : (a b : RunKey) (news : TripSaid) → has_key a news ≡ true → has_key b news ≡ true → a ≡ b
keys_are_one a b news first second =
    let x = parts_of_key a news first in
    let y = parts_of_key b news second in
    same_key_parts a b (sym x.trip ∙ y.trip) (some_is_one a.date b.date (sym x.date ∙ y.date)) (sym x.start ∙ y.start)

runs_are_one : (stops : List Stop) (news : TripSaid) (a b : Run) → IsAddedRun stops news a → IsAddedRun stops news b → a ≡ b
runs_are_one stops news a b first second =
    let key = keys_are_one a.key b.key news first.same_key second.same_key in
    let calls : a.calls ≡ b.calls = first.calls ∙ sym second.calls in
    ap₂ (λ (k : RunKey) (list : List Call). let run : Run = record { key = k; calls = list } in run) key calls

start_in : (key : RunKey) (start : Option ℕ) → start ≡ key.start → IsSomeAnd start (λ seconds. 360_000 ≤ seconds) → ⊥
start_in key None e past = past
start_in key (Some seconds) e past = let under : seconds < 360_000 = key.start_in_range seconds (sym e) in omega (arith, under, past)

-- news that have no key have none
pub no_key_names_none : (news : TripSaid) (key : RunKey) → has_key key news ≡ true → IsIdText key.trip → HasNoKey news → ⊥
no_key_names_none news key same named (inl not_named) = not_named (subst IsIdText (sym (parts_of_key key news same).trip) named)
no_key_names_none news key same named (inr (inl no_date)) = let parts = parts_of_key key news same in let e : None ≡ Some key.date = sym no_date ∙ parts.date in cc
no_key_names_none news key same named (inr (inr past)) = start_in key news.start (parts_of_key key news same).start past

not_both : (stops : List Stop) (news : TripSaid) (run : Run) → IsAddedRun stops news run → IsAdded stops news None → ⊥
not_both stops news run is (inl no_key) = no_key_names_none news run.key is.same_key is.trip_named no_key
not_both stops news run is (inr few) = let enough : 2 ≤ length (added_calls stops news.stops) = subst (λ calls. 2 ≤ length calls) is.calls is.two_at_least in omega (arith, few, enough)

pub one_run : OneAddedRun
one_run stops news (Some a) (Some b) first second = ap Some (runs_are_one stops news a b first second)
one_run stops news (Some a) None first second = absurd (not_both stops news a first second)
one_run stops news None (Some b) first second = absurd (not_both stops news b second first)
one_run stops news None None first second = refl
