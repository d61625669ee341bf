-- Near values that the definitions of a store refuse, and what becomes of every message.
use Rattle.std.proofs.Common.{◌≡◌, ◌⊎◌, inl, inr, ℕ, ◌+◌, ◌<◌, ◌≤◌, List, [], ◌∷◌, ◌++◌, length, filter, Bool, true, false, Option, Some, None, refl, ap, sym, subst, ◌∙◌, arith, length-append}
use Rattle.std.specs.Prelude.{nat_le, not, ◌&&◌, if◌then◌else◌}
use Rattle.std.specs.List.{Contains}
use Rattle.std.specs.Ordering.{is_eq}
use Rattle.std.specs.declared.cmp.Ordering.{Ordering}
use Rattle.std.specs.declared.cmp.Ordering.TheVariants.{Less, Equal, Greater}
use Rattle.std.proofs.lemmas.Bool.Decides.{nat_tests}
use Rattle.std.proofs.lemmas.List.{map-append}
use Rattle.lc_model.specs.Change.{is_same_id}
use Rattle.lc_model.specs.RunKey.{date_cmp}
use Rattle.lc_model.specs.declared.connection.Connection.{Connection}
use Rattle.lc_model.proofs.KeyLemmas.{same_dates}
use Rattle.lc_model.proofs.ListLemmas.{IsKept-filter}
use Rattle.lc_model.specs.Versions.History.{Entry, filled_entities, moments_of, put_all, with_news}
use Rattle.lc_model.specs.Versions.Named.{last_of}
use Rattle.lc_model.specs.Versions.Naming.{is_added, starts_so}
use Rattle.lc_model.specs.Versions.News.{EntitySaid}
use Rattle.lc_model.specs.Versions.Pages.{departing, is_before}
use Rattle.lc_model.specs.declared.versions.update.Update.{Update}
use Rattle.trip_updates.specs.Faults.{fault_of}
use Rattle.trip_updates.specs.Message.{IsMessage}
use Rattle.trip_updates.specs.declared.fault.RtFault.{RtFault}
use Rattle.trip_updates.proofs.TreesLemmas.{has_meaning}
use Rattle.version_store.specs.Admission.{HasRoom, IsFullFor, IsRefused, IsTaken}
use Rattle.version_store.specs.Near.{DeletedIsGone, EachIsInTheSpan, FullForgets, NoneMore, NoneOlderIsTaken, OneListBetween, RefusedAgain, SaysWhatIs, SomeOutcome, UndatedNameTheirDay}
use Rattle.version_store.specs.Store.{Stored, bytes_of, entry_of, newest_of}
use Rattle.version_store.specs.declared.admission.AdmitFault.{AdmitFault}
use Rattle.version_store.specs.declared.admission.AdmitFault.TheVariants as faults
use Rattle.version_store.proofs.OutcomeLemmas.{one_list}

-- WHAT BECOMES OF EVERY MESSAGE

abbrev Outcome : Stored → List ℕ → Type 0
Outcome store bytes = ((update : Update) × IsTaken store bytes update) ⊎ ((fault : AdmitFault) × IsRefused store bytes fault)

below_or_not : (a b : ℕ) → (a ≤ b) ⊎ (b < a)
below_or_not a b = by_test (nat_le a b) refl where
  by_test : (t : Bool) → nat_le a b ≡ t → (a ≤ b) ⊎ (b < a)
  by_test true e = inl (grind (arith, nat_tests))
  by_test false e = inr (grind (arith, nat_tests))

room_or_full : (history : List Entry) (bytes : ℕ) → HasRoom history bytes ⊎ IsFullFor history bytes
room_or_full history bytes = elim (below_or_not 10_000 (length history)) [
  | inl many ↦ inr (inl many)
  | inr few ↦ elim (below_or_not (bytes_of history + bytes) 268_435_456) [
    | inl little ↦ inl (record { for_one = few; for_bytes = little })
    | inr much ↦ inr (inr much)
  ]
]

outcome_of_message : (store : Stored) (bytes : List ℕ) (update : Update) → length bytes ≤ 16_777_216 → IsMessage bytes update → Outcome store bytes
outcome_of_message store bytes update short message = elim (below_or_not update.moment (newest_of store)) [
  | inl older ↦ inr (faults.NotNewer (newest_of store), record { short = short; update = update; message = message; not_newer = older; newest_is = refl })
  | inr newer ↦ elim (room_or_full store.history (length bytes)) [
    | inl room ↦ inl (update, record { short = short; message = message; newer = newer; room = room })
    | inr full ↦ inr (
      faults.Full (length store.history) (bytes_of store.history),
      record {
        short = short;
        update = update;
        message = message;
        newer = newer;
        full = full;
        messages_are = refl;
        bytes_are = refl;
      },
    )
  ]
]

outcome_of_short : (store : Stored) (bytes : List ℕ) (first : Option RtFault) → fault_of bytes ≡ first → length bytes ≤ 16_777_216 → Outcome store bytes
outcome_of_short store bytes None is short = (let m = has_meaning bytes is in outcome_of_message store bytes m.0 short m.1)
outcome_of_short store bytes (Some fault) is short = inr (faults.Broken fault, record { short = short; first = is })

pub some_outcome : SomeOutcome
some_outcome store bytes = elim (below_or_not (length bytes) 16_777_216) [
  | inl short ↦ outcome_of_short store bytes (fault_of bytes) refl short
  | inr long ↦ inr (faults.TooLong (length bytes), (long, refl))
]

-- WHAT IS TAKEN AND WHAT IS REFUSED

pub none_older_is_taken : NoneOlderIsTaken
none_older_is_taken store bytes update older taken = let newer = taken.newer in omega (arith, older, newer)

last_pushed : (x : ℕ) (xs : List ℕ) (m : ℕ) → last_of x (xs ++ m ∷ []) ≡ m
last_pushed x [] m = refl
last_pushed x (y ∷ xs) m = last_pushed y xs m

pub refused_again : RefusedAgain
refused_again old new bytes admitted is =
    let newest : newest_of new ≡ is.update.moment =
    ap newest_of is.appended ∙ ap (last_of old.base) (map-append (λ (e : Entry). e.update.moment) old.history (entry_of is.update (length bytes) ∷ []))
    ∙ last_pushed old.base (moments_of old.history) is.update.moment in
    record {
      short = is.taken.short;
      update = is.update;
      message = is.taken.message;
      not_newer = omega (arith, newest);
      newest_is = is.moment ∙ sym newest;
    }

pub says_what_is : (store : Stored) (bytes : List ℕ) → SaysWhatIs store bytes
says_what_is store bytes = record {
  newest = λ newest refused. refused.newest_is;
  full = λ messages kept refused. (refused.messages_are, refused.bytes_are);
}

-- ROWS

pub one_list_between : OneListBetween
one_list_between store version from to a b first second =
    first.departing ∙ ap (departing from to) (one_list store version first.all second.all first.of_version second.of_version) ∙ sym second.departing

pub none_more : NoneMore
none_more store version from to rows c are more =
    let same : rows ≡ rows ++ c ∷ [] = one_list_between store version from to rows (rows ++ c ∷ []) are more in
    let long : length rows ≡ length (rows ++ c ∷ []) = ap length same in
    let sum = length-append rows (c ∷ []) in
    omega (arith, long, sum)

both_true : (a b : Bool) → (a && b) ≡ true → (a ≡ true) × (b ≡ true)
both_true true b e = (refl, e)
both_true false b e = absurd (let f : false ≡ true = e in cc)

pub each_is_in_the_span : EachIsInTheSpan
each_is_in_the_span store version from to rows c are there =
    let kept = IsKept-filter (λ (x : Connection). nat_le from x.dep && is_before to x.dep) are.all c (subst (λ (l : List Connection). Contains l c) are.departing there) in
    let both = both_true (nat_le from c.dep) (is_before to c.dep) kept.passes in
    record { not_early = (let e = both.0 in grind (arith, nat_tests)); not_late = both.1; all = are.all; of_version = are.of_version; there = kept.stands }

-- NEWS

append_nil : {X : Type 0} (xs : List X) → xs ++ [] ≡ xs
append_nil [] = refl
append_nil (x ∷ xs) = ap (λ l. x ∷ l) (append_nil xs)

is_not : (b : Bool) → not b ≡ true → b ≡ false
is_not true e = absurd (let f : false ≡ true = e in cc)
is_not false e = refl

pub deleted_is_gone : DeletedIsGone
deleted_is_gone kept id e there =
    let others = filter (λ (x : EntitySaid). not (is_same_id x.id id)) kept in
    let stands : Contains others e = subst (λ (l : List EntitySaid). Contains l e) (append_nil others) there in
    is_not (is_same_id e.id id) (IsKept-filter (λ (x : EntitySaid). not (is_same_id x.id id)) kept e stands).passes

pub full_forgets : FullForgets
full_forgets date_of one other update full =
    ap (λ (b : Bool). if b then with_news (filled_entities date_of update) else put_all one (filled_entities date_of update)) full
    ∙ sym (ap (λ (b : Bool). if b then with_news (filled_entities date_of update) else put_all other (filled_entities date_of update)) full)

equal_from : (o : Ordering) → is_eq o ≡ true → o ≡ Equal
equal_from Less e = absurd (let f : false ≡ true = e in cc)
equal_from Equal e = refl
equal_from Greater e = absurd (let f : false ≡ true = e in cc)

pub undated_name_their_day : UndatedNameTheirDay
undated_name_their_day date news key undated names =
    let said = rw undated at names in
    let first = both_true (not (is_added news.kind)) (is_same_id news.trip key.trip && (is_eq (date_cmp date key.date) && starts_so key.start news.start)) said in
    let second = both_true (is_same_id news.trip key.trip) (is_eq (date_cmp date key.date) && starts_so key.start news.start) first.1 in
    let third = both_true (is_eq (date_cmp date key.date)) (starts_so key.start news.start) second.1 in
    sym (same_dates date key.date (equal_from (date_cmp date key.date) third.0))
