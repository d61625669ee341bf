-- What an index gives of a number is what the store promises of the version of that number.
use Rattle.std.proofs.Common.{◌≡◌, ◌∙◌, ◌⊎◌, inl, inr, ℕ, ◌+◌, ◌<◌, ◌≤◌, List, [], ◌∷◌, ◌++◌, length, Option, ap, sym, subst, subst₂, arith, ⊎_elim, take_all}
use Rattle.std.specs.List.{Contains}
use Rattle.std.proofs.lemmas.Bool.{cases_lt}
use Rattle.std.proofs.lemmas.List.{length_push, take-append-le}
use Rattle.lc_model.specs.declared.connection.Connection.{Connection}
use Rattle.lc_model.specs.Run.{InKeyOrder}
use Rattle.lc_model.specs.declared.key.RunKey.{RunKey}
use Rattle.lc_model.specs.declared.run.Run.{Run}
use Rattle.lc_model.specs.Versions.History.{Entry, IsRising, moments_of, news_at}
use Rattle.lc_model.specs.Versions.News.{TripSaid}
use Rattle.lc_model.specs.Versions.Timetable.{AreLiveRuns}
use Rattle.version_store.specs.IndexLaws.Held.{AreRunsBy}
use Rattle.version_store.specs.IndexLaws.Kept.{entities_after, news_in}
use Rattle.version_store.specs.IndexLaws.Touched.{AreChanges, IsLeft}
use Rattle.version_store.proofs.IndexLawsLemmas.HeldLemmas.{ordered_are_live}
use Rattle.version_store.proofs.IndexLawsLemmas.KeptLemmas.{newest, of_number}
use Rattle.version_store.proofs.IndexLawsLemmas.TouchedLemmas.{update_holds}
use Rattle.version_store.specs.Index.Rows as index
use Rattle.version_store.specs.Index.Spans.{Indexed, runs_at}
use Rattle.version_store.specs.Index.Updates as updates
use Rattle.version_store.specs.Changes.{HasTurned}
use Rattle.version_store.specs.Dates.{date_in}
use Rattle.version_store.specs.Indexed.{AreIndexed, IsNumberOf, news_after}
use Rattle.version_store.specs.Rows.{AreConnectionsAt, AreDepartures, AreRows}
use Rattle.version_store.specs.Store.{Stored, news_of}

-- the news of a version are those in force after as many messages as its number says
news_of_number : (store : Stored) (version number : ℕ) → IsRising store.base (moments_of store.history) → IsNumberOf store version number → news_after store number ≡ news_of store version
news_of_number store version number rising is =
    sym (of_number (date_in store.zone) store.base store.history number rising is.within) ∙ ap (news_at (date_in store.zone) store.history) is.is

connections_at : (store : Stored) (indexed : Indexed) (version number : ℕ) (all : List Connection) → IsRising store.base (moments_of store.history) → AreIndexed store indexed → IsNumberOf store version number
    → index.AreConnections (runs_at indexed number) all → AreConnectionsAt store version all
connections_at store indexed version number all rising are is of_runs =
    let live = of_runs.live in
    let runs = ordered_are_live store.runs store.stops (news_after store number) (runs_at indexed number) live (are.runs number is.within) of_runs.are_runs.in_order of_runs.are_runs.exactly in
    record {
      live = live;
      are_runs = subst (λ (list : List TripSaid). AreLiveRuns store.runs store.stops list live) (news_of_number store version number rising is) runs;
      are_connections = of_runs.are_connections;
    }

pub rows_at : (store : Stored) (indexed : Indexed) (version number from : ℕ) (to : Option ℕ) (rows : List Connection) → IsRising store.base (moments_of store.history) → AreIndexed store indexed → IsNumberOf store version number
    → index.AreRows (runs_at indexed number) from to rows → AreRows store version from to rows
rows_at store indexed version number from to rows rising are is of_index =
    record { all = of_index.all; of_version = connections_at store indexed version number of_index.all rising are is of_index.of_runs; departing = of_index.departing }

pub departures_at : (store : Stored) (indexed : Indexed) (version number : ℕ) (departures : List ℕ) → IsRising store.base (moments_of store.history) → AreIndexed store indexed → IsNumberOf store version number
    → index.AreDepartures (runs_at indexed number) departures → AreDepartures store version departures
departures_at store indexed version number departures rising are is of_index =
    record { all = of_index.all; of_version = connections_at store indexed version number of_index.all rising are is of_index.of_runs; one_each = of_index.one_each }

-- an update of the index, by what the new news change
update_of : (store : Stored) (old new : List TripSaid) (ended : List RunKey) (begun before after : List Run) → InKeyOrder store.runs → AreRunsBy store.runs store.stops old before
    → AreChanges store.runs store.stops old new ended begun → updates.AreAfter ended begun before after → AreRunsBy store.runs store.stops new after
update_of store old new ended begun before after up were changes updated =
    update_holds store.runs store.stops old new ended begun before after up were changes (λ run. (forth run, back run)) where
      forth : (run : Run) → Contains after run → Contains begun run ⊎ IsLeft ended begun before run
      forth run there = elim ((updated run).0 there) [
        | inl begins ↦ inl begins
        | inr left ↦ inr (record { was = left.was; stays = left.stays; alone = left.alone })
      ]

      back : (run : Run) → Contains begun run ⊎ IsLeft ended begun before run → Contains after run
      back run (inl begins) = (updated run).1 (inl begins)
      back run (inr left) = (updated run).1 (inr (record { was = left.was; stays = left.stays; alone = left.alone }))

module _ (old : Stored) (entry : Entry) (before after : Indexed) (indexed : AreIndexed old before) where
  abbrev new : Stored
  new = record old { history = old.history ++ entry ∷ [] }

  long : length new.history ≡ length old.history + 1
  long = length_push old.history entry

  news_before : (number : ℕ) → number ≤ length old.history → news_after old number ≡ news_after new number
  news_before number within = ap (λ (es : List Entry). news_in (entities_after (date_in old.zone) es)) (sym (take-append-le number old.history (entry ∷ []) within))

  -- a message more, by which the index has one version more
  pub indexed_more : (ended : List RunKey) (begun : List Run) → InKeyOrder old.runs → AreChanges old.runs old.stops (news_after old (length old.history)) (news_after new (length new.history)) ended begun
      → updates.IsUpdated ended begun before after → AreIndexed new after
  indexed_more ended begun up changes updated = record { newest = next; runs = by_number } where
    next : after.newest ≡ length new.history
    next = let a = updated.newest in let b = indexed.newest in omega (arith, a, b, long)

    latest : AreRunsBy old.runs old.stops (news_after new (length new.history)) (runs_at after after.newest)
    latest =
        update_of old (news_after old (length old.history)) (news_after new (length new.history)) ended begun (runs_at before before.newest) (runs_at after after.newest) up
        (subst (λ (n : ℕ). AreRunsBy old.runs old.stops (news_after old (length old.history)) (runs_at before n)) (sym indexed.newest) (indexed.runs (length old.history) (omega arith)))
        changes updated.after

    by_number : (number : ℕ) → number ≤ length new.history → AreRunsBy old.runs old.stops (news_after new number) (runs_at after number)
    by_number number within =
        ⊎_elim
        (λ (low : number < length new.history).
        let there : number ≤ length old.history = omega (arith, low, long) in
        let past : number ≤ before.newest = let a = indexed.newest in omega (arith, there, a) in
        subst (λ (list : List TripSaid). AreRunsBy old.runs old.stops list (runs_at after number)) (news_before number there)
        (subst (AreRunsBy old.runs old.stops (news_after old number)) (sym (updated.before number past)) (indexed.runs number there)))
        (λ (high : length new.history ≤ number).
        let same : after.newest ≡ number = omega (arith, within, high, next) in
        let last : length new.history ≡ number = omega (arith, within, high) in
        subst (λ (n : ℕ). AreRunsBy old.runs old.stops (news_after new n) (runs_at after number)) last
        (subst (λ (n : ℕ). AreRunsBy old.runs old.stops (news_after new (length new.history)) (runs_at after n)) same latest))
        (cases_lt number (length new.history))

-- before any message the index has the base alone
pub indexed_base : (store : Stored) (indexed : Indexed) (live : List Run) → store.history ≡ [] → indexed.newest ≡ 0 → runs_at indexed 0 ≡ live → AreLiveRuns store.runs store.stops [] live → AreIndexed store indexed
indexed_base store indexed live none newest runs are = record {
  newest = newest ∙ sym (ap length none);
  runs = λ number within.
      let zero : 0 ≡ number = let e = ap length none in omega (arith, within, e) in
      subst (λ (n : ℕ). AreRunsBy store.runs store.stops (news_after store n) (runs_at indexed n)) zero
      (subst (AreRunsBy store.runs store.stops []) (sym runs) are.exactly);
}

-- the news after all messages are those that are in force
news_of_all : (store : Stored) → news_in (entities_after (date_in store.zone) store.history) ≡ news_after store (length store.history)
news_of_all store = ap (λ (es : List Entry). news_in (entities_after (date_in store.zone) es)) (sym (take_all (length store.history) store.history (omega arith)))

-- a message at the end of the history, by which the index has turned
pub indexed_appended : (old : Stored) (entry : Entry) (before after : Indexed) → InKeyOrder old.runs → AreIndexed old before
    → HasTurned old.runs old.stops (news_in (entities_after (date_in old.zone) old.history)) (news_in (entities_after (date_in old.zone) (old.history ++ entry ∷ []))) before after
    → AreIndexed (record old { history = old.history ++ entry ∷ [] }) after
indexed_appended old entry before after up indexed turned =
    let new : Stored = record old { history = old.history ++ entry ∷ [] } in
    indexed_more old entry before after indexed turned.ended turned.begun up
    (subst₂ (λ (a b : List TripSaid). AreChanges old.runs old.stops a b turned.ended turned.begun) (news_of_all old) (news_of_all new) turned.changes)
    turned.updated

-- an index that is the same for all versions
pub indexed_still : (store : Stored) (before after : Indexed) → AreIndexed store before → updates.IsSame before after → AreIndexed store after
indexed_still store before after indexed same = record {
  newest = same.newest ∙ indexed.newest;
  runs = λ number within. subst (AreRunsBy store.runs store.stops (news_after store number)) (sym (same.runs number)) (indexed.runs number within);
}
