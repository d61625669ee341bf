-- Runs that hold, and the live runs in their order.
use Rattle.std.proofs.Common.{◌≡◌, ◌≢◌, ◌↔◌, inl, inr, ℕ, List, get_or, Some, sym, ap, ap₂, ◌∙◌, subst}
use Rattle.std.specs.List.{Contains}
use Rattle.std.specs.List.Sorted.{IsPermutation}
use Rattle.std.specs.Ordering.{on}
use Rattle.std.specs.declared.cmp.Ordering.{Ordering}
use Rattle.std.specs.declared.cmp.Ordering.TheVariants.{Less, Equal}
use Rattle.std.proofs.lemmas.Bool.{cases_order}
use Rattle.std.proofs.lemmas.Cmp.{tied_itself}
use Rattle.std.proofs.lemmas.List.{get_or_default}
use Rattle.std.proofs.lemmas.List.Elements.{All-contains}
use Rattle.std.proofs.lemmas.List.Sorted.{IsPermutation-sym, IsPermutation-trans}
use Rattle.lc_model.specs.Call.{GoesForward}
use Rattle.lc_model.specs.Connection.{connections_of, connections_of_calls, departure_cmp}
use Rattle.lc_model.specs.Run.{InKeyOrder, RunsForward}
use Rattle.lc_model.specs.RunKey.{key_cmp}
use Rattle.lc_model.specs.Totals.{departure_cmp_total, key_cmp_total, run_cmp_total}
use Rattle.lc_model.specs.declared.call.Call.{Call}
use Rattle.lc_model.specs.declared.connection.Connection.{Connection}
use Rattle.lc_model.specs.declared.key.RunKey.{RunKey}
use Rattle.lc_model.specs.declared.run.Run.{Run}
use Rattle.lc_model.specs.declared.stop.Stop.{Stop}
use Rattle.lc_model.proofs.ListLemmas.{AllPairs-weaker, Contains-flat_map, StandsIn-flat_map}
use Rattle.lc_model.specs.Versions.Added.{IsFurtherRun, added_calls, news_of_key}
use Rattle.lc_model.specs.Versions.Live.{live_calls_of}
use Rattle.lc_model.specs.Versions.Naming.{news_for}
use Rattle.lc_model.specs.Versions.News.{TripSaid}
use Rattle.lc_model.specs.Versions.Timetable.{IsLiveRun}
use Rattle.live_calls.proofs.LiveRunsLemmas.{live_runs_go_forward}
use Rattle.version_store.specs.IndexLaws.Held.{HeldAreLive, KeysApart, LiveRunsHold, OneRunOfKey, OrderedAreLive, SameConnections}
use Rattle.version_store.proofs.IndexLawsLemmas.ItemsLemmas.{apart_once, same_items}
use Rattle.version_store.proofs.IndexLawsLemmas.InOrderLemmas.{untied}

not_both : (o : Ordering) → o ≡ Less → o ≡ Equal → ⊥
not_both o e f = cc

-- runs in the order of their keys have no key twice
pub keys_apart : (runs : List Run) → InKeyOrder runs → KeysApart runs
keys_apart runs up =
    AllPairs-weaker (λ (a b : Run). key_cmp a.key b.key ≡ Less) (λ (a b : Run). key_cmp a.key b.key ≢ Equal) runs
    (λ a b in_a in_b less ties. not_both (key_cmp a.key b.key) less ties) up

pub live_hold : LiveRunsHold
live_hold runs stops list live are = record { apart = keys_apart live are.in_order; exactly = are.exactly }

pub ordered_are_live : OrderedAreLive
ordered_are_live runs stops list held ordered are up same = record {
  in_order = up;
  exactly = λ run. ((λ there. (are run).0 ((same run).0 there)), (λ is. (same run).1 ((are run).1 is)));
}

pub held_are_live : HeldAreLive
held_are_live runs stops list held live hold are =
    same_items held live
    (apart_once (on (λ (r : Run). r.key) key_cmp) run_cmp_total held hold.apart)
    (apart_once (on (λ (r : Run). r.key) key_cmp) run_cmp_total live (keys_apart live are.in_order))
    (λ run there. (are.exactly run).1 ((hold.exactly run).0 there))
    (λ run there. (hold.exactly run).1 ((are.exactly run).0 there))

of_others : (these others : List Run) → ((run : Run) → Contains these run → Contains others run) → (c : Connection) → Contains (connections_of these) c → Contains (connections_of others) c
of_others these others there c stands =
    let f = λ (r : Run). connections_of_calls r.key r.calls in
    let in' = StandsIn-flat_map f these c stands in
    Contains-flat_map f others in'.of c (there in'.of in'.stands) in'.within

-- sound runs that are the same have the same connections
pub connections_moved : (these others : List Run) → KeysApart these → KeysApart others → RunsForward these → RunsForward others → ((run : Run) → Contains these run ↔ Contains others run)
    → IsPermutation (connections_of these) (connections_of others)
connections_moved these others these_apart others_apart these_forward others_forward same =
    same_items (connections_of these) (connections_of others)
    (apart_once departure_cmp departure_cmp_total (connections_of these) (untied these these_apart these_forward))
    (apart_once departure_cmp departure_cmp_total (connections_of others) (untied others others_apart others_forward))
    (of_others these others (λ run. (same run).0))
    (of_others others these (λ run. (same run).1))

held_forward : (held live : List Run) → RunsForward live → ((run : Run) → Contains held run → Contains live run) → RunsForward held
held_forward held live forward there k d inside =
    let run = get_or held k d in
    let same : get_or held k run ≡ run = get_or_default held k run d inside in
    All-contains (λ (r : Run). GoesForward r.calls) live run forward (there run (k, inside, same))

pub same_connections : SameConnections
same_connections runs stops list held live all rise hold are =
    let forward = live_runs_go_forward runs stops list live rise are in
    let same : (run : Run) → Contains held run ↔ Contains live run = λ run.
    ((λ there. (are.exactly run).1 ((hold.exactly run).0 there)), (λ there. (hold.exactly run).1 ((are.exactly run).0 there))) in
    let moved = connections_moved held live hold.apart (keys_apart live are.in_order) (held_forward held live forward (λ run. (same run).0)) forward same in (
      (λ of_held. record { all = IsPermutation-trans (connections_of live) (connections_of held) all (IsPermutation-sym (connections_of held) (connections_of live) moved) of_held.all; in_order = of_held.in_order }),
      (λ of_live. record { all = IsPermutation-trans (connections_of held) (connections_of live) all moved of_live.all; in_order = of_live.in_order }),
    )

-- in the order of their keys one key has one run
one_in_order : (runs : List Run) (a b : Run) → InKeyOrder runs → Contains runs a → Contains runs b → a.key ≡ b.key → a ≡ b
one_in_order runs a b up (i, i_in, i_is) (j, j_in, j_is) same = elim (cases_order i j) [
  | inl e ↦ sym i_is ∙ get_or_default runs i a b i_in ∙ ap (λ (n : ℕ). get_or runs n b) e ∙ j_is
  | inr (inl before) ↦
      let less : key_cmp (get_or runs i a).key (get_or runs j a).key ≡ Less = up i j a before j_in in
      let there : get_or runs j a ≡ b = get_or_default runs j a b j_in ∙ j_is in
      absurd (not_both (key_cmp a.key b.key) (ap₂ (λ (x y : Run). key_cmp x.key y.key) (sym i_is) (sym there) ∙ less) (subst (λ (k : RunKey). key_cmp a.key k ≡ Equal) same (tied_itself key_cmp_total a.key)))
  | inr (inr behind) ↦
      let less : key_cmp (get_or runs j b).key (get_or runs i b).key ≡ Less = up j i b behind i_in in
      let here : get_or runs i b ≡ a = get_or_default runs i b a i_in ∙ i_is in
      absurd (not_both (key_cmp b.key a.key) (ap₂ (λ (x y : Run). key_cmp x.key y.key) (sym j_is) (sym here) ∙ less) (subst (λ (k : RunKey). key_cmp b.key k ≡ Equal) (sym same) (tied_itself key_cmp_total b.key)))
]

same_run : (a b : Run) → a.key ≡ b.key → a.calls ≡ b.calls → a ≡ b
same_run a b key calls = ap₂ (λ (k : RunKey) (list : List Call). let run : Run = record { key = k; calls = list } in run) key calls

some_is_one : {X : Type 0} (x y : X) → Some x ≡ Some y → x ≡ y
some_is_one x y e = cc

not_new : (runs : List Run) (stops : List Stop) (list : List TripSaid) (a b : Run) → IsLiveRun runs list a → IsFurtherRun runs stops list b → a.key ≡ b.key → ⊥
not_new runs stops list a b live further same =
    let there = live.of_timetable in further.is_new (there.0, live.run, there.1, there.2, sym live.same_key ∙ same)

pub one_run : OneRunOfKey
one_run runs stops list a b up (inl live) (inl other) same =
    let one : live.run ≡ other.run = one_in_order runs live.run other.run up live.of_timetable other.of_timetable (sym live.same_key ∙ same ∙ other.same_key) in
    same_run a b same (live.calls ∙ ap (λ (r : Run). live_calls_of r.calls (news_for r.key list)) one ∙ sym other.calls)
one_run runs stops list a b up (inl live) (inr further) same = absurd (not_new runs stops list a b live further same)
one_run runs stops list a b up (inr further) (inl live) same = absurd (not_new runs stops list b a live further (sym same))
one_run runs stops list a b up (inr further) (inr other) same =
    let last : Some further.news ≡ Some other.news = sym further.last ∙ ap (λ (k : RunKey). news_of_key k list) same ∙ other.last in
    let one : further.news ≡ other.news = some_is_one further.news other.news last in
    same_run a b same (further.calls ∙ ap (λ (n : TripSaid). added_calls stops n.stops) one ∙ sym other.calls)
