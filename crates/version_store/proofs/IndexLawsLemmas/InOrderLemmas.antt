-- The connections of runs of which no two have one key: no two of them tie.
use Rattle.std.proofs.Common.{◌≡◌, ◌≢◌, List, [], ◌∷◌, refl, sym, ap, ◌∙◌, subst, arith}
use Rattle.std.specs.List.{All, AllPairs}
use Rattle.std.specs.declared.cmp.Ordering.TheVariants.{Equal}
use Rattle.std.proofs.lemmas.List.{append-nil}
use Rattle.std.proofs.lemmas.List.Elements.{All-cons, All-contains, All-nil}
use Rattle.lc_model.specs.Call.{GoesForward, InSequence}
use Rattle.lc_model.specs.Connection.{connection_between, connections_from, connections_of, connections_of_calls, departure_cmp}
use Rattle.lc_model.specs.Order.{AreApart}
use Rattle.lc_model.specs.Run.{InKeyOrder, RunsForward}
use Rattle.lc_model.specs.RunKey.{key_cmp}
use Rattle.lc_model.specs.declared.call.Call.{Call}
use Rattle.lc_model.specs.declared.connection.Connection.{Connection}
use Rattle.lc_model.specs.declared.key.RunKey.{RunKey}
use Rattle.lc_model.specs.declared.run.Run.{Run}
use Rattle.lc_model.proofs.ConnectionLemmas.{tied_parts, untied_connections}
use Rattle.lc_model.proofs.ListLemmas.{AllPairs-flat_map}
use Rattle.version_store.specs.IndexLaws.Held.{KeysApart}

abbrev Untied : Connection → Connection → Type 0
Untied c d = departure_cmp c d ≢ Equal

one_in_order : (run : Run) → InKeyOrder (run ∷ [])
one_in_order run i j d before inside = absurd (omega (arith, before, inside))

-- of one run no two connections tie
untied_run : (run : Run) → InSequence run.calls → AllPairs Untied (connections_of_calls run.key run.calls)
untied_run run rise =
    subst (AllPairs Untied) (append-nil (connections_of_calls run.key run.calls))
    (untied_connections (run ∷ []) (one_in_order run) (All-cons (λ (r : Run). InSequence r.calls) run [] rise (All-nil (λ (r : Run). InSequence r.calls))))

keys_from : (key : RunKey) (from : Call) (rest : List Call) → All (λ (c : Connection). c.key ≡ key) (connections_from key from rest)
keys_from key from [] = All-nil (λ (c : Connection). c.key ≡ key)
keys_from key from (to ∷ rest) =
    All-cons (λ (c : Connection). c.key ≡ key) (connection_between key from to) (connections_from key to rest) refl (keys_from key to rest)

keys_of : (key : RunKey) (calls : List Call) → All (λ (c : Connection). c.key ≡ key) (connections_of_calls key calls)
keys_of key [] = All-nil (λ (c : Connection). c.key ≡ key)
keys_of key (first ∷ rest) = keys_from key first rest

pub untied : (runs : List Run) → KeysApart runs → RunsForward runs → AreApart departure_cmp (connections_of runs)
untied runs apart forward =
    AllPairs-flat_map Untied (λ (r s : Run). key_cmp r.key s.key ≢ Equal) (λ (r : Run). connections_of_calls r.key r.calls) runs
    (λ r there. untied_run r (All-contains (λ (r : Run). GoesForward r.calls) runs r forward there).in_sequence)
    (λ r s x y other x_there y_there ties.
    let of_x : x.key ≡ r.key = All-contains (λ (c : Connection). c.key ≡ r.key) (connections_of_calls r.key r.calls) x (keys_of r.key r.calls) x_there in
    let of_y : y.key ≡ s.key = All-contains (λ (c : Connection). c.key ≡ s.key) (connections_of_calls s.key s.calls) y (keys_of s.key s.calls) y_there in
    other (ap (λ (k : RunKey). key_cmp k s.key) (sym of_x) ∙ ap (key_cmp x.key) (sym of_y) ∙ (tied_parts x y ties).0))
    apart
