-- Connections in the order of their departures, and those of runs: none arrives before it departs, and no two tie.
use Rattle.std.proofs.Common.{◌≡◌, ◌≢◌, ℕ, ◌<◌, ◌≤◌, List, [], ◌∷◌, sym, ap, ◌∙◌, subst, refl, arith}
use Rattle.std.specs.List.{All, AllPairs}
use Rattle.std.specs.List.Sorted.{IsPermutation, IsSorted}
use Rattle.std.specs.Ordering.{nat_cmp, ordering_then}
use Rattle.std.specs.declared.cmp.Ordering.{Ordering}
use Rattle.std.specs.declared.cmp.Ordering.TheVariants.{Less, Equal, Greater}
use Rattle.std.proofs.lemmas.Cmp.{ranked}
use Rattle.std.proofs.lemmas.List.Elements.{All-nil, All-cons, All-head, All-tail, All-contains, All-weaker}
use Rattle.std.proofs.lemmas.List.Kept.{AllPairs-cons}
use Rattle.std.proofs.lemmas.List.Sorted.{All-permutation}
use Rattle.lc_model.specs.Call.{GoesForward, InSequence}
use Rattle.lc_model.specs.Connection.{AreConnectionsOf, NoneArrivesEarly, connection_between, connections_from, connections_of, connections_of_calls, departure_cmp}
use Rattle.lc_model.specs.Run.{InKeyOrder, RunsForward}
use Rattle.lc_model.specs.RunKey.{key_cmp}
use Rattle.lc_model.specs.declared.call.Call.{Call}
use Rattle.lc_model.specs.declared.connection.Connection.{Connection}
use Rattle.lc_model.specs.declared.key.RunKey.{RunKey}
use Rattle.lc_model.specs.declared.run.Run.{Run}
use Rattle.lc_model.proofs.ListLemmas.{All-from_contains, AllPairs-flat_map, AllPairs-head, AllPairs-nil, AllPairs-tail, StandsIn-flat_map}
use Rattle.lc_model.proofs.OrdersLemmas.{IsStrict-from_sorted}
use Rattle.lc_model.specs.Totals.{departure_cmp_total}
use Rattle.lc_model.proofs.SearchLemmas.{both_tie}

-- what comes before another departs no later
pub departs_by : (c d : Connection) → departure_cmp c d ≡ Less → c.dep ≤ d.dep
departs_by c d e = first_part (nat_cmp c.dep d.dep) refl e where
  first_part : (o : Ordering) → nat_cmp c.dep d.dep ≡ o → ordering_then o (ordering_then (key_cmp c.key d.key) (nat_cmp c.seq d.seq)) ≡ Less → c.dep ≤ d.dep
  first_part Less f g = let h = ranked c.dep d.dep Less (sym f) in omega arith
  first_part Equal f g = let h = ranked c.dep d.dep Equal (sym f) in omega arith
  first_part Greater f g = absurd (cc)

forward_from : (key : RunKey) (from : Call) (rest : List Call) → AllPairs (λ (x y : Call). x.dep ≤ y.arr) (from ∷ rest) → NoneArrivesEarly (connections_from key from rest)
forward_from key from [] h = All-nil (λ (c : Connection). c.dep ≤ c.arr)
forward_from key from (to ∷ rest) h =
    All-cons (λ (c : Connection). c.dep ≤ c.arr) (connection_between key from to) (connections_from key to rest)
    (All-head (λ (y : Call). from.dep ≤ y.arr) to rest (AllPairs-head (λ (x y : Call). x.dep ≤ y.arr) from (to ∷ rest) h))
    (forward_from key to rest (AllPairs-tail (λ (x y : Call). x.dep ≤ y.arr) from (to ∷ rest) h))

forward_calls : (key : RunKey) (calls : List Call) → AllPairs (λ (x y : Call). x.dep ≤ y.arr) calls → NoneArrivesEarly (connections_of_calls key calls)
forward_calls key [] h = All-nil (λ (c : Connection). c.dep ≤ c.arr)
forward_calls key (first ∷ rest) h = forward_from key first rest h

-- runs that go forward have connections that do
pub NoneArrivesEarly-connections_of : (runs : List Run) → RunsForward runs → NoneArrivesEarly (connections_of runs)
NoneArrivesEarly-connections_of runs forward =
    All-from_contains (λ (c : Connection). c.dep ≤ c.arr) (connections_of runs) (λ c h.
    let in' = StandsIn-flat_map (λ (r : Run). connections_of_calls r.key r.calls) runs c h in
    let goes = All-contains (λ (r : Run). GoesForward r.calls) runs in'.of forward in'.stands in
    All-contains (λ (c : Connection). c.dep ≤ c.arr) (connections_of_calls in'.of.key in'.of.calls) c (forward_calls in'.of.key in'.of.calls goes.along) in'.within)

keys_from : (key : RunKey) (from : Call) (rest : List Call) → All (λ (c : Connection). c.key ≡ key) (connections_from key from rest)
keys_from key from [] = All-nil (λ (c : Connection). c.key ≡ key)
keys_from key from (to ∷ rest) =
    All-cons (λ (c : Connection). c.key ≡ key) (connection_between key from to) (connections_from key to rest) refl (keys_from key to rest)

keys_of : (key : RunKey) (calls : List Call) → All (λ (c : Connection). c.key ≡ key) (connections_of_calls key calls)
keys_of key [] = All-nil (λ (c : Connection). c.key ≡ key)
keys_of key (first ∷ rest) = keys_from key first rest

above_from : (n : ℕ) (key : RunKey) (from : Call) (rest : List Call) → All (λ (c : Call). n < c.seq) (from ∷ rest) → All (λ (c : Connection). n < c.seq) (connections_from key from rest)
above_from n key from [] h = All-nil (λ (c : Connection). n < c.seq)
above_from n key from (to ∷ rest) h =
    All-cons (λ (c : Connection). n < c.seq) (connection_between key from to) (connections_from key to rest)
    (All-head (λ (c : Call). n < c.seq) from (to ∷ rest) h) (above_from n key to rest (All-tail (λ (c : Call). n < c.seq) from (to ∷ rest) h))

abbrev Untied : Connection → Connection → Type 0
Untied x y = departure_cmp x y ≢ Equal

-- connections that tie have keys and sequences that tie
pub tied_parts : (x y : Connection) → departure_cmp x y ≡ Equal → (key_cmp x.key y.key ≡ Equal) × (nat_cmp x.seq y.seq ≡ Equal)
tied_parts x y e =
    let first = both_tie (nat_cmp x.dep y.dep) _ e in
    both_tie (key_cmp x.key y.key) (nat_cmp x.seq y.seq) first.1

untied_by_seq : (x y : Connection) → x.seq < y.seq → Untied x y
untied_by_seq x y lt e = let same = ranked x.seq y.seq Equal (sym (tied_parts x y e).1) in omega (arith, same)

untied_from : (key : RunKey) (from : Call) (rest : List Call) → InSequence (from ∷ rest) → AllPairs Untied (connections_from key from rest)
untied_from key from [] h = AllPairs-nil Untied
untied_from key from (to ∷ rest) h =
    let first = connection_between key from to in
    let later = connections_from key to rest in
    AllPairs-cons Untied first later
    (All-weaker (λ (c : Connection). from.seq < c.seq) (Untied first) (λ c lt. untied_by_seq first c lt) later (above_from from.seq key to rest (AllPairs-head (λ (x y : Call). x.seq < y.seq) from (to ∷ rest) h)))
    (untied_from key to rest (AllPairs-tail (λ (x y : Call). x.seq < y.seq) from (to ∷ rest) h))

untied_calls : (key : RunKey) (calls : List Call) → InSequence calls → AllPairs Untied (connections_of_calls key calls)
untied_calls key [] h = AllPairs-nil Untied
untied_calls key (first ∷ rest) h = untied_from key first rest h

not_both : (o : Ordering) → o ≡ Less → o ≡ Equal → ⊥
not_both o e f = cc

-- runs in the order of their keys have no two connections that tie
pub untied_connections : (runs : List Run) → InKeyOrder runs → All (λ (r : Run). InSequence r.calls) runs → AllPairs Untied (connections_of runs)
untied_connections runs up rise =
    AllPairs-flat_map Untied (λ (r s : Run). key_cmp r.key s.key ≡ Less) (λ (r : Run). connections_of_calls r.key r.calls) runs
    (λ r k. untied_calls r.key r.calls (All-contains (λ (r : Run). InSequence r.calls) runs r rise k))
    (λ r s x y less kx ky e.
    let of_x = All-contains (λ (c : Connection). c.key ≡ r.key) (connections_of_calls r.key r.calls) x (keys_of r.key r.calls) kx in
    let of_y = All-contains (λ (c : Connection). c.key ≡ s.key) (connections_of_calls s.key s.calls) y (keys_of s.key s.calls) ky in
    not_both (key_cmp x.key y.key) (ap (λ (k : RunKey). key_cmp k y.key) of_x ∙ ap (key_cmp r.key) of_y ∙ less) (tied_parts x y e).0)
    up

-- sorted by their departures, the connections of runs are in departure order
pub AreConnectionsOf-sorted : (runs : List Run) (made sorted : List Connection) → InKeyOrder runs → All (λ (r : Run). InSequence r.calls) runs → made ≡ connections_of runs → IsPermutation made sorted → IsSorted departure_cmp sorted → AreConnectionsOf runs sorted
AreConnectionsOf-sorted runs made sorted up rise e moved by_departure = record {
  all = subst (λ (v : List Connection). IsPermutation v sorted) e moved;
  in_order = IsStrict-from_sorted departure_cmp departure_cmp_total made sorted moved by_departure (subst (AllPairs Untied) (sym e) (untied_connections runs up rise));
}

pub NoneArrivesEarly-sorted : (runs : List Run) (made sorted : List Connection) → RunsForward runs → made ≡ connections_of runs → IsPermutation made sorted → NoneArrivesEarly sorted
NoneArrivesEarly-sorted runs made sorted forward e moved =
    All-permutation (λ (c : Connection). c.dep ≤ c.arr) made sorted moved (subst NoneArrivesEarly (sym e) (NoneArrivesEarly-connections_of runs forward))

-- the sequences increase in runs that go forward
pub in_sequence : (runs : List Run) → RunsForward runs → All (λ (r : Run). InSequence r.calls) runs
in_sequence runs forward = All-weaker (λ (r : Run). GoesForward r.calls) (λ (r : Run). InSequence r.calls) (λ r goes. goes.in_sequence) runs forward
