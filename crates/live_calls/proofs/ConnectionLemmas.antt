-- The connections of a run: its pairs of consecutive calls.
use Rattle.std.proofs.Common.{◌≡◌, ℕ, zero, suc, ◌+◌, ◌≤◌, List, [], ◌∷◌, length, drop, refl, arith}
use Rattle.std.specs.List.{AllPairs}
use Rattle.std.proofs.lemmas.List.Elements.{All-nil, All-cons, All-head}
use Rattle.lc_model.specs.Connection.{NoneArrivesEarly, connection_between, connections_from, connections_of_calls}
use Rattle.lc_model.specs.declared.call.Call.{Call}
use Rattle.lc_model.specs.declared.connection.Connection.{Connection}
use Rattle.lc_model.specs.declared.key.RunKey.{RunKey}
use Rattle.live_calls.proofs.ForwardLemmas.{AllPairs-head, AllPairs-tail}

-- after the last call but one there is no connection
pub no_more : (key : RunKey) (calls : List Call) (n : ℕ) → length calls ≤ n + 1 → connections_of_calls key (drop n calls) ≡ []
no_more key [] zero h = refl
no_more key [] (suc n) h = refl
no_more key (x ∷ []) zero h = refl
no_more key (x ∷ y ∷ calls) zero h = absurd (omega (arith, h))
no_more key (x ∷ calls) (suc n) h = no_more key calls n (omega (arith, h))

forward_from : (key : RunKey) (from : Call) (rest : List Call) → AllPairs (λ (x y : Call). x.dep ≤ y.arr) (from ∷ rest) → NoneArrivesEarly (connections_from key from rest)
forward_from key from [] h = All-nil (λ (c : Connection). c.dep ≤ c.arr)
forward_from key from (to ∷ rest) h =
    All-cons (λ (c : Connection). c.dep ≤ c.arr) (connection_between key from to) (connections_from key to rest)
    (All-head (λ (y : Call). from.dep ≤ y.arr) to rest (AllPairs-head (λ (x y : Call). x.dep ≤ y.arr) from (to ∷ rest) h))
    (forward_from key to rest (AllPairs-tail (λ (x y : Call). x.dep ≤ y.arr) from (to ∷ rest) h))

-- the connections of calls that go forward arrive after they depart
pub calls_forward : (key : RunKey) (calls : List Call) → AllPairs (λ (x y : Call). x.dep ≤ y.arr) calls → NoneArrivesEarly (connections_of_calls key calls)
calls_forward key [] h = All-nil (λ (c : Connection). c.dep ≤ c.arr)
calls_forward key (first ∷ rest) h = forward_from key first rest h
