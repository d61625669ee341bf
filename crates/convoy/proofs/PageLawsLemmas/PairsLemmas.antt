-- The connections of a run by their places.
use Rattle.std.proofs.Common.{◌≡◌, ℕ, zero, suc, List, [], ◌∷◌, Some, refl}
use Rattle.std.specs.List.{slice_get}
use Rattle.lc_model.specs.Connection.{connection_between, connections_of_calls}
use Rattle.lc_model.specs.declared.call.Call.{Call}
use Rattle.lc_model.specs.declared.connection.Connection.{Connection}
use Rattle.lc_model.specs.declared.key.RunKey.{RunKey}

-- two consecutive calls make the connection at the place of the first
pub connection_at : (key : RunKey) (calls : List Call) (place : ℕ) (from to : Call) → slice_get calls place ≡ Some from → slice_get calls (suc place) ≡ Some to → slice_get (connections_of_calls key calls) place ≡ Some (connection_between key from to)
connection_at key [] place from to here next = cc
connection_at key (first ∷ []) zero from to here next = cc
connection_at key (first ∷ []) (suc place) from to here next = cc
connection_at key (first ∷ second ∷ rest) zero from to here next = cc
connection_at key (first ∷ second ∷ rest) (suc place) from to here next = connection_at key (second ∷ rest) place from to here next

-- the connection at a place is made of the call there and the next
pub calls_at : (key : RunKey) (calls : List Call) (place : ℕ) (x : Connection) → slice_get (connections_of_calls key calls) place ≡ Some x → (from : Call) × (to : Call) × (slice_get calls place ≡ Some from) × (slice_get calls (suc place) ≡ Some to) × (x ≡ connection_between key from to)
calls_at key [] place x stands = cc
calls_at key (first ∷ []) place x stands = cc
calls_at key (first ∷ second ∷ rest) zero x stands = (first, second, refl, refl, cc)
calls_at key (first ∷ second ∷ rest) (suc place) x stands = calls_at key (second ∷ rest) place x stands
