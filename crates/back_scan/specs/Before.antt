-- The connection before those of a list.
use Rattle.std.specs.Prelude.{◌≡◌, ℕ, ◌≤◌, List, Some}
use Rattle.std.specs.List.{slice_get}
use Rattle.lc_model.specs.declared.connection.Connection.{Connection}
use Rattle.lc_model.specs.declared.key.RunKey.{RunKey}
use Rattle.csa_scan.specs.Numbers.{AreDistinct}

-- the connection departs no later than those of the list, and its run has this number
pub record IsBefore (runs : List RunKey) (list : List Connection) (run : ℕ) (c : Connection) : Type 0 where
  pub unique : AreDistinct runs
  pub is_run : slice_get runs run ≡ Some c.key
  pub ahead : (place : ℕ) (x : Connection) → slice_get list place ≡ Some x → c.dep ≤ x.dep
  pub forward : c.dep ≤ c.arr
