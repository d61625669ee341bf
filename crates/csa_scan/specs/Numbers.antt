-- Numbers of runs: each key has one number, its place in the list of keys.
use Rattle.std.specs.Prelude.{◌≡◌, ℕ, List, Some, length}
use Rattle.std.specs.BTreeMap.{BTreeMap, get}
use Rattle.std.specs.List.{slice_get}
use Rattle.lc_model.specs.RunKey.{key_cmp}
use Rattle.lc_model.specs.declared.connection.Connection.{Connection}
use Rattle.lc_model.specs.declared.key.RunKey.{RunKey}

-- the map has each key of the list with its place, and no other
pub record AreNumbers (numbers : BTreeMap RunKey ℕ) (keys : List RunKey) : Type 0 where
  pub sound : (key : RunKey) (n : ℕ) → get key_cmp numbers key ≡ Some n → slice_get keys n ≡ Some key
  pub complete : (n : ℕ) (key : RunKey) → slice_get keys n ≡ Some key → get key_cmp numbers key ≡ Some n

-- no key is there twice
abbrev pub AreDistinct : List RunKey → Type 0
AreDistinct keys = (i j : ℕ) (key : RunKey) → slice_get keys i ≡ Some key → slice_get keys j ≡ Some key → i ≡ j

-- the new list has each key at its place in the old one
abbrev pub Extends : List RunKey → List RunKey → Type 0
Extends old new = (i : ℕ) (key : RunKey) → slice_get old i ≡ Some key → slice_get new i ≡ Some key

-- each connection of the list has the number of its run at its place
pub record AreNumbersOf (runs : List RunKey) (list : List Connection) (numbers : List ℕ) : Type 0 where
  pub same_length : length numbers ≡ length list
  pub is_number : (k : ℕ) (c : Connection) → slice_get list k ≡ Some c → (n : ℕ) × (slice_get numbers k ≡ Some n) × (slice_get runs n ≡ Some c.key)
