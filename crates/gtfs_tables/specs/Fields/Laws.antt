-- A file says one value, or has one first fault, and never both: the forms of these laws.
use Rattle.std.specs.Prelude.{◌≡◌, ℕ, List}
use Rattle.gtfs_tables.specs.declared.fields.fault.FileFault.{FileFault}

-- what bytes say of a file is one value
abbrev pub SayOne : {Value : Type 0} → (List ℕ → Value → Type 0) → Type 0
SayOne {Value} Says = (bytes : List ℕ) (a b : Value) → Says bytes a → Says bytes b → a ≡ b

-- bytes that say a value have no fault
abbrev pub AreNeverBoth : {Value : Type 0} → (List ℕ → Value → Type 0) → (List ℕ → FileFault → Type 0) → Type 0
AreNeverBoth {Value} Says IsFault = (bytes : List ℕ) (value : Value) (fault : FileFault) → Says bytes value → IsFault bytes fault → ⊥
