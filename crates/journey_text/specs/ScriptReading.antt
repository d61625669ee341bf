-- What the bytes of a text say as a script, or the first of its rows that is no record.
use Rattle.std.specs.Prelude.{◌≡◌, ℕ, ◌+◌, ◌<◌, Bool, List, [], length, slice_index_or, take}
use Rattle.gtfs_rows.specs.Sheet.{AreTrimmedRecordsOf}
use Rattle.journey_text.specs.Script.{SayRecords, SaysRecord, clients_in}
use Rattle.journey_text.specs.declared.script_fault.ScriptFault.{ScriptFault}
use Rattle.journey_text.specs.declared.script_fault.ScriptFault.TheVariants.{Wrong, NoMemory}
use Rattle.journey_text.specs.declared.script.Record.{Record}

-- the row at a place, from 0
abbrev pub row_at : List (List (List ℕ)) → ℕ → List (List ℕ)
row_at rows place = slice_index_or rows place []

-- the bytes say this script
pub record SaysScript (bytes : List ℕ) (updates : Bool) (script : List Record) : Type 0 where
  -- the rows as `csv` has them, without the spaces at both ends of each field
  pub rows : List (List (List ℕ))
  pub read : AreTrimmedRecordsOf bytes rows
  pub say : SayRecords updates 0 rows script

-- the row, counted from 1, is no record, and each before it is
pub record IsFirstWrong (updates : Bool) (rows : List (List (List ℕ))) (row : ℕ) : Type 0 where
  -- its place, from 0
  pub place : ℕ
  pub counted : row ≡ place + 1
  pub is_there : place < length rows
  -- what the rows before it say
  pub before : List Record
  pub say : SayRecords updates 0 (take place rows) before
  pub says_none : (said : Record) → SaysRecord updates (clients_in before) (row_at rows place) said → ⊥

-- the rows have this fault. Running out of memory has no cause in them
abbrev pub HaveFault : Bool → List (List (List ℕ)) → ScriptFault → Type 0
HaveFault updates rows (Wrong row) = IsFirstWrong updates rows row
HaveFault updates rows NoMemory = ⊥

-- the bytes say no script, for this fault
pub record HasFault (bytes : List ℕ) (updates : Bool) (fault : ScriptFault) : Type 0 where
  -- the rows as above
  pub rows : List (List (List ℕ))
  pub read : AreTrimmedRecordsOf bytes rows
  pub have : HaveFault updates rows fault
