-- What the fields of a row say, each a value or nothing, and what is read of a row.
use Rattle.std.specs.Prelude.{◌≡◌, ℕ, ◌+◌, ◌==◌, if◌then◌else◌, Bool, true, false, List, [], ◌∷◌, Option, Some, None, Result, Ok, Err, length, option_map}
use Rattle.std.specs.Str.{bytes_eq}
use Rattle.gtfs_tables.specs.declared.fields.fault.FileFault.{FileFault}
use Rattle.gtfs_tables.specs.declared.fields.fault.FileFault.TheVariants.{Broken, TooMany, NoMemory}

-- the id that a text says: itself, where it is not empty
abbrev pub id_said : List ℕ → Option (List ℕ)
id_said text = if length text == 0 then None else Some text

-- the choice that a text says by one of two words: true by the first
abbrev pub choice_said : List ℕ → List ℕ → List ℕ → Option Bool
choice_said first second text = if bytes_eq text first then Some true else (if bytes_eq text second then Some false else None)

-- all values of a list, where each is there
abbrev pub all_said : {X : Type 0} → List (Option X) → Option (List X)
all_said [] = Some []
all_said (None ∷ rest) = None
all_said (Some x ∷ rest) = option_map (λ xs. x ∷ xs) (all_said rest)

-- what is read where this is the rule that is broken, if one is, and this the item that is said, if one is
abbrev pub ReadsItem : {Item : Type 0} → Option ℕ → Option Item → Result Item ℕ → Type 0
ReadsItem rule said (Ok item) = (rule ≡ None) × (said ≡ Some item)
ReadsItem rule said (Err broken) = rule ≡ Some broken

-- the row at a place breaks this rule, thus this is reported. Rows are counted from 1, places from 0
abbrev pub IsReportedOf : Option ℕ → ℕ → FileFault → Type 0
IsReportedOf rule place (Broken broken row) = (rule ≡ Some broken) × (row ≡ place + 1)
IsReportedOf rule place (TooMany count) = ⊥
IsReportedOf rule place NoMemory = Unit {0}

-- what is read of the row at a place, where memory may run out
abbrev pub ReadsRow : {Item : Type 0} → Option ℕ → Option Item → ℕ → Result Item FileFault → Type 0
ReadsRow rule said place (Ok item) = (rule ≡ None) × (said ≡ Some item)
ReadsRow rule said place (Err fault) = IsReportedOf rule place fault
