-- The changes between the stops of a feed.
use Rattle.std.specs.Prelude.{◌≡◌, ℕ, ◌+◌, ◌<◌, ◌↔◌, List, Some, is_some, count_by, sum_by}
use Rattle.std.specs.List.{Contains}
use Rattle.lc_model.specs.Change.{InChangeOrder}
use Rattle.lc_model.specs.declared.change.Change.{Change}
use Rattle.lc_model.specs.declared.stop.Stop.{Stop}
use Rattle.gtfs_tables.specs.declared.calendars.transfer.Transfer.{Transfer}
use Rattle.change_table.specs.ChangeRule.{change_from_to, change_of}
use Rattle.change_table.specs.declared.fault.ChangeFault.{ChangeFault}
use Rattle.change_table.specs.declared.fault.ChangeFault.TheVariants.{TooManyChanges, NoMemory}
use Rattle.change_table.specs.declared.fault.TheConstants.{MOST_CHANGES}

-- the list has exactly the changes between the stops, strictly by their ends
pub record AreChangesOf (stops : List Stop) (transfers : List Transfer) (default : ℕ) (changes : List Change) : Type 0 where
  pub all : (c : Change) → Contains changes c ↔ (change_of stops transfers default c.from c.to ≡ Some c.seconds)
  pub in_order : InChangeOrder changes

-- how many ordered pairs of stops have a change
abbrev pub count_of_changes : List Stop → List Transfer → ℕ → ℕ
count_of_changes stops transfers default =
    sum_by (λ (from : Stop). count_by (λ (to : Stop). is_some (change_from_to transfers default from to)) stops) stops

-- the fault is running out of memory, or there are more changes than may be
abbrev pub HasCause : ChangeFault → ℕ → Type 0
HasCause (TooManyChanges count) changes = (count ≡ MOST_CHANGES + 1) × (MOST_CHANGES < changes)
HasCause NoMemory changes = Unit {0}

-- stops and rows have one list of changes
abbrev pub OneListOfChanges : Type 0
OneListOfChanges =
    (stops : List Stop) (transfers : List Transfer) (default : ℕ) (a b : List Change) → AreChangesOf stops transfers default a
    → AreChangesOf stops transfers default b → a ≡ b
