-- A file whose rows have no limit says one sheet or has one first fault, and never both.
use Rattle.std.proofs.Common.{◌≡◌, ℕ, ◌≤◌, List, Option, arith, inl, inr, length, subst}
use Rattle.gtfs_rows.specs.Sheet.{IsTable, Sheet}
use Rattle.gtfs_rows.proofs.SheetLemmas.{sheets_are_one}
use Rattle.gtfs_tables.specs.Fields.AnyLength.{IsFirstFault, IsNoTable, IsSoundTable}
use Rattle.gtfs_tables.specs.Fields.Table.{IsRowFault, IsTableFault}
use Rattle.gtfs_tables.specs.declared.fields.fault.FileFault.{FileFault}
use Rattle.gtfs_tables.specs.declared.fields.fault.FileFault.TheVariants.{Broken, TooMany, NoMemory}
use Rattle.gtfs_tables.proofs.FieldsLemmas.TableLaws.{row_fault_is_broken, row_faults_are_one, small_table_has_no_fault, table_faults_are_one}

module _ (columns : List (List ℕ)) (bytes : List ℕ) where
  as_table : (most : ℕ) (fault : FileFault) → IsNoTable columns bytes fault → IsTableFault columns most bytes fault
  as_table most (Broken rule row) h = h
  as_table most (TooMany n) h = absurd h
  as_table most NoMemory h = h

  no_table : (sheet : Sheet) (fault : FileFault) → IsTable bytes columns sheet → IsNoTable columns bytes fault → ⊥
  no_table sheet fault table h =
      let small : length sheet.rows ≤ length sheet.rows = omega arith in
      small_table_has_no_fault columns (length sheet.rows) bytes sheet fault (record { table = table; small = small }) (as_table (length sheet.rows) fault h)

  module _ (rule_at : Sheet → ℕ → Option ℕ) where
    -- two first faults are one
    pub first_faults_are_one : (a b : FileFault) → IsFirstFault columns rule_at bytes a → IsFirstFault columns rule_at bytes b → a ≡ b
    first_faults_are_one a b (inl h) (inl k) = table_faults_are_one columns 0 bytes a b (as_table 0 a h) (as_table 0 b k)
    first_faults_are_one a b (inl h) (inr k) = absurd (no_table k.sheet a k.table h)
    first_faults_are_one a b (inr h) (inl k) = absurd (no_table h.sheet b h.table k)
    first_faults_are_one a b (inr h) (inr k) =
        let same : h.sheet ≡ k.sheet = sheets_are_one bytes h.sheet k.sheet h.table.read k.table.read in
        row_faults_are_one (rule_at k.sheet) (length k.sheet.rows) a b (subst (λ (s : Sheet). IsRowFault (rule_at s) (length s.rows) a) same h.first) k.first

    -- two sound tables are one
    pub sound_tables_are_one : (a b : Sheet) → IsSoundTable columns rule_at bytes a → IsSoundTable columns rule_at bytes b → a ≡ b
    sound_tables_are_one a b h k = sheets_are_one bytes a b h.table.read k.table.read

    -- a sound table has no fault
    pub sound_table_has_no_fault : (sheet : Sheet) (fault : FileFault) → IsSoundTable columns rule_at bytes sheet → IsFirstFault columns rule_at bytes fault → ⊥
    sound_table_has_no_fault sheet fault h (inl k) = no_table sheet fault h.table k
    sound_table_has_no_fault sheet fault h (inr k) =
        let same : k.sheet ≡ sheet = sheets_are_one bytes k.sheet sheet k.table.read h.table.read in
        row_fault_is_broken (rule_at sheet) (length sheet.rows) fault (subst (λ (s : Sheet). IsRowFault (rule_at s) (length s.rows) fault) same k.first) h.unbroken
