-- A file says one sheet or has one first fault, and never both, whatever the rules of its rows are.
use Rattle.std.proofs.Common.{◌≡◌, ◌∙◌, ℕ, ◌+◌, ◌<◌, ◌≤◌, ◌⊎◌, List, Option, Some, None, ap, ap₂, arith, inl, inr, length, refl, subst, sym}
use Rattle.std.proofs.lemmas.Bool.{cases_lt}
use Rattle.gtfs_rows.specs.Fault.{Breaks}
use Rattle.gtfs_rows.specs.Sheet.{IsTable, Sheet}
use Rattle.gtfs_rows.specs.declared.fault.RowFault.{RowFault}
use Rattle.gtfs_rows.specs.declared.fault.RowFault.TheVariants as row_faults
use Rattle.gtfs_rows.proofs.FaultLemmas.{faults_are_one, table_breaks_none}
use Rattle.gtfs_rows.proofs.SheetLemmas.{sheets_are_one}
use Rattle.gtfs_tables.specs.Fields.Rules.{IsFirstBroken, IsUnbroken}
use Rattle.gtfs_tables.specs.Fields.Table.{BreaksRow, BreaksTable, IsFaultOf, IsFileFault, IsRowFault, IsSmallTable, IsSound, IsTableFault, rule_of_fault}
use Rattle.gtfs_tables.specs.declared.fields.fault.FileFault.{FileFault}
use Rattle.gtfs_tables.specs.declared.fields.fault.FileFault.TheVariants.{Broken, TooMany, NoMemory}

-- two first broken places are one, and so is what is broken there
module _ {What : Type 0} (broken_at : ℕ → Option What) (count : ℕ) where
  not_later : (p q : ℕ) (x y : What) → IsFirstBroken broken_at count p x → IsFirstBroken broken_at count q y → p < q → ⊥
  not_later p q x y h k earlier = let e : Some x ≡ None = sym h.broken ∙ k.before p earlier in cc

  pub firsts_at_one_place : (p q : ℕ) (x y : What) → IsFirstBroken broken_at count p x → IsFirstBroken broken_at count q y → p ≡ q
  firsts_at_one_place p q x y h k =
      elim (cases_lt p q) [
        | inl before ↦ absurd (not_later p q x y h k before)
        | inr from ↦ elim (cases_lt q p) [ inl before ↦ absurd (not_later q p y x k h before) | inr to ↦ omega arith ]
      ]

  pub firsts_say_one : (p q : ℕ) (x y : What) → IsFirstBroken broken_at count p x → IsFirstBroken broken_at count q y → x ≡ y
  firsts_say_one p q x y h k =
      let e : Some x ≡ Some y = sym h.broken ∙ ap broken_at (firsts_at_one_place p q x y h k) ∙ k.broken in cc

  pub first_is_broken : (p : ℕ) (x : What) → IsFirstBroken broken_at count p x → IsUnbroken broken_at count → ⊥
  first_is_broken p x h none = let e : Some x ≡ None = sym h.broken ∙ none p h.there in cc

-- two first rules broken by rows are one
pub row_faults_are_one : (rule_at : ℕ → Option ℕ) (count : ℕ) (a b : FileFault) → IsRowFault rule_at count a → IsRowFault rule_at count b → a ≡ b
row_faults_are_one rule_at count (Broken rule row) (Broken rule2 row2) (p, h, at) (q, k, at2) =
    let same : p ≡ q = firsts_at_one_place rule_at count p q rule rule2 h k in
    let rules : rule ≡ rule2 = firsts_say_one rule_at count p q rule rule2 h k in
    let rows : row ≡ row2 = at ∙ ap (λ n. n + 1) same ∙ sym at2 in
    ap₂ (λ (r s : ℕ). Broken r s) rules rows
row_faults_are_one rule_at count (Broken rule row) (TooMany n) h k = absurd k
row_faults_are_one rule_at count (Broken rule row) NoMemory h k = absurd k
row_faults_are_one rule_at count (TooMany n) b h k = absurd h
row_faults_are_one rule_at count NoMemory b h k = absurd h

pub row_fault_is_broken : (rule_at : ℕ → Option ℕ) (count : ℕ) (a : FileFault) → IsRowFault rule_at count a → IsUnbroken rule_at count → ⊥
row_fault_is_broken rule_at count (Broken rule row) (p, h, at) none = first_is_broken rule_at count p rule h none
row_fault_is_broken rule_at count (TooMany n) h none = h
row_fault_is_broken rule_at count NoMemory h none = h

pair_rule : (a b c d : ℕ) → (◌≡◌ {A = Option (ℕ × ℕ)} (Some (a, b)) (Some (c, d))) → (a ≡ c) × (b ≡ d)
pair_rule a b c d e =
    let first : Option (ℕ × ℕ) → ℕ = λ o. elim o [ None ↦ 0 | Some p ↦ p.0 ] in
    let second : Option (ℕ × ℕ) → ℕ = λ o. elim o [ None ↦ 0 | Some p ↦ p.1 ] in
    (ap first e, ap second e)

module _ (columns : List (List ℕ)) (most : ℕ) (bytes : List ℕ) where
  breaks_no_table : (rule row : ℕ) (sheet : Sheet) → BreaksTable columns bytes rule row → IsTable bytes columns sheet → ⊥
  breaks_no_table rule row sheet h table = table_breaks_none bytes columns sheet h.fault table h.breaks

  -- two first faults of a table are one
  pub table_faults_are_one : (a b : FileFault) → IsTableFault columns most bytes a → IsTableFault columns most bytes b → a ≡ b
  table_faults_are_one (Broken rule row) (Broken rule2 row2) h k =
      let same : h.fault ≡ k.fault = faults_are_one bytes columns h.fault k.fault h.breaks k.breaks in
      let pair = pair_rule rule row rule2 row2 (sym h.numbered ∙ ap rule_of_fault same ∙ k.numbered) in
      ap₂ (λ (r s : ℕ). Broken r s) pair.0 pair.1
  table_faults_are_one (Broken rule row) (TooMany n) h k = absurd (breaks_no_table rule row k.sheet h k.table)
  table_faults_are_one (Broken rule row) NoMemory h k = absurd k
  table_faults_are_one (TooMany n) (Broken rule row) h k = absurd (breaks_no_table rule row h.sheet k h.table)
  table_faults_are_one (TooMany n) (TooMany m) h k =
      let same : h.sheet ≡ k.sheet = sheets_are_one bytes h.sheet k.sheet h.table.read k.table.read in
      let counts : n ≡ m = h.counted ∙ ap (λ (s : Sheet). length s.rows) same ∙ sym k.counted in
      ap (λ (r : ℕ). TooMany r) counts
  table_faults_are_one (TooMany n) NoMemory h k = absurd k
  table_faults_are_one NoMemory b h k = absurd h

  -- a table has none
  pub small_table_has_no_fault : (sheet : Sheet) (fault : FileFault) → IsSmallTable columns most bytes sheet → IsTableFault columns most bytes fault → ⊥
  small_table_has_no_fault sheet (Broken rule row) small h = breaks_no_table rule row sheet h small.table
  small_table_has_no_fault sheet (TooMany n) small h =
      let same : sheet ≡ h.sheet = sheets_are_one bytes sheet h.sheet small.table.read h.table.read in
      let less : length h.sheet.rows ≤ most = subst (λ (s : Sheet). length s.rows ≤ most) same small.small in
      let more : most < length h.sheet.rows = h.long in
      absurd (omega arith)
  small_table_has_no_fault sheet NoMemory small h = h

  -- two sheets are one
  pub small_tables_are_one : (a b : Sheet) → IsSmallTable columns most bytes a → IsSmallTable columns most bytes b → a ≡ b
  small_tables_are_one a b h k = sheets_are_one bytes a b h.table.read k.table.read

  -- what a fault of the rows is reported as
  pub recorded : (found : RowFault) (fault : FileFault) → IsFaultOf found fault → (found ≡ row_faults.NoMemory) ⊎ Breaks bytes columns found
      → (fault ≡ NoMemory) ⊎ IsTableFault columns most bytes fault
  recorded found (Broken rule row) is (inl none) = let e : None ≡ Some (rule, row) = sym (ap rule_of_fault none) ∙ is in absurd (none_is_not_some (rule, row) e)
    where
      none_is_not_some : (x : ℕ × ℕ) → (◌≡◌ {A = Option (ℕ × ℕ)} None (Some x)) → ⊥
      none_is_not_some x e = cc
  recorded found (Broken rule row) is (inr breaks) = inr (record { fault = found; breaks = breaks; numbered = is })
  recorded found (TooMany n) is h = absurd is
  recorded found NoMemory is h = inl refl

  module _ (rule_at : Sheet → ℕ → Option ℕ) where
    row_not_table : (a b : FileFault) → BreaksRow columns most rule_at bytes a → IsTableFault columns most bytes b → ⊥
    row_not_table a b h k = small_table_has_no_fault h.sheet b h.table k

    -- two first faults of a file are one
    pub file_faults_are_one : (a b : FileFault) → IsFileFault columns most rule_at bytes a → IsFileFault columns most rule_at bytes b → a ≡ b
    file_faults_are_one a b (inl h) (inl k) = table_faults_are_one a b h k
    file_faults_are_one a b (inl h) (inr k) = absurd (row_not_table b a k h)
    file_faults_are_one a b (inr h) (inl k) = absurd (row_not_table a b h k)
    file_faults_are_one a b (inr h) (inr k) =
        let same : h.sheet ≡ k.sheet = small_tables_are_one h.sheet k.sheet h.table k.table in
        let first : IsRowFault (rule_at k.sheet) (length k.sheet.rows) a =
        subst (λ (s : Sheet). IsRowFault (rule_at s) (length s.rows) a) same h.first in
        row_faults_are_one (rule_at k.sheet) (length k.sheet.rows) a b first k.first

    -- two sound sheets are one
    pub sound_sheets_are_one : (a b : Sheet) → IsSound columns most rule_at bytes a → IsSound columns most rule_at bytes b → a ≡ b
    sound_sheets_are_one a b h k = small_tables_are_one a b h.table k.table

    -- a sound file has no fault
    pub sound_has_no_fault : (sheet : Sheet) (fault : FileFault) → IsSound columns most rule_at bytes sheet → IsFileFault columns most rule_at bytes fault → ⊥
    sound_has_no_fault sheet fault h (inl k) = small_table_has_no_fault sheet fault h.table k
    sound_has_no_fault sheet fault h (inr k) =
        let same : sheet ≡ k.sheet = small_tables_are_one sheet k.sheet h.table k.table in
        row_fault_is_broken (rule_at sheet) (length sheet.rows) fault (subst (λ (s : Sheet). IsRowFault (rule_at s) (length s.rows) fault) (sym same) k.first) h.unbroken
