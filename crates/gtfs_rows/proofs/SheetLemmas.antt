-- The bytes have one reading: its records, and so its sheet, are the same however they were found.
use Rattle.std.proofs.Common.{◌≡◌, ◌∙◌, ℕ, zero, suc, ◌<◌, List, [], ◌∷◌, Option, Some, None, false, length, map, refl, sym, ap, ap₂, arith}
use Rattle.csv.specs.Machine.{Read, ends_at_end, next_record}
use Rattle.csv.specs.Reading.{AreRecords, Reached, default_config, strip_bom}
use Rattle.csv.specs.declared.parser.Config.{Config}
use Rattle.csv.specs.declared.parser.State.{State}
use Rattle.csv.specs.declared.parser.State.TheVariants as st
use Rattle.gtfs_rows.specs.Sheet.{AreRecordsOf, IsSheetOf, Sheet}
use Rattle.gtfs_rows.specs.Spaces.{without_spaces}
use Rattle.gtfs_rows.proofs.ReadLemmas.{next_idle, rest_shorter}

-- a text in a state has one list of records
records_are_one : (cfg : Config) (s : State) (text : List ℕ) (a b : List (List (List ℕ))) → AreRecords cfg s text a → AreRecords cfg s text b → a ≡ b
unfolding Reached
records_are_one cfg s text [] [] h k = refl
records_are_one cfg s text [] (r ∷ rs) (s2, rest, (same, text_is), done) (t2, rest2, (p, next, row, more), end) =
    cc (rw (← same, ← text_is) at done)
records_are_one cfg s text (r ∷ rs) [] (s2, rest, (p, next, row, more), end) (t2, rest2, (same, text_is), done) =
    cc (rw (← same, ← text_is) at done)
records_are_one cfg s text (r ∷ rs) (t ∷ ts) (s2, rest, (p, next, row, more), done) (t2, rest2, (q, next2, row2, more2), end) =
    let one : p ≡ q = cc in
    let rows : rs ≡ ts = records_are_one cfg p.1 p.2 rs ts (s2, rest, more, done) (t2, rest2, rw one more2, end) in
    let first : r ≡ t = row ∙ ap (λ (x : Read). x.0) one ∙ sym row2 in
    cc

pub records_of_are_one : (bytes : List ℕ) (a b : List (List (List ℕ))) → AreRecordsOf bytes a → AreRecordsOf bytes b → a ≡ b
records_of_are_one bytes a b h k = records_are_one _ _ _ a b h k

same_sheet : (a b : Sheet) → a.names ≡ b.names → a.rows ≡ b.rows → a ≡ b
same_sheet a b names rows =
    let of : List (List ℕ) → List (List (List ℕ)) → Sheet = λ n r. record { names = n; rows = r } in
    ap₂ of names rows

-- two readings of the same bytes give the same sheet
pub sheets_are_one : (bytes : List ℕ) (a b : Sheet) → IsSheetOf bytes a → IsSheetOf bytes b → a ≡ b
sheets_are_one bytes a b h k =
    let same : h.header ∷ h.records ≡ k.header ∷ k.records = records_of_are_one bytes _ _ h.read k.read in
    let header : h.header ≡ k.header = cc in
    let records : h.records ≡ k.records = cc in
    let names : a.names ≡ b.names = h.names ∙ ap (map without_spaces) header ∙ sym k.names in
    let rows : a.rows ≡ b.rows = h.rows ∙ ap (map (map without_spaces)) records ∙ sym k.rows in
    same_sheet a b names rows

-- a text in a state in which no record is begun has records
records_from : (size : ℕ) (s : State) (text : List ℕ) → length text < size → ends_at_end s ≡ false → (records : List (List (List ℕ))) × AreRecords default_config s text records
unfolding Reached
records_from zero s text fits idle = absurd (omega arith)
records_from (suc size) s text fits idle = by (next_record default_config s [] [] text) refl (records_from size)
  where
    by : (found : Option Read) → next_record default_config s [] [] text ≡ found
        → ((s : State) (text : List ℕ) → length text < size → ends_at_end s ≡ false → (records : List (List (List ℕ))) × AreRecords default_config s text records)
        → (records : List (List (List ℕ))) × AreRecords default_config s text records
    by None none further = ([], (s, text, (refl, refl), none))
    by (Some p) more further =
        let shorter : length p.2 < length text = rest_shorter s text p idle more in
        let rest = further p.1 p.2 (omega arith) (next_idle s [] [] text p more) in
        (p.0 ∷ rest.0, (rest.1.0, rest.1.1, (p, more, refl, rest.1.2), rest.1.3))

-- all bytes have records
pub some_records : (bytes : List ℕ) → (records : List (List (List ℕ))) × AreRecordsOf bytes records
some_records bytes = records_from (suc (length (strip_bom bytes))) st.StartRecord (strip_bom bytes) (omega arith) refl
