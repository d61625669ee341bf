-- Records one after the other in one list of fields, the first with the names of the columns.
use Rattle.std.specs.Prelude.{ℕ, ◌-◌, ◌<◌, ◌≡◌, List, [], ◌∷◌, drop, length, slice_index_or, take}
use Rattle.std.specs.Str.{IsUtf8}
use Rattle.gtfs_rows.specs.Sheet.{Sheet}

-- the records that end at these places of a list of fields, after a start
unfoldable pub cut_records : ℕ → List ℕ → List (List ℕ) → List (List (List ℕ))
cut_records start [] fields = []
cut_records start (end ∷ ends) fields = take (end - start) (drop start fields) ∷ cut_records end ends fields

-- the sheet of records: the first has the names of the columns
abbrev pub sheet_of : List (List (List ℕ)) → Sheet
sheet_of records = record { names = slice_index_or records 0 []; rows = drop 1 records }

-- there is a record with the names, and each record has as many fields as that
pub record IsEven (records : List (List (List ℕ))) : Type 0 where
  pub named : 0 < length records
  pub even : (place : ℕ) → place < length records → length (slice_index_or records place []) ≡ length (slice_index_or records 0 [])

-- each field of each record is UTF-8
abbrev pub AreTexts : List (List (List ℕ)) → Type 0
AreTexts records = (place column : ℕ) → IsUtf8 (slice_index_or (slice_index_or records place []) column [])

-- how rows are stored: as records as wide as the first, which has the names, of texts
pub record IsGrid (records : List (List (List ℕ))) : Type 0 where
  pub even : IsEven records
  pub texts : AreTexts records
