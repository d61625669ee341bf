-- Changing between stops (GTFS Schedule Reference, transfers.txt).
use Rattle.std.specs.Prelude.{◌≡◌, ℕ, ◌==◌, ◌||◌, ◌&&◌, if◌then◌else◌, Bool, false, List, [], ◌∷◌, Option, Some, None, codes, is_none, length, map, nat_le, not, option_map}
use Rattle.std.specs.List.{filter_map}
use Rattle.gtfs_rows.specs.Sheet.{Sheet}
use Rattle.lc_model.specs.declared.stop.Stop.{Stop}
use Rattle.gtfs_tables.specs.Fields.AnyLength.{IsFirstFault, IsSoundTable}
use Rattle.gtfs_tables.specs.Fields.Columns.{row_at, text_at}
use Rattle.lc_time.specs.Digits.{u32_said}
use Rattle.gtfs_tables.specs.Fields.Places.{is_unknown}
use Rattle.gtfs_tables.specs.Fields.Rules.{first_of}
use Rattle.gtfs_tables.specs.Fields.Fields.{id_said}
use Rattle.gtfs_tables.specs.declared.fields.fault.FileFault.{FileFault}
use Rattle.gtfs_tables.specs.declared.calendars.transfer.Transfer.{Transfer}

-- the columns that the file has to have
abbrev pub transfers_columns : List (List ℕ)
transfers_columns = codes "from_stop_id" ∷ codes "to_stop_id" ∷ []

-- the ids of stops
abbrev pub ids_of_stops : List Stop → List (List ℕ)
ids_of_stops stops = map (λ (s : Stop). s.id) stops

-- the transfer_type that a text says: 0 where it is empty
abbrev pub kind_said : List ℕ → Option ℕ
kind_said text = if length text == 0 then Some 0 else u32_said text

-- the min_transfer_time that a text says: none where it is empty
abbrev pub seconds_said : List ℕ → Option (Option ℕ)
seconds_said text = if length text == 0 then Some None else option_map (λ seconds. Some seconds) (u32_said text)

-- a kind of change between stops. One of another kind, or an unreadable one, is none
abbrev pub is_kind : Option ℕ → Bool
is_kind None = false
is_kind (Some kind) = nat_le kind 3

-- a text is not empty
abbrev pub is_filled : List ℕ → Bool
is_filled text = not (length text == 0)

-- the row speaks of some routes or trips alone
unfoldable pub is_of_some_trips : Sheet → List (List ℕ) → Bool
is_of_some_trips sheet row =
    is_filled (text_at sheet row (codes "from_route_id")) || (is_filled (text_at sheet row (codes "to_route_id"))
    || (is_filled (text_at sheet row (codes "from_trip_id")) || is_filled (text_at sheet row (codes "to_trip_id"))))

-- a row is passed over: it is of another kind, it lacks a stop, or it is of some routes or trips alone
abbrev pub is_passed_over : Option (List ℕ) → Option (List ℕ) → Bool → Option ℕ → Bool
is_passed_over from to of_some kind = not (is_kind kind) || (is_none from || (is_none to || of_some))

-- the rules of a row, in their order, each with whether it is broken, by what the fields of the row say
abbrev pub transfer_rules : Bool → Bool → Option ℕ → Option (Option ℕ) → List (ℕ × Bool)
transfer_rules passed unknown kind seconds = (8, not passed && unknown) ∷ (11, is_none kind || is_none seconds) ∷ []

-- the row that these make, where each is there and it is not passed over
abbrev pub transfer_of : Bool → Option (List ℕ) → Option (List ℕ) → Option ℕ → Option (Option ℕ) → Option Transfer
transfer_of false (Some from) (Some to) (Some kind) (Some seconds) = Some (record { from = from; to = to; kind = kind; seconds = seconds })
transfer_of _ _ _ _ _ = None

-- the stop that a row leads from
abbrev pub from_of : Sheet → List (List ℕ) → List ℕ
from_of sheet row = text_at sheet row (codes "from_stop_id")

-- the stop that a row leads to
abbrev pub to_of : Sheet → List (List ℕ) → List ℕ
to_of sheet row = text_at sheet row (codes "to_stop_id")

-- the kind of a row
abbrev pub kind_of : Sheet → List (List ℕ) → Option ℕ
kind_of sheet row = kind_said (text_at sheet row (codes "transfer_type"))

-- the seconds of a row, where it says some
abbrev pub seconds_of : Sheet → List (List ℕ) → Option (Option ℕ)
seconds_of sheet row = seconds_said (text_at sheet row (codes "min_transfer_time"))

-- what a row says, where it is not passed over
unfoldable pub transfer_said : Sheet → List (List ℕ) → Option Transfer
transfer_said sheet row =
    let from = id_said (from_of sheet row) in
    let to = id_said (to_of sheet row) in
    let passed = is_passed_over from to (is_of_some_trips sheet row) (kind_of sheet row) in
    transfer_of passed from to (kind_of sheet row) (seconds_of sheet row)

-- the first rule that the row at a place breaks, where these are the stops
unfoldable pub transfers_rule : List Stop → Sheet → ℕ → Option ℕ
transfers_rule stops sheet place =
    let row = row_at sheet place in
    let passed = is_passed_over (id_said (from_of sheet row)) (id_said (to_of sheet row)) (is_of_some_trips sheet row) (kind_of sheet row) in
    let unknown = is_unknown (ids_of_stops stops) (from_of sheet row) || is_unknown (ids_of_stops stops) (to_of sheet row) in
    first_of (transfer_rules passed unknown (kind_of sheet row) (seconds_of sheet row))

-- the bytes are a transfers.txt of these stops, and these are its rows in order, without those that are passed over
pub record AreTransfers (stops : List Stop) (bytes : List ℕ) (transfers : List Transfer) : Type 0 where
  pub sheet : Sheet
  pub sound : IsSoundTable transfers_columns (transfers_rule stops) bytes sheet
  pub rows : transfers ≡ filter_map (transfer_said sheet) sheet.rows

-- the bytes are no transfers.txt of these stops, and this is what is wrong first
abbrev pub IsTransfersFault : List Stop → List ℕ → FileFault → Type 0
IsTransfersFault stops bytes fault = IsFirstFault transfers_columns (transfers_rule stops) bytes fault
