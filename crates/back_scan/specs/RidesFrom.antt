-- The rides from a departure on, one after the other.
use Rattle.std.specs.Prelude.{◌≡◌, ℕ, List, [], ◌∷◌, Option, Some, None}
use Rattle.std.specs.List.{slice_get}
use Rattle.lc_model.specs.declared.key.RunKey.{RunKey}
use Rattle.lc_model.specs.declared.ride.Ride.{Ride}
use Rattle.lc_model.specs.declared.stop.Stop.{Stop}
use Rattle.back_scan.specs.Onward.{IsShown}
use Rattle.back_scan.specs.declared.trace.Departure.{Departure}

-- The rides lead on from the stop `next` to the end of a journey, or there are none where that is none. Each is that of the departure
-- from its stop.
abbrev pub GoesOnFrom : List Stop → List RunKey → List (Option Departure) → Option ℕ → List Ride → Type 0
GoesOnFrom stops runs departures next [] = next ≡ None
GoesOnFrom stops runs departures next (ride ∷ rest) =
    (stop : ℕ) × (d : Departure) × (next ≡ Some stop) × (slice_get departures stop ≡ Some (Some d)) × IsShown stops runs stop d ride
    × GoesOnFrom stops runs departures d.alighting.next rest
