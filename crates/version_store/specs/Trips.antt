-- The trips of some keys, and the news of these trips.
use Rattle.std.specs.Prelude.{◌≡◌, ℕ, List, true}
use Rattle.std.specs.Borrow.{Bor}
use Rattle.std.specs.BTreeSet.{BTreeSet}
use Rattle.std.specs.List.{Contains}
use Rattle.lc_model.specs.declared.key.RunKey.{RunKey}
use Rattle.lc_model.specs.Versions.News.{TripSaid}
use Rattle.version_store.specs.Differing.{AreAlikeAt}
use Rattle.version_store.specs.Filed.{has_text}

-- the set has the trips of these keys
abbrev pub HasTripsOf : List RunKey → BTreeSet (Bor (List ℕ)) → Type 0
HasTripsOf keys trips = (key : RunKey) → Contains keys key → has_text trips key.trip ≡ true

-- at each key of a trip of the set the lists are alike
abbrev pub AreOfTrips : BTreeSet (Bor (List ℕ)) → List TripSaid → List TripSaid → Type 0
AreOfTrips trips near list = (key : RunKey) → has_text trips key.trip ≡ true → AreAlikeAt key near list
