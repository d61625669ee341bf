-- When the runs of a trip start (GTFS Schedule Reference, frequencies.txt).
use Rattle.std.specs.Prelude.{◌≡◌, ◌≢◌, ◌↔◌, ◌⊎◌, ℕ, ◌+◌, ◌*◌, ◌<◌, ◌≤◌, List, Option, Some, None, filter, length}
use Rattle.std.specs.List.{All, AllPairs, Any, Contains}
use Rattle.lc_model.specs.Change.{is_same_id}
use Rattle.gtfs_tables.specs.declared.calendars.frequency.Frequency.{Frequency}
use Rattle.trip_calls.specs.declared.start.Start.{Start}

-- the row starts its trip at this second of a service day: so many headways after its first start, before its end
pub record StartsAt (f : Frequency) (start : ℕ) : Type 0 where
  pub count : ℕ
  pub is : start ≡ f.from + count * f.headway
  pub before_end : start < f.to

-- a row of the trip starts it then
abbrev pub StartsTrip : List ℕ → ℕ → Frequency → Type 0
StartsTrip trip start f = (f.trip ≡ trip) × StartsAt f start

-- A run of the trip has this start: none where no row is of the trip, else one that a row of the trip gives.
abbrev pub IsStartOf : List Frequency → List ℕ → Option ℕ → Type 0
IsStartOf frequencies trip None = All (λ (f : Frequency). f.trip ≢ trip) frequencies
IsStartOf frequencies trip (Some start) = Any (StartsTrip trip start) frequencies

-- these are the starts of the runs of the trip, each once
pub record AreStarts (frequencies : List Frequency) (trip : List ℕ) (starts : List Start) : Type 0 where
  pub all : (start : Option ℕ) → Any (λ (s : Start). s.seconds ≡ start) starts ↔ IsStartOf frequencies trip start
  pub once : AllPairs (λ (s t : Start). s.seconds ≢ t.seconds) starts

-- these are the starts that rows give
abbrev pub AreAllGiven : List Frequency → List ℕ → Type 0
AreAllGiven rows starts = (start : ℕ) → Contains starts start ↔ Any (λ (f : Frequency). StartsAt f start) rows

-- these are the starts that rows give, each once
pub record AreGiven (rows : List Frequency) (starts : List ℕ) : Type 0 where
  pub all : AreAllGiven rows starts
  pub once : AllPairs (λ (s t : ℕ). s < t) starts

-- the new list has what the old one had, and the starts that the row gives
abbrev pub GainsStarts : Frequency → List ℕ → List ℕ → Type 0
GainsStarts f old new = (start : ℕ) → Contains new start ↔ (Contains old start ⊎ StartsAt f start)

-- the rows of a trip
abbrev pub spans_of : List Frequency → List ℕ → List Frequency
spans_of frequencies trip = filter (λ (f : Frequency). is_same_id f.trip trip) frequencies

-- two lists have the same starts
abbrev pub HaveSameStarts : List ℕ → List ℕ → Type 0
HaveSameStarts old new = (start : ℕ) → Contains new start ↔ Contains old start

-- the row gives so many starts: each before its end, and the next one is not
pub record GivesSoMany (f : Frequency) (count : ℕ) : Type 0 where
  pub before_end : (k : ℕ) → k < count → f.from + k * f.headway < f.to
  pub past : f.to ≤ f.from + count * f.headway

-- the runs of the trip have so many starts
pub record HaveStarts (frequencies : List Frequency) (trip : List ℕ) (count : ℕ) : Type 0 where
  pub starts : List Start
  pub are : AreStarts frequencies trip starts
  pub counted : count ≡ length starts
