-- The texts of a page that have its base, as JSON has it.
use Rattle.std.specs.Prelude.{ℕ, List, ◌++◌, codes}
use Rattle.page_json.specs.declared.fronts.DelayFronts.{DelayFronts}
use Rattle.page_json.specs.declared.fronts.EndsFronts.{EndsFronts}
use Rattle.page_json.specs.declared.fronts.Fronts.{Fronts}
use Rattle.page_json.specs.declared.fronts.NameFronts.{NameFronts}
use Rattle.page_json.specs.declared.fronts.UseFronts.{UseFronts}

-- what comes before the runs in the names of connections under this base
abbrev pub names_under : List ℕ → NameFronts
names_under base =
    record {
      first = codes "[{\"@id\":\"" ++ (base ++ codes "connections/");
      next = codes "\"},{\"@id\":\"" ++ (base ++ codes "connections/");
    }

-- what comes before a stop under this base, by what comes before the delay and between it and the stop's URL
abbrev pub delay_under : List ℕ → List ℕ → List ℕ → DelayFronts
delay_under base delay stop =
    record {
      before = delay;
      after = stop ++ (base ++ codes "stops/");
      on_time = delay ++ (codes "0" ++ (stop ++ (base ++ codes "stops/")));
    }

-- what comes before the stops of arrivals and departures under this base
abbrev pub ends_under : List ℕ → EndsFronts
ends_under base =
    record {
      arrival = delay_under base (codes "\",\"@type\":\"Connection\",\"arrivalDelay\":") (codes ",\"arrivalStop\":\"");
      departure = delay_under base (codes "\"departureDelay\":") (codes ",\"departureStop\":\"");
    }

-- whether one may alight and board, and what comes before the trips of connections under this base
abbrev pub uses_under : List ℕ → UseFronts
uses_under base =
    record {
      both = codes "\",\"gtfs:dropOffType\":\"gtfs:Regular\",\"gtfs:pickupType\":\"gtfs:Regular\",\"gtfs:trip\":\"" ++ (base ++ codes "trips/");
      alighting = codes "\",\"gtfs:dropOffType\":\"gtfs:Regular\",\"gtfs:pickupType\":\"gtfs:NotAvailable\",\"gtfs:trip\":\"" ++ (base ++ codes "trips/");
      boarding = codes "\",\"gtfs:dropOffType\":\"gtfs:NotAvailable\",\"gtfs:pickupType\":\"gtfs:Regular\",\"gtfs:trip\":\"" ++ (base ++ codes "trips/");
      neither = codes "\",\"gtfs:dropOffType\":\"gtfs:NotAvailable\",\"gtfs:pickupType\":\"gtfs:NotAvailable\",\"gtfs:trip\":\"" ++ (base ++ codes "trips/");
    }

-- the texts of a page under this base, each up to what differs
abbrev pub fronts_under : List ℕ → Fronts
fronts_under base =
    record {
      base = base;
      names = names_under base;
      ends = ends_under base;
      uses = uses_under base;
    }
