-- What is written of a moment at an end of a connection.
use Rattle.std.specs.Prelude.{ℕ, List, ◌++◌, codes}
use Rattle.lc_time.specs.Iso.{iso_text_of}
use Rattle.page_json.specs.declared.moment_text.End.{End}
use Rattle.page_json.specs.declared.moment_text.End.TheVariants.{Arrival, Departure}

-- the moment of an arrival up to the departure's delay, or that of a departure up to the end of its text
abbrev pub end_text : End → ℕ → List ℕ
end_text Arrival moment = codes "\",\"arrivalTime\":\"" ++ (iso_text_of moment ++ codes "\",")
end_text Departure moment = codes "\",\"departureTime\":\"" ++ iso_text_of moment
