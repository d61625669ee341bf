-- The first words of a ride's line.
use Rattle.std.specs.Prelude.{ℕ, List, ◌++◌, codes, decimal}
use Rattle.lc_model.specs.declared.ride.Ride.{Ride}
use Rattle.journey_text.specs.AnswerText.{key_words_of, word}

-- `ride {trip} {date} {start} {first} {last}`
abbrev pub ride_places_of : Ride → List ℕ
ride_places_of ride = codes "ride" ++ key_words_of ride.key ++ word (decimal ride.first_seq) ++ word (decimal ride.last_seq)
