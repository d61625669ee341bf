-- The text of an answer. Each line ends with a line feed, and its words are parted by spaces.
use Rattle.std.specs.Prelude.{ℕ, ◌<◌, List, [], ◌++◌, Option, Some, None, codes, decimal, length}
use Rattle.std.specs.List.{flat_map}
use Rattle.connection_uri.specs.Encoding.{encoded}
use Rattle.connection_uri.specs.Name.{start_part_of}
use Rattle.lc_model.specs.Journey.{arrives_at}
use Rattle.lc_model.specs.declared.answer.Answer.{Answer}
use Rattle.lc_model.specs.declared.answer.Answer.TheVariants as answers
use Rattle.lc_model.specs.declared.journey.Journey.{Journey}
use Rattle.lc_model.specs.declared.key.RunKey.{RunKey}
use Rattle.lc_model.specs.declared.moment.TheConstants.{MOMENTS_END}
use Rattle.lc_model.specs.declared.ride.Ride.{Ride}
use Rattle.lc_model.specs.declared.walk.Walk.{Walk}
use Rattle.lc_time.specs.Date.{date_text_of}
use Rattle.lc_time.specs.Iso.{iso_text_of}

-- a space and a word
abbrev pub word : List ℕ → List ℕ
word text = codes " " ++ text

-- the trip, the service date and the start of a run
abbrev pub key_words_of : RunKey → List ℕ
key_words_of key = word (encoded key.trip) ++ word (date_text_of key.date.year key.date.month key.date.day) ++ word (start_part_of key.start)

-- `ride {trip} {date} {start} {first} {last} {from} {departure} {to} {arrival}`
abbrev pub ride_line_of : Ride → List ℕ
ride_line_of ride =
    codes "ride" ++ key_words_of ride.key ++ word (decimal ride.first_seq) ++ word (decimal ride.last_seq)
    ++ word (encoded ride.board) ++ word (iso_text_of ride.dep) ++ word (encoded ride.alight)
    ++ word (iso_text_of ride.arr) ++ codes "\n"

-- `walk {from} {to} {seconds}`
abbrev pub walk_line_of : Walk → List ℕ
walk_line_of walk = codes "walk" ++ word (encoded walk.from) ++ word (encoded walk.to) ++ word (decimal walk.seconds) ++ codes "\n"

-- the line of a walk, where there is one
abbrev pub walk_text_of : Option Walk → List ℕ
walk_text_of None = []
walk_text_of (Some walk) = walk_line_of walk

-- `journey {rides} arrives {arrival}`
abbrev pub journey_line_of : Journey → List ℕ
journey_line_of journey =
    codes "journey" ++ word (decimal (length journey.rides)) ++ codes " arrives" ++ word (iso_text_of (arrives_at journey))
    ++ codes "\n"

-- the line of the journey, that of the walk before, a line for each ride, and that of the walk after
abbrev pub journey_text_of : Journey → List ℕ
journey_text_of journey =
    journey_line_of journey ++ walk_text_of journey.before ++ flat_map ride_line_of journey.rides ++ walk_text_of journey.after

-- the lines of a journey, or `no journey`
abbrev pub answer_text_of : Answer → List ℕ
answer_text_of (answers.Journey journey) = journey_text_of journey
answer_text_of answers.NoJourney = codes "no journey\n"

-- the journey of the answer arrives at a moment that has a text
abbrev pub ArrivesAtAMoment : Answer → Type 0
ArrivesAtAMoment (answers.Journey journey) = arrives_at journey < MOMENTS_END
ArrivesAtAMoment answers.NoJourney = Unit {0}
