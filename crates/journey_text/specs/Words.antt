-- The words of a text, and those of an answer's text.
use Rattle.std.specs.Prelude.{◌≡◌, ◌≢◌, ℕ, Bool, ◌==◌, ◌||◌, List, [], ◌∷◌, ◌++◌, Option, Some, None, codes, decimal, length, map}
use Rattle.std.specs.Borrow.{Bor}
use Rattle.std.specs.List.{flat_map, slice_split}
use Rattle.connection_uri.specs.Encoding.{encoded}
use Rattle.connection_uri.specs.Name.{start_part_of}
use Rattle.lc_model.specs.Journey.{arrives_at}
use Rattle.lc_model.specs.declared.journey.Journey.{Journey}
use Rattle.lc_model.specs.declared.ride.Ride.{Ride}
use Rattle.lc_model.specs.declared.walk.Walk.{Walk}
use Rattle.lc_time.specs.Date.{date_text_of}
use Rattle.lc_time.specs.Iso.{iso_text_of}
use Rattle.journey_text.specs.declared.ride_words.RideWords.{RideWords}

-- a space or a line feed
abbrev pub is_blank : ℕ → Bool
is_blank byte = (byte == 32) || (byte == 10)

-- what is between the blanks of a text
abbrev pub words_of : List ℕ → List (List ℕ)
words_of text = slice_split is_blank text

-- the words that references point to
abbrev pub texts_of : List (Bor (List ℕ)) → List (List ℕ)
texts_of words = map (λ (word : Bor (List ℕ)). word.now) words

-- the words of a ride's line
unfoldable pub ride_words_of : Ride → List (List ℕ)
ride_words_of ride =
    codes "ride" ∷ encoded ride.key.trip ∷ date_text_of ride.key.date.year ride.key.date.month ride.key.date.day
    ∷ start_part_of ride.key.start ∷ decimal ride.first_seq ∷ decimal ride.last_seq ∷ encoded ride.board
    ∷ iso_text_of ride.dep ∷ encoded ride.alight ∷ iso_text_of ride.arr ∷ []

-- the words of the line of a walk, where there is one
unfoldable pub walk_words_of : Option Walk → List (List ℕ)
walk_words_of None = []
walk_words_of (Some walk) = codes "walk" ∷ encoded walk.from ∷ encoded walk.to ∷ decimal walk.seconds ∷ []

-- the words of the lines of rides and of the walk after them, and what comes after the last line feed, which is nothing
abbrev pub rest_words_of : List Ride → Option Walk → List (List ℕ)
rest_words_of rides after = flat_map ride_words_of rides ++ (walk_words_of after ++ [] ∷ [])

-- the words of a journey's text
unfoldable pub journey_words_of : Journey → List (List ℕ)
journey_words_of journey =
    codes "journey" ∷ decimal (length journey.rides) ∷ codes "arrives" ∷ iso_text_of (arrives_at journey)
    ∷ (walk_words_of journey.before ++ rest_words_of journey.rides journey.after)

-- the words are those of this ride's line
pub record AreWordsOf (ride : Ride) (words : RideWords) : Type 0 where
  pub trip : words.trip.now ≡ encoded ride.key.trip
  pub date : words.date.now ≡ date_text_of ride.key.date.year ride.key.date.month ride.key.date.day
  pub start : words.start.now ≡ start_part_of ride.key.start
  pub first_seq : words.first_seq.now ≡ decimal ride.first_seq
  pub last_seq : words.last_seq.now ≡ decimal ride.last_seq
  pub board : words.board.now ≡ encoded ride.board
  pub dep : words.dep.now ≡ iso_text_of ride.dep
  pub alight : words.alight.now ≡ encoded ride.alight
  pub arr : words.arr.now ≡ iso_text_of ride.arr

-- the words do not begin with this one
abbrev pub DoesNotBegin : List ℕ → List (List ℕ) → Type 0
DoesNotBegin mark words = (rest : List (List ℕ)) → words ≢ mark ∷ rest
