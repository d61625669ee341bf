-- The words of an answer's text.
use Rattle.std.proofs.Common.{◌≡◌, ◌≢◌, ◌∙◌, ℕ, ◌<◌, List, [], ◌∷◌, ◌++◌, Option, Some, None, All, refl, sym, ap, codes, decimal, length, append_assoc, append-nil}
use Rattle.std.specs.List.{flat_map}
use Rattle.std.proofs.lemmas.List.Elements.{All-head, All-tail}
use Rattle.lc_model.specs.Journey.{arrives_at}
use Rattle.lc_model.specs.declared.journey.Journey.{Journey}
use Rattle.lc_model.specs.declared.ride.Ride.{Ride}
use Rattle.lc_model.specs.declared.walk.Walk.{Walk}
use Rattle.lc_time.specs.Date.{date_text_of}
use Rattle.lc_time.specs.Iso.{iso_text_of}
use Rattle.connection_uri.specs.Encoding.{encoded}
use Rattle.connection_uri.specs.Name.{start_part_of}
use Rattle.journey_text.specs.AnswerText.{journey_line_of, journey_text_of, ride_line_of, walk_line_of, walk_text_of}
use Rattle.journey_text.specs.Sound.{IsSoundJourney, IsSoundRide}
use Rattle.journey_text.specs.Words.{journey_words_of, rest_words_of, ride_words_of, walk_words_of, words_of}
use Rattle.journey_text.proofs.WordLemmas.{AreWords, date_word, decimal_word, encoded_word, fixed_word, moment_word, spaced, split_spaced, start_word}

-- ---- one line

ride_pieces : (s end a b c d e f g h k l rest : List ℕ)
    → (a ++ ((s ++ b) ++ (s ++ c) ++ (s ++ d)) ++ (s ++ e) ++ (s ++ f) ++ (s ++ g) ++ (s ++ h) ++ (s ++ k) ++ (s ++ l) ++ end) ++ rest
    ≡ a ++ (s ++ (b ++ (s ++ (c ++ (s ++ (d ++ (s ++ (e ++ (s ++ (f ++ (s ++ (g ++ (s ++ (h ++ (s ++ (k ++ (s ++ (l ++ (end ++ rest)))))))))))))))))))
ride_pieces s end a b c d e f g h k l rest = simp append_assoc

ride_line : (ride : Ride) (rest : List ℕ) → ride_line_of ride ++ rest ≡ spaced (ride_words_of ride) rest
unfolding spaced ride_words_of
ride_line ride rest =
    ride_pieces (codes " ") (codes "\n") (codes "ride") (encoded ride.key.trip) (date_text_of ride.key.date.year ride.key.date.month ride.key.date.day)
    (start_part_of ride.key.start) (decimal ride.first_seq) (decimal ride.last_seq) (encoded ride.board) (iso_text_of ride.dep) (encoded ride.alight)
    (iso_text_of ride.arr) rest

walk_pieces : (s end a b c d rest : List ℕ) → (a ++ (s ++ b) ++ (s ++ c) ++ (s ++ d) ++ end) ++ rest ≡ a ++ (s ++ (b ++ (s ++ (c ++ (s ++ (d ++ (end ++ rest)))))))
walk_pieces s end a b c d rest = simp append_assoc

walk_line : (walk : Walk) (rest : List ℕ) → walk_line_of walk ++ rest ≡ spaced (walk_words_of (Some walk)) rest
unfolding spaced walk_words_of
walk_line walk rest = walk_pieces (codes " ") (codes "\n") (codes "walk") (encoded walk.from) (encoded walk.to) (decimal walk.seconds) rest

journey_pieces : (s end a b c d rest : List ℕ) → (a ++ (s ++ b) ++ c ++ (s ++ d) ++ end) ++ rest ≡ a ++ (s ++ (b ++ (c ++ (s ++ (d ++ (end ++ rest))))))
journey_pieces s end a b c d rest = simp append_assoc

journey_line : (journey : Journey) (rest : List ℕ)
    → journey_line_of journey ++ rest ≡ spaced (codes "journey" ∷ decimal (length journey.rides) ∷ codes "arrives" ∷ iso_text_of (arrives_at journey) ∷ []) rest
unfolding spaced
journey_line journey rest =
    journey_pieces (codes " ") (codes "\n") (codes "journey") (decimal (length journey.rides)) (codes " arrives") (iso_text_of (arrives_at journey)) rest

ride_is_words : (ride : Ride) → IsSoundRide ride → AreWords (ride_words_of ride)
unfolding ride_words_of
ride_is_words ride sound = (
  fixed_word (codes "ride") refl,
  (
    encoded_word ride.key.trip,
    (
      date_word ride.key.date.year ride.key.date.month ride.key.date.day,
      (
        start_word ride.key.start,
        (
          decimal_word ride.first_seq,
          (
            decimal_word ride.last_seq,
            (
              encoded_word ride.board,
              (
                moment_word ride.dep sound.dep,
                (
                  encoded_word ride.alight,
                  (moment_word ride.arr sound.arr, tt),
                ),
              ),
            ),
          ),
        ),
      ),
    ),
  ),
)

walk_is_words : (walk : Walk) → AreWords (walk_words_of (Some walk))
unfolding walk_words_of
walk_is_words walk =
    (fixed_word (codes "walk") refl, (encoded_word walk.from, (encoded_word walk.to, (decimal_word walk.seconds, tt))))

journey_is_words : (journey : Journey) → arrives_at journey < 253_402_128_000
    → AreWords (codes "journey" ∷ decimal (length journey.rides) ∷ codes "arrives" ∷ iso_text_of (arrives_at journey) ∷ [])
journey_is_words journey small =
    (fixed_word (codes "journey") refl, (decimal_word (length journey.rides), (fixed_word (codes "arrives") refl, (moment_word (arrives_at journey) small, tt))))

some_words : (ride : Ride) → ride_words_of ride ≢ []
unfolding ride_words_of
some_words ride e = cc e

some_walk_words : (walk : Walk) → walk_words_of (Some walk) ≢ []
unfolding walk_words_of
some_walk_words walk e = cc e

-- a line is parted into its words, whatever comes after it
ride_split : (ride : Ride) (rest : List ℕ) → IsSoundRide ride → words_of (ride_line_of ride ++ rest) ≡ ride_words_of ride ++ words_of rest
ride_split ride rest sound =
    ap words_of (ride_line ride rest) ∙ split_spaced (ride_words_of ride) rest (ride_is_words ride sound) (some_words ride)

walk_split : (walk : Option Walk) (rest : List ℕ) → words_of (walk_text_of walk ++ rest) ≡ walk_words_of walk ++ words_of rest
unfolding walk_words_of
walk_split None rest = refl
walk_split (Some walk) rest =
    ap words_of (walk_line walk rest) ∙ split_spaced (walk_words_of (Some walk)) rest (walk_is_words walk) (some_walk_words walk)

-- ---- the lines of rides, of a journey

rides_split : (rides : List Ride) (rest : List ℕ) → All IsSoundRide rides → words_of (flat_map ride_line_of rides ++ rest) ≡ flat_map ride_words_of rides ++ words_of rest
rides_split [] rest sound = refl
rides_split (ride ∷ rides) rest sound =
    ap words_of (append_assoc (ride_line_of ride) (flat_map ride_line_of rides) rest)
    ∙ ride_split ride (flat_map ride_line_of rides ++ rest) (All-head IsSoundRide ride rides sound)
    ∙ ap (λ (words : List (List ℕ)). ride_words_of ride ++ words) (rides_split rides rest (All-tail IsSoundRide ride rides sound))
    ∙ sym (append_assoc (ride_words_of ride) (flat_map ride_words_of rides) (words_of rest))

rest_split : (rides : List Ride) (after : Option Walk) → All IsSoundRide rides
    → words_of (flat_map ride_line_of rides ++ walk_text_of after) ≡ rest_words_of rides after
rest_split rides after sound =
    rides_split rides (walk_text_of after) sound
    ∙ ap (λ (words : List (List ℕ)). flat_map ride_words_of rides ++ words) (ap words_of (sym (append-nil (walk_text_of after))) ∙ walk_split after [])

journey_parts : (journey : Journey)
    → journey_text_of journey ≡ journey_line_of journey ++ (walk_text_of journey.before ++ (flat_map ride_line_of journey.rides ++ walk_text_of journey.after))
journey_parts journey = parts (journey_line_of journey) (walk_text_of journey.before) (flat_map ride_line_of journey.rides) (walk_text_of journey.after)
  where
    parts : (a b c d : List ℕ) → a ++ b ++ c ++ d ≡ a ++ (b ++ (c ++ d))
    parts a b c d = simp append_assoc

-- the text of a journey is parted into its words
pub journey_split : (journey : Journey) → IsSoundJourney journey → arrives_at journey < 253_402_128_000 → words_of (journey_text_of journey) ≡ journey_words_of journey
unfolding journey_words_of
journey_split journey sound small =
    let behind : List ℕ = walk_text_of journey.before ++ (flat_map ride_line_of journey.rides ++ walk_text_of journey.after) in
    let first : List (List ℕ) = codes "journey" ∷ decimal (length journey.rides) ∷ codes "arrives" ∷ iso_text_of (arrives_at journey) ∷ [] in
    ap words_of (journey_parts journey ∙ journey_line journey behind)
    ∙ split_spaced first behind (journey_is_words journey small) (λ e. absurd (cc e))
    ∙ ap (λ (words : List (List ℕ)). first ++ words) (walk_split journey.before _)
    ∙ ap (λ (words : List (List ℕ)). first ++ (walk_words_of journey.before ++ words)) (rest_split journey.rides journey.after sound.rides)
