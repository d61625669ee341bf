-- What is read from the words of an answer's text.
use Rattle.std.proofs.Common.{◌≡◌, ◌≢◌, ◌∙◌, ℕ, ◌+◌, ◌-◌, ◌<◌, ◌≤◌, List, [], ◌∷◌, ◌++◌, Option, Some, None, All, refl, sym, ap, codes, decimal, drop, get_or, length, take, append_assoc, append-nil, length-drop, arith}
use Rattle.std.specs.Borrow.{Bor}
use Rattle.std.specs.List.{flat_map}
use Rattle.std.specs.Option.{IfSome}
use Rattle.std.proofs.lemmas.List.{drop-map, drop-drop, get_or-map, length-map, length-take, take_all}
use Rattle.std.proofs.lemmas.List.Elements.{All-head, All-tail}
use Rattle.lc_model.specs.Journey.{arrives_at}
use Rattle.lc_model.specs.declared.answer.Answer.{Answer}
use Rattle.lc_model.specs.declared.answer.Answer.TheVariants as answers
use Rattle.lc_model.specs.declared.journey.Journey.{Journey}
use Rattle.lc_model.specs.declared.ride.Ride.{Ride}
use Rattle.lc_model.specs.declared.walk.Walk.{Walk}
use Rattle.connection_uri.specs.Encoding.{encoded}
use Rattle.journey_text.specs.AnswerText.{answer_text_of}
use Rattle.journey_text.specs.declared.ride_words.RideWords.{RideWords}
use Rattle.journey_text.specs.Sound.{HasText, IsSoundJourney, IsSoundRide, IsSoundWalk}
use Rattle.journey_text.specs.Words.{AreWordsOf, DoesNotBegin, journey_words_of, rest_words_of, ride_words_of, texts_of, walk_words_of, words_of}
use Rattle.journey_text.proofs.AnswerWordsLemmas.{journey_split}
use Rattle.journey_text.proofs.OneAnswerLemmas.{rides_no_walk}
use Rattle.journey_text.proofs.WordLemmas.{first_apart}

-- ---- words by their places

-- what the word at a place says
pub said_at : (words : List (Bor (List ℕ))) (d : Bor (List ℕ)) (i : ℕ) → i < length words → (get_or words i d).now ≡ get_or (texts_of words) i []
said_at words d i lt = sym (get_or-map (λ (w : Bor (List ℕ)). w.now) words i d [] lt)

-- the words from a place on
pub texts_behind : (words : List (Bor (List ℕ))) (k : ℕ) → texts_of (take (length words - k) (drop k words)) ≡ drop k (texts_of words)
texts_behind words k =
    ap texts_of (take_all (length words - k) (drop k words) (omega (arith, length-drop {A = Bor (List ℕ)})))
    ∙ sym (drop-map (λ (w : Bor (List ℕ)). w.now) k words)

begins : (words : List (Bor (List ℕ))) (d : Bor (List ℕ)) → 1 ≤ length words → texts_of words ≡ (get_or words 0 d).now ∷ drop 1 (texts_of words)
begins [] d some = absurd (omega arith)
begins (word ∷ words) d some = refl

pub first_said : (words : List (Bor (List ℕ))) (d : Bor (List ℕ)) (mark word : List ℕ) (behind : List (List ℕ)) → 1 ≤ length words → (get_or words 0 d).now ≡ mark → texts_of words ≡ word ∷ behind → word ≡ mark
first_said [] d mark word behind some is e = absurd (omega arith)
first_said (first ∷ words) d mark word behind some is e = sym (ap (λ (l : List (List ℕ)). get_or l 0 []) e) ∙ is

-- ---- rides

-- ten words
abbrev pub ride_words_at : List (Bor (List ℕ)) → Bor (List ℕ) → RideWords
ride_words_at words d = record {
  trip = get_or words 1 d;
  date = get_or words 2 d;
  start = get_or words 3 d;
  first_seq = get_or words 4 d;
  last_seq = get_or words 5 d;
  board = get_or words 6 d;
  dep = get_or words 7 d;
  alight = get_or words 8 d;
  arr = get_or words 9 d;
}

pub are_words : (words : List (Bor (List ℕ))) (d : Bor (List ℕ)) (ride : Ride) (behind : List (List ℕ)) → 10 ≤ length words → texts_of words ≡ ride_words_of ride ++ behind → AreWordsOf ride (ride_words_at words d)
unfolding ride_words_of
are_words words d ride behind long e = record {
  trip = said_at words d 1 (omega arith) ∙ at 1;
  date = said_at words d 2 (omega arith) ∙ at 2;
  start = said_at words d 3 (omega arith) ∙ at 3;
  first_seq = said_at words d 4 (omega arith) ∙ at 4;
  last_seq = said_at words d 5 (omega arith) ∙ at 5;
  board = said_at words d 6 (omega arith) ∙ at 6;
  dep = said_at words d 7 (omega arith) ∙ at 7;
  alight = said_at words d 8 (omega arith) ∙ at 8;
  arr = said_at words d 9 (omega arith) ∙ at 9;
}
  where
    at : (i : ℕ) → get_or (texts_of words) i [] ≡ get_or (ride_words_of ride ++ behind) i []
    at i = ap (λ (l : List (List ℕ)). get_or l i []) e

-- a ride's line has ten words, of which the first is `ride`
pub long_ride : (words : List (Bor (List ℕ))) (ride : Ride) (behind : List (List ℕ)) → texts_of words ≡ ride_words_of ride ++ behind → 10 ≤ length words
unfolding ride_words_of
long_ride words ride behind e =
    let same : length (texts_of words) ≡ length (ride_words_of ride ++ behind) = ap length e in
    omega (arith, length-map words (λ (w : Bor (List ℕ)). w.now), same)

pub ride_mark : (words : List (Bor (List ℕ))) (d : Bor (List ℕ)) (ride : Ride) (behind : List (List ℕ)) → texts_of words ≡ ride_words_of ride ++ behind → (get_or words 0 d).now ≡ codes "ride"
unfolding ride_words_of
ride_mark words d ride behind e =
    let long : 10 ≤ length words = long_ride words ride behind e in
    said_at words d 0 (omega arith) ∙ ap (λ (l : List (List ℕ)). get_or l 0 []) e

-- of the rides that the words say these were taken, and the words after them say the rest
pub record Left (taken rides : List Ride) (after : Option Walk) (words : List (List ℕ)) : Type 0 where
  pub more : List Ride
  pub sound : All IsSoundRide more
  pub rides_are : rides ≡ taken ++ more
  pub words_are : words ≡ rest_words_of more after

-- whatever rides the words say
abbrev pub GoesOn : List (Bor (List ℕ)) → ℕ → List Ride → Type 0
GoesOn words place taken = (rides : List Ride) (after : Option Walk) → All IsSoundRide rides → texts_of words ≡ rest_words_of rides after → Left taken rides after (drop place (texts_of words))

pub goes_at_first : (words : List (Bor (List ℕ))) → GoesOn words 0 []
goes_at_first words rides after sound e = record { more = rides; sound = sound; rides_are = refl; words_are = e }

-- the words that are there
abbrev there : List (Bor (List ℕ)) → ℕ → List (Bor (List ℕ))
there words place = take (length words - place) (drop place words)

no_more : (after : Option Walk) (words : List (List ℕ)) → words ≡ walk_words_of after ++ [] ∷ [] → ((word : List ℕ) (behind : List (List ℕ)) → words ≡ word ∷ behind → word ≡ codes "ride") → ⊥
unfolding walk_words_of
no_more None words e mark = cc (mark [] [] e)
no_more (Some walk) words e mark = first_apart (codes "walk") (codes "ride") (mark (codes "walk") _ e) refl

dropped : (ride : Ride) (behind : List (List ℕ)) → drop 10 (ride_words_of ride ++ behind) ≡ behind
unfolding ride_words_of
dropped ride behind = refl

-- what was read there is the next of them
pub goes_on : (words : List (Bor (List ℕ))) (place : ℕ) (taken : List Ride) (ride : Ride)
    → ((word : List ℕ) (behind : List (List ℕ)) → texts_of (there words place) ≡ word ∷ behind → word ≡ codes "ride")
    → ((r : Ride) (behind : List (List ℕ)) → IsSoundRide r → texts_of (there words place) ≡ ride_words_of r ++ behind → Some ride ≡ Some r)
    → GoesOn words place taken → GoesOn words (place + 10) (taken ++ ride ∷ [])
goes_on words place taken ride mark exact goes rides after sound e = by left.more left.sound left.rides_are left.words_are
  where
    left : Left taken rides after (drop place (texts_of words))
    left = goes rides after sound e

    by : (more : List Ride) → All IsSoundRide more → rides ≡ taken ++ more → drop place (texts_of words) ≡ rest_words_of more after
        → Left (taken ++ ride ∷ []) rides after (drop (place + 10) (texts_of words))
    by [] are is said = absurd (no_more after (texts_of (there words place)) (texts_behind words place ∙ said) mark)
    by (next ∷ more) are is said =
        let behind : List (List ℕ) = rest_words_of more after in
        let parts : drop place (texts_of words) ≡ ride_words_of next ++ behind = said ∙ append_assoc (ride_words_of next) (flat_map ride_words_of more) _ in
        let some : Some ride ≡ Some next = exact next behind (All-head IsSoundRide next more are) (texts_behind words place ∙ parts) in
        let one : ride ≡ next = cc some in
        record {
          more = more;
          sound = All-tail IsSoundRide next more are;
          rides_are = is ∙ ap (λ (r : Ride). taken ++ r ∷ more) (sym one) ∙ sym (append_assoc taken (ride ∷ []) more);
          words_are = sym (drop-drop 10 place (texts_of words)) ∙ ap (drop 10) parts ∙ dropped next behind;
        }

-- where no ride is there, all were taken
pub all_taken : (words : List (Bor (List ℕ))) (place : ℕ) (taken rides : List Ride) (after : Option Walk)
    → ((r : Ride) (behind : List (List ℕ)) → IsSoundRide r → texts_of (there words place) ≡ ride_words_of r ++ behind → None ≡ Some r)
    → GoesOn words place taken → All IsSoundRide rides → texts_of words ≡ rest_words_of rides after
    → (taken ≡ rides) × (texts_of (there words place) ≡ walk_words_of after ++ [] ∷ [])
all_taken words place taken rides after exact goes sound e = by left.more left.sound left.rides_are left.words_are
  where
    left : Left taken rides after (drop place (texts_of words))
    left = goes rides after sound e

    by : (more : List Ride) → All IsSoundRide more → rides ≡ taken ++ more → drop place (texts_of words) ≡ rest_words_of more after
        → (taken ≡ rides) × (texts_of (there words place) ≡ walk_words_of after ++ [] ∷ [])
    by [] are is said = (sym (is ∙ append-nil taken), texts_behind words place ∙ said)
    by (next ∷ more) are is said =
        let behind : List (List ℕ) = rest_words_of more after in
        let parts : drop place (texts_of words) ≡ ride_words_of next ++ behind = said ∙ append_assoc (ride_words_of next) (flat_map ride_words_of more) _ in
        let none : None ≡ Some next = exact next behind (All-head IsSoundRide next more are) (texts_behind words place ∙ parts) in
        absurd (cc none)

-- ---- walks

pub walk_there : (words : List (Bor (List ℕ))) (d : Bor (List ℕ)) (read : Option Walk) → 4 ≤ length words → (get_or words 0 d).now ≡ codes "walk"
    → ((walk : Walk) → IsSoundWalk walk → (get_or words 1 d).now ≡ encoded walk.from → (get_or words 2 d).now ≡ encoded walk.to → (get_or words 3 d).now ≡ decimal walk.seconds → read ≡ Some walk)
    → (walk : Option Walk) (behind : List (List ℕ)) → IfSome walk IsSoundWalk → DoesNotBegin (codes "walk") behind → texts_of words ≡ walk_words_of walk ++ behind
    → (read ≡ walk) × (texts_of (take (length words - 4) (drop 4 words)) ≡ behind)
unfolding walk_words_of
walk_there words d read long mark exact None behind sound not e =
    absurd (not (drop 1 (texts_of words)) (sym e ∙ begins words d (omega arith) ∙ ap (λ (w : List ℕ). w ∷ drop 1 (texts_of words)) mark))
walk_there words d read long mark exact (Some walk) behind sound not e =
    let at = λ (i : ℕ). ap (λ (l : List (List ℕ)). get_or l i []) e in (
      exact walk sound (said_at words d 1 (omega arith) ∙ at 1) (said_at words d 2 (omega arith) ∙ at 2) (said_at words d 3 (omega arith) ∙ at 3),
      texts_behind words 4 ∙ ap (drop 4) e,
    )

-- a walk's line has four words, of which the first is `walk`
pub no_walk_there : (words : List (Bor (List ℕ))) (d : Bor (List ℕ)) → (4 ≤ length words → (get_or words 0 d).now ≢ codes "walk")
    → (walk : Option Walk) (behind : List (List ℕ)) → texts_of words ≡ walk_words_of walk ++ behind → (None ≡ walk) × (texts_of words ≡ behind)
unfolding walk_words_of
no_walk_there words d none None behind e = (refl, e)
no_walk_there words d none (Some walk) behind e =
    let same : length (texts_of words) ≡ length (walk_words_of (Some walk) ++ behind) = ap length e in
    let long : 4 ≤ length words = omega (arith, length-map words (λ (w : Bor (List ℕ)). w.now), same) in
    absurd (none long (said_at words d 0 (omega arith) ∙ ap (λ (l : List (List ℕ)). get_or l 0 []) e))

-- ---- journeys

-- what begins with rides, or with nothing, does not begin as a walk
pub no_walk_first : (rides : List Ride) (after : Option Walk) → rides ≢ [] → DoesNotBegin (codes "walk") (rest_words_of rides after)
no_walk_first rides after some rest e = rides_no_walk rides after some (ap (λ (l : List (List ℕ)). get_or l 0 []) e)

pub nothing_first : DoesNotBegin (codes "walk") ([] ∷ [])
nothing_first rest e = cc

-- a journey has four words at least
pub long_journey : (words : List (Bor (List ℕ))) (journey : Journey) → texts_of words ≡ journey_words_of journey → 4 ≤ length words
unfolding journey_words_of
long_journey words journey e =
    let same : length (texts_of words) ≡ length (journey_words_of journey) = ap length e in
    omega (arith, length-map words (λ (w : Bor (List ℕ)). w.now), same)

pub behind_four : (words : List (Bor (List ℕ))) (journey : Journey) → texts_of words ≡ journey_words_of journey
    → texts_of (take (length words - 4) (drop 4 words)) ≡ walk_words_of journey.before ++ rest_words_of journey.rides journey.after
unfolding journey_words_of
behind_four words journey e = texts_behind words 4 ∙ ap (drop 4) e

-- ten words are there
pub long_there : (words : List (Bor (List ℕ))) (place : ℕ) → place ≤ length words → 10 ≤ length (take (length words - place) (drop place words)) → place + 10 ≤ length words
long_there words place within long = omega (arith, length-drop place words, length-take (length words - place) (drop place words))

-- a text that is an answer's, and not that there is no journey, is that of a journey
pub record IsJourneyText (answer : Answer) (read : Option Journey) : Type 0 where
  pub journey : Journey
  pub answer_is : answer ≡ answers.Journey journey
  pub read_is : read ≡ Some journey

pub is_journey_text : (text : List ℕ) (words : List (List ℕ)) (read : Option Journey) → words ≡ words_of text → text ≢ codes "no journey\n"
    → ((journey : Journey) → IsSoundJourney journey → arrives_at journey < 253_402_128_000 → words ≡ journey_words_of journey → read ≡ Some journey)
    → (answer : Answer) → HasText answer → text ≡ answer_text_of answer → IsJourneyText answer read
is_journey_text text words read are other exact (answers.Journey journey) has e = record {
  journey = journey;
  answer_is = refl;
  read_is = exact journey has.sound has.arrives (are ∙ ap words_of e ∙ journey_split journey has.sound has.arrives);
}
is_journey_text text words read are other exact answers.NoJourney has e = absurd (other e)
