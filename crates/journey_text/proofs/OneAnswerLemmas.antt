-- Answers of one text are one: their words are, and each word says one value.
use Rattle.std.proofs.Common.{◌≡◌, ◌≢◌, ◌∙◌, ℕ, ◌<◌, ◌^◌, List, [], ◌∷◌, ◌++◌, Option, Some, None, All, refl, sym, ap, subst, codes, decimal, drop, get_or, append_assoc, arith}
use mathlib.Core.HLevel.{is_prop→PathP}
use Rattle.std.proofs.Props.{props}
use Rattle.std.specs.Option.{ForSome, IfSome}
use Rattle.std.specs.List.{flat_map}
use Rattle.std.proofs.lemmas.Fmt.{decimal_injective}
use Rattle.std.proofs.lemmas.List.Elements.{All-head, All-tail}
use Rattle.lc_model.specs.Text.{IsIdText}
use Rattle.lc_model.specs.declared.answer.Answer.TheVariants as answers
use Rattle.lc_model.specs.declared.journey.Journey.{Journey}
use Rattle.lc_model.specs.declared.ride.Ride.{Ride}
use Rattle.lc_model.specs.declared.walk.Walk.{Walk}
use Rattle.lc_model.proofs.KeyLemmas.{same_key_parts}
use Rattle.lc_time.specs.Iso.{SaysMoment, iso_text_of}
use Rattle.lc_time.proofs.IsoLemmas.{says_text}
use Rattle.lc_time.proofs.OneTextLemmas.{one_date, one_moment, one_start}
use Rattle.percent_encoding.specs.Percent.{percent_decode}
use Rattle.connection_uri.specs.Encoding.{encoded}
use Rattle.connection_uri.specs.Name.{start_part_of}
use Rattle.connection_uri.proofs.ByteLemmas.{text_bytes}
use Rattle.connection_uri.proofs.EncodingLemmas.{decoded}
use Rattle.lc_time.specs.Clock.{start_text_of}
use Rattle.journey_text.specs.AnswerText.{journey_text_of}
use Rattle.journey_text.specs.Laws.{AnswersDiffer}
use Rattle.journey_text.specs.Sound.{IsSoundJourney, IsSoundRide, IsSoundWalk}
use Rattle.journey_text.specs.Words.{journey_words_of, rest_words_of, ride_words_of, walk_words_of, words_of}
use Rattle.journey_text.proofs.AnswerWordsLemmas.{journey_split}
use Rattle.journey_text.proofs.WordLemmas.{first_apart}

-- ---- a word says one value

one_id : (a b : List ℕ) → IsIdText a → IsIdText b → encoded a ≡ encoded b → a ≡ b
one_id a b p q e = sym (decoded a (text_bytes a p.1)) ∙ ap percent_decode e ∙ decoded b (text_bytes b q.1)

one_number : (a b : ℕ) → a < 2 ^ 32 → b < 2 ^ 32 → decimal a ≡ decimal b → a ≡ b
one_number a b small small' e = decimal_injective a b (omega arith) (omega arith) e

one_time : (a b : ℕ) → a < 253_402_128_000 → b < 253_402_128_000 → iso_text_of a ≡ iso_text_of b → a ≡ b
one_time a b small small' e = one_moment (iso_text_of b) a b (subst (λ (text : List ℕ). SaysMoment text a) e (says_text a small)) (says_text b small')

one_start_part : (a b : Option ℕ) → ForSome a (λ s. s < 360_000) → ForSome b (λ s. s < 360_000) → start_part_of a ≡ start_part_of b → a ≡ b
one_start_part None None p q e = refl
one_start_part None (Some b) p q e = absurd (longer b e)
  where
    longer : (s : ℕ) → codes "-" ≡ start_text_of s → ⊥
    longer s e = cc
one_start_part (Some a) None p q e = absurd (longer a (sym e))
  where
    longer : (s : ℕ) → codes "-" ≡ start_text_of s → ⊥
    longer s e = cc
one_start_part (Some a) (Some b) p q e = ap Some (one_start a b (p a refl) (q b refl) e)

-- ---- rides and walks

-- what is at a place of two lists that are one
at : (i : ℕ) (x y : List (List ℕ)) → x ≡ y → get_or x i [] ≡ get_or y i []
at i x y e = ap (λ (l : List (List ℕ)). get_or l i []) e

pub same_ride : (a b : Ride) → a.key ≡ b.key → a.first_seq ≡ b.first_seq → a.last_seq ≡ b.last_seq → a.board ≡ b.board → a.dep ≡ b.dep → a.alight ≡ b.alight → a.arr ≡ b.arr → a ≡ b
same_ride a b key first last board dep alight arr =
    λ i. record { key = key i; first_seq = first i; last_seq = last i; board = board i; dep = dep i; alight = alight i; arr = arr i }

one_ride : (a b : Ride) (x y : List (List ℕ)) → IsSoundRide a → IsSoundRide b → ride_words_of a ++ x ≡ ride_words_of b ++ y → (a ≡ b) × (x ≡ y)
unfolding ride_words_of
one_ride a b x y p q e =
    let trip = one_id a.key.trip b.key.trip p.trip q.trip (at 1 _ _ e) in
    let date = one_date a.key.date b.key.date (at 2 _ _ e) in
    let start = one_start_part a.key.start b.key.start a.key.start_in_range b.key.start_in_range (at 3 _ _ e) in
    let first = one_number a.first_seq b.first_seq p.first_seq q.first_seq (at 4 _ _ e) in
    let last = one_number a.last_seq b.last_seq p.last_seq q.last_seq (at 5 _ _ e) in
    let board = one_id a.board b.board p.board q.board (at 6 _ _ e) in
    let dep = one_time a.dep b.dep p.dep q.dep (at 7 _ _ e) in
    let alight = one_id a.alight b.alight p.alight q.alight (at 8 _ _ e) in
    let arr = one_time a.arr b.arr p.arr q.arr (at 9 _ _ e) in
    (same_ride a b (same_key_parts a.key b.key trip date start) first last board dep alight arr, ap (drop 10) e)

one_walk : (a b : Walk) (x y : List (List ℕ)) → IsSoundWalk a → IsSoundWalk b → walk_words_of (Some a) ++ x ≡ walk_words_of (Some b) ++ y → (a ≡ b) × (x ≡ y)
unfolding walk_words_of
one_walk a b x y p q e =
    let from = one_id a.from b.from p.from q.from (at 1 _ _ e) in
    let to = one_id a.to b.to p.to q.to (at 2 _ _ e) in
    let seconds = one_number a.seconds b.seconds p.seconds q.seconds (at 3 _ _ e) in
    (λ i. record { from = from i; to = to i; seconds = seconds i }, ap (drop 4) e)

-- the first word of a list
abbrev first_of : List (List ℕ) → List ℕ
first_of words = get_or words 0 []

-- walks, or none, in front of what does not begin as a walk
one_walk_or_none : (v w : Option Walk) (x y : List (List ℕ)) → IfSome v IsSoundWalk → IfSome w IsSoundWalk
    → first_of x ≢ codes "walk" → first_of y ≢ codes "walk" → walk_words_of v ++ x ≡ walk_words_of w ++ y → (v ≡ w) × (x ≡ y)
unfolding walk_words_of
one_walk_or_none None None x y p q other other' e = (refl, e)
one_walk_or_none None (Some b) x y p q other other' e = absurd (other (at 0 _ _ e))
one_walk_or_none (Some a) None x y p q other other' e = absurd (other' (sym (at 0 _ _ e)))
one_walk_or_none (Some a) (Some b) x y p q other other' e = let one = one_walk a b x y p q e in (ap Some one.0, one.1)

not_walk : codes "ride" ≢ codes "walk"
not_walk e = first_apart (codes "ride") (codes "walk") e refl

-- no ride's line begins what comes after the rides
no_ride_behind : (after : Option Walk) (ride : Ride) (x : List (List ℕ)) → walk_words_of after ++ [] ∷ [] ≡ ride_words_of ride ++ x → ⊥
unfolding ride_words_of walk_words_of
no_ride_behind None ride x e = cc
no_ride_behind (Some walk) ride x e = not_walk (sym (at 0 _ _ e))

one_rest : (a b : List Ride) (v w : Option Walk) → All IsSoundRide a → All IsSoundRide b → IfSome v IsSoundWalk → IfSome w IsSoundWalk
    → rest_words_of a v ≡ rest_words_of b w → (a ≡ b) × (v ≡ w)
one_rest [] [] v w p q f g e = (refl, (one_walk_or_none v w ([] ∷ []) ([] ∷ []) f g (λ e. cc e) (λ e. cc e) e).0)
one_rest [] (ride ∷ b) v w p q f g e = absurd (no_ride_behind v ride _ (e ∙ append_assoc (ride_words_of ride) (flat_map ride_words_of b) _))
one_rest (ride ∷ a) [] v w p q f g e = absurd (no_ride_behind w ride _ (sym e ∙ append_assoc (ride_words_of ride) (flat_map ride_words_of a) _))
one_rest (x ∷ a) (y ∷ b) v w p q f g e =
    let parts : ride_words_of x ++ rest_words_of a v ≡ ride_words_of y ++ rest_words_of b w =
    sym (append_assoc (ride_words_of x) (flat_map ride_words_of a) _) ∙ e ∙ append_assoc (ride_words_of y) (flat_map ride_words_of b) _ in
    let one = one_ride x y _ _ (All-head IsSoundRide x a p) (All-head IsSoundRide y b q) parts in
    let more = one_rest a b v w (All-tail IsSoundRide x a p) (All-tail IsSoundRide y b q) f g one.1 in
    (λ i. one.0 i ∷ more.0 i, more.1)

-- ---- journeys

pub same_journey : (a b : Journey) → a.before ≡ b.before → a.rides ≡ b.rides → a.after ≡ b.after → a ≡ b
same_journey a b before rides after =
    λ i. record { before = before i; rides = rides i; after = after i; not_empty = is_prop→PathP (λ j. rides j ≢ []) (λ j. hlevel props) a.not_empty b.not_empty i }

-- what begins with a ride does not begin as a walk
pub rides_no_walk : (rides : List Ride) (after : Option Walk) → rides ≢ [] → first_of (rest_words_of rides after) ≢ codes "walk"
unfolding ride_words_of
rides_no_walk [] after some = absurd (some refl)
rides_no_walk (ride ∷ rides) after some = not_walk

one_journey : (a b : Journey) → IsSoundJourney a → IsSoundJourney b → journey_words_of a ≡ journey_words_of b → a ≡ b
unfolding journey_words_of
one_journey a b p q e =
    let behind : walk_words_of a.before ++ rest_words_of a.rides a.after ≡ walk_words_of b.before ++ rest_words_of b.rides b.after = ap (drop 4) e in
    let walks = one_walk_or_none a.before b.before _ _ p.before q.before (rides_no_walk a.rides a.after a.not_empty) (rides_no_walk b.rides b.after b.not_empty) behind in
    let rest = one_rest a.rides b.rides a.after b.after p.rides q.rides p.after q.after walks.1 in
    same_journey a b walks.0 rest.0 rest.1

pub journey_is_one : (journey : Journey) → journey_text_of journey ≡ codes "no journey\n" → ⊥
journey_is_one journey e = first_apart (journey_text_of journey) (codes "no journey\n") e refl

pub answers_differ : AnswersDiffer
answers_differ (answers.Journey a) (answers.Journey b) p q e =
    ap answers.Journey (one_journey a b p.sound q.sound (sym (journey_split a p.sound p.arrives) ∙ ap words_of e ∙ journey_split b q.sound q.arrives))
answers_differ (answers.Journey a) answers.NoJourney p q e = absurd (journey_is_one a e)
answers_differ answers.NoJourney (answers.Journey b) p q e = absurd (journey_is_one b (sym e))
answers_differ answers.NoJourney answers.NoJourney p q e = refl
