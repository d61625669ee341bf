-- The entities of messages by their spots, one after the other.
use Rattle.std.proofs.Common.{◌≡◌, ◌∙◌, ℕ, ◌+◌, ◌<◌, ◌≤◌, List, [], ◌∷◌, ◌++◌, length, get_or, map, take, take_all, Option, Some, None, option_map, refl, sym, ap, ap₂, subst}
use Rattle.std.specs.Prelude.{option_to_list}
use Rattle.std.specs.List.{All, filter_map, slice_get}
use Rattle.std.specs.Option.{option_and_then}
use Rattle.std.proofs.lemmas.List.{append_assoc, map-append, take_more}
use Rattle.std.proofs.lemmas.List.Elements.{All-push, filter_map-append}
use Rattle.std.proofs.lemmas.Option.{slice_get-get_or}
use Rattle.lc_model.specs.declared.date.ServiceDate.{ServiceDate}
use Rattle.lc_model.specs.Versions.History.{Entry, filled, kept_after}
use Rattle.lc_model.specs.Versions.News.{EntitySaid, TripSaid}
use Rattle.version_store.specs.IndexLaws.Kept.{entities_after, news_in}
use Rattle.version_store.proofs.IndexLawsLemmas.KeptLemmas.{goes_on}
use Rattle.version_store.proofs.IndexLemmas.GatherLemmas.{get_before}
use Rattle.version_store.specs.Kept.{entity_said}
use Rattle.version_store.specs.Spots.{IsAtSpot, StayAt, said_in}
use Rattle.version_store.specs.declared.kept.Marked.{Marked}
use Rattle.version_store.specs.declared.spots.Spot.{Spot}
use Rattle.version_store.specs.declared.store.Admission.{Admission}

-- ---- spots that are found

pub found_all : {X Y : Type 0} (f : X → Option Y) (xs : List X) (ys : List Y) → map f xs ≡ map Some ys → filter_map f xs ≡ ys
found_all f [] [] e = refl
found_all f [] (y ∷ ys) e = absurd (cc)
found_all f (x ∷ xs) [] e = absurd (cc)
found_all f (x ∷ xs) (y ∷ ys) e =
    let head : f x ≡ Some y = cc in
    let tail : map f xs ≡ map Some ys = cc in
    rw head (ap (λ v. y ∷ v) (found_all f xs ys tail))

pub one_found : {X Y : Type 0} (f : X → Option Y) (x : X) (o : Option Y) → f x ≡ o → filter_map f (x ∷ []) ≡ option_to_list o
one_found f x None e = rw e refl
one_found f x (Some y) e = rw e refl

-- the items that are found, after one more
pub found_more : {X Y : Type 0} (f : X → Option Y) (xs : List X) (i : ℕ) (x : X) → i < length xs → x ≡ get_or xs i x → filter_map f (take (i + 1) xs) ≡ filter_map f (take i xs) ++ option_to_list (f x)
found_more f xs i x inside is =
    ap (filter_map f) (take_more xs i x inside ∙ ap (λ y. take i xs ++ y ∷ []) (sym is)) ∙ filter_map-append f (take i xs) (x ∷ [])
    ∙ ap (λ v. filter_map f (take i xs) ++ v) (one_found f x (f x) refl)

-- after the last spot all entities are found
pub found_last : (f : Spot → Option EntitySaid) (spots : List Spot) (i : ℕ) (entities : List EntitySaid) → length spots ≤ i → map f spots ≡ map Some entities → filter_map f (take i spots) ≡ entities
found_last f spots i entities past e = ap (filter_map f) (take_all i spots past) ∙ found_all f spots entities e

-- one spot more
pub marks_found : (f : Spot → Option EntitySaid) (spots : List Spot) (i : ℕ) (spot : Spot) (first old new : List EntitySaid) → i < length spots → spot ≡ get_or spots i spot → old ≡ first ++ filter_map f (take i spots)
    → new ≡ old ++ option_to_list (f spot) → new ≡ first ++ filter_map f (take (i + 1) spots)
marks_found f spots i spot first old new inside is are pushed =
    pushed ∙ ap (λ v. v ++ option_to_list (f spot)) are ∙ append_assoc first (filter_map f (take i spots)) (option_to_list (f spot)) ∙ ap (λ v. first ++ v) (sym (found_more f spots i spot inside is))

-- the news of one spot more
pub news_found : (f : Spot → Option EntitySaid) (spots : List Spot) (i : ℕ) (spot : Spot) (first old new : List TripSaid) → i < length spots → spot ≡ get_or spots i spot → old ≡ first ++ news_in (filter_map f (take i spots))
    → new ≡ old ++ news_in (option_to_list (f spot)) → new ≡ first ++ news_in (filter_map f (take (i + 1) spots))
news_found f spots i spot first old new inside is are pushed =
    let N : EntitySaid → Option TripSaid = λ e. e.news in
    let so_far = filter_map f (take i spots) in
    let more = option_to_list (f spot) in
    pushed ∙ ap (λ v. v ++ news_in more) are ∙ append_assoc first (news_in so_far) (news_in more)
    ∙ ap (λ v. first ++ v) (sym (filter_map-append N so_far more) ∙ ap news_in (sym (found_more f spots i spot inside is)))

-- ---- a message more

-- an entity of a message is at its spot
pub at_spot : (admitted : List Admission) (a : Admission) (marked : Marked) (entities : List EntitySaid) → slice_get admitted marked.spot.message ≡ Some a → a.update.entities ≡ entities → slice_get entities marked.spot.entity ≡ Some marked.entity.now
    → IsAtSpot admitted marked
at_spot admitted a marked entities there same is =
    ap (option_and_then (λ (a : Admission). option_map (filled marked.spot.date) (slice_get a.update.entities marked.spot.entity))) there
    ∙ ap (λ (v : List EntitySaid). option_map (filled marked.spot.date) (slice_get v marked.spot.entity)) same
    ∙ ap (option_map (filled marked.spot.date)) is

-- one entity of a message more
pub stay_pushed : (message : ℕ) (entities : List EntitySaid) (i : ℕ) (e : EntitySaid) (old mid new : List Marked) (marked : Marked) → i < length entities → e ≡ get_or entities i e → new ≡ mid ++ marked ∷ [] → marked.spot.message ≡ message
    → marked.spot.entity ≡ i → marked.entity.now ≡ e → StayAt message entities old mid → StayAt message entities old new
stay_pushed message entities i e old mid new marked inside is pushed of number same stay = λ admitted a there says before.
    let found : slice_get entities marked.spot.entity ≡ Some marked.entity.now = ap (slice_get entities) number ∙ slice_get-get_or entities i e inside ∙ ap Some (sym is ∙ sym same) in
    subst (All (IsAtSpot admitted)) (sym pushed)
    (All-push (IsAtSpot admitted) mid marked (stay admitted a there says before) (at_spot admitted a marked entities (ap (slice_get admitted) of ∙ there) says found))

-- a spot stays where it is
spot_stays : (admitted more : List Admission) (spot : Spot) (e : EntitySaid) → said_in admitted spot ≡ Some e → said_in (admitted ++ more) spot ≡ Some e
spot_stays admitted more spot e is = by_message (slice_get admitted spot.message) refl is where
  entity_in : Admission → Option EntitySaid
  entity_in = λ a. option_map (filled spot.date) (slice_get a.update.entities spot.entity)

  by_message : (o : Option Admission) → slice_get admitted spot.message ≡ o → option_and_then entity_in (slice_get admitted spot.message) ≡ Some e → said_in (admitted ++ more) spot ≡ Some e
  by_message None there is = absurd (let f : None ≡ Some e = sym (ap (option_and_then entity_in) there) ∙ is in cc)
  by_message (Some a) there is = ap (option_and_then entity_in) (get_before admitted more spot.message a there) ∙ sym (ap (option_and_then entity_in) there) ∙ is

pub spots_stay : (admitted more : List Admission) (spots : List Spot) (entities : List EntitySaid) → map (said_in admitted) spots ≡ map Some entities → map (said_in (admitted ++ more)) spots ≡ map Some entities
spots_stay admitted more [] [] e = refl
spots_stay admitted more [] (y ∷ entities) e = absurd (cc)
spots_stay admitted more (x ∷ spots) [] e = absurd (cc)
spots_stay admitted more (x ∷ spots) (y ∷ entities) e =
    let head : said_in admitted x ≡ Some y = cc in
    let tail : map (said_in admitted) spots ≡ map Some entities = cc in
    ap₂ (λ a b. a ∷ b) (spot_stays admitted more x y head) (spots_stay admitted more spots entities tail)

-- in force after a message at the end of a history
pub force_appended : (date_of : ℕ → ServiceDate) (history : List Entry) (entry : Entry) → kept_after date_of (entities_after date_of history) entry.update ≡ entities_after date_of (history ++ entry ∷ [])
force_appended date_of history entry = sym (goes_on date_of history entry)

-- the news of one more
pub news_more : (marks : List Marked) (i : ℕ) (marked : Marked) (first old new : List TripSaid) → i < length marks → marked ≡ get_or marks i marked → old ≡ first ++ news_in (map entity_said (take i marks))
    → new ≡ old ++ option_to_list (entity_said marked).news → new ≡ first ++ news_in (map entity_said (take (i + 1) marks))
news_more marks i marked first old new inside is are pushed =
    let N : EntitySaid → Option TripSaid = λ e. e.news in
    let so_far = news_in (map entity_said (take i marks)) in
    let said = option_to_list (entity_said marked).news in
    let taken : so_far ++ said ≡ news_in (map entity_said (take (i + 1) marks)) =
    ap (λ v. so_far ++ v) (sym (one_found N (entity_said marked) (entity_said marked).news refl))
    ∙ sym (filter_map-append N (map entity_said (take i marks)) (entity_said marked ∷ []))
    ∙ ap news_in (sym (map-append entity_said (take i marks) (marked ∷ [])))
    ∙ ap (λ v. news_in (map entity_said v)) (sym (take_more marks i marked inside ∙ ap (λ y. take i marks ++ y ∷ []) (sym is))) in
    pushed ∙ ap (λ v. v ++ said) are ∙ append_assoc first so_far said ∙ ap (λ v. first ++ v) taken
