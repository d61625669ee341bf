-- Where the entities in force are, by a text of theirs: by their id, or by the trip of their news.
use Rattle.std.specs.Prelude.{◌≡◌, ℕ, List, [], ◌∷◌, ◌++◌, Bool, true, false, Option, Some, None, IsSome, filter, map, not, option_map, if◌then◌else◌, ◌||◌}
use Rattle.std.specs.Borrow.{Bor}
use Rattle.std.specs.BTreeMap.{BTreeMap, get}
use Rattle.std.specs.BTreeSet.{BTreeSet}
use Rattle.std.specs.Cmp.Lexicographic.{slice_cmp}
use Rattle.std.specs.List.{Contains, list_any}
use Rattle.std.specs.Ordering.{is_eq, nat_cmp}
use Rattle.lc_model.specs.Change.{is_same_id}
use Rattle.lc_model.specs.Versions.History.{with_news}
use Rattle.lc_model.specs.Versions.News.{EntitySaid, TripSaid}
use Rattle.version_store.specs.Kept.{entity_said}
use Rattle.version_store.specs.Spots.{said_in}
use Rattle.version_store.specs.declared.filed.By.{By}
use Rattle.version_store.specs.declared.filed.By.TheVariants.{Id, Trip}
use Rattle.version_store.specs.declared.kept.Marked.{Marked}
use Rattle.version_store.specs.declared.spots.Spot.{Spot}
use Rattle.version_store.specs.declared.store.Admission.{Admission}

-- the trip of news, and the empty text where there are none
abbrev pub trip_in : Option TripSaid → List ℕ
trip_in None = []
trip_in (Some news) = news.trip

-- the id of an entity, or the trip of its news
abbrev pub text_by : By → EntitySaid → List ℕ
text_by Id e = e.id
text_by Trip e = trip_in e.news

-- the entity has this text
abbrev pub is_by : By → List ℕ → EntitySaid → Bool
is_by by text e = is_same_id text (text_by by e)

-- the list at a text, if there is one
abbrev pub listed : BTreeMap (List ℕ) (List Spot) → List ℕ → Option (List Spot)
listed filed text = get (slice_cmp nat_cmp) filed text

-- a list that is there, or else the other one
abbrev pub list_or : List Spot → Option (List Spot) → List Spot
list_or other None = other
list_or other (Some spots) = spots

-- the spots at a text, none where there is no list
abbrev pub spots_at : BTreeMap (List ℕ) (List Spot) → List ℕ → List Spot
spots_at filed text = list_or [] (listed filed text)

-- the spots at a text: those of the first, and of the other one where the first has no list there
abbrev pub spots_over : BTreeMap (List ℕ) (List Spot) → BTreeMap (List ℕ) (List Spot) → List ℕ → List Spot
spots_over first base text = list_or (spots_at base text) (listed first text)

-- at each text are the entities that have it, in their order
abbrev pub HasBy : By → List Admission → (List ℕ → List Spot) → List EntitySaid → Type 0
HasBy by admitted finds entities = (text : List ℕ) → map (said_in admitted) (finds text) ≡ map Some (filter (is_by by text) entities)

-- these are the entities by their ids and by their trips, and each has news
pub record AreFiled (admitted : List Admission) (ids trips : List ℕ → List Spot) (entities : List EntitySaid) : Type 0 where
  pub by_id : HasBy Id admitted ids entities
  pub by_trip : HasBy Trip admitted trips entities
  pub news : with_news entities ≡ entities

-- the text is in the set
abbrev pub has_text : BTreeSet (Bor (List ℕ)) → List ℕ → Bool
has_text texts text = list_any (λ (k : Bor (List ℕ)). is_eq (slice_cmp nat_cmp text k.now)) texts.keys

-- the set has the ids of which this is true, and no other
abbrev pub AreOut : BTreeSet (Bor (List ℕ)) → (List ℕ → Bool) → Type 0
AreOut ids out = (id : List ℕ) → has_text ids id ≡ out id

-- an entity whose id does not go out
abbrev pub stays : (List ℕ → Bool) → EntitySaid → Bool
stays out e = not (out e.id)

-- the entity is there, and stays
abbrev pub is_staying : (List ℕ → Bool) → Option EntitySaid → Bool
is_staying out None = false
is_staying out (Some e) = stays out e

-- the entity at a spot stays
abbrev pub stays_at : List Admission → (List ℕ → Bool) → Spot → Bool
stays_at admitted out spot = is_staying out (said_in admitted spot)

-- where there is a list, it has of the entities of that text those that stay
abbrev pub ArePart : By → List Admission → (List ℕ → Bool) → List EntitySaid → BTreeMap (List ℕ) (List Spot) → Type 0
ArePart by admitted out entities patch =
    (text : List ℕ) (spots : List Spot) → listed patch text ≡ Some spots → map (said_in admitted) spots ≡ map Some (filter (stays out) (filter (is_by by text) entities))

-- there is a list at the text
abbrev pub IsSomeAt : BTreeMap (List ℕ) (List Spot) → List ℕ → Type 0
IsSomeAt filed text = IsSome (listed filed text)

-- at each text where the first map has a list, the other one has one
abbrev pub HasListsOf : BTreeMap (List ℕ) (List Spot) → BTreeMap (List ℕ) (List Spot) → Type 0
HasListsOf first other = (text : List ℕ) → IsSomeAt first text → IsSomeAt other text

-- there is a list at the text of each of these entities
abbrev pub HasListsBy : By → List EntitySaid → BTreeMap (List ℕ) (List Spot) → Type 0
HasListsBy by entities filed = (e : EntitySaid) → Contains entities e → IsSomeAt filed (text_by by e)

-- at each text are the same spots
abbrev pub AreAlike : BTreeMap (List ℕ) (List Spot) → BTreeMap (List ℕ) (List Spot) → Type 0
AreAlike old new = (text : List ℕ) → spots_at new text ≡ spots_at old text

-- the spot is added to the list at the text, if there is one
abbrev pub PushesAt : List ℕ → Spot → BTreeMap (List ℕ) (List Spot) → BTreeMap (List ℕ) (List Spot) → Type 0
PushesAt label spot old new =
    (text : List ℕ) → listed new text ≡ option_map (λ (spots : List Spot). spots ++ (if is_same_id text label then spot ∷ [] else [])) (listed old text)

-- the spots of those of the text
abbrev pub spots_by : By → List ℕ → List Marked → List Spot
spots_by by text marks = map (λ (m : Marked). m.spot) (filter (λ (m : Marked). is_by by text (entity_said m)) marks)

-- the spots of these are added to the lists at their texts, if there are some
abbrev pub PushesAllAt : By → List Marked → BTreeMap (List ℕ) (List Spot) → BTreeMap (List ℕ) (List Spot) → Type 0
PushesAllAt by marks old new = (text : List ℕ) → listed new text ≡ option_map (λ (spots : List Spot). spots ++ spots_by by text marks) (listed old text)

-- each entity that goes out, and each new one, is touched
pub record TakesOut (out : List ℕ → Bool) (entities touched own : List EntitySaid) : Type 0 where
  pub gone : (e : EntitySaid) → Contains entities e → out e.id ≡ true → Contains touched e
  pub begun : (e : EntitySaid) → Contains own e → Contains touched e

-- the set has what it had, and the text
abbrev pub PutsText : List ℕ → BTreeSet (Bor (List ℕ)) → BTreeSet (Bor (List ℕ)) → Type 0
PutsText text old new = (other : List ℕ) → has_text new other ≡ (is_same_id other text || has_text old other)
