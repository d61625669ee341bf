-- The readings of pages and of stops documents have a result.
use Rattle.std.proofs.Common.{◌≡◌, ℕ, ◌≤◌, List, [], ◌∷◌, codes, Option, Some, None, Ok, refl, option_and_then, arith}
use Rattle.std.specs.List.{All}
use Rattle.std.specs.Option.{IfSome}
use Rattle.std.specs.Ordering.{on}
use Rattle.std.specs.Result.{IfOk}
use Rattle.std.proofs.lemmas.List.Elements.{All-nil, All-cons, All-head, All-tail}
use Rattle.lc_model.specs.Connection.{departure_cmp}
use Rattle.lc_model.specs.Change.{change_cmp}
use Rattle.lc_model.specs.Stop.{HasStop}
use Rattle.lc_model.specs.StopsDoc.{NamesItsStops}
use Rattle.lc_model.specs.Text.{id_cmp}
use Rattle.lc_model.specs.declared.change.Change.{Change}
use Rattle.lc_model.specs.declared.stop.Stop.{Stop}
use Rattle.lc_time.specs.Iso.{SaysMoment}
use Rattle.connection_uri.specs.Base.{BaseParts}
use Rattle.serde_json.specs.Data.{Data}
use Rattle.serde_json.specs.Find.{as_number, as_u64, get}
use Rattle.lc_model.specs.Disorder.{first_disorder}
use Rattle.page_json.specs.ObjectMembers.Disorder.{unless_disorder}
use Rattle.page_json.specs.ObjectMembers.Members.{formed, needed}
use Rattle.page_json.specs.ObjectMembers.JsonReading.{json_in}
use Rattle.page_json.specs.PageReading.{connection_in, end_at, joined, page_in, page_of_bytes, unless_early}
use Rattle.page_json.specs.ObjectMembers.Reading.{HasResult}
use Rattle.page_json.specs.Says.{SaysLink, SaysName, SaysPage, SaysStop}
use Rattle.page_json.specs.ObjectMembers.Values.{as_seconds, seconds_from}
use Rattle.page_json.specs.StopsReading.{AreParents, change_in, changes_in, doc_in, doc_of_bytes, if_stop, stop_at, stop_in, stops_in, with_parents}
use Rattle.page_json.specs.declared.object_members.fault.PageFault.TheVariants.{BadMember}
use Rattle.page_json.proofs.ObjectMembersLemmas.DecisionsLemmas as decided
use Rattle.page_json.proofs.ObjectMembersLemmas.DecisionsLemmas.{if_some, same_text, utf8}
use Rattle.page_json.proofs.SaysDecidedLemmas.{links, names, pages, stops}
use Rattle.page_json.proofs.SaysLemmas.{one_link, one_name, one_page, one_stop}
use Rattle.page_json.proofs.ObjectMembersLemmas.SomeReadingLemmas.{Any, HasSome, Tells, by_fact, has_result, if_ordered, some_each, some_exactly, some_json, some_said_at, some_said_if, some_then, some_value, tell_moment}

-- ---- pages

tell_stop : (base : BaseParts) → Tells (SaysStop base)
tell_stop base = record { one = one_stop base; some = stops base }

tell_name : (base : BaseParts) → Tells (SaysName base)
tell_name base = record { one = one_name base; some = names base }

tell_page : (base : BaseParts) → Tells (SaysPage base)
tell_page base = record { one = one_page base; some = pages base }

tell_link : (base : BaseParts) (version : ℕ) → Tells (SaysLink base version)
tell_link base version = record { one = one_link base version; some = links base version }

some_end : (base : BaseParts) (d s m : List ℕ) (tree : Data) → HasSome Any (end_at base d s m tree)
unfolding end_at
some_end base d s m tree =
    some_then Any Any _ _ (some_value _) (λ delay _. some_then Any Any _ _ (some_said_at (SaysStop base) s tree (tell_stop base)) (λ stop _. some_then Any Any _ _ (some_said_at SaysMoment m tree tell_moment) (λ moment _. some_value _)))

some_connection : (base : BaseParts) (tree : Data) → HasSome Any (connection_in base tree)
unfolding connection_in
some_connection base tree =
    some_then Any Any _ _ (some_value _) (λ o _. some_then Any Any _ _ (some_said_at (SaysName base) (codes "@id") tree (tell_name base)) (λ name _.
    some_then Any Any _ _ (some_end base (codes "arrivalDelay") (codes "arrivalStop") (codes "arrivalTime") tree) (λ arrival _.
    some_then Any Any _ _ (some_end base (codes "departureDelay") (codes "departureStop") (codes "departureTime") tree) (λ departure _.
    some_value (unless_early (joined tree name arrival departure))))))

some_page : (base : BaseParts) (tree : Data) → HasSome Any (page_in base tree)
unfolding page_in
some_page base tree =
    some_then Any Any _ _ (some_value _) (λ o _. some_then Any Any _ _ (some_said_at (SaysPage base) (codes "@id") tree (tell_page base)) (λ name _.
    some_then Any Any _ _ (some_value _) (λ graph _. some_then (All Any) Any _ _ (some_each Any (connection_in base) (some_connection base) graph) (λ list _.
    some_then Any Any _ _ (some_said_if (SaysLink base name.version) (codes "hydra:next") (get (codes "hydra:next") tree) (tell_link base name.version)) (λ next _.
    some_then Any Any _ _ (some_said_if (SaysLink base name.version) (codes "hydra:previous") (get (codes "hydra:previous") tree) (tell_link base name.version)) (λ previous _.
    some_value (unless_disorder (first_disorder departure_cmp list) (record { name = name; next = next; previous = previous; list = list }))))))))

-- no bytes are without a page or a first fault
pub some_page_of_bytes : (base : BaseParts) (bytes : List ℕ) → HasResult (page_of_bytes base bytes)
unfolding page_of_bytes
some_page_of_bytes base bytes = has_result Any _ (some_then Any Any (json_in bytes) _ (some_json bytes) (λ tree _. some_page base tree))

-- ---- stops documents

has_stop : (stops : List Stop) (id : List ℕ) → Dec (HasStop stops id)
has_stop stops id = decided.any (λ (s : Stop). s.id ≡ id) (λ s. same_text s.id id) stops

are_parents : (stops : List Stop) → Dec (AreParents stops)
are_parents stops =
    decided.all (λ (s : Stop). IfSome s.parent (HasStop stops)) (λ s. if_some (HasStop stops) (has_stop stops) s.parent) stops

some_stop : (tree : Data) → HasSome Any (stop_in tree)
unfolding stop_in
some_stop tree = some_then Any Any _ _ (some_value _) (λ o _. some_then Any Any _ _ (some_value _) (λ id _. some_then Any Any _ _ (some_value _) (λ name _. some_then Any Any _ _ (some_value _) (λ parent _. some_value _))))

some_stops : (tree : Data) → HasSome AreParents (stops_in tree)
unfolding stops_in
some_stops tree =
    some_then Any AreParents _ _ (some_value _) (λ items _. some_then (All Any) AreParents _ _ (some_each Any stop_in some_stop items) (λ stops _.
    some_then AreParents AreParents _ _ (by_fact AreParents (with_parents stops) stops (BadMember (codes "parent")) (are_parents stops) (λ are. (refl, are)) (λ none. (refl, none))) (λ same are.
    some_exactly AreParents _ (if_ordered AreParents (first_disorder (on (λ (s : Stop). s.id) id_cmp) same) same are))))

some_stop_at : (stops : List Stop) (key : List ℕ) (tree : Data) → HasSome (HasStop stops) (stop_at stops key tree)
unfolding stop_at
some_stop_at stops key tree =
    some_then Any (HasStop stops) _ _ (some_value _) (λ id _. by_fact (HasStop stops) (if_stop stops key id) id (BadMember key) (has_stop stops id) (λ is. (refl, is)) (λ none. (refl, none)))

-- both ends of the change are stops
abbrev pub HasEnds : List Stop → Change → Type 0
HasEnds stops change = HasStop stops change.from × HasStop stops change.to

-- the seconds of a change are at least one
abbrev IsSome : ℕ → Type 0
IsSome seconds = 1 ≤ seconds

formed_some : (key : List ℕ) (n : ℕ) → IfOk (formed key (seconds_from n)) IsSome
formed_some key n = grind arith

counted_some : (key : List ℕ) (o : Option ℕ) → IfOk (formed key (option_and_then seconds_from o)) IsSome
counted_some key None = tt
counted_some key (Some n) = formed_some key n

needed_some : (key : List ℕ) (d : Option Data) → IfOk (needed as_seconds key d) IsSome
needed_some key None = tt
needed_some key (Some d) = counted_some key (option_and_then as_u64 (as_number d))

some_change : (stops : List Stop) (tree : Data) → HasSome (HasEnds stops) (change_in stops tree)
unfolding change_in
some_change stops tree =
    some_then Any (HasEnds stops) _ _ (some_value _) (λ o _.
    some_then (HasStop stops) (HasEnds stops) _ _ (some_stop_at stops (codes "from") tree) (λ from is.
    some_then IsSome (HasEnds stops) _ _ (some_exactly IsSome _ (needed_some (codes "seconds") (get (codes "seconds") tree))) (λ seconds some.
    some_then (HasStop stops) (HasEnds stops) _ _ (some_stop_at stops (codes "to") tree) (λ to is'.
    record { result = Ok (record { from = from; to = to; seconds = seconds; takes_time = some }); has = (refl, refl, refl); is = (is, is') }))))

some_changes : (stops : List Stop) (tree : Data) → HasSome (All (HasEnds stops)) (changes_in stops tree)
unfolding changes_in
some_changes stops tree =
    some_then Any (All (HasEnds stops)) _ _ (some_value _) (λ items _. some_then (All (HasEnds stops)) (All (HasEnds stops)) _ _ (some_each (HasEnds stops) (change_in stops) (some_change stops) items) (λ changes are.
    some_exactly (All (HasEnds stops)) _ (if_ordered (All (HasEnds stops)) (first_disorder change_cmp changes) changes are)))

weaken : {X : Type 0} (P Q : X → Type 0) → ((x : X) → P x → Q x) → (xs : List X) → All P xs → All Q xs
weaken P Q then' [] all = All-nil Q
weaken P Q then' (x ∷ xs) all = All-cons Q x xs (then' x (All-head P x xs all)) (weaken P Q then' xs (All-tail P x xs all))

pub closed : (stops : List Stop) (changes : List Change) → AreParents stops → All (HasEnds stops) changes → NamesItsStops stops changes
closed stops changes parents ends = record {
  parents = parents;
  changes_from = weaken (HasEnds stops) (λ (c : Change). HasStop stops c.from) (λ c two. two.0) changes ends;
  changes_to = weaken (HasEnds stops) (λ (c : Change). HasStop stops c.to) (λ c two. two.1) changes ends;
}

some_doc : (tree : Data) → HasSome Any (doc_in tree)
unfolding doc_in
some_doc tree =
    some_then Any Any _ _ (some_value _) (λ o _. some_then AreParents Any _ _ (some_stops tree) (λ stops parents.
    some_then (All (HasEnds stops)) Any _ _ (some_changes stops tree) (λ changes ends.
    record { result = Ok (record { stops = stops; changes = changes; closed = ∣ closed stops changes parents ends ∣₁ }); has = (refl, refl); is = tt })))

-- no bytes are without a stops document or a first fault
pub some_doc_of_bytes : (bytes : List ℕ) → HasResult (doc_of_bytes bytes)
unfolding doc_of_bytes
some_doc_of_bytes bytes = has_result Any _ (some_then Any Any (json_in bytes) _ (some_json bytes) (λ tree _. some_doc tree))
