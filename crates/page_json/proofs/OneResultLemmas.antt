-- The readings of pages and of stops documents have at most one result.
use Rattle.std.proofs.Common.{◌≡◌, ℕ, List, Result, Ok, Err, codes, sym, ap, ◌∙◌}
use Rattle.lc_time.specs.Iso.{SaysMoment}
use Rattle.lc_model.specs.Connection.{departure_cmp}
use Rattle.lc_model.specs.declared.change.Change.{Change}
use Rattle.lc_model.specs.declared.doc.StopsDoc.{StopsDoc}
use Rattle.lc_model.specs.declared.stop.Stop.{Stop}
use Rattle.connection_uri.specs.Base.{BaseParts}
use Rattle.serde_json.specs.Data.{Data}
use Rattle.serde_json.specs.Find.{get}
use Rattle.lc_model.specs.Disorder.{first_disorder}
use Rattle.page_json.specs.ObjectMembers.Disorder.{unless_disorder}
use Rattle.page_json.specs.ObjectMembers.JsonReading.{json_in}
use Rattle.page_json.specs.PageReading.{connection_in, end_at, joined, page_in, page_of_bytes, unless_early}
use Rattle.page_json.specs.Says.{SaysLink, SaysName, SaysPage, SaysStop}
use Rattle.page_json.specs.StopsReading.{change_in, changes_in, doc_in, doc_of_bytes, if_stop, is_change, is_doc, stop_at, stop_in, stops_in, with_parents}
use Rattle.page_json.specs.declared.object_members.fault.PageFault.{PageFault}
use Rattle.lc_model.proofs.OneValueLemmas.{documents_are_one}
use Rattle.page_json.proofs.StopsLemmas.{change_of}
use Rattle.page_json.proofs.ObjectMembersLemmas.OneReadingLemmas.{HasOne, one_each, one_exactly, one_json, one_said_at, one_said_if, one_then}

one_end : (base : BaseParts) (d s m : List ℕ) (tree : Data) → HasOne (end_at base d s m tree)
unfolding end_at
one_end base d s m tree =
    one_then _ _ (one_exactly _) (λ delay. one_then _ _ (one_said_at (SaysStop base) s tree) (λ stop. one_then _ _ (one_said_at SaysMoment m tree) (λ moment. one_exactly _)))

one_connection : (base : BaseParts) (tree : Data) → HasOne (connection_in base tree)
unfolding connection_in
one_connection base tree =
    one_then _ _ (one_exactly _) (λ _. one_then _ _ (one_said_at (SaysName base) (codes "@id") tree) (λ name.
    one_then _ _ (one_end base (codes "arrivalDelay") (codes "arrivalStop") (codes "arrivalTime") tree) (λ arrival.
    one_then _ _ (one_end base (codes "departureDelay") (codes "departureStop") (codes "departureTime") tree) (λ departure.
    one_exactly (unless_early (joined tree name arrival departure))))))

one_page : (base : BaseParts) (tree : Data) → HasOne (page_in base tree)
unfolding page_in
one_page base tree =
    one_then _ _ (one_exactly _) (λ _. one_then _ _ (one_said_at (SaysPage base) (codes "@id") tree) (λ name.
    one_then _ _ (one_exactly _) (λ graph. one_then _ _ (one_each (connection_in base) (one_connection base) graph) (λ list.
    one_then _ _ (one_said_if (SaysLink base name.version) (codes "hydra:next") (get (codes "hydra:next") tree)) (λ next.
    one_then _ _ (one_said_if (SaysLink base name.version) (codes "hydra:previous") (get (codes "hydra:previous") tree)) (λ previous.
    one_exactly (unless_disorder (first_disorder departure_cmp list) (record { name = name; next = next; previous = previous; list = list }))))))))

-- bytes say one page or have one first fault
pub one_page_of_bytes : (base : BaseParts) (bytes : List ℕ) → HasOne (page_of_bytes base bytes)
unfolding page_of_bytes
one_page_of_bytes base bytes = one_then (json_in bytes) _ (one_json bytes) (one_page base)

one_stop : (tree : Data) → HasOne (stop_in tree)
unfolding stop_in
one_stop tree = one_then _ _ (one_exactly _) (λ _. one_then _ _ (one_exactly _) (λ id. one_then _ _ (one_exactly _) (λ name. one_then _ _ (one_exactly _) (λ parent. one_exactly _))))

one_parents : (stops : List Stop) → HasOne (with_parents stops)
one_parents stops = record { same = go } where
  go : (a b : Result (List Stop) PageFault) → with_parents stops a → with_parents stops b → a ≡ b
  go (Ok x) (Ok y) h k = ap Ok (h.0 ∙ sym k.0)
  go (Ok x) (Err g) h k = absurd (k.1 h.1)
  go (Err f) (Ok y) h k = absurd (h.1 k.1)
  go (Err f) (Err g) h k = ap Err (h.0 ∙ sym k.0)

one_if_stop : (stops : List Stop) (key id : List ℕ) → HasOne (if_stop stops key id)
one_if_stop stops key id = record { same = go } where
  go : (a b : Result (List ℕ) PageFault) → if_stop stops key id a → if_stop stops key id b → a ≡ b
  go (Ok x) (Ok y) h k = ap Ok (h.0 ∙ sym k.0)
  go (Ok x) (Err g) h k = absurd (k.1 h.1)
  go (Err f) (Ok y) h k = absurd (h.1 k.1)
  go (Err f) (Err g) h k = ap Err (h.0 ∙ sym k.0)

one_stop_at : (stops : List Stop) (key : List ℕ) (tree : Data) → HasOne (stop_at stops key tree)
unfolding stop_at
one_stop_at stops key tree = one_then _ _ (one_exactly _) (λ id. one_if_stop stops key id)

one_is_change : (from : List ℕ) (seconds : ℕ) (to : List ℕ) → HasOne (is_change from seconds to)
one_is_change from seconds to = record { same = go } where
  go : (a b : Result Change PageFault) → is_change from seconds to a → is_change from seconds to b → a ≡ b
  go (Ok x) (Ok y) h k = ap Ok (change_of x y (h.0 ∙ sym k.0) (h.1 ∙ sym k.1) (h.2 ∙ sym k.2))
  go (Ok x) (Err g) h k = absurd k
  go (Err f) b h k = absurd h

one_change : (stops : List Stop) (tree : Data) → HasOne (change_in stops tree)
unfolding change_in
one_change stops tree =
    one_then _ _ (one_exactly _) (λ _. one_then _ _ (one_stop_at stops (codes "from") tree) (λ from. one_then _ _ (one_exactly _) (λ seconds. one_then _ _ (one_stop_at stops (codes "to") tree) (λ to. one_is_change from seconds to))))

one_stops : (tree : Data) → HasOne (stops_in tree)
unfolding stops_in
one_stops tree = one_then _ _ (one_exactly _) (λ items. one_then _ _ (one_each stop_in one_stop items) (λ stops. one_then _ _ (one_parents stops) (λ same. one_exactly _)))

one_changes : (stops : List Stop) (tree : Data) → HasOne (changes_in stops tree)
unfolding changes_in
one_changes stops tree = one_then _ _ (one_exactly _) (λ items. one_then _ _ (one_each (change_in stops) (one_change stops) items) (λ changes. one_exactly _))

one_is_doc : (stops : List Stop) (changes : List Change) → HasOne (is_doc stops changes)
one_is_doc stops changes = record { same = go } where
  go : (a b : Result StopsDoc PageFault) → is_doc stops changes a → is_doc stops changes b → a ≡ b
  go (Ok x) (Ok y) h k = ap Ok (documents_are_one x y (h.0 ∙ sym k.0) (h.1 ∙ sym k.1))
  go (Ok x) (Err g) h k = absurd k
  go (Err f) b h k = absurd h

one_doc : (tree : Data) → HasOne (doc_in tree)
unfolding doc_in
one_doc tree = one_then _ _ (one_exactly _) (λ _. one_then _ _ (one_stops tree) (λ stops. one_then _ _ (one_changes stops tree) (λ changes. one_is_doc stops changes)))

-- bytes say one stops document or have one first fault
pub one_doc_of_bytes : (bytes : List ℕ) → HasOne (doc_of_bytes bytes)
unfolding doc_of_bytes
one_doc_of_bytes bytes = one_then (json_in bytes) _ (one_json bytes) one_doc
