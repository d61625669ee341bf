-- What the JSON of the stops document says, or its first fault.
use Rattle.std.specs.Prelude.{◌≡◌, ℕ, List, codes, Ok, Err}
use Rattle.std.specs.List.{All}
use Rattle.std.specs.Option.{IfSome}
use Rattle.std.specs.Ordering.{on}
use Rattle.lc_model.specs.Change.{change_cmp}
use Rattle.lc_model.specs.Stop.{HasStop}
use Rattle.lc_model.specs.Text.{id_cmp}
use Rattle.lc_model.specs.declared.change.Change.{Change}
use Rattle.lc_model.specs.declared.doc.StopsDoc.{StopsDoc}
use Rattle.lc_model.specs.declared.stop.Stop.{Stop}
use Rattle.serde_json.specs.Data.{Data}
use Rattle.serde_json.specs.Find.{get}
use Rattle.lc_model.specs.Disorder.{first_disorder}
use Rattle.page_json.specs.ObjectMembers.Disorder.{unless_disorder}
use Rattle.page_json.specs.ObjectMembers.Members.{list_of, needed, object_under}
use Rattle.page_json.specs.ObjectMembers.JsonReading.{json_in}
use Rattle.page_json.specs.ObjectMembers.Reading.{Reading, each_in, exactly, gives, ◌>>=◌}
use Rattle.page_json.specs.declared.object_members.fault.PageFault.TheVariants.{BadMember}
use Rattle.page_json.specs.ObjectMembers.Values.{as_id, as_seconds, id_if, text_if}

-- a stop, its members in the order of their bytes
unfoldable pub stop_in : Data → Reading Stop
stop_in tree = do
  _ ← exactly (object_under (codes "stops") tree)
  id ← exactly (needed as_id (codes "id") (get (codes "id") tree))
  name ← exactly (text_if (codes "name") (get (codes "name") tree))
  parent ← exactly (id_if (codes "parent") (get (codes "parent") tree))
  gives (record { id = id; name = name; parent = parent })

-- each parent is one of the stops
abbrev pub AreParents : List Stop → Type 0
AreParents stops = All (λ (s : Stop). IfSome s.parent (HasStop stops)) stops

-- the stops, unless a parent is none of them
abbrev pub with_parents : List Stop → Reading (List Stop)
with_parents stops (Ok same) = (same ≡ stops) × AreParents stops
with_parents stops (Err fault) = (fault ≡ BadMember (codes "parent")) × (AreParents stops → ⊥)

-- the stops: each in its turn, then their parents, then their order
unfoldable pub stops_in : Data → Reading (List Stop)
stops_in tree = do
  items ← exactly (list_of (codes "stops") tree)
  stops ← each_in stop_in items
  same ← with_parents stops
  exactly (unless_disorder (first_disorder (on (λ (s : Stop). s.id) id_cmp) same) same)

-- the id of a stop of the list, or else the member is bad
abbrev pub if_stop : List Stop → List ℕ → List ℕ → Reading (List ℕ)
if_stop stops key id (Ok same) = (same ≡ id) × HasStop stops id
if_stop stops key id (Err fault) = (fault ≡ BadMember key) × (HasStop stops id → ⊥)

-- a needed member that is the id of a stop of the list
unfoldable pub stop_at : List Stop → List ℕ → Data → Reading (List ℕ)
stop_at stops key tree = do
  id ← exactly (needed as_id key (get key tree))
  if_stop stops key id

-- the change of these stops and seconds
abbrev pub is_change : List ℕ → ℕ → List ℕ → Reading Change
is_change from seconds to (Ok change) = (change.from ≡ from) × (change.seconds ≡ seconds) × (change.to ≡ to)
is_change from seconds to (Err fault) = ⊥

-- a change, its members in the order of their bytes
unfoldable pub change_in : List Stop → Data → Reading Change
change_in stops tree = do
  _ ← exactly (object_under (codes "changes") tree)
  from ← stop_at stops (codes "from") tree
  seconds ← exactly (needed as_seconds (codes "seconds") (get (codes "seconds") tree))
  to ← stop_at stops (codes "to") tree
  is_change from seconds to

-- the changes: each in its turn, then their order
unfoldable pub changes_in : List Stop → Data → Reading (List Change)
changes_in stops tree = do
  items ← exactly (list_of (codes "changes") tree)
  changes ← each_in (change_in stops) items
  exactly (unless_disorder (first_disorder change_cmp changes) changes)

-- the document of these stops and changes
abbrev pub is_doc : List Stop → List Change → Reading StopsDoc
is_doc stops changes (Ok doc) = (doc.stops ≡ stops) × (doc.changes ≡ changes)
is_doc stops changes (Err fault) = ⊥

-- a stops document: first its stops, then its changes
unfoldable pub doc_in : Data → Reading StopsDoc
doc_in tree = do
  _ ← exactly (object_under (codes "stops") tree)
  stops ← stops_in tree
  changes ← changes_in stops tree
  is_doc stops changes

-- the stops document that the bytes are
unfoldable pub doc_of_bytes : List ℕ → Reading StopsDoc
doc_of_bytes bytes = do
  tree ← json_in bytes
  doc_in tree
