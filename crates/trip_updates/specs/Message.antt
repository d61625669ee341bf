-- Which bytes are a message, as a relation by cases on the bytes.
use Rattle.std.specs.Prelude.{◌≡◌, ℕ, zero, suc, List, [], ◌∷◌, None}
use Rattle.rt_protobuf.specs.Grammar.{Content, varint, text, WireField, AreFields}
use Rattle.lc_model.specs.declared.versions.update.Update.{Update}
use Rattle.trip_updates.specs.Tree.{Tree, empty, and_varint, and_text, and_message, last_message}
use Rattle.trip_updates.specs.Table.{Message, feed_message, Kind, a_varint, a_text, one, many, kind, lacks}
use Rattle.trip_updates.specs.Meaning.{update_of}

-- What one field adds to those before it. Inner says which bytes are an embedded message.
abbrev pub Adds : (Message → List ℕ → Tree → Type 0) → Kind → Tree → ℕ → Content → Tree → Type 0
Adds Inner a_varint before number (varint n) after = after ≡ and_varint before number n
Adds Inner a_text before number (text bytes) after = after ≡ and_text before number bytes
Adds Inner (one part message) before number (text bytes) after = (last_message number before ≡ None) × (inner : Tree) × Inner message bytes inner × (after ≡ and_message before number inner)
Adds Inner (many message) before number (text bytes) after = (inner : Tree) × Inner message bytes inner × (after ≡ and_message before number inner)
Adds Inner _ before number _ after = after ≡ before

-- one field after the other
abbrev pub Add : (Message → List ℕ → Tree → Type 0) → Message → Tree → List WireField → Tree → Type 0
Add Inner message before [] after = after ≡ before
Add Inner message before (first ∷ others) after = (then : Tree) × Adds Inner (kind message first.number) before first.number first.content then × Add Inner message then others after

-- the bytes part into fields, which are those of the tree, and nothing is lacking
pub record IsTreeWith (Inner : Message → List ℕ → Tree → Type 0) (message : Message) (bytes : List ℕ) (tree : Tree) : Type 0 where
  pub fields : List WireField
  pub parted : AreFields bytes fields
  pub added : Add Inner message empty fields tree
  pub nothing_lacks : lacks message tree ≡ None

-- Messages of so many levels, one in another. In the deepest no message is read.
unfoldable pub IsTree : ℕ → Message → List ℕ → Tree → Type 0
IsTree zero = IsTreeWith (λ message bytes tree. tree ≡ empty)
IsTree (suc levels) = IsTreeWith (IsTree levels)

-- the levels below a FeedMessage: FeedEntity, TripUpdate, StopTimeUpdate, StopTimeEvent
abbrev pub feed_levels : ℕ
feed_levels = 4

-- The bytes are a message of this update.
pub record IsMessage (bytes : List ℕ) (update : Update) : Type 0 where
  pub tree : Tree
  pub is_tree : IsTree feed_levels feed_message bytes tree
  pub said : update ≡ update_of tree
