-- The JSON of members and of lists, as it is written.
use Rattle.std.specs.Prelude.{ℕ, List, map}
use Rattle.serde_json.specs.Data.{Data, string, Items, Members, member}
use Rattle.serde_json.specs.View.{items_of}

-- a member whose value is a text, before others
abbrev pub text_at : List ℕ → List ℕ → Members → Members
text_at key text rest = member key (string text) rest

-- the items of a list
abbrev pub items_from : {X : Type 0} → (X → Data) → List X → Items
items_from tree_of list = items_of (map tree_of list)
