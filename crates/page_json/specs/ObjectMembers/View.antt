-- The data that a tree of JSON stands for. Its numbers are texts, and its members are in the order of the text.
use Rattle.std.specs.Prelude.{ℕ, List, Bool, true, ◌&&◌, is_some, unwrap_or, Option, option_and_then}
use Rattle.std.specs.Borrow.{Bor}
use Rattle.std.specs.Float.{float_zero}
use Rattle.std.specs.declared.alloc.Global.{Global}
use Rattle.json.specs.Json as json
use Rattle.json.specs.Lex.{tokens}
use Rattle.json.specs.Value as tree
use Rattle.json.specs.declared.value.Value.{Value}
use Rattle.serde_json.specs.Data.{Data, Items, Members, Num, array, boolean, float, item, no_items, no_members, null, number, object, put, string}
use Rattle.serde_json.specs.Read.{max_depth, number_of}

-- the number that a text writes, or one that is not whole where it writes none
abbrev pub num_in : List ℕ → Num
num_in text = unwrap_or (number_of text) (float float_zero)

-- the data of a tree: of members of one name the last counts
abbrev mutual
  pub data_of : json.Json → Data
  data_of json.null = null
  data_of (json.boolean b) = boolean b
  data_of (json.number text) = number (num_in text)
  data_of (json.string text) = string text
  data_of (json.array js) = array (items_data js)
  data_of (json.object ms) = object (members_data ms no_members)

  pub items_data : json.Items → Items
  items_data json.no_items = no_items
  items_data (json.item j js) = item (data_of j) (items_data js)

  pub members_data : json.Members → Members → Members
  members_data json.no_members found = found
  members_data (json.member k j ms) found = members_data ms (put k (data_of j) found)

-- each number of a tree has a value
abbrev mutual
  pub has_values : json.Json → Bool
  has_values json.null = true
  has_values (json.boolean b) = true
  has_values (json.number text) = is_some (number_of text)
  has_values (json.string text) = true
  has_values (json.array js) = items_have_values js
  has_values (json.object ms) = members_have_values ms

  pub items_have_values : json.Items → Bool
  items_have_values json.no_items = true
  items_have_values (json.item j js) = has_values j && items_have_values js

  pub members_have_values : json.Members → Bool
  members_have_values json.no_members = true
  members_have_values (json.member k j ms) = has_values j && members_have_values ms

-- the tree that a text is, which may nest as deep as `serde_json` reads it
abbrev pub tree_of : List ℕ → Option json.Json
tree_of text = option_and_then (λ p. json.if_last p.0 p.1) (json.value max_depth (tokens text))

-- the data that a tree in memory stands for
abbrev pub view : Value Global → Data
view v = data_of (tree.value_view v)

abbrev pub items_view : List (Value Global) → Items
items_view vs = items_data (tree.items_view vs)

abbrev pub members_view : List (Bor (List ℕ) × Value Global) → Members
members_view ms = members_data (tree.members_view ms) no_members
