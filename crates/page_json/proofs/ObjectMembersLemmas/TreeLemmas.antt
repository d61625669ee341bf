-- The data of a tree is what is read of it, and a look into the data is one into the tree.
use Rattle.std.proofs.Common.{◌≡◌, ◌∙◌, ℕ, ◌<◌, List, length, get_or, Bool, true, false, Option, Some, None, refl, ap, sym, subst}
use Rattle.std.specs.Prelude.{◌&&◌, cond, is_some, unwrap_or, option_and_then, option_map, if◌then◌else◌}
use Rattle.std.specs.Borrow.{Bor}
use Rattle.std.specs.Float.{float_zero}
use Rattle.std.specs.Str.{bytes_eq}
use Rattle.std.specs.declared.alloc.Global.{Global}
use Rattle.std.proofs.lemmas.Slice.Eq.{bytes_eq-Decides}
use Rattle.std.proofs.lemmas.Bool.{false≢true}
use Rattle.json.specs.Find as tree
use Rattle.json.specs.Json as json
use Rattle.json.specs.Tree.{items_tokens, json_tokens, members_tokens}
use Rattle.json.specs.Value.{value_view, items_view as tree_items, members_view as tree_members}
use Rattle.json.specs.declared.value.Value.{Value}
use Rattle.json.proofs.Trees.{item_smaller, member_smaller}
use Rattle.serde_json.specs.Data.{Data, Members, Num, array, float, item, no_members, number, object, put}
use Rattle.serde_json.specs.Find.{as_str, get, get_member}
use Rattle.serde_json.specs.Read.{number_of, of_items, of_json, of_members, read}
use Rattle.serde_json.specs.View.{number_view}
use Rattle.serde_json.specs.declared.number.Number.{Number}
use Rattle.serde_json.proofs.Views.{get_member-put, get_member-put_other}
use Rattle.page_json.specs.ObjectMembers.View.{data_of, has_values, items_data, items_have_values, members_data, members_have_values, tree_of, view}

-- a member of an object in memory
abbrev pub Entry : Type 0
Entry = Bor (List ℕ) × Value Global

-- this, where it holds
abbrev held : {X : Type 0} → Bool → X → Option X
held holds x = if holds then Some x else None

number_held : (o : Option Num) → option_map number o ≡ held (is_some o) (number (unwrap_or o (float float_zero)))
number_held None = refl
number_held (Some n) = refl

map_held : {X Y : Type 0} (f : X → Y) (o : Option X) (holds : Bool) (x : X) → o ≡ held holds x → option_map f o ≡ held holds (f x)
map_held f o true x e = ap (option_map f) e
map_held f o false x e = ap (option_map f) e

both_held : {X Y : Type 0} (o : Option X) (first : Bool) (x : X) (next : X → Option Y) (second : Bool) (y : Y) → o ≡ held first x → next x ≡ held second y
    → option_and_then next o ≡ held (first && second) y
both_held o true x next second y e k = ap (option_and_then next) e ∙ k
both_held o false x next second y e k = ap (option_and_then next) e

mutual
  reads_data : (j : json.Json) → of_json j ≡ held (has_values j) (data_of j)
  reads_data json.null = refl
  reads_data (json.boolean b) = refl
  reads_data (json.number text) = number_held (number_of text)
  reads_data (json.string text) = refl
  reads_data (json.array js) = map_held array (of_items js) (items_have_values js) (items_data js) (items_read js)
  reads_data (json.object ms) = map_held object (of_members ms no_members) (members_have_values ms) (members_data ms no_members) (members_read ms no_members)

  items_read : (js : json.Items) → of_items js ≡ held (items_have_values js) (items_data js)
  items_read json.no_items = refl
  items_read (json.item j js) =
      both_held (of_json j) (has_values j) (data_of j) (λ d. option_map (item d) (of_items js)) (items_have_values js) (item (data_of j) (items_data js)) (reads_data j)
      (map_held (item (data_of j)) (of_items js) (items_have_values js) (items_data js) (items_read js))

  members_read : (ms : json.Members) (found : Members) → of_members ms found ≡ held (members_have_values ms) (members_data ms found)
  members_read json.no_members found = refl
  members_read (json.member k j ms) found =
      both_held (of_json j) (has_values j) (data_of j) (λ d. of_members ms (put k d found)) (members_have_values ms) (members_data ms (put k (data_of j) found)) (reads_data j)
      (members_read ms (put k (data_of j) found))

-- the first of two, if it is there
abbrev first_or : {X : Type 0} → Option X → Option X → Option X
first_or None other = other
first_or (Some x) other = Some x

put_by : (same : Bool) (key k : List ℕ) (d : Data) (found : Members) → bytes_eq k key ≡ same → get_member key (put k d found) ≡ cond same (Some d) (get_member key found)
put_by true key k d found e =
    let is : k ≡ key = (bytes_eq-Decides k key).0 e in
    ap (λ (l : List ℕ). get_member l (put k d found)) (sym is) ∙ get_member-put k d found
put_by false key k d found e = get_member-put_other key k d found (λ is. false≢true (sym e ∙ (bytes_eq-Decides k key).1 (sym is)))

joined : (later : Option json.Json) (same : Bool) (j : json.Json) (before : Option Data)
    → first_or (option_map data_of later) (cond same (Some (data_of j)) before) ≡ first_or (option_map data_of (tree.later_or later (cond same (Some j) None))) before
joined None true j before = refl
joined None false j before = refl
joined (Some last) same j before = refl

member_found : (key : List ℕ) (ms : json.Members) (found : Members)
    → get_member key (members_data ms found) ≡ first_or (option_map data_of (tree.get_member key ms)) (get_member key found)
member_found key json.no_members found = refl
member_found key (json.member k j ms) found =
    member_found key ms (put k (data_of j) found)
    ∙ ap (first_or (option_map data_of (tree.get_member key ms))) (put_by (bytes_eq k key) key k (data_of j) found refl)
    ∙ joined (tree.get_member key ms) (bytes_eq k key) j (get_member key found)

none_before : {X : Type 0} (o : Option X) → first_or o None ≡ o
none_before None = refl
none_before (Some x) = refl

-- a text whose tree has a value for each number is read as the data of its tree, and any other is not read
pub json_read : (text : List ℕ) (j : json.Json) → tree_of text ≡ Some j → has_values j ≡ true → read text ≡ Some (data_of j)
json_read text j e valued = ap (option_and_then of_json) e ∙ reads_data j ∙ ap (λ b. held b (data_of j)) valued

pub json_refused : (text : List ℕ) (j : json.Json) → tree_of text ≡ Some j → has_values j ≡ false → read text ≡ None
json_refused text j e unvalued = ap (option_and_then of_json) e ∙ reads_data j ∙ ap (λ b. held b (data_of j)) unvalued

pub no_json : (text : List ℕ) → tree_of text ≡ None → read text ≡ None
no_json text e = ap (option_and_then of_json) e

-- a part of a tree has fewer tokens
pub item_is_smaller : (vs : List (Value Global)) (i : ℕ) (v : Value Global) → i < length vs → v ≡ get_or vs i v → length (json_tokens (value_view v)) < length (items_tokens (tree_items vs))
item_is_smaller vs i v inside is = subst (λ (w : Value Global). length (json_tokens (value_view w)) < length (items_tokens (tree_items vs))) (sym is) (item_smaller vs i v inside)

pub member_is_smaller : (ms : List Entry) (i : ℕ) (m : Entry) → i < length ms → m ≡ get_or ms i m → length (json_tokens (value_view m.1)) < length (members_tokens (tree_members ms))
member_is_smaller ms i m inside is = subst (λ (w : Entry). length (json_tokens (value_view w.1)) < length (members_tokens (tree_members ms))) (sym is) (member_smaller ms i m inside)

-- a member of the data is the data of the last member of that name
members_are_data : (key : List ℕ) (j : json.Json) → get key (data_of j) ≡ option_map data_of (tree.get key j)
members_are_data key json.null = refl
members_are_data key (json.boolean b) = refl
members_are_data key (json.number text) = refl
members_are_data key (json.string text) = refl
members_are_data key (json.array js) = refl
members_are_data key (json.object ms) = member_found key ms no_members ∙ none_before (option_map data_of (tree.get_member key ms))

data_seen : (o : Option (Bor (Value Global))) → option_map (λ v. view v.now) o ≡ option_map data_of (option_map (λ v. value_view v.now) o)
data_seen None = refl
data_seen (Some v) = refl

-- the member that was found in a tree
pub member_seen : (key : List ℕ) (v : Value Global) (o : Option (Bor (Value Global))) → option_map (λ v. value_view v.now) o ≡ tree.get key (value_view v) → option_map (λ v. view v.now) o ≡ get key (view v)
member_seen key v o e = data_seen o ∙ ap (option_map data_of) e ∙ sym (members_are_data key (value_view v))

-- its text is that of the tree
pub text_seen : (j : json.Json) → tree.as_str j ≡ as_str (data_of j)
text_seen json.null = refl
text_seen (json.boolean b) = refl
text_seen (json.number text) = refl
text_seen (json.string text) = refl
text_seen (json.array js) = refl
text_seen (json.object ms) = refl

-- a number was read of a text that has one
pub some_seen : (o : Option Number) (p : Option Num) → option_map number_view o ≡ p → is_some o ≡ is_some p
some_seen None p e = ap is_some e
some_seen (Some n) p e = ap is_some e
