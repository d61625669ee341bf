-- A list that is read from rows, one item a row.
use Rattle.std.proofs.Common.{◌≡◌, ◌∙◌, ℕ, ◌+◌, ◌<◌, ◌≤◌, List, [], ◌∷◌, ◌++◌, length, get_or, map, take, ap, ap₂, sym}
use Rattle.std.proofs.lemmas.List.{map-append, take_all, take_more}

module _ {Item Row Said : Type 0} (said_by : Item → Said) (said_of : Row → Said) (rows : List Row) where
  -- one more item
  pub listed_more : (items : List Item) (place : ℕ) (item : Item) (d : Row) → place < length rows → map said_by items ≡ map said_of (take place rows)
      → said_by item ≡ said_of (get_or rows place d) → map said_by (items ++ item ∷ []) ≡ map said_of (take (place + 1) rows)
  listed_more items place item d inside so_far here =
      map-append said_by items (item ∷ []) ∙ ap₂ (λ xs x. xs ++ x ∷ []) so_far here
      ∙ sym (map-append said_of (take place rows) (get_or rows place d ∷ [])) ∙ ap (map said_of) (sym (take_more rows place d inside))

  -- and all
  pub listed_all : (items : List Item) (place : ℕ) → length rows ≤ place → map said_by items ≡ map said_of (take place rows) → map said_by items ≡ map said_of rows
  listed_all items place past h = h ∙ ap (map said_of) (take_all place rows past)

-- one more item, where each row says its item
pub pushed_more : {Row Item : Type 0} (item_of : Row → Item) (rows : List Row) (items : List Item) (place : ℕ) (item : Item) (d : Row) → place < length rows
    → items ≡ map item_of (take place rows) → item ≡ item_of (get_or rows place d) → items ++ item ∷ [] ≡ map item_of (take (place + 1) rows)
pushed_more item_of rows items place item d inside so_far here =
    ap₂ (λ xs x. xs ++ x ∷ []) so_far here
    ∙ sym (map-append item_of (take place rows) (get_or rows place d ∷ [])) ∙ ap (map item_of) (sym (take_more rows place d inside))

-- and all
pub pushed_all : {Row Item : Type 0} (item_of : Row → Item) (rows : List Row) (items : List Item) (place : ℕ) → length rows ≤ place
    → items ≡ map item_of (take place rows) → items ≡ map item_of rows
pushed_all item_of rows items place past h = h ∙ ap (map item_of) (take_all place rows past)
