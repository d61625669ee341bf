-- The items that rows say, at their places, and the keys of rows that are there once.
use Rattle.std.proofs.Common.{◌≡◌, ◌∙◌, ℕ, ◌+◌, ◌<◌, ◌≤◌, Bool, true, false, List, Option, Some, None, ap, arith, get_or, length, map, refl, sym}
use Rattle.std.specs.Prelude.{◌==◌, if◌then◌else◌}
use Rattle.std.proofs.lemmas.Bool.{lt-ltb}
use Rattle.std.proofs.lemmas.List.{get_or-map, length-map}
use Rattle.gtfs_tables.specs.Fields.Places.{is_before, stands_twice}
use Rattle.gtfs_tables.specs.Fields.Fields.{id_said}
use Rattle.gtfs_tables.proofs.FieldsLemmas.PlaceFacts.{place_at_most}

module _ {Row Item : Type 0} (said : Row → Option Item) (rows : List Row) (items : List Item) (listed : map Some items ≡ map said rows) where
  -- there are as many items as rows
  pub as_many : length items ≡ length rows
  as_many = sym (length-map items Some) ∙ ap length listed ∙ length-map rows said

  -- the row at a place says the item there
  pub item_at : (place : ℕ) (d : Item) (e : Row) → place < length items → said (get_or rows place e) ≡ Some (get_or items place d)
  item_at place d e inside =
      let size = as_many in
      let within : place < length rows = omega arith in
      sym (get_or-map said rows place e (Some d) within) ∙ sym (ap (λ xs. get_or xs place (Some d)) listed) ∙ get_or-map Some items place d (Some d) inside

-- a key that is at an earlier place too is there twice
pub stands_again : {Key : Type 0} (same : Key → Key → Bool) (keys : List Key) (i j : ℕ) (key d : Key) → i < j → j < length keys → same (get_or keys i d) key ≡ true
    → stands_twice same keys j key ≡ true
stands_again same keys i j key d before inside passes =
    let at = place_at_most (λ other. same other key) keys i 0 d (omega arith) passes in
    let below : at.0 ≤ 0 + i = at.2 in
    let less : at.0 < j = omega arith in
    ap (λ first. is_before first j) at.1 ∙ lt-ltb at.0 j less

-- the id that a text says is the text
pub id_is : (text id : List ℕ) → id_said text ≡ Some id → text ≡ id
id_is text id says = by_length (length text == 0) refl
  where
    none_is_not : ◌≡◌ {A = Option (List ℕ)} None (Some id) → ⊥
    none_is_not e = cc

    some_is : ◌≡◌ {A = Option (List ℕ)} (Some text) (Some id) → text ≡ id
    some_is e = cc

    by_length : (b : Bool) → (length text == 0) ≡ b → text ≡ id
    by_length true is = absurd (none_is_not (sym (ap (λ (b : Bool). if b then None else Some text) is) ∙ says))
    by_length false is = some_is (sym (ap (λ (b : Bool). if b then None else Some text) is) ∙ says)
