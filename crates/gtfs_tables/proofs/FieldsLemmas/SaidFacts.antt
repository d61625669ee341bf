-- What is read of rows is what they say.
use Rattle.std.proofs.Common.{◌≡◌, ◌∙◌, ℕ, ◌+◌, ◌<◌, ◌≤◌, ◌⊎◌, List, [], ◌∷◌, ◌++◌, Option, Some, None, Ok, ap, ap₂, below_more, get_or, inl, inr, length, map, refl, sym, take}
use Rattle.std.proofs.lemmas.List.{map_more, map_push, take_all}
use Rattle.gtfs_tables.specs.Fields.Rules.{IsUnbroken}
use Rattle.gtfs_tables.specs.Fields.Fields.{IsReportedOf, ReadsRow}
use Rattle.gtfs_tables.specs.Fields.Table.{IsRowFault}
use Rattle.gtfs_tables.specs.declared.fields.fault.FileFault.{FileFault}
use Rattle.gtfs_tables.specs.declared.fields.fault.FileFault.TheVariants.{Broken, TooMany, NoMemory}

some_is : {A : Type 0} (x y : A) → Some x ≡ Some y → x ≡ y
some_is x y e = cc

-- lists are one where their items in Some are
pub lists_of_some : {A : Type 0} (xs ys : List A) → map Some xs ≡ map Some ys → xs ≡ ys
lists_of_some [] [] e = refl
lists_of_some {A} [] (y ∷ ys) e = let clash : ◌≡◌ {A = List (Option A)} [] (Some y ∷ map Some ys) = e in absurd (nil_is_not clash)
  where
    nil_is_not : {z : Option A} {zs : List (Option A)} → ◌≡◌ {A = List (Option A)} [] (z ∷ zs) → ⊥
    nil_is_not e = cc
lists_of_some {A} (x ∷ xs) [] e = let clash : ◌≡◌ {A = List (Option A)} (Some x ∷ map Some xs) [] = e in absurd (cons_is_not clash)
  where
    cons_is_not : {z : Option A} {zs : List (Option A)} → ◌≡◌ {A = List (Option A)} (z ∷ zs) [] → ⊥
    cons_is_not e = cc
lists_of_some {A} (x ∷ xs) (y ∷ ys) e =
    let whole : ◌≡◌ {A = List (Option A)} (Some x ∷ map Some xs) (Some y ∷ map Some ys) = e in
    ap₂ (λ (z : A) (zs : List A). z ∷ zs) (some_is x y (head_is whole)) (lists_of_some xs ys (tail_is whole))
  where
    head_is : {a b : Option A} {xs ys : List (Option A)} → ◌≡◌ {A = List (Option A)} (a ∷ xs) (b ∷ ys) → a ≡ b
    head_is e = cc

    tail_is : {a b : Option A} {xs ys : List (Option A)} → ◌≡◌ {A = List (Option A)} (a ∷ xs) (b ∷ ys) → xs ≡ ys
    tail_is e = cc

-- the fault of a row before which none is broken is the first
pub reported_first : (rule_at : ℕ → Option ℕ) (count place : ℕ) (fault : FileFault) → place < count → IsUnbroken rule_at place → IsReportedOf (rule_at place) place fault
    → (fault ≡ NoMemory) ⊎ IsRowFault rule_at count fault
reported_first rule_at count place (Broken rule row) inside before (broken, at) =
    inr (place, record { there = inside; broken = broken; before = before }, at)
reported_first rule_at count place (TooMany n) inside before recorded = absurd recorded
reported_first rule_at count place NoMemory inside before recorded = inl refl

module _ {Row Item : Type 0} (rule_at : ℕ → Option ℕ) (said : Row → Option Item) (rows : List Row) where
  -- this many rows break no rule, and these are the items that they say
  pub record AreRead (place : ℕ) (items : List Item) : Type 0 where
    pub unbroken : IsUnbroken rule_at place
    pub listed : map Some items ≡ map said (take place rows)

  pub read_more : (place : ℕ) (items : List Item) (item : Item) (d : Row) → place < length rows → AreRead place items
      → ReadsRow (rule_at place) (said (get_or rows place d)) place (Ok item) → AreRead (place + 1) (items ++ item ∷ [])
  read_more place items item d inside so_far (sound, says) = record {
    unbroken = below_more (λ k. rule_at k ≡ None) place so_far.unbroken sound;
    listed = map_push Some items item ∙ ap₂ (λ (front : List (Option Item)) (last : Option Item). front ++ last ∷ []) so_far.listed (sym says) ∙ sym (map_more said rows place d inside);
  }

  pub read_all : (place : ℕ) (items : List Item) → length rows ≤ place → AreRead place items → map Some items ≡ map said rows
  read_all place items past so_far = so_far.listed ∙ ap (map said) (take_all place rows past)
