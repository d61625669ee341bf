-- Rows of transfers.txt, read by values that are the same, and listed without those that are passed over.
use Rattle.std.proofs.Common.{◌≡◌, ◌∙◌, ℕ, ◌+◌, ◌<◌, ◌≤◌, ◌++◌, Bool, List, [], ◌∷◌, Option, Some, None, Result, Ok, ap, ap₂, below_more, get_or, length, subst, sym, take}
use Rattle.std.specs.Prelude.{option_to_list}
use Rattle.std.specs.List.{cons_option, filter_map}
use Rattle.std.proofs.lemmas.List.{take_all, take_more}
use Rattle.std.proofs.lemmas.List.Elements.{filter_map-append}
use Rattle.gtfs_tables.specs.Fields.Rules.{IsUnbroken, first_of}
use Rattle.gtfs_tables.specs.Fields.Fields.{ReadsItem, ReadsRow}
use Rattle.gtfs_tables.specs.Calendars.Transfers.{transfer_of, transfer_rules}
use Rattle.gtfs_tables.specs.declared.calendars.transfer.Transfer.{Transfer}

some_is : {A : Type 0} (x y : A) → Some x ≡ Some y → x ≡ y
some_is x y e = cc

one_of : {X Y : Type 0} (f : X → Option Y) (x : X) (o : Option Y) → f x ≡ o → filter_map f (x ∷ []) ≡ option_to_list o
one_of f x None e = ap (λ p. cons_option p []) e
one_of f x (Some y) e = ap (λ p. cons_option p []) e

module _ {Row Item : Type 0} (rule_at : ℕ → Option ℕ) (said : Row → Option Item) (rows : List Row) where
  -- this many rows break no rule, and these are the items of those that say one
  pub record AreKept (place : ℕ) (items : List Item) : Type 0 where
    pub unbroken : IsUnbroken rule_at place
    pub listed : items ≡ filter_map said (take place rows)

  pub kept_more : (place : ℕ) (items : List Item) (item : Option Item) (d : Row) → place < length rows → AreKept place items
      → ReadsRow (rule_at place) (Some (said (get_or rows place d))) place (Ok item) → AreKept (place + 1) (items ++ option_to_list item)
  kept_more place items item d inside so_far (sound, says) = record {
    unbroken = below_more (λ k. rule_at k ≡ None) place so_far.unbroken sound;
    listed =
        ap₂ (λ (front back : List Item). front ++ back) so_far.listed (sym (one_of said (get_or rows place d) item (some_is (said (get_or rows place d)) item says)))
        ∙ sym (filter_map-append said (take place rows) (get_or rows place d ∷ [])) ∙ ap (filter_map said) (sym (take_more rows place d inside));
  }

  pub kept_all : (place : ℕ) (items : List Item) → length rows ≤ place → AreKept place items → items ≡ filter_map said rows
  kept_all place items past so_far = so_far.listed ∙ ap (filter_map said) (take_all place rows past)

pub reads_transfer : (passed left : Bool) (unknown missing : Bool) (from first to last : Option (List ℕ)) (kind recorded : Option ℕ) (seconds time : Option (Option ℕ)) (r : Result (Option Transfer) ℕ)
    → passed ≡ left → unknown ≡ missing → from ≡ first → to ≡ last → kind ≡ recorded → seconds ≡ time
    → ReadsItem (first_of (transfer_rules passed unknown kind seconds)) (Some (transfer_of passed from to kind seconds)) r
    → ReadsItem (first_of (transfer_rules left missing recorded time)) (Some (transfer_of left first last recorded time)) r
reads_transfer passed left unknown missing from first to last kind recorded seconds time r a b c d e f h =
    subst (λ (x : Bool). ReadsItem (first_of (transfer_rules x missing recorded time)) (Some (transfer_of x first last recorded time)) r) a
    (subst (λ (x : Bool). ReadsItem (first_of (transfer_rules passed x recorded time)) (Some (transfer_of passed first last recorded time)) r) b
    (subst (λ (x : Option (List ℕ)). ReadsItem (first_of (transfer_rules passed unknown recorded time)) (Some (transfer_of passed x last recorded time)) r) c
    (subst (λ (x : Option (List ℕ)). ReadsItem (first_of (transfer_rules passed unknown recorded time)) (Some (transfer_of passed from x recorded time)) r) d
    (subst (λ (x : Option ℕ). ReadsItem (first_of (transfer_rules passed unknown x time)) (Some (transfer_of passed from to x time)) r) e
    (subst (λ (x : Option (Option ℕ)). ReadsItem (first_of (transfer_rules passed unknown kind x)) (Some (transfer_of passed from to kind x)) r) f h)))))
