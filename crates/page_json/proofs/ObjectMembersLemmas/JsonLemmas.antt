-- What is written of a value with whole numbers and increasing keys is read as that value.
use Rattle.std.proofs.Common.{◌≡◌, ℕ, suc, ◌^◌, ◌<◌, ◌≤◌, pos, negsuc, List, [], Bool, true, ◌&&◌, max, Some, option_map, option_and_then, refl, sym, ap, ap₂, ◌∙◌, arith, append-nil}
use Rattle.std.proofs.lemmas.Bool.{and_parts}
use Rattle.std.specs.Cmp.Lexicographic.{slice_cmp}
use Rattle.std.specs.Ordering.{is_gt, nat_cmp}
use Rattle.std.specs.declared.cmp.Ordering.{Ordering}
use Rattle.std.specs.declared.cmp.Ordering.TheVariants.{Less, Equal, Greater}
use Rattle.json.specs.Json as json
use Rattle.json.specs.Lex.{tokens}
use Rattle.json.specs.Tree as tree
use Rattle.json.proofs.Printed.Decimals.{IsNumber-decimal, IsNumber-signed_decimal}
use Rattle.json.proofs.Printed.Tokens.{tokens-print}
use Rattle.json.proofs.Printed.Trees.{ArePrintable-json_tokens, value-json_tokens}
use Rattle.serde_json.specs.Data.{Num, unsigned, negative, float, Data, null, boolean, number, string, array, object, Items, no_items, item, Members, no_members, member, put, depth, items_depth, members_depth}
use Rattle.serde_json.specs.Read.{max_depth, number_of, of_items, of_json, of_members, read}
use Rattle.serde_json.specs.Written.{compact_text, items_outline, members_outline, number_text, outline}
use Rattle.serde_json.proofs.Numbers.{number_of-decimal, number_of-negative}
use Rattle.serde_json.proofs.Texts.{print-outline}

-- a member after all others
abbrev pub behind : Members → List ℕ → Data → Members
behind no_members k d = member k d no_members
behind (member l e ms) k d = member l e (behind ms k d)

-- members after others
abbrev pub both : Members → Members → Members
both no_members ms = ms
both (member l e done) ms = member l e (both done ms)

-- the key comes after those of all members
abbrev pub is_above : List ℕ → Members → Bool
is_above k no_members = true
is_above k (member l e ms) = is_gt (slice_cmp nat_cmp k l) && is_above k ms

-- each key comes after those before it
abbrev pub rises : Members → Members → Bool
rises done no_members = true
rises done (member k d ms) = is_above k done && rises (behind done k d) ms

-- a whole number of 64 bits
abbrev pub IsWhole : Num → Type 0
IsWhole (unsigned n) = n < 2 ^ 64
IsWhole (negative (pos n)) = ⊥
IsWhole (negative (negsuc n)) = n < 2 ^ 63
IsWhole (float x) = ⊥

-- a value whose text is read as that value
abbrev mutual
  pub IsWritable : Data → Type 0
  IsWritable null = Unit {0}
  IsWritable (boolean b) = Unit {0}
  IsWritable (number n) = IsWhole n
  IsWritable (string s) = Unit {0}
  IsWritable (array ds) = AreWritable ds
  IsWritable (object ms) = HasWritable ms × (rises no_members ms ≡ true)

  pub AreWritable : Items → Type 0
  AreWritable no_items = Unit {0}
  AreWritable (item d ds) = IsWritable d × AreWritable ds

  pub HasWritable : Members → Type 0
  HasWritable no_members = Unit {0}
  HasWritable (member k d ms) = IsWritable d × HasWritable ms

greater : (o : Ordering) → is_gt o ≡ true → o ≡ Greater
greater Less e = absurd (cc)
greater Equal e = absurd (cc)
greater Greater e = refl

put_behind : (k : List ℕ) (d : Data) (ms : Members) → is_above k ms ≡ true → put k d ms ≡ behind ms k d
put_behind k d no_members e = refl
put_behind k d (member l x ms) e =
    let parts = and_parts (is_gt (slice_cmp nat_cmp k l)) (is_above k ms) e in
    rw (greater (slice_cmp nat_cmp k l) parts.0) (ap (member l x) (put_behind k d ms parts.1))

both_behind : (done : Members) (k : List ℕ) (d : Data) (ms : Members) → both (behind done k d) ms ≡ both done (member k d ms)
both_behind no_members k d ms = refl
both_behind (member l e done) k d ms = ap (member l e) (both_behind done k d ms)

both_none : (done : Members) → both done no_members ≡ done
both_none no_members = refl
both_none (member l e done) = ap (member l e) (both_none done)

number_read : (n : Num) → IsWhole n → number_of (number_text n) ≡ Some n
number_read (unsigned n) h = number_of-decimal n h
number_read (negative (pos n)) h = absurd h
number_read (negative (negsuc n)) h = number_of-negative n (omega arith)
number_read (float x) h = absurd h

mutual
  value_read : (d : Data) → IsWritable d → of_json (outline d) ≡ Some d
  value_read null h = refl
  value_read (boolean b) h = refl
  value_read (number n) h = ap (option_map number) (number_read n h)
  value_read (string s) h = refl
  value_read (array ds) h = ap (option_map array) (items_read ds h)
  value_read (object ms) h = ap (option_map object) (members_read ms no_members h.0 h.1)

  items_read : (ds : Items) → AreWritable ds → of_items (items_outline ds) ≡ Some ds
  items_read no_items h = refl
  items_read (item d ds) h =
      ap (option_and_then (λ x. option_map (item x) (of_items (items_outline ds)))) (value_read d h.0) ∙ ap (option_map (item d)) (items_read ds h.1)

  members_read : (ms done : Members) → HasWritable ms → rises done ms ≡ true → of_members (members_outline ms) done ≡ Some (both done ms)
  members_read no_members done h e = ap Some (sym (both_none done))
  members_read (member k d ms) done h e =
      let parts = and_parts (is_above k done) (rises (behind done k d) ms) e in
      ap (option_and_then (λ x. of_members (members_outline ms) (put k x done))) (value_read d h.0)
      ∙ ap (of_members (members_outline ms)) (put_behind k d done parts.0)
      ∙ members_read ms (behind done k d) h.1 parts.1
      ∙ ap Some (both_behind done k d ms)

number_is : (n : Num) → IsWhole n → tree.HasNumbers (json.number (number_text n))
number_is (unsigned n) h = IsNumber-decimal n h
number_is (negative (pos n)) h = absurd h
number_is (negative (negsuc n)) h = IsNumber-signed_decimal (negsuc n) (omega arith)
number_is (float x) h = absurd h

mutual
  has_numbers : (d : Data) → IsWritable d → tree.HasNumbers (outline d)
  has_numbers null h = tt
  has_numbers (boolean b) h = tt
  has_numbers (number n) h = number_is n h
  has_numbers (string s) h = tt
  has_numbers (array ds) h = items_numbers ds h
  has_numbers (object ms) h = members_numbers ms h.0

  items_numbers : (ds : Items) → AreWritable ds → tree.ItemsHaveNumbers (items_outline ds)
  items_numbers no_items h = tt
  items_numbers (item d ds) h = (has_numbers d h.0, items_numbers ds h.1)

  members_numbers : (ms : Members) → HasWritable ms → tree.MembersHaveNumbers (members_outline ms)
  members_numbers no_members h = tt
  members_numbers (member k d ms) h = (has_numbers d h.0, members_numbers ms h.1)

mutual
  same_depth : (d : Data) → tree.depth (outline d) ≡ depth d
  same_depth null = refl
  same_depth (boolean b) = refl
  same_depth (number n) = refl
  same_depth (string s) = refl
  same_depth (array ds) = ap suc (items_same ds)
  same_depth (object ms) = ap suc (members_same ms)

  items_same : (ds : Items) → tree.items_depth (items_outline ds) ≡ items_depth ds
  items_same no_items = refl
  items_same (item d ds) = ap₂ max (same_depth d) (items_same ds)

  members_same : (ms : Members) → tree.members_depth (members_outline ms) ≡ members_depth ms
  members_same no_members = refl
  members_same (member k d ms) = ap₂ max (same_depth d) (members_same ms)

tokens_are : (d : Data) → IsWritable d → tokens (compact_text d) ≡ tree.json_tokens (outline d)
tokens_are d h =
    ap tokens (sym (print-outline d)) ∙ tokens-print (tree.json_tokens (outline d)) (ArePrintable-json_tokens (outline d) (has_numbers d h))

parsed : (d : Data) → IsWritable d → depth d ≤ max_depth → json.value max_depth (tokens (compact_text d)) ≡ Some (outline d, [])
parsed d h shallow =
    let fits : tree.depth (outline d) ≤ max_depth = omega (arith, same_depth d) in
    ap (json.value max_depth) (tokens_are d h ∙ sym (append-nil (tree.json_tokens (outline d)))) ∙ value-json_tokens (outline d) max_depth [] fits

pub read_compact : (d : Data) → IsWritable d → depth d ≤ max_depth → read (compact_text d) ≡ Some d
read_compact d h shallow =
    ap (λ o. option_and_then of_json (option_and_then (λ p. json.if_last p.0 p.1) o)) (parsed d h shallow) ∙ value_read d h
