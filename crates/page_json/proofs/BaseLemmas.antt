-- The text of a base in JSON.
use Rattle.std.proofs.Common.{◌≡◌, ◌≢◌, ℕ, ◌+◌, ◌<◌, ◌≤◌, true, List, [], ◌∷◌, ◌++◌, All, codes, length, take, get_or, refl, sym, ap, subst, ◌∙◌, arith}
use Rattle.std.proofs.lemmas.Bool.Decides.{nat_tests}
use Rattle.std.proofs.lemmas.List.{flat_map_more, take_all, take_more}
use Rattle.std.proofs.lemmas.List.Elements.{All-append, All-weaker}
use Rattle.std.proofs.lemmas.List.Sums.{AllPass-from_list_all}
use Rattle.json.specs.Print.{escape, escape_byte}
use Rattle.json.proofs.Printed.Strings.{escape_byte_plain}
use Rattle.connection_uri.specs.Base.{BaseParts, IsBase, is_path_byte, is_visible}
use Rattle.connection_uri.proofs.BaseLemmas.{written}

abbrev IsVisible : ℕ → Type 0
IsVisible byte = is_visible byte ≡ true

path_visible : (byte : ℕ) → is_path_byte byte ≡ true → IsVisible byte
path_visible byte h = grind (arith, nat_tests)

-- the text of a base is visible ASCII
pub base_visible : (base : BaseParts) → IsBase base → All (λ byte. is_visible byte ≡ true) base.text
base_visible base is =
    let parts = written base is in
    let scheme = AllPass-from_list_all is_visible (codes "http://") refl in
    let authority = AllPass-from_list_all is_visible base.authority parts.authority in
    let path = All-weaker (λ byte. is_path_byte byte ≡ true) IsVisible path_visible base.path (AllPass-from_list_all is_path_byte base.path parts.path.plain) in
    subst (All IsVisible) (sym parts.text_is)
    (All-append IsVisible (codes "http://" ++ base.authority) base.path (All-append IsVisible (codes "http://") base.authority scheme authority) path)

visible_printed : (byte : ℕ) → IsVisible byte → 32 ≤ byte
visible_printed byte h = grind (arith, nat_tests)

pub visible_small : (byte : ℕ) → is_visible byte ≡ true → byte < 128
visible_small byte h = grind (arith, nat_tests)

-- a visible byte that JSON does not escape
pub escape_other : (byte : ℕ) → is_visible byte ≡ true → byte ≢ 34 → byte ≢ 92 → escape_byte byte ≡ byte ∷ []
escape_other byte h quote slash = escape_byte_plain byte quote slash (visible_printed byte h)

pub one_more_escaped : (old now next bytes : List ℕ) (place : ℕ) → place < length bytes → now ≡ old ++ escape (take place bytes) → next ≡ now ++ escape_byte (get_or bytes place 0) → next ≡ old ++ escape (take (place + 1) bytes)
one_more_escaped old now next bytes place inside so h =
    h ∙ ap (λ (s : List ℕ). s ++ escape_byte (get_or bytes place 0)) so ∙ flat_map_more escape_byte old (take place bytes) (get_or bytes place 0)
    ∙ ap (λ (s : List ℕ). old ++ escape s) (sym (take_more bytes place 0 inside))

pub all_escaped : (old now bytes : List ℕ) (place : ℕ) → length bytes ≤ place → now ≡ old ++ escape (take place bytes) → now ≡ old ++ escape bytes
all_escaped old now bytes place past so = so ∙ ap (λ (s : List ℕ). old ++ escape s) (take_all place bytes past)
