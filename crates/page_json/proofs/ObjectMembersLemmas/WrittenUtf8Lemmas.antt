-- What is written of JSON values is UTF-8.
use Rattle.std.proofs.Common.{◌≡◌, ℕ, Bool, true, false, List, [], ◌∷◌, ◌++◌, map, All, IsAscii, refl}
use Rattle.std.specs.Str.{IsUtf8}
use Rattle.std.proofs.lemmas.List.Elements.{All-head, All-tail}
use Rattle.std.proofs.lemmas.Str.{IsUtf8-append, IsUtf8-from_ascii, IsUtf8-nil}
use Rattle.json.specs.Print.{quoted}
use Rattle.json.proofs.Printed.Utf8.{IsUtf8-are_ascii, IsUtf8-quoted, are_ascii}
use Rattle.serde_json.specs.Data.{Data, Items, Members, array, member, no_members, object, string}
use Rattle.serde_json.specs.View.{items_of}
use Rattle.serde_json.specs.Written.{comma_if, compact_text, items_text, members_text}
use Rattle.page_json.specs.ObjectMembers.MemberWriting.{text_at}

-- ---- texts one after the other

-- the bytes are UTF-8
pub record Text (bytes : List ℕ) : Type 0 where
  pub utf8 : IsUtf8 bytes

pub both : {a b : List ℕ} → Text a → Text b → Text (a ++ b)
both {a} {b} h k = record { utf8 = IsUtf8-append a b h.utf8 k.utf8 }

pub plain : (bytes : List ℕ) → are_ascii bytes ≡ true → Text bytes
plain bytes e = record { utf8 = IsUtf8-are_ascii bytes e }

pub from_ascii : (bytes : List ℕ) → IsAscii bytes → Text bytes
from_ascii bytes is = record { utf8 = IsUtf8-from_ascii bytes is }

-- ---- trees

pub begun : (byte : ℕ) (rest : List ℕ) → are_ascii (byte ∷ []) ≡ true → Text rest → Text (byte ∷ rest)
begun byte rest e h = record { utf8 = IsUtf8-append (byte ∷ []) rest (IsUtf8-are_ascii (byte ∷ []) e) h.utf8 }

comma : (later : Bool) → Text (comma_if later)
comma true = plain (44 ∷ []) refl
comma false = record { utf8 = IsUtf8-nil }

in_quotes : (bytes : List ℕ) → Text bytes → Text (quoted bytes)
in_quotes bytes h = record { utf8 = IsUtf8-quoted bytes h.utf8 }

-- the text of the tree is UTF-8
pub record Tree (d : Data) : Type 0 where
  pub text : Text (compact_text d)

-- the text of members and of items is UTF-8, whatever comes before them
pub record Fields (ms : Members) : Type 0 where
  pub text : (later : Bool) → Text (members_text later ms)

pub record Rows (ds : Items) : Type 0 where
  pub text : (later : Bool) → Text (items_text later ds)

pub no_field : Fields no_members
no_field = record { text = λ later. plain (125 ∷ []) refl }

pub field : (key : List ℕ) (d : Data) (ms : Members) → are_ascii key ≡ true → Tree d → Fields ms → Fields (member key d ms)
field key d ms e h rest =
    record { text = λ later. both (comma later) (both (in_quotes key (plain key e)) (begun 58 (compact_text d ++ members_text true ms) refl (both h.text (rest.text true)))) }

pub text_field : (key text : List ℕ) (ms : Members) → are_ascii key ≡ true → Text text → Fields ms → Fields (text_at key text ms)
text_field key text ms e h rest = field key (string text) ms e (record { text = in_quotes text h }) rest

pub an_object : (ms : Members) → Fields ms → Tree (object ms)
an_object ms h = record { text = begun 123 (members_text false ms) refl (h.text false) }

pub an_array : (ds : Items) → Rows ds → Tree (array ds)
an_array ds h = record { text = begun 91 (items_text false ds) refl (h.text false) }

pub rows : {X : Type 0} (tree_of : X → Data) (P : X → Type 0) → ((x : X) → P x → Tree (tree_of x)) → (xs : List X) → All P xs → Rows (items_of (map tree_of xs))
rows tree_of P one [] all = record { text = λ later. plain (93 ∷ []) refl }
rows tree_of P one (x ∷ xs) all =
    let rest = rows tree_of P one xs (All-tail P x xs all) in
    record { text = λ later. both (comma later) (both (one x (All-head P x xs all)).text (rest.text true)) }
