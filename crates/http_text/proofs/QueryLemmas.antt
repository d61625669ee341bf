-- The targets under a base say their path and the members of their query.
use Rattle.std.proofs.Common.{◌≡◌, ◌≢◌, ℕ, ◌<◌, Bool, true, not, ◌&&◌, ltb, List, [], ◌∷◌, ◌++◌, length, codes, Some, All, refl, sym, ap, ap₂, subst, ◌∙◌, arith, append_assoc}
use Rattle.std.specs.Prelude.{◌==◌, slice_get, map}
use Rattle.std.specs.List.{list_all}
use Rattle.std.proofs.lemmas.Bool.Decides.{nat_tests}
use Rattle.std.proofs.lemmas.List.Elements.{All-append, All-cons, All-weaker}
use Rattle.std.proofs.lemmas.List.Sums.{AllPass-from_list_all}
use Rattle.std.proofs.lemmas.Str.{utf8_lossy-IsUtf8, IsUtf8-from_ascii}
use Rattle.std.proofs.lemmas.Str.Ascii.{IsAscii-from_all}
use Rattle.std.specs.Str.Lossy.{utf8_lossy}
use Rattle.form_urlencoded.specs.Form.{split_once, raw_pairs, IsPlain}
use Rattle.form_urlencoded.proofs.FormLemmas.{raw_pairs-nil, raw_pairs_first, split_once_before_at, split_once_after_at, split_once_before_none, split_once_after_none, decode_plain}
use Rattle.lc_time.specs.Iso.{iso_text_of}
use Rattle.connection_uri.specs.Base.{BaseParts, is_path_byte, IsWrittenBase}
use Rattle.connection_uri.proofs.BaseLemmas.{written}
use Rattle.connection_uri.proofs.MomentLemmas.{IsMomentByte, moment_bytes}
use Rattle.http_text.specs.declared.member.Member.{Member}
use Rattle.http_text.specs.Target.{behind_authority, or_slash, decoded_text, member_of, members_of}
use Rattle.http_text.specs.Targets.{member, SaysTarget, TargetsAreRead}

-- ---- bytes that mean nothing in a query

-- past `,`, of ASCII, and neither `=` nor `?`
abbrev is_simple : ℕ → Bool
is_simple b = ltb 44 b && ltb b 128 && not (b == 61) && not (b == 63)

abbrev IsSimple : ℕ → Type 0
IsSimple b = is_simple b ≡ true

simple : (xs : List ℕ) → list_all is_simple xs ≡ true → All IsSimple xs
simple xs e = AllPass-from_list_all is_simple xs e

not_ampersand : (b : ℕ) → IsSimple b → b ≢ 38
not_ampersand b h e = grind (arith, nat_tests)

not_equals : (b : ℕ) → IsSimple b → b ≢ 61
not_equals b h e = grind (arith, nat_tests)

not_mark : (b : ℕ) → IsSimple b → b ≢ 63
not_mark b h e = grind (arith, nat_tests)

plain : (b : ℕ) → IsSimple b → IsPlain b
plain b h = (λ e. grind (arith, nat_tests), λ e. grind (arith, nat_tests))

ascii : (b : ℕ) → IsSimple b → b < 128
ascii b h = grind (arith, nat_tests)

of_moment : (b : ℕ) → IsMomentByte b → IsSimple b
of_moment b h = grind (arith, nat_tests)

no_mark_in_path : (b : ℕ) → is_path_byte b ≡ true → b ≢ 63
no_mark_in_path b h e = grind arith

-- ---- pairs

-- a name and a value, with `=` between them
abbrev pair_text : List ℕ → List ℕ → List ℕ
pair_text name value = name ++ 61 ∷ value

none_inside : (name value : List ℕ) → All IsSimple name → All IsSimple value → All (λ b. b ≢ 38) (pair_text name value)
none_inside name value h k =
    let P = λ (b : ℕ). b ≢ 38 in
    All-append P name (61 ∷ value) (All-weaker IsSimple P not_ampersand name h) (All-cons P 61 value (λ e. omega arith) (All-weaker IsSimple P not_ampersand value k))

some_byte : (name rest : List ℕ) → 0 < length (name ++ 61 ∷ rest)
some_byte [] rest = omega arith
some_byte (b ∷ name) rest = omega arith

cut : (name value : List ℕ) → All IsSimple name → split_once 61 (pair_text name value) ≡ (name, value)
cut name value h =
    let none = All-weaker IsSimple (λ b. b ≢ 61) not_equals name h in
    ap₂ (λ (x y : List ℕ). (x, y)) (split_once_before_at 61 name value none) (split_once_after_at 61 name value none)

last_pair : (name value : List ℕ) → All IsSimple name → All IsSimple value → raw_pairs (pair_text name value) ≡ (name, value) ∷ []
last_pair name value h k =
    let none = none_inside name value h k in
    let before = split_once_before_none 38 (pair_text name value) none in
    let after = split_once_after_none 38 (pair_text name value) none in
    raw_pairs_first (pair_text name value) (subst (λ (t : List ℕ). 0 < length t) (sym before) (some_byte name value))
    ∙ ap₂ (λ (x : List ℕ) (y : List (List ℕ × List ℕ)). split_once 61 x ∷ y) before (ap raw_pairs after ∙ raw_pairs-nil)
    ∙ ap (λ (p : List ℕ × List ℕ). p ∷ []) (cut name value h)

first_pair : (name value rest : List ℕ) → All IsSimple name → All IsSimple value → raw_pairs (pair_text name value ++ 38 ∷ rest) ≡ (name, value) ∷ raw_pairs rest
first_pair name value rest h k =
    let none = none_inside name value h k in
    let before = split_once_before_at 38 (pair_text name value) rest none in
    let after = split_once_after_at 38 (pair_text name value) rest none in
    raw_pairs_first (pair_text name value ++ 38 ∷ rest) (subst (λ (t : List ℕ). 0 < length t) (sym before) (some_byte name value))
    ∙ ap₂ (λ (x : List ℕ) (y : List (List ℕ × List ℕ)). split_once 61 x ∷ y) before (ap raw_pairs after)
    ∙ ap (λ (p : List ℕ × List ℕ). p ∷ raw_pairs rest) (cut name value h)

decoded : (xs : List ℕ) → All IsSimple xs → decoded_text xs ≡ xs
decoded xs h =
    let text = IsUtf8-from_ascii xs (IsAscii-from_all xs (All-weaker IsSimple (λ b. b < 128) ascii xs h)) in
    ap utf8_lossy (decode_plain xs (All-weaker IsSimple IsPlain plain xs h)) ∙ utf8_lossy-IsUtf8 xs text

member_is : (name value : List ℕ) → All IsSimple name → All IsSimple value → member_of (name, value) ≡ member name value
member_is name value h k = ap₂ member (decoded name h) (decoded value k)

-- ---- the path and the query of a target

relative : (path rest : List ℕ) → slice_get path 0 ≡ Some 47 → behind_authority (path ++ rest) ≡ path ++ rest
relative [] rest first = absurd (cc)
relative (b ∷ path) rest first = let slash : b ≡ 47 = cc in rw slash refl

own : (path rest : List ℕ) → slice_get path 0 ≡ Some 47 → or_slash (path ++ rest) ≡ path ++ rest
own [] rest first = absurd (cc)
own (b ∷ path) rest first = refl

no_mark : (base : BaseParts) (tail : List ℕ) → IsWrittenBase base → All IsSimple tail → All (λ b. b ≢ 63) (base.path ++ tail)
no_mark base tail is h =
    let P = λ (b : ℕ). b ≢ 63 in
    All-append P base.path tail (All-weaker (λ b. is_path_byte b ≡ true) P no_mark_in_path base.path (AllPass-from_list_all is_path_byte base.path is.path.plain)) (All-weaker IsSimple P not_mark tail h)

says : (base : BaseParts) (tail query target : List ℕ) (members : List Member) → IsWrittenBase base → All IsSimple tail → target ≡ (base.path ++ tail) ++ 63 ∷ query → members_of query ≡ members → SaysTarget target (base.path ++ tail) members
says base tail query target members is h e said =
    let front = base.path ++ tail in
    let none = no_mark base tail is h in
    let from_path : behind_authority target ≡ front ++ 63 ∷ query =
    ap behind_authority (e ∙ append_assoc base.path tail (63 ∷ query)) ∙ relative base.path (tail ++ 63 ∷ query) is.begins ∙ sym (append_assoc base.path tail (63 ∷ query)) in
    record {
      path_is = ap (λ (t : List ℕ). or_slash ((split_once 63 t).0)) from_path ∙ ap or_slash (split_once_before_at 63 front query none) ∙ own base.path tail is.begins;
      query_is = ap (λ (t : List ℕ). members_of ((split_once 63 t).1)) from_path ∙ ap members_of (split_once_after_at 63 front query none) ∙ said;
    }

says_alone : (base : BaseParts) (tail : List ℕ) → IsWrittenBase base → All IsSimple tail → SaysTarget (base.path ++ tail) (base.path ++ tail) []
says_alone base tail is h =
    let front = base.path ++ tail in
    let none = no_mark base tail is h in
    let from_path = relative base.path tail is.begins in
    record {
      path_is = ap (λ (t : List ℕ). or_slash ((split_once 63 t).0)) from_path ∙ ap or_slash (split_once_before_none 63 front none) ∙ own base.path tail is.begins;
      query_is = ap (λ (t : List ℕ). members_of ((split_once 63 t).1)) from_path ∙ ap members_of (split_once_after_none 63 front none) ∙ ap (map member_of) raw_pairs-nil;
    }

-- ---- the targets

iso : (m : ℕ) → m < 253_402_128_000 → All IsSimple (iso_text_of m)
iso m bound = All-weaker IsMomentByte IsSimple of_moment (iso_text_of m) (moment_bytes m bound)

departure : All IsSimple (codes "departureTime")
departure = simple (codes "departureTime") refl

version : All IsSimple (codes "version")
version = simple (codes "version") refl

one_member : (departs : List ℕ) → All IsSimple departs → members_of (pair_text (codes "departureTime") departs) ≡ member (codes "departureTime") departs ∷ []
one_member departs h =
    ap (map member_of) (last_pair (codes "departureTime") departs departure h) ∙ ap (λ (m : Member). m ∷ []) (member_is (codes "departureTime") departs departure h)

two_members : (v departs : List ℕ) → All IsSimple v → All IsSimple departs → members_of (pair_text (codes "version") v ++ 38 ∷ pair_text (codes "departureTime") departs) ≡ member (codes "version") v ∷ member (codes "departureTime") departs ∷ []
two_members v departs h k =
    ap (map member_of) (first_pair (codes "version") v (pair_text (codes "departureTime") departs) version h)
    ∙ ap₂ (λ (m : Member) (ms : List Member). m ∷ ms) (member_is (codes "version") v version h) (one_member departs k)

page_is : (path v departs : List ℕ) → path ++ codes "memento/connections?version=" ++ v ++ codes "&departureTime=" ++ departs ≡ (path ++ codes "memento/connections") ++ 63 ∷ (pair_text (codes "version") v ++ 38 ∷ pair_text (codes "departureTime") departs)
page_is path v departs = simp append_assoc

gate_is : (path departs : List ℕ) → path ++ codes "connections?departureTime=" ++ departs ≡ (path ++ codes "connections") ++ 63 ∷ pair_text (codes "departureTime") departs
gate_is path departs = simp append_assoc

pub targets_are_read : TargetsAreRead
targets_are_read base is =
    let so = written base is in
    record {
      gate = λ departs bound. says base (codes "connections") _ _ _ so (simple (codes "connections") refl) (gate_is base.path (iso_text_of departs)) (one_member (iso_text_of departs) (iso departs bound));
      stops = says_alone base (codes "stops") so (simple (codes "stops") refl);
      page = λ name first second. says base (codes "memento/connections") _ _ _ so (simple (codes "memento/connections") refl) (page_is base.path (iso_text_of name.version) (iso_text_of name.departs)) (two_members (iso_text_of name.version) (iso_text_of name.departs) (iso name.version first) (iso name.departs second));
    }
