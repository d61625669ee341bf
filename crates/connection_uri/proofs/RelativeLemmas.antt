-- The URL of a page from its path on, read against the URL of the time gate.
use Rattle.std.proofs.Common.{◌≡◌, ◌≢◌, ℕ, ◌<◌, Bool, true, false, cond, not, ◌&&◌, ltb, List, [], ◌∷◌, ◌++◌, drop, reverse, codes, Some, None, Ok, All, refl, sym, ap, subst, ◌∙◌, arith, append_assoc, take_all}
use Rattle.std.specs.Prelude.{◌==◌, slice_get}
use Rattle.std.specs.List.{list_all, prefix_len}
use Rattle.std.proofs.lemmas.Bool.{cond-false, and_left, and_parts, ne_eqb}
use Rattle.std.proofs.lemmas.Bool.Decides.{nat_tests}
use Rattle.std.proofs.lemmas.List.Elements.{All-nil, All-cons, All-head, All-tail, All-append, All-weaker}
use Rattle.std.proofs.lemmas.List.{reverse-append}
use Rattle.std.proofs.lemmas.List.Sums.{AllPass-from_list_all}
use Rattle.url.specs.declared.scheme.SchemeType.{SchemeType}
use Rattle.url.specs.declared.scheme.SchemeType.TheVariants.{SpecialNotFile}
use Rattle.url.specs.Input.{is_c0_control_or_space, is_tab_or_new_line, trim_c0_control_and_space, strip_tabs_and_new_lines, split_once}
use Rattle.url.specs.Scheme.{is_special, is_file, scheme_len}
use Rattle.url.specs.Path.{parse_path, IsSegmentList}
use Rattle.url.specs.Parts.{Parts, kind_of, has_authority, IsValid}
use Rattle.url.specs.Head.{head_only}
use Rattle.url.specs.Parser.{and_then, with_path, leading_slashes, after_double_slash, after_slashes, inherit, parse_relative, parse_body, with_tail, before_tail, parse_parts, split_scheme, parse_by_scheme, parse_url}
use Rattle.url.proofs.InputLemmas.{IsNot, Passes, StopsAt, prefix_len_at, filter_all, split_once_at, split_once_none, is_empty_nonempty}
use Rattle.url.proofs.ValidLemmas.{with_own_tail, base_from_authority}
use Rattle.url.proofs.ParsedCanonical.{before_special}
use Rattle.url.proofs.RoundTrip.{parse_after_slash, stays_unless_file}
use Rattle.lc_model.specs.declared.page.PageName.{PageName}
use Rattle.lc_time.specs.Iso.{iso_text_of}
use Rattle.connection_uri.specs.Base.{BaseParts, is_path_byte, base_of, IsPlain, StandsBehind, IsBase}
use Rattle.connection_uri.specs.Join.{Joins, PageTargetsJoin}
use Rattle.connection_uri.specs.Page.{page_url_of, gate_url_of, page_target_of}
use Rattle.connection_uri.proofs.BaseLemmas.{has_host, http_kind, path_list, begins}
use Rattle.connection_uri.proofs.MomentLemmas.{IsMomentByte, moment_bytes}
use Rattle.connection_uri.proofs.JoinLemmas.{page_query, gate_of, page_of, page_list, page_valid, page_said, page_text_is, gate_said}

-- ---- nothing is trimmed, stripped or cut off as a fragment

-- past `#`, of ASCII
abbrev pub is_ink : ℕ → Bool
is_ink b = ltb 35 b && ltb b 127

abbrev pub IsInk : ℕ → Type 0
IsInk b = is_ink b ≡ true

pub ink : (xs : List ℕ) → list_all is_ink xs ≡ true → All IsInk xs
ink xs e = AllPass-from_list_all is_ink xs e

no_hash : (b : ℕ) → IsInk b → IsNot 35 b
no_hash b h e = grind (arith, nat_tests)

stops : (xs : List ℕ) → All IsInk xs → StopsAt is_c0_control_or_space xs
stops [] all = tt
stops (x ∷ xs) all = let first = All-head IsInk x xs all in grind (arith, nat_tests)

back : (xs : List ℕ) → All IsInk xs → All IsInk (reverse xs)
back [] all = all
back (x ∷ xs) all =
    subst (All IsInk) (sym (reverse-append (x ∷ []) xs))
    (All-append IsInk (reverse xs) (x ∷ []) (back xs (All-tail IsInk x xs all)) (All-cons IsInk x [] (All-head IsInk x xs all) (All-nil IsInk)))

none_at_front : (xs : List ℕ) → All IsInk xs → prefix_len is_c0_control_or_space xs ≡ 0
none_at_front xs all = prefix_len_at is_c0_control_or_space [] xs (All-nil (Passes is_c0_control_or_space)) (stops xs all)

trimmed : (xs : List ℕ) → All IsInk xs → trim_c0_control_and_space xs ≡ xs
unfolding trim_c0_control_and_space
trimmed xs all = rw (none_at_front xs all, none_at_front (reverse xs) (back xs all)) (take_all _ xs (omega arith))

stripped : (xs : List ℕ) → All IsInk xs → strip_tabs_and_new_lines xs ≡ xs
unfolding strip_tabs_and_new_lines
stripped xs all = filter_all _ xs (All-weaker IsInk (Passes (λ b. not (is_tab_or_new_line b))) (λ b h. grind (arith, nat_tests)) xs all)

-- ---- a path and a query against a URL of http

no_scheme : (rest : List ℕ) → split_scheme (47 ∷ rest) ≡ None
unfolding split_scheme scheme_len
no_scheme rest = refl

one_slash : (kind : SchemeType) (b : ℕ) (rest : List ℕ) → b ≢ 47 → b ≢ 92 → leading_slashes kind (47 ∷ b ∷ rest) ≡ 1
unfolding leading_slashes
one_slash kind b rest h k = rw (ne_eqb b 47 h, ne_eqb b 92 k) refl

body : (gate : Parts) (b : ℕ) (rest : List ℕ) → kind_of gate ≡ SpecialNotFile → b ≢ 47 → b ≢ 92 → IsSegmentList (kind_of gate) (47 ∷ b ∷ rest) → parse_body gate.scheme (Some gate) (47 ∷ b ∷ rest) ≡ Ok (with_path (head_only gate) (47 ∷ b ∷ rest))
unfolding parse_body parse_relative
body gate b rest kind h k list =
    let path : List ℕ = 47 ∷ b ∷ rest in
    let not_file : is_file (kind_of gate) ≡ false = ap is_file kind in
    cond-false _ _ _ not_file
    ∙ ap (λ (n : ℕ). cond (n == 2) (after_double_slash gate.scheme (after_slashes (kind_of gate) path)) (Ok (with_path (inherit gate (n == 0)) (parse_path (kind_of gate) (inherit gate (n == 0)).path (drop n path))))) (one_slash (kind_of gate) b rest h k)
    ∙ ap (λ (p : List ℕ). Ok (with_path (head_only gate) p)) (parse_after_slash (kind_of gate) path (stays_unless_file (kind_of gate) [] _ not_file) list (omega arith))

parts : (gate : Parts) (b : ℕ) (rest query : List ℕ) → kind_of gate ≡ SpecialNotFile → b ≢ 47 → b ≢ 92 → IsSegmentList (kind_of gate) (47 ∷ b ∷ rest) → parse_parts gate.scheme (Some gate) (47 ∷ b ∷ rest) (Some query) None ≡ Ok (with_tail (with_path (head_only gate) (47 ∷ b ∷ rest)) (Some query) None)
unfolding parse_parts
parts gate b rest query kind h k list =
    cond-false _ _ _ (is_empty_nonempty (47 ∷ b ∷ rest) (omega arith))
    ∙ ap (λ r. and_then r (λ u. Ok (with_tail (before_tail u (Some query) None) (Some query) None))) (body gate b rest kind h k list)
    ∙ ap (λ (u : Parts). Ok (with_tail u (Some query) None)) (before_special (with_path (head_only gate) (47 ∷ b ∷ rest)) (Some query) None (ap is_special kind))

pub whole : (gate : Parts) (rest query : List ℕ) → has_authority gate ≡ true → All IsInk ((47 ∷ rest) ++ 63 ∷ query) → All (IsNot 63) (47 ∷ rest) → parse_url (Some gate) ((47 ∷ rest) ++ 63 ∷ query) ≡ parse_parts gate.scheme (Some gate) (47 ∷ rest) (Some query) None
unfolding parse_url
whole gate rest query authority all none =
    let input : List ℕ = (47 ∷ rest) ++ 63 ∷ query in
    let clean = ap strip_tabs_and_new_lines (trimmed input all) ∙ stripped input all in
    let hash = ap (split_once 35) clean ∙ split_once_none 35 input (All-weaker IsInk (IsNot 35) no_hash input all) in
    let question = ap (λ r. split_once 63 r.0) hash ∙ split_once_at 63 (47 ∷ rest) query none in
    (λ i. parse_by_scheme (split_scheme (question i).0) (Some gate) (question i).0 (question i).1 (hash i).1)
    ∙ ap (λ s. parse_by_scheme s (Some gate) (47 ∷ rest) (Some query) None) (no_scheme rest)
    ∙ cond-false _ _ _ (and_left _ _ (base_from_authority gate authority))

-- ---- a page

pub path_ink : (b : ℕ) → is_path_byte b ≡ true → IsInk b
path_ink b h = grind (arith, nat_tests)

pub path_no_mark : (b : ℕ) → is_path_byte b ≡ true → IsNot 63 b
path_no_mark b h e = grind arith

moment_ink : (b : ℕ) → IsMomentByte b → IsInk b
moment_ink b h = grind (arith, nat_tests)

iso : (m : ℕ) → m < 253_402_128_000 → All IsInk (iso_text_of m)
iso m bound = All-weaker IsMomentByte IsInk moment_ink (iso_text_of m) (moment_bytes m bound)

pub query_ink : (name : PageName) → name.version < 253_402_128_000 → name.departs < 253_402_128_000 → All IsInk (page_query name)
query_ink name first second =
    let version = iso_text_of name.version in
    let departs = iso_text_of name.departs in
    All-append IsInk (codes "version=") (version ++ (codes "&departureTime=" ++ departs)) (ink (codes "version=") refl)
    (All-append IsInk version (codes "&departureTime=" ++ departs) (iso name.version first)
    (All-append IsInk (codes "&departureTime=") departs (ink (codes "&departureTime=") refl) (iso name.departs second)))

-- the path begins with one slash alone
record BeginsOnce (path : List ℕ) : Type 0 where
  second : ℕ
  rest : List ℕ
  path_is : path ≡ 47 ∷ second ∷ rest
  no_slash : second ≢ 47
  no_backslash : second ≢ 92

no_backslash_in_path : (b : ℕ) → is_path_byte b ≡ true → b ≢ 92
no_backslash_in_path b h e = grind arith

begins_once : (path : List ℕ) → slice_get path 0 ≡ Some 47 → slice_get path 1 ≢ Some 47 → list_all is_path_byte path ≡ true → BeginsOnce (path ++ codes "memento/connections")
begins_once [] first once plain = absurd (cc)
begins_once (a ∷ []) first once plain =
    let slash : a ≡ 47 = cc in
    record { second = 109; rest = codes "emento/connections"; path_is = ap (λ (x : ℕ). x ∷ codes "memento/connections") slash; no_slash = λ e. omega arith; no_backslash = λ e. omega arith }
begins_once (a ∷ b ∷ path) first once plain =
    let slash : a ≡ 47 = cc in
    let bytes = and_parts _ _ (and_parts _ _ plain).1 in
    record { second = b; rest = path ++ codes "memento/connections"; path_is = ap (λ (x : ℕ). x ∷ b ∷ (path ++ codes "memento/connections")) slash; no_slash = λ e. once (ap Some e); no_backslash = no_backslash_in_path b bytes.0 }

read : (gate : Parts) (path query : List ℕ) → BeginsOnce path → kind_of gate ≡ SpecialNotFile → has_authority gate ≡ true → IsSegmentList (kind_of gate) path → All IsInk (path ++ 63 ∷ query) → All (IsNot 63) path → parse_url (Some gate) (path ++ 63 ∷ query) ≡ Ok (with_tail (with_path (head_only gate) path) (Some query) None)
read gate path query once kind authority list all none =
    subst (λ (p : List ℕ). IsSegmentList (kind_of gate) p → All IsInk (p ++ 63 ∷ query) → All (IsNot 63) p → parse_url (Some gate) (p ++ 63 ∷ query) ≡ Ok (with_tail (with_path (head_only gate) p) (Some query) None)) (sym once.path_is)
    (λ list' all' none'. whole gate (once.second ∷ once.rest) query authority all' none' ∙ parts gate once.second once.rest query kind once.no_slash once.no_backslash list')
    list all none

pub target_is : (path v t : List ℕ) → path ++ codes "memento/connections?version=" ++ v ++ codes "&departureTime=" ++ t ≡ (path ++ codes "memento/connections") ++ 63 ∷ (codes "version=" ++ (v ++ (codes "&departureTime=" ++ t)))
target_is path v t = simp append_assoc

tail_is : (url : Parts) (name : PageName) → IsPlain url → IsValid (page_of url name) → with_tail (page_of url name) (Some (page_query name)) None ≡ page_of url name
tail_is url name plain valid =
    ap (with_tail (page_of url name) (Some (page_query name))) (sym plain.bare.fragment) ∙ with_own_tail (page_of url name) valid

target_joined : (url : Parts) (departs : ℕ) (name : PageName) → IsValid url → IsPlain url → slice_get url.path 1 ≢ Some 47 → name.version < 253_402_128_000 → name.departs < 253_402_128_000 → parse_url (Some (gate_of url departs)) (page_target_of (base_of url) name) ≡ Ok (page_of url name)
target_joined url departs name valid plain once first second =
    let path = url.path ++ codes "memento/connections" in
    let bytes : All (λ b. is_path_byte b ≡ true) url.path = AllPass-from_list_all is_path_byte url.path plain.path.plain in
    let path_inked = All-append IsInk url.path (codes "memento/connections") (All-weaker (λ b. is_path_byte b ≡ true) IsInk path_ink url.path bytes) (ink (codes "memento/connections") refl) in
    let none = All-append (IsNot 63) url.path (codes "memento/connections") (All-weaker (λ b. is_path_byte b ≡ true) (IsNot 63) path_no_mark url.path bytes) (All-weaker (λ b. is_path_byte b ≡ true) (IsNot 63) path_no_mark (codes "memento/connections") (AllPass-from_list_all is_path_byte (codes "memento/connections") refl)) in
    let all = All-append IsInk path (63 ∷ page_query name) path_inked (All-cons IsInk 63 (page_query name) refl (query_ink name first second)) in
    ap (parse_url (Some (gate_of url departs))) (target_is url.path (iso_text_of name.version) (iso_text_of name.departs))
    ∙ read (gate_of url departs) path (page_query name) (begins_once url.path (begins url valid plain.bare) once plain.path.plain) (http_kind url plain.bare) (has_host url valid plain.bare) (page_list (kind_of url) url.path (path_list url valid plain.bare).0 plain.path.ends) all none
    ∙ ap Ok (tail_is url name plain (page_valid url name valid plain first second))

joins_behind : (base : BaseParts) (url : Parts) (departs : ℕ) (name : PageName) → StandsBehind base url → slice_get base.path 1 ≢ Some 47 → departs < 253_402_128_000 → name.version < 253_402_128_000 → name.departs < 253_402_128_000 → Joins (gate_url_of base departs) (page_target_of base name) (page_url_of base name)
joins_behind base url departs name is once bound first second =
    subst (λ (b : BaseParts). slice_get b.path 1 ≢ Some 47 → Joins (gate_url_of b departs) (page_target_of b name) (page_url_of b name)) (sym is.is)
    (λ once'. record {
      base = gate_of url departs;
      url = page_of url name;
      base_said = gate_said url departs is.valid is.plain bound;
      joined = target_joined url departs name is.valid is.plain once' first second;
      url_said = page_said url name is.valid is.plain first second;
      url_is = page_text_is url name is.valid is.plain;
    })
    once

pub page_targets_join : PageTargetsJoin
unfolding IsBase
page_targets_join base departs name (url, is) once bound first second = joins_behind base url departs name is once bound first second
