-- Where a base's path begins with two slashes, the URL of a page from its path on is no reference to that page.
use Rattle.std.proofs.Common.{◌≡◌, ℕ, suc, ◌<◌, ◌≤◌, Bool, true, false, cond, not, ◌&&◌, ◌||◌, List, [], ◌∷◌, ◌++◌, length, get_or, take, drop, codes, Some, None, Ok, Err, All, refl, sym, ap, ap₂, subst, ◌∙◌, inl, inr, arith, append_assoc, length-drop, take-append-drop}
use Rattle.std.specs.Prelude.{◌==◌, slice_get}
use Rattle.std.specs.List.{prefix_len}
use Rattle.std.proofs.Math.Seq.{drop-cons}
use Rattle.std.proofs.lemmas.Bool.{cond-true, cond-false, cases_lt}
use Rattle.std.proofs.lemmas.List.{drop_all}
use Rattle.std.proofs.lemmas.List.Concat.{flat_map-cons}
use Rattle.std.proofs.lemmas.List.Elements.{All-cons, All-head, All-tail, All-append, All-weaker}
use Rattle.std.proofs.lemmas.List.Sums.{AllPass-from_list_all}
use Rattle.url.specs.declared.scheme.SchemeType.{SchemeType}
use Rattle.url.specs.declared.scheme.SchemeType.TheVariants.{SpecialNotFile}
use Rattle.url.specs.Path.{escape_end, segment_len, parse_path, parse_path_start, join_segments, IsSegment, IsSegmentList}
use Rattle.url.specs.Scheme.{is_file, is_slash, is_special, scheme_type}
use Rattle.url.proofs.OnLiterals.{url_on_literals}
use Rattle.url.specs.Parts.{Parts, kind_of, has_authority, IsValid}
use Rattle.url.specs.Parser.{Parsed, and_then, with_path, leading_slashes, skip_slashes, after_slashes, after_double_slash, parse_authority, inherit, parse_relative, parse_body, with_tail, before_tail, parse_parts, parse_url}
use Rattle.url.proofs.InputLemmas.{IsNot, is_empty_nonempty}
use Rattle.url.proofs.PathLemmas.{slash_after_segment}
use Rattle.url.proofs.RoundTrip.{parse_own_path, stays_unless_file}
use Rattle.lc_model.specs.declared.page.PageName.{PageName}
use Rattle.lc_time.specs.Iso.{iso_text_of}
use Rattle.connection_uri.specs.Base.{BaseParts, is_path_byte, base_of, IsPlain, StandsBehind, IsBase}
use Rattle.connection_uri.specs.Join.{Joins, PageTargetsJoinNowhere}
use Rattle.connection_uri.specs.Page.{page_url_of, gate_url_of, page_target_of}
use Rattle.connection_uri.proofs.BaseLemmas.{has_host, http_kind, path_list, begins}
use Rattle.connection_uri.proofs.JoinLemmas.{page_query, gate_of, page_of, page_list, page_said, gate_said}
use Rattle.connection_uri.proofs.RelativeLemmas.{IsInk, whole, ink, path_ink, path_no_mark, query_ink, target_is}

-- ---- what comes after a slash of a list of segments is one too

past : (kind : SchemeType) (b : ℕ) (behind : List ℕ) (G : Type 0) → is_slash kind b ≡ true → (s rest : List ℕ) → All (λ c. is_slash kind c ≡ false) s → ((front : List ℕ) → front ++ b ∷ behind ≡ rest → G) → (front : List ℕ) → front ++ b ∷ behind ≡ s ++ rest → G
past kind b behind G slash [] rest whole then' front e = then' front e
past kind b behind G slash (c ∷ s) rest whole then' [] e =
    let same : b ≡ c = cc in
    let none = All-head (λ x. is_slash kind x ≡ false) c s whole in
    let both : true ≡ false = sym slash ∙ ap (is_slash kind) same ∙ none in
    absurd (cc)
past kind b behind G slash (c ∷ s) rest whole then' (d ∷ front) e =
    let tails : front ++ b ∷ behind ≡ s ++ rest = ap (drop 1) e in
    past kind b behind G slash s rest (All-tail (λ x. is_slash kind x ≡ false) c s whole) then' front tails

cut : (kind : SchemeType) (b : ℕ) (behind : List ℕ) → is_slash kind b ≡ true → (segments : List (List ℕ)) → All (IsSegment kind) segments → (front : List ℕ) → front ++ b ∷ behind ≡ join_segments segments → IsSegmentList kind (b ∷ behind)
cut kind b behind slash [] each [] e = absurd (cc)
cut kind b behind slash [] each (d ∷ front) e = absurd (cc)
cut kind b behind slash (s ∷ segments) each [] e = record { segments = s ∷ segments; joined = e; each = each }
cut kind b behind slash (s ∷ segments) each (d ∷ front) e =
    let tails : front ++ b ∷ behind ≡ s ++ join_segments segments = ap (drop 1) (e ∙ flat_map-cons (λ x. 47 ∷ x) s segments) in
    past kind b behind (IsSegmentList kind (b ∷ behind)) slash s (join_segments segments) (All-head (IsSegment kind) s segments each).whole
    (λ front' e'. cut kind b behind slash segments (All-tail (IsSegment kind) s segments each) front' e')
    front tails

-- ---- the path that is read after an authority is shorter

at_end : length (parse_path_start SpecialNotFile [] []) ≡ 1
unfolding url_on_literals
at_end = refl

behind_some : (kind : SchemeType) (path rest : List ℕ) (n len : ℕ) → kind ≡ SpecialNotFile → IsSegmentList kind path → take n path ++ rest ≡ path → len ≡ segment_len kind rest → len < length rest → parse_path_start kind [] (drop len rest) ≡ drop len rest
behind_some kind path rest n len special list parts is lt =
    let b = get_or rest len 0 in
    let behind : List ℕ = drop (suc len) rest in
    let here : drop len rest ≡ b ∷ behind = drop-cons rest len 0 lt in
    let whole : (take n path ++ take len rest) ++ b ∷ behind ≡ path = append_assoc (take n path) (take len rest) (b ∷ behind) ∙ ap (λ (x : List ℕ). take n path ++ (take len rest ++ x)) (sym here) ∙ ap (λ (x : List ℕ). take n path ++ x) (take-append-drop len rest) ∙ parts in
    let segments = cut kind b behind (slash_after_segment kind rest len is lt) list.segments list.each (take n path ++ take len rest) (whole ∙ list.joined) in
    ap (parse_path_start kind []) here ∙ parse_own_path kind (b ∷ behind) (stays_unless_file kind [] _ (ap is_file special)) segments (λ t. omega arith) ∙ sym here

read_path : (kind : SchemeType) (path : List ℕ) (n : ℕ) → kind ≡ SpecialNotFile → IsSegmentList kind path → 2 ≤ n → 2 ≤ length path → length (parse_path_start kind [] (drop (segment_len kind (drop n path)) (drop n path))) < length path
read_path kind path n special list two some =
    let rest : List ℕ = drop n path in
    let len = segment_len kind rest in
    elim (cases_lt len (length rest)) [
      | inl lt ↦ let e = ap length (behind_some kind path rest n len special list (take-append-drop n path) refl lt) in
          omega (arith, e, length-drop len rest, length-drop n path, lt)
      | inr ge ↦ let none : drop len rest ≡ [] = drop_all len rest ge in
          let e = ap length (ap (parse_path_start kind []) none ∙ ap (λ (k : SchemeType). parse_path_start k [] []) special) in
          omega (arith, e, at_end)
    ]

-- ---- what is read where two slashes come first

ok_same : (a b : Parts) → ◌≡◌ {A = Parsed Parts} (Ok a) (Ok b) → a ≡ b
ok_same a b e = cc

and_parsed : {T : Type 0} (r : Parsed T) (next : T → Parsed Parts) (u : Parts) → and_then r next ≡ Ok u → (x : T) × (r ≡ Ok x) × (next x ≡ Ok u)
and_parsed (Ok x) next u e = (x, refl, e)
and_parsed (Err fault) next u e = absurd (cc)

slashed : (scheme bytes : List ℕ) (u : Parts) → after_double_slash scheme bytes ≡ Ok u → u.path ≡ parse_path_start (scheme_type scheme) [] (drop (segment_len (scheme_type scheme) bytes) bytes)
unfolding after_double_slash
slashed scheme bytes u e =
    let head = and_parsed (parse_authority scheme (take (segment_len (scheme_type scheme) bytes) bytes)) _ u e in
    let path : List ℕ = parse_path_start (scheme_type scheme) [] (drop (segment_len (scheme_type scheme) bytes) bytes) in
    let same : with_path head.0 path ≡ u = ok_same _ u head.2 in
    ap (λ (x : Parts). x.path) (sym same)

two_slashes : (kind : SchemeType) (rest : List ℕ) → leading_slashes kind (47 ∷ 47 ∷ rest) ≡ 2
unfolding leading_slashes
two_slashes kind rest = refl

body : (gate : Parts) (rest : List ℕ) → kind_of gate ≡ SpecialNotFile → parse_body gate.scheme (Some gate) (47 ∷ 47 ∷ rest) ≡ after_double_slash gate.scheme (skip_slashes (47 ∷ 47 ∷ rest))
unfolding parse_body parse_relative
body gate rest kind =
    let path : List ℕ = 47 ∷ 47 ∷ rest in
    cond-false _ _ _ (ap is_file kind)
    ∙ ap (λ (n : ℕ). cond (n == 2) (after_double_slash gate.scheme (after_slashes (kind_of gate) path)) (Ok (with_path (inherit gate (n == 0)) (parse_path (kind_of gate) (inherit gate (n == 0)).path (drop n path))))) (two_slashes (kind_of gate) rest)
    ∙ ap (after_double_slash gate.scheme) (cond-true _ _ _ (ap is_special kind))

parts : (gate : Parts) (rest query : List ℕ) → kind_of gate ≡ SpecialNotFile → parse_parts gate.scheme (Some gate) (47 ∷ 47 ∷ rest) (Some query) None ≡ and_then (after_double_slash gate.scheme (skip_slashes (47 ∷ 47 ∷ rest))) (λ u. Ok (with_tail (before_tail u (Some query) None) (Some query) None))
unfolding parse_parts
parts gate rest query kind =
    cond-false _ _ _ (is_empty_nonempty (47 ∷ 47 ∷ rest) (omega arith))
    ∙ ap (λ r. and_then r (λ u. Ok (with_tail (before_tail u (Some query) None) (Some query) None))) (body gate rest kind)

-- the path of a special URL keeps a space at its end
kept : (u : Parts) (path : List ℕ) (b : Bool) → b ≡ not (is_special (kind_of u)) && true → is_special (kind_of (cond b (with_path u path) u)) ≡ true → cond b (with_path u path) u ≡ u
kept u path true e special =
    let both : true ≡ false = e ∙ ap (λ (t : Bool). not t && true) special in
    absurd (cc)
kept u path false e special = refl

elsewhere : (gate page : Parts) (rest query : List ℕ) → kind_of gate ≡ SpecialNotFile → kind_of page ≡ SpecialNotFile → IsSegmentList (kind_of gate) (47 ∷ 47 ∷ rest) → page.path ≡ 47 ∷ 47 ∷ rest → parse_parts gate.scheme (Some gate) (47 ∷ 47 ∷ rest) (Some query) None ≡ Ok page → ⊥
elsewhere gate page rest query kind kind' list path e =
    let whole : List ℕ = 47 ∷ 47 ∷ rest in
    let n = prefix_len (λ b. b == 47 || b == 92) whole in
    let two = and_parsed (after_double_slash gate.scheme (skip_slashes whole)) (λ u. Ok (with_tail (before_tail u (Some query) None) (Some query) None)) page (sym (parts gate rest query kind) ∙ e) in
    let u : Parts = two.0 in
    let tail : with_tail (before_tail u (Some query) None) (Some query) None ≡ page = ok_same _ page two.2 in
    let special = ap (λ (x : Parts). is_special (kind_of x)) tail ∙ ap is_special kind' in
    let same = kept u (escape_end u.path) (not (is_special (kind_of u)) && true) refl special in
    let read = slashed gate.scheme (skip_slashes whole) u two.1 in
    let path_is : u.path ≡ whole = ap (λ (x : Parts). x.path) (sym same) ∙ ap (λ (x : Parts). x.path) tail ∙ path in
    let long : length whole ≡ length (parse_path_start (kind_of gate) [] (drop (segment_len (kind_of gate) (drop n whole)) (drop n whole))) = ap length (sym path_is ∙ read) in
    let short = read_path (kind_of gate) whole n kind list (omega arith) (omega arith) in
    omega (arith, long, short)

-- ---- a page

twice : (path : List ℕ) → slice_get path 0 ≡ Some 47 → slice_get path 1 ≡ Some 47 → (rest : List ℕ) × (path ≡ 47 ∷ 47 ∷ rest)
twice [] first second = absurd (cc)
twice (a ∷ []) first second = absurd (cc)
twice (a ∷ b ∷ rest) first second =
    let slash : a ≡ 47 = cc in
    let slash' : b ≡ 47 = cc in
    (rest, ap₂ (λ (x y : ℕ). x ∷ y ∷ rest) slash slash')

nowhere : (gate page : Parts) (path query rest : List ℕ) → path ≡ 47 ∷ 47 ∷ rest → kind_of gate ≡ SpecialNotFile → kind_of page ≡ SpecialNotFile → has_authority gate ≡ true → IsSegmentList (kind_of gate) path → All IsInk (path ++ 63 ∷ query) → All (IsNot 63) path → page.path ≡ path → parse_url (Some gate) (path ++ 63 ∷ query) ≡ Ok page → ⊥
nowhere gate page path query rest is kind kind' authority list all none same e =
    subst (λ (p : List ℕ). IsSegmentList (kind_of gate) p → All IsInk (p ++ 63 ∷ query) → All (IsNot 63) p → page.path ≡ p → parse_url (Some gate) (p ++ 63 ∷ query) ≡ Ok page → ⊥) (sym is)
    (λ list' all' none' same' e'. elsewhere gate page rest query kind kind' list' same' (sym (whole gate (47 ∷ rest) query authority all' none') ∙ e'))
    list all none same e

of_url : (url : Parts) (departs : ℕ) (name : PageName) → IsValid url → IsPlain url → slice_get url.path 1 ≡ Some 47 → departs < 253_402_128_000 → name.version < 253_402_128_000 → name.departs < 253_402_128_000 → Joins (gate_url_of (base_of url) departs) (page_target_of (base_of url) name) (page_url_of (base_of url) name) → ⊥
of_url url departs name valid plain second bound version departs' joins =
    let gate : Parts = gate_of url departs in
    let page : Parts = page_of url name in
    let path : List ℕ = url.path ++ codes "memento/connections" in
    let target : List ℕ = page_target_of (base_of url) name in
    let cut' = twice url.path (begins url valid plain.bare) second in
    let base_same : joins.base ≡ gate = ok_same _ gate (sym joins.base_said ∙ gate_said url departs valid plain bound) in
    let url_same : joins.url ≡ page = ok_same _ page (sym joins.url_said ∙ page_said url name valid plain version departs') in
    let joined : parse_url (Some gate) target ≡ Ok page = ap (λ (b : Parts). parse_url (Some b) target) (sym base_same) ∙ joins.joined ∙ ap Ok url_same in
    let bytes : All (λ b. is_path_byte b ≡ true) url.path = AllPass-from_list_all is_path_byte url.path plain.path.plain in
    let path_inked = All-append IsInk url.path (codes "memento/connections") (All-weaker (λ b. is_path_byte b ≡ true) IsInk path_ink url.path bytes) (ink (codes "memento/connections") refl) in
    let none = All-append (IsNot 63) url.path (codes "memento/connections") (All-weaker (λ b. is_path_byte b ≡ true) (IsNot 63) path_no_mark url.path bytes) (All-weaker (λ b. is_path_byte b ≡ true) (IsNot 63) path_no_mark (codes "memento/connections") (AllPass-from_list_all is_path_byte (codes "memento/connections") refl)) in
    let all = All-append IsInk path (63 ∷ page_query name) path_inked (All-cons IsInk 63 (page_query name) refl (query_ink name version departs')) in
    nowhere gate page path (page_query name) (cut'.0 ++ codes "memento/connections") (ap (λ (p : List ℕ). p ++ codes "memento/connections") cut'.1) (http_kind url plain.bare) (http_kind url plain.bare) (has_host url valid plain.bare)
    (page_list (kind_of url) url.path (path_list url valid plain.bare).0 plain.path.ends) all none refl
    (ap (parse_url (Some gate)) (sym (target_is url.path (iso_text_of name.version) (iso_text_of name.departs))) ∙ joined)

behind : (base : BaseParts) (url : Parts) (departs : ℕ) (name : PageName) → StandsBehind base url → slice_get base.path 1 ≡ Some 47 → departs < 253_402_128_000 → name.version < 253_402_128_000 → name.departs < 253_402_128_000 → Joins (gate_url_of base departs) (page_target_of base name) (page_url_of base name) → ⊥
behind base url departs name is second bound version departs' =
    subst (λ (b : BaseParts). slice_get b.path 1 ≡ Some 47 → Joins (gate_url_of b departs) (page_target_of b name) (page_url_of b name) → ⊥) (sym is.is)
    (λ second' joins. of_url url departs name is.valid is.plain second' bound version departs' joins)
    second

pub page_targets_join_nowhere : PageTargetsJoinNowhere
unfolding IsBase
page_targets_join_nowhere base departs name (url, is) second bound version departs' joins = behind base url departs name is second bound version departs' joins
