-- The URLs of the time gate and of pages, as parts, and what joining gives.
use Rattle.std.proofs.Common.{◌≡◌, ℕ, suc, ◌-◌, ◌<◌, Bool, true, false, not, ◌&&◌, ◌||◌, leb, List, [], ◌∷◌, ◌++◌, length, codes, Some, None, Ok, All, inl, refl, sym, ap, subst, ◌∙◌, arith, append_assoc, append-nil, length-append}
use Rattle.std.specs.Prelude.{◌==◌, slice_get, unwrap_or}
use Rattle.std.specs.List.{list_all}
use Rattle.std.specs.Char.{is_ascii_alphabetic}
use Rattle.std.proofs.lemmas.Bool.Decides.{nat_tests}
use Rattle.std.proofs.lemmas.List.Elements.{All-nil, All-append, All-weaker}
use Rattle.std.proofs.lemmas.List.Sums.{AllPass-from_list_all}
use Rattle.percent_encoding.specs.Percent.{IsKept}
use Rattle.url.specs.declared.sets.TheConstants.{PATH, SPECIAL_QUERY}
use Rattle.url.specs.declared.scheme.SchemeType.{SchemeType}
use Rattle.url.specs.Host.{host_text}
use Rattle.url.specs.Scheme.{is_slash}
use Rattle.url.specs.Parser.{parse_url}
use Rattle.url.specs.Parts.{Parts, kind_of, query_set, serialize, IsValidHead, IsValid}
use Rattle.url.specs.Path.{dot_count, without_last_segment, IsSegment, IsSegmentList}
use Rattle.url.proofs.InputLemmas.{rsplit_once_at}
use Rattle.url.proofs.PathLemmas.{push_valid, without_last_valid}
use Rattle.url.proofs.SetLemmas.{kept_from_passes}
use Rattle.url.proofs.Theorems.{parse_url-serialize_special}
use Rattle.lc_model.specs.declared.page.PageName.{PageName}
use Rattle.lc_time.specs.Iso.{iso_text_of}
use Rattle.connection_uri.specs.Base.{BaseParts, base_of, port_text, IsBareHttp, IsPlain, StandsBehind, IsBase}
use Rattle.connection_uri.specs.Join.{Joins, PageUrlsJoin}
use Rattle.connection_uri.specs.Page.{page_url_of, gate_url_of}
use Rattle.connection_uri.proofs.BaseLemmas.{port_is, held, has_host, http_kind, path_list, text_is}
use Rattle.connection_uri.proofs.MomentLemmas.{IsMomentByte, moment_bytes}

-- ---- another path, and a query

abbrev pub under : Parts → List ℕ → List ℕ → Parts
under url path query = record url { path = path; query = Some query }

text_under : (url : Parts) → IsValid url → IsBareHttp url → (path query : List ℕ) → serialize (under url path query) ≡ codes "http://" ++ (base_of url).authority ++ (path ++ 63 ∷ query)
text_under url valid bare path query =
    let host = held url.host (has_host url valid bare) in
    rw (bare.scheme, bare.username, bare.password, bare.fragment, host.1)
    (ap (λ (t : List ℕ). codes "http://" ++ t)
    (ap (λ (t : List ℕ). host_text host.0 ++ t) (port_is url.port (path ++ 63 ∷ (query ++ [])) ∙ ap (λ (t : List ℕ). port_text url.port ++ (path ++ 63 ∷ t)) (append-nil query))
    ∙ sym (append_assoc (host_text host.0) (port_text url.port) (path ++ 63 ∷ query))))

head_under : (url : Parts) (path query : List ℕ) → IsValidHead url → IsValidHead (under url path query)
head_under url path query v = record { scheme = v.scheme; username = v.username; password = v.password; host = v.host; port = v.port; bare = v.bare }

valid_under : (url : Parts) → IsValid url → IsBareHttp url → (path query : List ℕ) → IsSegmentList (kind_of url) path → 0 < length path → All (IsKept SPECIAL_QUERY) query → IsValid (under url path query)
valid_under url valid bare path query list some kept = record {
  head = head_under url path query valid.head;
  path = inl (list, λ special. some);
  query = subst (λ (k : SchemeType). All (IsKept (query_set k)) query) (sym (http_kind url bare)) kept;
  fragment = valid.fragment;
}

-- ---- the paths

last_slash : (path : List ℕ) → slice_get path (length path - 1) ≡ Some 47 → (front : List ℕ) × (path ≡ front ++ 47 ∷ [])
last_slash [] e = absurd (cc)
last_slash (b ∷ []) e = let slash : b ≡ 47 = cc in ([], ap (λ (x : ℕ). x ∷ []) slash)
last_slash (b ∷ c ∷ path) e =
    let at : length (b ∷ c ∷ path) - 1 ≡ suc (length (c ∷ path) - 1) = omega arith in
    let rest = last_slash (c ∷ path) (ap (λ (k : ℕ). slice_get (b ∷ c ∷ path) k) (sym at) ∙ e) in
    (b ∷ rest.0, ap (λ (t : List ℕ). b ∷ t) rest.1)

front_list : (kind : SchemeType) (path front : List ℕ) → IsSegmentList kind path → path ≡ front ++ 47 ∷ [] → IsSegmentList kind front
front_list kind path front list e =
    let cut : without_last_segment path ≡ front = ap without_last_segment e ∙ ap (λ r. unwrap_or r.0 []) (rsplit_once_at 47 front [] (All-nil _)) in
    subst (IsSegmentList kind) cut (without_last_valid kind path list)

-- one more segment after a slash
extended : (kind : SchemeType) (path s : List ℕ) → IsSegmentList kind path → slice_get path (length path - 1) ≡ Some 47 → IsSegment kind s → IsSegmentList kind (path ++ s)
extended kind path s list ends segment =
    let cut = last_slash path ends in
    let whole : cut.0 ++ 47 ∷ s ≡ path ++ s = sym (ap (λ (p : List ℕ). p ++ s) cut.1 ∙ append_assoc cut.0 (47 ∷ []) s) in
    subst (IsSegmentList kind) whole (push_valid kind cut.0 s (front_list kind path cut.0 list cut.1) segment)

letter_small : (b : ℕ) → is_ascii_alphabetic b ≡ true → b < 128
letter_small b h = grind (arith, nat_tests)

word : (kind : SchemeType) (s : List ℕ) → list_all is_ascii_alphabetic s ≡ true → dot_count s ≡ 0 → IsSegment kind s
word kind s letters resolved =
    let all : All (λ b. is_ascii_alphabetic b ≡ true) s = AllPass-from_list_all is_ascii_alphabetic s letters in
    record {
      escaped = All-weaker (λ b. is_ascii_alphabetic b ≡ true) (IsKept PATH) (λ b h. kept_from_passes is_ascii_alphabetic PATH refl b (letter_small b h) h) s all;
      whole = All-weaker (λ b. is_ascii_alphabetic b ≡ true) (λ b. is_slash kind b ≡ false) (λ b h. grind (arith, nat_tests)) s all;
      resolved = resolved;
    }

connections : (kind : SchemeType) → IsSegment kind (codes "connections")
unfolding dot_count
connections kind = word kind (codes "connections") refl refl

memento : (kind : SchemeType) → IsSegment kind (codes "memento")
unfolding dot_count
memento kind = word kind (codes "memento") refl refl

pub page_list : (kind : SchemeType) (path : List ℕ) → IsSegmentList kind path → slice_get path (length path - 1) ≡ Some 47 → IsSegmentList kind (path ++ codes "memento/connections")
page_list kind path list ends =
    subst (IsSegmentList kind) (append_assoc path (codes "memento") (codes "/connections"))
    (push_valid kind (path ++ codes "memento") (codes "connections") (extended kind path (codes "memento") list ends (memento kind)) (connections kind))

-- ---- the queries

-- what names and values of the queries have, with `=` and `&`
abbrev is_query_byte : ℕ → Bool
is_query_byte b = (leb 45 b && leb b 122 && not (b == 60) && not (b == 62)) || (b == 38)

abbrev IsQueryByte : ℕ → Type 0
IsQueryByte b = is_query_byte b ≡ true

query_small : (b : ℕ) → IsQueryByte b → b < 128
query_small b h = grind (arith, nat_tests)

moment_byte : (b : ℕ) → IsMomentByte b → IsQueryByte b
moment_byte b h = grind (arith, nat_tests)

kept : (query : List ℕ) → All IsQueryByte query → All (IsKept SPECIAL_QUERY) query
kept query all = All-weaker IsQueryByte (IsKept SPECIAL_QUERY) (λ b h. kept_from_passes is_query_byte SPECIAL_QUERY refl b (query_small b h) h) query all

iso : (m : ℕ) → m < 253_402_128_000 → All IsQueryByte (iso_text_of m)
iso m bound = All-weaker IsMomentByte IsQueryByte moment_byte (iso_text_of m) (moment_bytes m bound)

abbrev pub gate_query : ℕ → List ℕ
gate_query departs = codes "departureTime=" ++ iso_text_of departs

abbrev pub page_query : PageName → List ℕ
page_query name = codes "version=" ++ (iso_text_of name.version ++ (codes "&departureTime=" ++ iso_text_of name.departs))

gate_kept : (departs : ℕ) → departs < 253_402_128_000 → All (IsKept SPECIAL_QUERY) (gate_query departs)
gate_kept departs bound =
    kept (gate_query departs) (All-append IsQueryByte (codes "departureTime=") (iso_text_of departs) (AllPass-from_list_all is_query_byte (codes "departureTime=") refl) (iso departs bound))

pub page_kept : (name : PageName) → name.version < 253_402_128_000 → name.departs < 253_402_128_000 → All (IsKept SPECIAL_QUERY) (page_query name)
page_kept name first second =
    let P = IsQueryByte in
    let version = iso_text_of name.version in
    let departs = iso_text_of name.departs in
    kept (page_query name)
    (All-append P (codes "version=") (version ++ (codes "&departureTime=" ++ departs)) (AllPass-from_list_all is_query_byte (codes "version=") refl)
    (All-append P version (codes "&departureTime=" ++ departs) (iso name.version first)
    (All-append P (codes "&departureTime=") departs (AllPass-from_list_all is_query_byte (codes "&departureTime=") refl) (iso name.departs second))))

-- ---- the URLs

-- the URLs of the time gate and of a page under the base of a URL
abbrev pub gate_of : Parts → ℕ → Parts
gate_of url departs = under url (url.path ++ codes "connections") (gate_query departs)

abbrev pub page_of : Parts → PageName → Parts
page_of url name = under url (url.path ++ codes "memento/connections") (page_query name)

longer : (path s : List ℕ) → 0 < length s → 0 < length (path ++ s)
longer path s some = simp length-append (omega arith)

pub gate_valid : (url : Parts) (departs : ℕ) → IsValid url → IsPlain url → departs < 253_402_128_000 → IsValid (gate_of url departs)
gate_valid url departs valid plain bound =
    valid_under url valid plain.bare (url.path ++ codes "connections") (gate_query departs)
    (extended (kind_of url) url.path (codes "connections") (path_list url valid plain.bare).0 plain.path.ends (connections (kind_of url)))
    (longer url.path (codes "connections") (omega arith))
    (gate_kept departs bound)

pub page_valid : (url : Parts) (name : PageName) → IsValid url → IsPlain url → name.version < 253_402_128_000 → name.departs < 253_402_128_000 → IsValid (page_of url name)
page_valid url name valid plain first second =
    valid_under url valid plain.bare (url.path ++ codes "memento/connections") (page_query name)
    (page_list (kind_of url) url.path (path_list url valid plain.bare).0 plain.path.ends)
    (longer url.path (codes "memento/connections") (omega arith))
    (page_kept name first second)

gate_text : (front path t : List ℕ) → (codes "http://" ++ front) ++ ((path ++ codes "connections") ++ 63 ∷ (codes "departureTime=" ++ t)) ≡ ((codes "http://" ++ front) ++ path) ++ codes "connections?departureTime=" ++ t
gate_text front path t = simp append_assoc

page_text : (front path v t : List ℕ) → (codes "http://" ++ front) ++ ((path ++ codes "memento/connections") ++ 63 ∷ (codes "version=" ++ (v ++ (codes "&departureTime=" ++ t)))) ≡ ((codes "http://" ++ front) ++ path) ++ codes "memento/connections?version=" ++ v ++ codes "&departureTime=" ++ t
page_text front path v t = simp append_assoc

pub gate_text_is : (url : Parts) (departs : ℕ) → IsValid url → IsPlain url → serialize (gate_of url departs) ≡ gate_url_of (base_of url) departs
gate_text_is url departs valid plain =
    text_under url valid plain.bare (url.path ++ codes "connections") (gate_query departs)
    ∙ gate_text (base_of url).authority url.path (iso_text_of departs)
    ∙ ap (λ (t : List ℕ). t ++ codes "connections?departureTime=" ++ iso_text_of departs) (sym (text_is url valid plain.bare))

pub page_text_is : (url : Parts) (name : PageName) → IsValid url → IsPlain url → serialize (page_of url name) ≡ page_url_of (base_of url) name
page_text_is url name valid plain =
    text_under url valid plain.bare (url.path ++ codes "memento/connections") (page_query name)
    ∙ page_text (base_of url).authority url.path (iso_text_of name.version) (iso_text_of name.departs)
    ∙ ap (λ (t : List ℕ). t ++ codes "memento/connections?version=" ++ iso_text_of name.version ++ codes "&departureTime=" ++ iso_text_of name.departs) (sym (text_is url valid plain.bare))

pub gate_said : (url : Parts) (departs : ℕ) → IsValid url → IsPlain url → departs < 253_402_128_000 → parse_url None (gate_url_of (base_of url) departs) ≡ Ok (gate_of url departs)
gate_said url departs valid plain bound =
    ap (parse_url None) (sym (gate_text_is url departs valid plain)) ∙ parse_url-serialize_special (gate_of url departs) None (gate_valid url departs valid plain bound) (http_kind url plain.bare)

pub page_said : (url : Parts) (name : PageName) → IsValid url → IsPlain url → name.version < 253_402_128_000 → name.departs < 253_402_128_000 → parse_url None (page_url_of (base_of url) name) ≡ Ok (page_of url name)
page_said url name valid plain first second =
    ap (parse_url None) (sym (page_text_is url name valid plain)) ∙ parse_url-serialize_special (page_of url name) None (page_valid url name valid plain first second) (http_kind url plain.bare)

page_joined : (url : Parts) (departs : ℕ) (name : PageName) → IsValid url → IsPlain url → name.version < 253_402_128_000 → name.departs < 253_402_128_000 → parse_url (Some (gate_of url departs)) (page_url_of (base_of url) name) ≡ Ok (page_of url name)
page_joined url departs name valid plain first second =
    ap (parse_url (Some (gate_of url departs))) (sym (page_text_is url name valid plain)) ∙ parse_url-serialize_special (page_of url name) (Some (gate_of url departs)) (page_valid url name valid plain first second) (http_kind url plain.bare)

joins_behind : (base : BaseParts) (url : Parts) (departs : ℕ) (name : PageName) → StandsBehind base url → departs < 253_402_128_000 → name.version < 253_402_128_000 → name.departs < 253_402_128_000 → Joins (gate_url_of base departs) (page_url_of base name) (page_url_of base name)
joins_behind base url departs name is bound first second =
    subst (λ (b : BaseParts). Joins (gate_url_of b departs) (page_url_of b name) (page_url_of b name)) (sym is.is)
    (record {
      base = gate_of url departs;
      url = page_of url name;
      base_said = gate_said url departs is.valid is.plain bound;
      joined = page_joined url departs name is.valid is.plain first second;
      url_said = page_said url name is.valid is.plain first second;
      url_is = page_text_is url name is.valid is.plain;
    })

pub page_urls_join : PageUrlsJoin
unfolding IsBase
page_urls_join base departs name (url, is) bound first second = joins_behind base url departs name is bound first second
