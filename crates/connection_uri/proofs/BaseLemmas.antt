-- The text of a plain base is its scheme, its authority and its path.
use Rattle.std.proofs.Common.{◌≡◌, ℕ, ◌^◌, ◌<◌, ◌⊎◌, inl, inr, true, not, ◌&&◌, ltb, leb, List, [], ◌∷◌, ◌++◌, length, get_or, All, codes, decimal, Option, Some, None, Ok, refl, sym, ap, subst, ◌∙◌, arith, append_assoc, append-nil, lit<}
use Rattle.std.specs.Prelude.{◌==◌, IfSome, slice_get}
use Rattle.std.specs.List.{list_all}
use Rattle.std.specs.Int.{IsInRange}
use Rattle.std.specs.Str.{IsUtf8}
use Rattle.std.proofs.lemmas.Str.{IsUtf8-from_ascii}
use Rattle.std.proofs.lemmas.Str.Ascii.{IsAscii-from_all}
use Rattle.std.proofs.lemmas.Bool.Decides.{nat_tests}
use Rattle.std.proofs.lemmas.List.Elements.{All-nil, All-cons, All-append, All-weaker}
use Rattle.std.proofs.lemmas.List.Folds.{list_all-append}
use Rattle.std.proofs.lemmas.List.Sums.{AllPass-from_list_all, list_all-from_AllPass}
use Rattle.percent_encoding.specs.Percent.{IsKept}
use Rattle.percent_encoding.specs.declared.ascii_set.TheConstants.{CONTROLS}
use Rattle.percent_encoding.proofs.AsciiSetLemmas.{kept_from_outside}
use Rattle.url.specs.declared.sets.TheConstants.{FORBIDDEN_HOST, FORBIDDEN_DOMAIN, USERINFO}
use Rattle.url.specs.Host.{IsDomain, IsHostOf}
use Rattle.url.proofs.HostLemmas.{All-host_text}
use Rattle.url.proofs.HostRoundTrip.{All-decimal}
use Rattle.url.proofs.SetLemmas.{passes_from_kept}
use Rattle.std.specs.Option.{is_some, unwrap_or, option_map}
use Rattle.std.specs.Bool.{if◌then◌else◌}
use Rattle.std.proofs.lemmas.Bool.{some_since, false≢true}
use Rattle.url.specs.declared.host.Host.{Host}
use Rattle.url.specs.declared.host.Host.TheVariants.{Domain}
use Rattle.url.specs.declared.slicing.Position.TheVariants.{BeforeUsername, AfterPort}
use Rattle.url.specs.Host.{host_text}
use Rattle.url.specs.declared.scheme.SchemeType.TheVariants.{SpecialNotFile}
use Rattle.url.specs.Parts.{Parts, kind_of, host_or_empty, serialize, text_between, IsPortOf, IsValidHead, IsValid, IsHierarchicalPath}
use Rattle.url.specs.Parser.{parse_url}
use Rattle.url.proofs.ValidLemmas.{hierarchical, base_from_authority}
use Rattle.url.proofs.OnLiterals.{url_on_literals}
use Rattle.url.proofs.PathLemmas.{root_only, rooted}
use Rattle.url.proofs.Theorems.{parse_url-serialize_special}
use Rattle.url.specs.Scheme.{is_special, scheme_type, default_port}
use Rattle.connection_uri.specs.Base.{BaseParts, is_visible, is_path_byte, ReadsAsBase, BasesAreRead, base_of, port_text, IsBareHttp, IsPlain, StandsBehind, IsBase, IsWrittenBase, BasesAreWritten, OneBase}

pub port_is : (o : Option ℕ) (rest : List ℕ) → (if is_some o then codes ":" else []) ++ (unwrap_or (option_map decimal o) [] ++ rest) ≡ port_text o ++ rest
port_is None rest = refl
port_is (Some port) rest = refl

pub authority_is : (url : Parts) → IsBareHttp url → text_between url BeforeUsername AfterPort ≡ (base_of url).authority
authority_is url bare =
    rw (bare.username, bare.password) (ap (λ (t : List ℕ). host_text (host_or_empty url) ++ t) (port_is url.port [] ∙ append-nil (port_text url.port)))

pub held : (o : Option (Host (List ℕ))) → is_some o ≡ true → (h : Host (List ℕ)) × (o ≡ Some h)
held None e = absurd (false≢true e)
held (Some h) e = (h, refl)

http_is : scheme_type (codes "http") ≡ SpecialNotFile
unfolding scheme_type default_port
http_is = refl

special : is_special (scheme_type (codes "http")) ≡ true
special = ap is_special http_is

pub has_host : (url : Parts) → IsValid url → IsBareHttp url → is_some url.host ≡ true
has_host url valid bare = some_since url.host _ _ valid.head.host (λ e. false≢true (sym e ∙ ap (λ (s : List ℕ). is_special (scheme_type s)) bare.scheme ∙ special))

pub text_is : (url : Parts) → IsValid url → IsBareHttp url → serialize url ≡ codes "http://" ++ (base_of url).authority ++ url.path
text_is url valid bare =
    let host = held url.host (has_host url valid bare) in
    rw (bare.scheme, bare.username, bare.password, bare.query, bare.fragment, host.1)
    (ap (λ (t : List ℕ). codes "http://" ++ t)
    (ap (λ (t : List ℕ). host_text host.0 ++ t) (port_is url.port (url.path ++ []) ∙ ap (λ (t : List ℕ). port_text url.port ++ t) (append-nil url.path))
    ∙ sym (append_assoc (host_text host.0) (port_text url.port) url.path)))

-- ---- the bytes of the authority

opaque_visible : (b : ℕ) → IsKept FORBIDDEN_HOST b → IsKept CONTROLS b → is_visible b ≡ true
opaque_visible b allowed visible =
    let mark = passes_from_kept FORBIDDEN_HOST (λ x. not (x == 32)) refl b allowed in
    let above = passes_from_kept CONTROLS (λ x. leb 32 x && ltb x 127) refl b visible in
    grind (arith, nat_tests)

digit_visible : (b : ℕ) → IsInRange 48 57 b → is_visible b ≡ true
digit_visible b digit = grind (arith, nat_tests)

host_visible : (url : Parts) → IsValid url → IsBareHttp url → All (λ b. is_visible b ≡ true) (host_text (host_or_empty url))
host_visible url valid bare =
    let host = held url.host (has_host url valid bare) in
    let is : IsHostOf (kind_of url) host.0 = rw host.1 at valid.head.host in
    rw host.1 (All-host_text (λ b. is_visible b ≡ true) (kind_of url) host.0 (passes_from_kept FORBIDDEN_DOMAIN is_visible refl) opaque_visible (λ b digit. grind (arith, nat_tests)) (λ b hex. grind (arith, nat_tests)) refl refl is)

port_visible : (o : Option ℕ) → IfSome o (λ n. n < 2 ^ 16) → list_all is_visible (port_text o) ≡ true
port_visible None small = refl
port_visible (Some n) small =
    list_all-from_AllPass is_visible (decimal n) (All-weaker (IsInRange 48 57) (λ b. is_visible b ≡ true) digit_visible (decimal n) (All-decimal n (omega arith)))

port_small : (scheme : List ℕ) (o : Option ℕ) → IsPortOf scheme o → IfSome o (λ n. n < 2 ^ 16)
port_small scheme None is = tt
port_small scheme (Some n) is = is.0

authority_visible : (url : Parts) → IsValid url → IsBareHttp url → list_all is_visible (base_of url).authority ≡ true
authority_visible url valid bare =
    rw (list_all-append, list_all-from_AllPass is_visible (host_text (host_or_empty url)) (host_visible url valid bare), port_visible url.port (port_small url.scheme url.port valid.head.port)) refl

-- ---- the path

first_is : (path : List ℕ) → (path ≡ []) ⊎ (get_or path 0 0 ≡ 47) → 0 < length path → slice_get path 0 ≡ Some 47
first_is [] first some = absurd (omega arith)
first_is (b ∷ path) (inl empty) some = absurd (cc)
first_is (b ∷ path) (inr slash) some = ap Some slash

pub path_list : (url : Parts) → IsValid url → IsBareHttp url → IsHierarchicalPath (kind_of url) url.path
path_list url valid bare = hierarchical url valid.path (base_from_authority url (has_host url valid bare))

pub http_kind : (url : Parts) → IsBareHttp url → kind_of url ≡ SpecialNotFile
http_kind url bare = ap scheme_type bare.scheme ∙ http_is

pub begins : (url : Parts) → IsValid url → IsBareHttp url → slice_get url.path 0 ≡ Some 47
begins url valid bare =
    let list = path_list url valid bare in
    first_is url.path (rooted (kind_of url) url.path list.0) (list.1 (ap is_special (http_kind url bare)))

-- ---- the laws

written_url : (url : Parts) → IsValid url → IsPlain url → IsWrittenBase (base_of url)
written_url url valid plain = record {
  text_is = text_is url valid plain.bare;
  authority = authority_visible url valid plain.bare;
  begins = begins url valid plain.bare;
  path = plain.path;
  text_len = plain.text_len;
}

written_behind : (base : BaseParts) (url : Parts) → StandsBehind base url → IsWrittenBase base
written_behind base url is = subst IsWrittenBase (sym is.is) (written_url url is.valid is.plain)

pub written : BasesAreWritten
unfolding IsBase
written base (url, is) = written_behind base url is

pub url_said : (url : Parts) → IsValid url → IsBareHttp url → parse_url None (serialize url) ≡ Ok url
url_said url valid bare = parse_url-serialize_special url None valid (http_kind url bare)

visible_small : (b : ℕ) → is_visible b ≡ true → b < 128
visible_small b h = grind (arith, nat_tests)

path_small : (b : ℕ) → is_path_byte b ≡ true → b < 128
path_small b h = grind (arith, nat_tests)

ascii : (base : BaseParts) → IsWrittenBase base → IsUtf8 base.text
ascii base is =
    let P : ℕ → Type 0 = λ b. b < 128 in
    let authority = All-weaker (λ b. is_visible b ≡ true) P visible_small base.authority (AllPass-from_list_all is_visible base.authority is.authority) in
    let path = All-weaker (λ b. is_path_byte b ≡ true) P path_small base.path (AllPass-from_list_all is_path_byte base.path is.path.plain) in
    let scheme = All-weaker (λ b. is_visible b ≡ true) P visible_small (codes "http://") (AllPass-from_list_all is_visible (codes "http://") refl) in
    let text : List ℕ = codes "http://" ++ base.authority ++ base.path in
    subst IsUtf8 (sym is.text_is) (IsUtf8-from_ascii text (IsAscii-from_all text (All-append P (codes "http://" ++ base.authority) base.path (All-append P (codes "http://") base.authority scheme authority) path)))

read_behind : (base : BaseParts) (url : Parts) → StandsBehind base url → ReadsAsBase base.text url
read_behind base url is = record {
  utf8 = ascii base (written_behind base url is);
  parsed = ap (λ (b : BaseParts). parse_url None b.text) is.is ∙ url_said url is.valid is.plain.bare;
  plain = is.plain;
}

pub bases_are_read : BasesAreRead
unfolding IsBase
bases_are_read base (url, is) = (url, read_behind base url is, is.is)

one_behind : (a b : BaseParts) (url url' : Parts) → StandsBehind a url → StandsBehind b url' → a.text ≡ b.text → a ≡ b
one_behind a b url url' is is' same =
    let text : serialize url ≡ serialize url' = ap (λ (p : BaseParts). p.text) (sym is.is) ∙ same ∙ ap (λ (p : BaseParts). p.text) is'.is in
    let read = sym (url_said url is.valid is.plain.bare) ∙ ap (parse_url None) text ∙ url_said url' is'.valid is'.plain.bare in
    let one : url ≡ url' = cc in
    is.is ∙ ap base_of one ∙ sym is'.is

pub one_base : OneBase
unfolding IsBase
one_base a b (url, is) (url', is') same = one_behind a b url url' is is' same

pub is_base : (url : Parts) → IsValid url → IsPlain url → IsBase (base_of url)
unfolding IsBase
is_base url valid plain = (url, record { valid = valid; plain = plain; is = refl })

-- ---- one text, cut at its host and elsewhere

abbrev hx : Parts
hx = record {
  scheme = codes "http";
  username = [];
  password = [];
  host = Some (Domain (codes "hx"));
  port = None;
  path = codes "/";
  query = None;
  fragment = None;
}

hx_domain : IsDomain (codes "hx")
unfolding url_on_literals
hx_domain =
    let P = IsKept FORBIDDEN_DOMAIN in
    record {
      allowed = All-cons P 104 (codes "x") (kept_from_outside FORBIDDEN_DOMAIN 104 (lit< tt) refl) (All-cons P 120 [] (kept_from_outside FORBIDDEN_DOMAIN 120 (lit< tt) refl) (All-nil P));
      lower = refl;
      named = refl;
    }

hx_head : IsValidHead hx
unfolding url_on_literals
hx_head = record {
  scheme = record { nonempty = omega arith; whole = refl; lower = refl };
  username = All-nil (IsKept USERINFO);
  password = All-nil (IsKept USERINFO);
  host = (hx_domain, omega arith);
  port = tt;
  bare = λ e. absurd (false≢true e);
}

hx_valid : IsValid hx
hx_valid = record { head = hx_head; path = inl (root_only (kind_of hx), λ special. omega arith); query = tt; fragment = tt }

hx_plain : IsPlain hx
hx_plain = record {
  bare = record { scheme = refl; username = refl; password = refl; query = refl; fragment = refl };
  path = record { ends = refl; plain = refl };
  text_len = omega arith;
}

pub cut_whole : IsBase (record { text = codes "http://hx/"; authority = codes "hx"; path = codes "/" })
cut_whole = is_base hx hx_valid hx_plain

pub cut_elsewhere : IsBase (record { text = codes "http://hx/"; authority = codes "h"; path = codes "x/" }) → ⊥
cut_elsewhere is = false≢true (ap (λ (o : Option ℕ). unwrap_or o 0 == 47) (written _ is).begins)
