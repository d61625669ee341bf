-- Bases: the http URLs under which a publisher's documents are.
use Rattle.std.specs.Prelude.{◌≡◌, ℕ, ◌-◌, ◌≤◌, Bool, true, ◌&&◌, ◌||◌, nat_lt, ◌==◌, List, [], ◌++◌, length, slice_get, codes, decimal, Option, Some, None, Ok}
use Rattle.std.specs.List.{list_all}
use Rattle.std.specs.Str.{IsUtf8}
use Rattle.url.specs.Ascii.{percent_sign, slash}
use Rattle.url.specs.Host.{host_text}
use Rattle.url.specs.Parser.{parse_url}
use Rattle.url.specs.Parts.{Parts, host_or_empty, serialize, IsValid}
use Rattle.connection_uri.specs.Encoding.{is_unreserved}

-- what a base is to its users: its whole text, the host with the port if there is one, and the path
pub record BaseParts : Type 0 where
  pub text : List ℕ
  pub authority : List ℕ
  pub path : List ℕ

-- a byte that the path of a base may have: unreserved, `%` or `/`
abbrev pub is_path_byte : ℕ → Bool
is_path_byte byte = is_unreserved byte || (byte == percent_sign) || (byte == slash)

-- a byte that an authority may have: visible ASCII
abbrev pub is_visible : ℕ → Bool
is_visible byte = nat_lt 32 byte && nat_lt byte 127

-- the path ends with a slash, and has plain bytes alone
pub record IsPlainPath (path : List ℕ) : Type 0 where
  pub ends : slice_get path (length path - 1) ≡ Some slash
  pub plain : list_all is_path_byte path ≡ true

-- a URL of http with an authority without user name and password, and with a path, and nothing else
pub record IsBareHttp (url : Parts) : Type 0 where
  pub scheme : url.scheme ≡ codes "http"
  pub username : url.username ≡ []
  pub password : url.password ≡ []
  pub query : url.query ≡ None
  pub fragment : url.fragment ≡ None

-- the URL is a plain base, whose text has at most 4,096 bytes
pub record IsPlain (url : Parts) : Type 0 where
  pub bare : IsBareHttp url
  pub path : IsPlainPath url.path
  pub text_len : length (serialize url) ≤ 4096

-- `:` and the port
abbrev pub port_text : Option ℕ → List ℕ
port_text None = []
port_text (Some port) = codes ":" ++ decimal port

-- what a URL is as a base
abbrev pub base_of : Parts → BaseParts
base_of url = record { text = serialize url; authority = host_text (host_or_empty url) ++ port_text url.port; path = url.path }

-- the text is, as the URL Standard reads it, the plain base `url`
pub record ReadsAsBase (text : List ℕ) (url : Parts) : Type 0 where
  pub utf8 : IsUtf8 text
  pub parsed : parse_url None text ≡ Ok url
  pub plain : IsPlain url

-- the URL is valid and plain, and the base's text, authority and path are read from it
pub record StandsBehind (base : BaseParts) (url : Parts) : Type 0 where
  pub valid : IsValid url
  pub plain : IsPlain url
  pub is : base ≡ base_of url

-- a base is the base of some URL
unfoldable pub IsBase : BaseParts → Type 0
IsBase base = (url : Parts) × StandsBehind base url

-- a base's text is its scheme, its authority and its path; the authority is visible, and the path begins with a slash
pub record IsWrittenBase (base : BaseParts) : Type 0 where
  pub text_is : base.text ≡ codes "http://" ++ base.authority ++ base.path
  pub authority : list_all is_visible base.authority ≡ true
  pub begins : slice_get base.path 0 ≡ Some slash
  pub path : IsPlainPath base.path
  pub text_len : length base.text ≤ 4096

-- every base is written so
abbrev pub BasesAreWritten : Type 0
BasesAreWritten = (base : BaseParts) → IsBase base → IsWrittenBase base

-- a base is known by its text
abbrev pub OneBase : Type 0
OneBase = (a b : BaseParts) → IsBase a → IsBase b → a.text ≡ b.text → a ≡ b

-- a base is what its own text reads as
abbrev pub BasesAreRead : Type 0
BasesAreRead = (base : BaseParts) → IsBase base → (url : Parts) × ReadsAsBase base.text url × (base ≡ base_of url)
