-- The requests that a client makes (RFC 9112, section 3; RFC 7089, section 2.1.1).
use Rattle.std.specs.Prelude.{◌≡◌, ℕ, ◌≤◌, true, List, [], ◌∷◌, ◌++◌, length, map, codes, Option, Some, None}
use Rattle.httparse.specs.Ascii.{crlf_bytes}
use Rattle.httparse.specs.Grammar.{AllPass, is_uri_byte}
use Rattle.lc_time.specs.Http.{http_date_of}
use Rattle.http_text.specs.declared.field.Field.{Field}
use Rattle.http_text.specs.declared.request.Request.{Request}
use Rattle.http_text.specs.Fields.{FieldText, values_of}
use Rattle.http_text.specs.Line.{line, moment_line}
use Rattle.http_text.specs.Reply.{first_of, IsMomentOf}
use Rattle.http_text.specs.Target.{is_origin_form, path_of, query_of, members_of}

-- a GET of the target at the authority, with the moment up to which the asker knows, after which the connection ends
abbrev pub request_text_of : List ℕ → List ℕ → Option ℕ → List ℕ
request_text_of authority target known =
    line (codes "GET " ++ target ++ codes " HTTP/1.1") ++ line (codes "Host: " ++ authority)
    ++ moment_line (codes "Accept-Datetime: ") known ++ line (codes "Connection: close") ++ crlf_bytes

-- the target begins with a slash and is visible, and the head is not too long
pub record CanAsk (target text : List ℕ) : Type 0 where
  pub origin : is_origin_form target ≡ true
  pub visible : AllPass is_uri_byte target
  pub head_fits : length text ≤ 16_384

-- the name and the value of a field
abbrev pub field_text : Field → FieldText
field_text field = (field.name, field.value)

-- what the fields of a moment hold: its date alone, or nothing
abbrev pub dates_of : Option ℕ → List (List ℕ)
dates_of None = []
dates_of (Some moment) = http_date_of moment ∷ []

-- the values of the fields in which an asker says up to which moment he knows
abbrev pub known_values : Request → List (List ℕ)
known_values request = values_of (codes "accept-datetime") (map field_text request.fields)

-- the request is a GET of this target, by one who knows up to this moment, after which the connection ends
pub record SaysGet (target : List ℕ) (known : Option ℕ) (text : List ℕ) (request : Request) : Type 0 where
  pub method_is : request.method ≡ codes "GET"
  pub path_is : request.path ≡ path_of target
  pub query_is : request.query ≡ members_of (query_of target)
  pub known_is : known_values request ≡ dates_of known
  pub known_read : IsMomentOf (first_of (known_values request)) known
  pub body_from_is : request.body_from ≡ length text
  pub close_is : request.close ≡ true
