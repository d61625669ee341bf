-- Requests (RFC 9112, sections 2 to 6): what a head asks for, why it is refused, and what a whole request says.
use Rattle.std.specs.Prelude.{◌≡◌, ℕ, ◌≤◌, Bool, not, ◌&&◌, ◌||◌, ◌==◌, nat_lt, List, length, take, map, codes, Option, Some, None, if◌then◌else◌}
use Rattle.httparse.specs.Grammar.{RequestHead, print_request, ReadsRequest}
use Rattle.http_text.specs.declared.field.Field.{Field as FieldSaid}
use Rattle.http_text.specs.declared.request.Request.{Request}
use Rattle.http_text.specs.Fields.{FieldText, texts_of, values_of, closes}
use Rattle.http_text.specs.Length.{length_of, is_wrong, said_or}
use Rattle.http_text.specs.Target.{is_origin_form, is_absolute_form, path_of, query_of, members_of}

-- there is a field of this name
abbrev pub has_field : List ℕ → List FieldText → Bool
has_field name fields = nat_lt 0 (length (values_of name fields))

-- HTTP/1.1 wants exactly one Host (RFC 9112, section 3.2)
abbrev pub is_hostless : ℕ → List FieldText → Bool
is_hostless minor fields = (minor == 1) && not (length (values_of (codes "host") fields) == 1)

-- The status with which a head is refused, by the first test that it fails (RFC 9110, section 15.5; RFC 6585, section 5). The
-- tests: too many fields, a body in chunks, a wrong length, too long a body, no one host, a target of another form.
abbrev pub refusal_of : ℕ → List ℕ → List FieldText → Option ℕ
refusal_of minor target fields =
    if nat_lt 100 (length fields) then Some 431
    else (if has_field (codes "transfer-encoding") fields then Some 411
    else (if is_wrong (length_of fields) then Some 400
    else (if nat_lt 16_777_216 (said_or (length_of fields) 0) then Some 413
    else (if is_hostless minor fields then Some 400
    else (if is_origin_form target || is_absolute_form target then None else Some 400)))))

-- why a head is refused, if it is
abbrev pub refusal_of_head : RequestHead → Option ℕ
refusal_of_head h = refusal_of h.minor h.target (texts_of h.fields)

-- the length of the body that belongs to the head
abbrev pub body_len : RequestHead → ℕ
body_len h = said_or (length_of (texts_of h.fields)) 0

-- the first 16,384 bytes, in which a head has to end
unfoldable pub front_of : List ℕ → List ℕ
front_of bytes = take 16_384 bytes

-- a field as it is said
abbrev pub field_said : FieldText → FieldSaid
field_said field = record { name = field.0; value = field.1 }

-- what a head of these parts says, which has so many bytes
abbrev pub request_said : List ℕ → List ℕ → ℕ → List FieldText → ℕ → Request
request_said method target minor fields len = record {
  method = method;
  path = path_of target;
  query = members_of (query_of target);
  fields = map field_said fields;
  body_from = len;
  close = closes minor fields;
}

-- what a head asks for
abbrev pub request_of : RequestHead → Request
request_of h = request_said h.method h.target h.minor (texts_of h.fields) (length (print_request h))

-- the bytes are this head, which is not refused, and its body
pub record IsWholeWith (bytes : List ℕ) (h : RequestHead) (body : List ℕ) : Type 0 where
  pub reads : ReadsRequest bytes h body
  pub head_fits : length (print_request h) ≤ 16_384
  pub accepted : refusal_of_head h ≡ None
  pub body_is : length body ≡ body_len h

-- the bytes are one whole request
abbrev pub IsWhole : List ℕ → Type 0
IsWhole bytes = (h : RequestHead) × (body : List ℕ) × IsWholeWith bytes h body

-- the bytes are one whole request, which says this
abbrev pub IsWholeRequest : List ℕ → Request → Type 0
IsWholeRequest bytes request =
    (h : RequestHead) × (body : List ℕ) × IsWholeWith bytes h body × (request ≡ request_of h)
