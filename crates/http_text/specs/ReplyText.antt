-- The replies that a publisher writes (RFC 9112, section 4; RFC 9110, section 15; RFC 7089, section 2).
use Rattle.std.specs.Prelude.{◌≡◌, ◌≢◌, ℕ, ◌+◌, ◌-◌, ◌<◌, ◌≤◌, Bool, true, false, ◌==◌, List, [], ◌++◌, length, codes, decimal, Option, Some, None, IfSome, IsUtf8, if◌then◌else◌}
use Rattle.httparse.specs.Ascii.{crlf_bytes}
use Rattle.httparse.specs.Grammar.{AllPass, is_uri_byte, is_value_byte}
use Rattle.http_text.specs.declared.reply.Reply.{Reply}
use Rattle.http_text.specs.declared.reply_parts.Allow.{Allow}
use Rattle.http_text.specs.declared.reply_parts.Allow.TheVariants.{Reading, Posting}
use Rattle.http_text.specs.declared.reply_parts.BodyKind.{BodyKind}
use Rattle.http_text.specs.declared.reply_parts.BodyKind.TheVariants.{Page, Stops}
use Rattle.http_text.specs.declared.reply_parts.ReplyParts.{ReplyParts}
use Rattle.http_text.specs.Line.{line, moment_line}

-- the reason phrases of the statuses in use (RFC 9110, section 15; RFC 6585, section 5; RFC 4918, section 11.5)
abbrev pub reason_of : ℕ → List ℕ
reason_of status =
    if status == 200 then codes "OK"
    else (if status == 204 then codes "No Content"
    else (if status == 302 then codes "Found"
    else (if status == 400 then codes "Bad Request"
    else (if status == 404 then codes "Not Found"
    else (if status == 405 then codes "Method Not Allowed"
    else (if status == 409 then codes "Conflict"
    else (if status == 411 then codes "Length Required"
    else (if status == 413 then codes "Content Too Large"
    else (if status == 431 then codes "Request Header Fields Too Large"
    else (if status == 507 then codes "Insufficient Storage"
    else []))))))))))

-- the status is in use
abbrev pub HasReason : ℕ → Type 0
HasReason status = reason_of status ≢ []

-- the status line
abbrev pub status_line : ℕ → List ℕ
status_line status = line (codes "HTTP/1.1 " ++ decimal status ++ codes " " ++ reason_of status)

-- the media type of a body (RFC 6838)
abbrev pub media_type : BodyKind → List ℕ
media_type Page = codes "application/ld+json"
media_type Stops = codes "application/json"

-- the line of the body's media type
abbrev pub kind_line : Option BodyKind → List ℕ
kind_line None = []
kind_line (Some kind) = line (codes "Content-Type: " ++ media_type kind)

-- the line of the body's length
abbrev pub length_line : Option ℕ → List ℕ
length_line None = []
length_line (Some length) = line (codes "Content-Length: " ++ decimal length)

-- where the page is, which was chosen by the moment that the asker knows
abbrev pub location_lines : Option (List ℕ) → List ℕ
location_lines None = []
location_lines (Some url) = line (codes "Location: " ++ url) ++ line (codes "Vary: accept-datetime")

-- the resource of which versions are chosen, which chooses itself
abbrev pub link_line : Option (List ℕ) → List ℕ
link_line None = []
link_line (Some url) = line (codes "Link: <" ++ url ++ codes ">; rel=\"original timegate\"")

-- the methods that a target takes
abbrev pub methods : Allow → List ℕ
methods Reading = codes "GET, HEAD"
methods Posting = codes "POST"

-- the line of the methods
abbrev pub allow_line : Option Allow → List ℕ
allow_line None = []
allow_line (Some allow) = line (codes "Allow: " ++ methods allow)

-- the line that ends the connection
abbrev pub close_line : Bool → List ℕ
close_line false = []
close_line true = line (codes "Connection: close")

-- the lines on the body
abbrev pub body_lines : ReplyParts → List ℕ
body_lines reply = kind_line reply.kind ++ length_line reply.length

-- the lines on where pages are, and of which version
abbrev pub target_lines : ReplyParts → List ℕ
target_lines reply =
    location_lines reply.location ++ moment_line (codes "Memento-Datetime: ") reply.memento ++ link_line reply.original

-- the lines of the head in their order, an empty line, and the body
abbrev pub reply_text_of : ReplyParts → List ℕ
reply_text_of reply =
    status_line reply.status ++ body_lines reply ++ target_lines reply ++ allow_line reply.allow
    ++ close_line reply.close ++ crlf_bytes ++ reply.body

-- The text of the reply can be read back. Its URLs can be in a field, the length is that of the body, and neither
-- the head nor the body is too long.
pub record IsReadable (reply : ReplyParts) (text : List ℕ) : Type 0 where
  pub location_bytes : IfSome reply.location (λ url. AllPass is_uri_byte url × IsUtf8 url)
  pub original_bytes : IfSome reply.original (AllPass is_value_byte)
  pub length_is : IfSome reply.length (λ len. len ≡ length reply.body)
  pub body_fits : length reply.body < 10_000_000_000
  pub head_fits : length text ≤ 16_384 + length reply.body

-- what the text of the reply says
abbrev pub reply_said : ReplyParts → List ℕ → Reply
reply_said reply text = record {
  status = reply.status;
  location = reply.location;
  memento = reply.memento;
  body_from = length text - length reply.body;
  body_to = length text;
}
