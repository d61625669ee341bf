-- Worked values: what requests ask for, pages with their links, and replies. Moments of pages are seconds of a day here.
use Rattle.std.specs.Prelude.{◌≡◌, ◌∷◌, ◌++◌, [], codes, true, false, Some, None}
use Rattle.lc_model.specs.declared.doc.StopsDoc.{StopsDoc}
use Rattle.lc_model.specs.declared.key.RunKey.{RunKey}
use Rattle.lc_model.specs.Versions.Worked.{at, connections_at}
use Rattle.connection_uri.specs.Base.{BaseParts}
use Rattle.http_text.specs.Line.{line}
use Rattle.http_text.specs.ReplyText.{reply_text_of}
use Rattle.http_text.specs.declared.reply_parts.Allow.TheVariants.{Posting, Reading}
use Rattle.httparse.specs.Ascii.{crlf_bytes}
use Rattle.lc_world.specs.Sides.Asked.{asked_of, field_value, member_value}
use Rattle.lc_world.specs.Sides.PageAt.{named, page_at}
use Rattle.lc_world.specs.Sides.Reply.{parts_of, sent_parts}
use Rattle.lc_world.specs.declared.sides.asked.Asked.TheVariants.{Gate, Page, Stops, Update, OtherMethod, Nothing}
use Rattle.lc_world.specs.declared.sides.response.Response.TheVariants as responses

-- the base http://lc.example/a/
abbrev pub example_base : BaseParts
example_base = record { text = codes "http://lc.example/a/"; authority = codes "lc.example"; path = codes "/a/" }

-- What is asked for under that base, where messages are taken and where they are not.
pub record WorkedAsked : Type 0 where
  pub gate : asked_of example_base false (codes "/a/connections") (codes "GET") ≡ Gate
  pub page : asked_of example_base false (codes "/a/memento/connections") (codes "HEAD") ≡ Page
  pub stops : asked_of example_base false (codes "/a/stops") (codes "GET") ≡ Stops
  pub update : asked_of example_base true (codes "/a/updates") (codes "POST") ≡ Update
  pub not_opened : asked_of example_base false (codes "/a/updates") (codes "POST") ≡ Nothing
  pub posted_to_gate : asked_of example_base true (codes "/a/connections") (codes "POST") ≡ OtherMethod Reading
  pub updates_read : asked_of example_base true (codes "/a/updates") (codes "GET") ≡ OtherMethod Posting
  pub small_letters : asked_of example_base true (codes "/a/stops") (codes "get") ≡ OtherMethod Reading
  pub other_base : asked_of example_base true (codes "/stops") (codes "GET") ≡ Nothing
  pub longer : asked_of example_base true (codes "/a/stops/") (codes "GET") ≡ Nothing

-- The first value of a name counts. The names of fields have no case, those of members do.
pub record WorkedValues : Type 0 where
  pub field :
      field_value (codes "accept-datetime") (record { name = codes "Accept-Datetime"; value = codes "a" } ∷ record { name = codes "accept-datetime"; value = codes "b" } ∷ [])
      ≡ Some (codes "a")
  pub member :
      member_value (codes "version") (record { name = codes "Version"; value = codes "a" } ∷ record { name = codes "version"; value = codes "b" } ∷ [])
      ≡ Some (codes "b")
  pub no_member : member_value (codes "version") [] ≡ None

-- The departures 08:00, 08:11, 08:11 again, 08:20, 09:00 and 10:00 by the cuts 08:00, 09:00 and 10:00. The pages for some moments, with
-- their links, and the empty page.
pub record WorkedPages (key : RunKey) : Type 0 where
  pub first :
      page_at 7 (at 8 0 ∷ at 9 0 ∷ at 10 0 ∷ []) (connections_at key (at 8 0 ∷ at 8 11 ∷ at 8 11 ∷ at 8 20 ∷ at 9 0 ∷ at 10 0 ∷ [])) (at 8 59)
      ≡ record { name = named 7 (at 8 0); next = Some (named 7 (at 9 0)); previous = None; list = connections_at key (at 8 0 ∷ at 8 11 ∷ at 8 11 ∷ at 8 20 ∷ []) }
  pub before_all :
      page_at 7 (at 8 0 ∷ at 9 0 ∷ []) (connections_at key (at 8 0 ∷ at 9 0 ∷ [])) 0
      ≡ record { name = named 7 (at 8 0); next = Some (named 7 (at 9 0)); previous = None; list = connections_at key (at 8 0 ∷ []) }
  pub middle :
      page_at 7 (at 8 0 ∷ at 9 0 ∷ at 10 0 ∷ []) (connections_at key (at 8 0 ∷ at 9 0 ∷ at 10 0 ∷ [])) (at 9 0)
      ≡ record { name = named 7 (at 9 0); next = Some (named 7 (at 10 0)); previous = Some (named 7 (at 8 0)); list = connections_at key (at 9 0 ∷ []) }
  pub last :
      page_at 7 (at 8 0 ∷ at 9 0 ∷ at 10 0 ∷ []) (connections_at key (at 8 0 ∷ at 9 0 ∷ at 10 0 ∷ [])) (at 23 0)
      ≡ record { name = named 7 (at 10 0); next = None; previous = Some (named 7 (at 9 0)); list = connections_at key (at 10 0 ∷ []) }
  pub empty : page_at 7 [] [] (at 8 0) ≡ record { name = named 7 0; next = None; previous = None; list = [] }

-- The reply at the time gate for 2024-05-01T08:00:00Z at the version of 07:00:00. A status, one that closes, an unknown method, and a
-- reply to a HEAD.
pub record WorkedReplies (doc : StopsDoc) : Type 0 where
  pub found :
      reply_text_of (parts_of example_base doc false (responses.Found (named 1_714_546_800 1_714_550_400) 1_714_550_400)) ≡
      line (codes "HTTP/1.1 302 Found") ++ line (codes "Content-Length: 0")
      ++ line (codes "Location: http://lc.example/a/memento/connections?version=2024-05-01T07:00:00.000Z&departureTime=2024-05-01T08:00:00.000Z")
      ++ line (codes "Vary: accept-datetime")
      ++ line (codes "Link: <http://lc.example/a/connections?departureTime=2024-05-01T08:00:00.000Z>; rel=\"original timegate\"") ++ crlf_bytes
  pub unknown : reply_text_of (parts_of example_base doc true (responses.Status 404)) ≡
      line (codes "HTTP/1.1 404 Not Found") ++ line (codes "Content-Length: 0") ++ line (codes "Connection: close") ++ crlf_bytes
  pub admitted : reply_text_of (parts_of example_base doc false (responses.Status 204)) ≡ line (codes "HTTP/1.1 204 No Content") ++ crlf_bytes
  pub other_method : reply_text_of (parts_of example_base doc false (responses.OtherMethod Reading)) ≡
      line (codes "HTTP/1.1 405 Method Not Allowed") ++ line (codes "Content-Length: 0") ++ line (codes "Allow: GET, HEAD") ++ crlf_bytes
  pub head : reply_text_of (sent_parts true (record (parts_of example_base doc false (responses.Status 200)) { length = Some 3; body = codes "abc" })) ≡
      line (codes "HTTP/1.1 200 OK") ++ line (codes "Content-Length: 3") ++ crlf_bytes
