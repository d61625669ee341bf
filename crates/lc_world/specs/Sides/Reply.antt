-- The replies of a side as bytes, and the side that a request leaves.
use Rattle.std.specs.Prelude.{◌≡◌, ℕ, ◌==◌, Bool, List, [], length, drop, Option, Some, None, if◌then◌else◌}
use Rattle.lc_model.specs.declared.doc.StopsDoc.{StopsDoc}
use Rattle.lc_model.specs.declared.page.PageName.{PageName}
use Rattle.lc_model.specs.declared.versions.update.Update.{Update}
use Rattle.connection_uri.specs.Base.{BaseParts}
use Rattle.connection_uri.specs.Page.{gate_url_of, page_url_of}
use Rattle.http_text.specs.ReplyText.{reply_text_of}
use Rattle.http_text.specs.Request.{IsWholeRequest}
use Rattle.http_text.specs.declared.reply_parts.Allow.{Allow}
use Rattle.http_text.specs.declared.reply_parts.BodyKind.TheVariants as bodies
use Rattle.http_text.specs.declared.reply_parts.ReplyParts.{ReplyParts}
use Rattle.http_text.specs.declared.request.Request.{Request}
use Rattle.page_json.specs.Tree.{page_text_of, stops_text_of}
use Rattle.page_json.specs.declared.page.Page.{Page}
use Rattle.lc_world.specs.Sides.Asked.{is_head}
use Rattle.lc_world.specs.Sides.Response.{IsMessageIn, IsResponse, asked_at, status_of_update}
use Rattle.lc_world.specs.Sides.Side.{Side, with_message}
use Rattle.lc_world.specs.declared.sides.asked.Asked.{Asked}
use Rattle.lc_world.specs.declared.sides.asked.Asked.TheVariants as kinds
use Rattle.lc_world.specs.declared.sides.response.Response.{Response}
use Rattle.lc_world.specs.declared.sides.response.Response.TheVariants as responses

-- a status and nothing else
abbrev pub bare_parts : Bool → ℕ → ReplyParts
bare_parts close status = record {
  status = status;
  kind = None;
  length = if status == 204 then None else Some 0;
  location = None;
  memento = None;
  original = None;
  allow = None;
  close = close;
  body = [];
}

-- the resource has other methods
abbrev pub method_parts : Bool → Allow → ReplyParts
method_parts close allow = record (bare_parts close 405) { allow = Some allow }

-- where the page for departures from a moment on is (RFC 7089, section 4.2.1)
abbrev pub found_parts : BaseParts → Bool → PageName → ℕ → ReplyParts
found_parts base close page departs =
    record (bare_parts close 302) { location = Some (page_url_of base page); original = Some (gate_url_of base departs) }

-- a page, as it was at its version (RFC 7089, section 2.1: Memento-Datetime)
abbrev pub page_parts : BaseParts → Bool → Page → ReplyParts
page_parts base close page = record (bare_parts close 200) {
  kind = Some bodies.Page;
  length = Some (length (page_text_of base page));
  memento = Some page.name.version;
  original = Some (gate_url_of base page.name.departs);
  body = page_text_of base page;
}

-- the stops document
abbrev pub stops_parts : BaseParts → Bool → StopsDoc → ReplyParts
stops_parts base close doc = record (bare_parts close 200) {
  kind = Some bodies.Stops;
  length = Some (length (stops_text_of base doc));
  body = stops_text_of base doc;
}

-- the parts of the reply that says this, with its body
abbrev pub parts_of : BaseParts → StopsDoc → Bool → Response → ReplyParts
parts_of base doc close (responses.Status status) = bare_parts close status
parts_of base doc close (responses.OtherMethod allow) = method_parts close allow
parts_of base doc close (responses.Found page departs) = found_parts base close page departs
parts_of base doc close (responses.Page page) = page_parts base close page
parts_of base doc close responses.Stops = stops_parts base close doc

-- the parts that are sent: a HEAD is answered without the body
abbrev pub sent_parts : Bool → ReplyParts → ReplyParts
sent_parts head parts = if head then record parts { body = [] } else parts

-- the text of the reply to a request that says this
abbrev pub text_said : Side → Request → Response → List ℕ
text_said side request response = reply_text_of (sent_parts (is_head request.method) (parts_of side.base side.doc request.close response))

-- the bytes are one whole request, to which the side says this, and its text is this
pub record HasReply (side : Side) (bytes : List ℕ) (response : Response) (text : List ℕ) : Type 0 where
  pub request : Request
  pub whole : IsWholeRequest bytes request
  pub said : IsResponse side request (drop request.body_from bytes) response
  pub text_is : text ≡ text_said side request response

-- the reply of the side to the bytes of one whole request
abbrev pub IsReply : Side → List ℕ → List ℕ → Type 0
IsReply side bytes text = (response : Response) × HasReply side bytes response text

-- the side after a body that is a message or not
abbrev pub side_behind : Side → Request → List ℕ → Option Update → Side
side_behind side request body None = side
side_behind side request body (Some update) =
    if status_of_update side request body (Some update) == 204 then with_message side update (length body) else side

-- the side that a request with its body leaves, by what it asks for: a message that is admitted is one more
abbrev pub IsBehind : Side → Request → List ℕ → Asked → Side → Type 0
IsBehind side request body kinds.Gate next = next ≡ side
IsBehind side request body kinds.Page next = next ≡ side
IsBehind side request body kinds.Stops next = next ≡ side
IsBehind side request body kinds.Update next = (update : Option Update) × IsMessageIn body update × (next ≡ side_behind side request body update)
IsBehind side request body (kinds.OtherMethod allow) next = next ≡ side
IsBehind side request body kinds.Nothing next = next ≡ side

-- the side that the bytes of one whole request leave
pub record IsNextSide (side : Side) (bytes : List ℕ) (next : Side) : Type 0 where
  pub request : Request
  pub whole : IsWholeRequest bytes request
  pub behind : IsBehind side request (drop request.body_from bytes) (asked_at side request) next
