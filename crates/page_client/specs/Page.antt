-- The reply in which a client is sent a page.
use Rattle.std.specs.Prelude.{ℕ, Bool, true, false, not, ◌&&◌, ◌==◌, nat_lt, List, [], ◌∷◌, Option, Some, None, Result, Ok, Err, ◌≡◌, if◌then◌else◌}
use Rattle.lc_model.specs.Connection.{last_departure}
use Rattle.lc_model.specs.declared.connection.Connection.{Connection}
use Rattle.lc_model.specs.declared.page.PageName.{PageName}
use Rattle.connection_uri.specs.Base.{BaseParts}
use Rattle.http_text.specs.declared.reply.Reply.{Reply}
use Rattle.page_json.specs.PageReading.{page_of_bytes}
use Rattle.page_json.specs.declared.object_members.fault.PageFault.{PageFault}
use Rattle.page_json.specs.declared.page.Page.{Page}
use Rattle.page_client.specs.Fault.{Tested}
use Rattle.page_client.specs.Replied.{IsTested, body_of}
use Rattle.page_client.specs.declared.fault.PeerFault.{PeerFault}
use Rattle.page_client.specs.declared.fault.PeerFault.TheVariants.{Advance, Body, Identity}

-- the reply says this version (RFC 7089: Memento-Datetime)
abbrev pub is_of_version : ℕ → Option ℕ → Bool
is_of_version version None = false
is_of_version version (Some memento) = memento == version

-- the page is the one asked for, and was sent as a memento of its version
abbrev pub is_asked : PageName → Option ℕ → Page → Bool
is_asked name memento page =
    (page.name.version == name.version) && (page.name.departs == name.departs) && is_of_version name.version memento

-- the link, if there is one, leads to a later departure than the last of these
abbrev pub is_on_from : Option ℕ → Option PageName → Bool
is_on_from last None = true
is_on_from None (Some next) = false
is_on_from (Some last) (Some next) = nat_lt last next.departs

-- the first connection departs as the name says
abbrev pub begins_at : List Connection → ℕ → Bool
begins_at [] departs = true
begins_at (first ∷ rest) departs = first.dep == departs

-- The page begins with its name's departure, and its next link leads to a page after its last departure. Without connections it has no
-- next link.
abbrev pub advances : Page → Bool
advances page = begins_at page.list page.name.departs && is_on_from (last_departure page.list) page.next

-- a page that passes the tests: it has the name that was asked for, and advances
pub record Fits (name : PageName) (page : Page) : Type 0 where
  pub named : page.name ≡ name
  pub on : advances page ≡ true

-- the tests of a page that was read
abbrev pub tested_page : PageName → Option ℕ → Page → Result Page PeerFault
tested_page name memento page =
    if not (is_asked name memento page) then Err Identity
    else (if not (advances page) then Err Advance
    else Ok page)

-- the tests of what was read, which may be no page
abbrev pub tested_body : PageName → Option ℕ → Result Page PageFault → Result Page PeerFault
tested_body name memento (Ok page) = tested_page name memento page
tested_body name memento (Err fault) = Err (Body fault)

-- what the body of a reply says
pub record SaysPage (base : BaseParts) (name : PageName) (bytes : List ℕ) (reply : Reply) (result : Result Page PeerFault) : Type 0 where
  pub body : Result Page PageFault
  pub read : page_of_bytes base (body_of bytes reply) body
  pub is : result ≡ tested_body name reply.memento body

-- the page of this name that the bytes of a reply say, or the first test that they fail
abbrev pub IsPageReply : BaseParts → PageName → List ℕ → Tested Page
IsPageReply base name bytes = IsTested bytes 200 (SaysPage base name bytes)
