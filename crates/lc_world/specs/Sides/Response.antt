-- What a publisher says to a request (RFC 7089, section 4.2; RFC 9110, section 15). It says the page that is meant, a page, the stops
-- document, or a status.
use Rattle.std.specs.Prelude.{◌≡◌, ℕ, ◌+◌, nat_le, nat_lt, Bool, true, false, ◌||◌, List, length, sum_by, codes, Option, Some, None, is_some, if◌then◌else◌}
use Rattle.lc_model.specs.declared.connection.Connection.{Connection}
use Rattle.lc_time.specs.Iso.{SaysMoment}
use Rattle.lc_model.specs.Versions.History.{Entry}
use Rattle.lc_model.specs.Versions.Pages.{departures_of}
use Rattle.lc_model.specs.declared.versions.update.Update.{Update}
use Rattle.http_text.specs.declared.request.Request.{Request}
use Rattle.memento.specs.Negotiation.{Negotiates}
use Rattle.page_json.specs.Sound.{IsSoundDoc, IsSoundName, IsSoundPage}
use Rattle.page_json.specs.declared.page.Page.{Page}
use Rattle.trip_updates.specs.Message.{IsMessage}
use Rattle.lc_world.specs.Sides.Asked.{asked_of, field_value, member_value}
use Rattle.lc_world.specs.Sides.PageAt.{page_at}
use Rattle.lc_world.specs.Sides.Side.{IsTimetableAt, Side, has_version, newest_of, versions_of}
use Rattle.lc_world.specs.declared.sides.asked.Asked.{Asked}
use Rattle.lc_world.specs.declared.sides.asked.Asked.TheVariants as kinds
use Rattle.lc_world.specs.declared.sides.response.Response.{Response}
use Rattle.lc_world.specs.declared.sides.response.Response.TheVariants.{Status, OtherMethod, Found, Stops}
use Rattle.lc_world.specs.declared.sides.response.Response.TheVariants as responses

-- the value of which it is so, if there is one
abbrev pub IsTheOne : {X : Type 0} → (X → Type 0) → Option X → Type 0
IsTheOne {X} IsSo None = (x : X) → ¬ IsSo x
IsTheOne IsSo (Some x) = IsSo x

-- the moment of departure that a request says: moment 0 where it says none
abbrev pub SaysDeparture : Option (List ℕ) → ℕ → Type 0
SaysDeparture None moment = moment ≡ 0
SaysDeparture (Some text) moment = SaysMoment text moment

-- the version that a request says
abbrev pub SaysVersion : Option (List ℕ) → ℕ → Type 0
SaysVersion None version = ⊥
SaysVersion (Some text) version = SaysMoment text version

-- the moment of departure that a request says, if what it says is one
abbrev pub IsDeparture : Request → Option ℕ → Type 0
IsDeparture request departs = IsTheOne (SaysDeparture (member_value (codes "departureTime") request.query)) departs

-- the version that a request for a page says, if what it says is a moment
abbrev pub IsVersion : Request → Option ℕ → Type 0
IsVersion request version = IsTheOne (SaysVersion (member_value (codes "version") request.query)) version

-- the version that a request at the time gate means, if its Accept-Datetime is a date
abbrev pub IsNegotiated : Side → Request → Option ℕ → Type 0
IsNegotiated side request version = IsTheOne (Negotiates (versions_of side) (field_value (codes "accept-datetime") request.fields)) version

-- The page is the one for a moment of departure at a version of the side.
pub record IsPageOf (side : Side) (version departs : ℕ) (page : Page) : Type 0 where
  pub list : List Connection
  pub timetable : IsTimetableAt side version list
  pub is : page ≡ page_at version (side.cuts_of (departures_of list)) list departs

-- where the page for a moment of departure at a version is
pub record IsMovedTo (side : Side) (version departs : ℕ) (response : Response) : Type 0 where
  pub page : Page
  pub page_is : IsPageOf side version departs page
  pub sound : IsSoundName page.name
  pub is : response ≡ Found page.name departs

-- At the time gate: the page for the moment of departure at the version that is meant. Or it says that one of the two cannot be read.
abbrev pub IsGateResponse : Side → Option ℕ → Option ℕ → Response → Type 0
IsGateResponse side None version response = response ≡ Status 400
IsGateResponse side (Some departs) None response = response ≡ Status 400
IsGateResponse side (Some departs) (Some version) response = IsMovedTo side version departs response

-- the page for a moment of departure at a version, as its types have it
pub record IsSent (side : Side) (version departs : ℕ) (response : Response) : Type 0 where
  pub page : Page
  pub page_is : IsPageOf side version departs page
  pub sound : IsSoundPage page
  pub is : response ≡ responses.Page page

-- the page, where the side has the version
abbrev pub IsSentOf : Side → Bool → ℕ → ℕ → Response → Type 0
IsSentOf side true version departs response = IsSent side version departs response
IsSentOf side false version departs response = response ≡ Status 404

-- At a memento: the page for the moment of departure at the version. Or it says that there is no such version, or that one of the two is unreadable.
abbrev pub IsPageResponse : Side → Option ℕ → Option ℕ → Response → Type 0
IsPageResponse side version None response = response ≡ Status 400
IsPageResponse side None (Some departs) response = response ≡ Status 400
IsPageResponse side (Some version) (Some departs) response = IsSentOf side (has_version side version) version departs response

-- the bytes of the messages that were admitted
abbrev pub bytes_of : List Entry → ℕ
bytes_of history = sum_by (λ (e : Entry). e.bytes) history

-- no message of so many bytes is taken any more: 10,000 were, or all have more than 268,435,456 bytes with it
abbrev pub is_full : List Entry → ℕ → Bool
is_full history bytes = nat_le 10_000 (length history) || nat_lt 268_435_456 (bytes_of history + bytes)

-- what becomes of a message of so many bytes: 204 where it is admitted
abbrev pub status_of_message : Side → ℕ → Update → ℕ
status_of_message side bytes update =
    if nat_le update.moment (newest_of side) then 409 else (if is_full side.history bytes then 507 else 204)

-- what becomes of so many bytes that are a message or not
abbrev pub status_of_bytes : Side → ℕ → Option Update → ℕ
status_of_bytes side bytes None = 400
status_of_bytes side bytes (Some update) = status_of_message side bytes update

-- What becomes of a body: too long a one is not looked at. Of a whole request none is: its head says the length, and is refused with 413 before.
abbrev pub status_of_body : Side → List ℕ → Option Update → ℕ
status_of_body side body update = if nat_lt 16_777_216 (length body) then 413 else status_of_bytes side (length body) update

-- the message that a body is, if it is one
abbrev pub IsMessageIn : List ℕ → Option Update → Type 0
IsMessageIn body update = IsTheOne (IsMessage body) update

-- the request says the length of its body
abbrev pub says_length : Request → Bool
says_length request = is_some (field_value (codes "content-length") request.fields)

-- where messages are taken: what becomes of the body, where its length is said
abbrev pub status_of_update : Side → Request → List ℕ → Option Update → ℕ
status_of_update side request body update = if says_length request then status_of_body side body update else 411

-- the stops document, as its types have it
pub record IsStopsSent (side : Side) (response : Response) : Type 0 where
  pub sound : IsSoundDoc side.doc
  pub is : response ≡ Stops

-- what is said to a request with its body, by what it asks for
abbrev pub IsResponseTo : Side → Request → List ℕ → Asked → Response → Type 0
IsResponseTo side request body kinds.Gate response =
    (departs : Option ℕ) × (version : Option ℕ) × IsDeparture request departs × IsNegotiated side request version
    × IsGateResponse side departs version response
IsResponseTo side request body kinds.Page response =
    (departs : Option ℕ) × (version : Option ℕ) × IsDeparture request departs × IsVersion request version
    × IsPageResponse side version departs response
IsResponseTo side request body kinds.Stops response = IsStopsSent side response
IsResponseTo side request body kinds.Update response =
    (update : Option Update) × IsMessageIn body update × (response ≡ Status (status_of_update side request body update))
IsResponseTo side request body (kinds.OtherMethod allow) response = response ≡ OtherMethod allow
IsResponseTo side request body kinds.Nothing response = response ≡ Status 404

-- what the request asks the side for
abbrev pub asked_at : Side → Request → Asked
asked_at side request = asked_of side.base side.accepts_updates request.path request.method

-- what the side says to a request with its body
abbrev pub IsResponse : Side → Request → List ℕ → Response → Type 0
IsResponse side request body response = IsResponseTo side request body (asked_at side request) response

-- it is a page or the stops document, as they are at a version, and no status
abbrev pub IsDocument : Response → Type 0
IsDocument (Status status) = ⊥
IsDocument (OtherMethod allow) = ⊥
IsDocument (Found page departs) = ⊥
IsDocument (responses.Page page) = Unit {0}
IsDocument Stops = Unit {0}
