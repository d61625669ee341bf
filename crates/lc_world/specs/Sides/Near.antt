-- Near values that the definitions of a side refuse: wrong timetables, wrong sides, wrong versions and wrong replies.
use Rattle.std.specs.Prelude.{◌≡◌, ◌≢◌, ◌⊎◌, ℕ, ◌<◌, ◌≤◌, true, false, codes, List, [], ◌∷◌, ◌++◌, length, take, Some, None}
use Rattle.std.specs.List.{Contains}
use Rattle.lc_model.specs.Connection.{connections_of_calls}
use Rattle.lc_model.specs.declared.connection.Connection.{Connection}
use Rattle.lc_model.specs.declared.run.Run.{Run}
use Rattle.lc_time.specs.Http.{SaysHttpDate}
use Rattle.lc_model.specs.Versions.Added.{IsFurtherRun}
use Rattle.lc_model.specs.Versions.History.{Entry, IsRising, news_at}
use Rattle.lc_model.specs.Versions.Timetable.{IsLiveRun}
use Rattle.memento.specs.Negotiation.{Negotiates}
use Rattle.page_json.specs.declared.page.Page.{Page}
use Rattle.http_text.specs.Request.{IsWholeRequest}
use Rattle.http_text.specs.declared.request.Request.{Request}
use Rattle.lc_model.specs.declared.page.PageName.{PageName}
use Rattle.lc_world.specs.Sides.Asked.{is_head}
use Rattle.lc_world.specs.Sides.Reply.{HasReply, IsNextSide, IsReply, parts_of, text_said}
use Rattle.lc_world.specs.Sides.Response.{IsDeparture, IsNegotiated, IsPageOf, IsVersion, asked_at}
use Rattle.lc_world.specs.Sides.Side.{IsLater, IsTimetableAt, Side, date_in, has_version}
use Rattle.lc_world.specs.declared.sides.asked.Asked.TheVariants as kinds
use Rattle.lc_world.specs.declared.sides.response.Response.{Response}
use Rattle.lc_world.specs.declared.sides.response.Response.TheVariants as responses

-- no connection is twice in a timetable
abbrev pub NoneTwice : Type 0
NoneTwice =
    (side : Side) (version : ℕ) (before between behind : List Connection) (c : Connection) → IsTimetableAt side version (before ++ c ∷ between ++ c ∷ behind) → ⊥

-- none is before one that departs earlier
abbrev pub NoneTooEarly : Type 0
NoneTooEarly =
    (side : Side) (version : ℕ) (before behind : List Connection) (late early : Connection) → early.dep < late.dep
    → IsTimetableAt side version (before ++ late ∷ early ∷ behind) → ⊥

-- the run is live at a version of the side, with these calls
abbrev pub RunsAt : Side → ℕ → Run → Type 0
RunsAt side version run =
    IsLiveRun side.runs (news_at (date_in side.zone) side.history version) run
    ⊎ IsFurtherRun side.runs side.doc.stops (news_at (date_in side.zone) side.history version) run

-- none is left out
abbrev pub NoneIsLeftOut : Type 0
NoneIsLeftOut =
    (side : Side) (version : ℕ) (list : List Connection) (run : Run) (c : Connection) → IsTimetableAt side version list → RunsAt side version run
    → Contains (connections_of_calls run.key run.calls) c → Contains list c

-- a live run that has the connection
pub record HasConnection (side : Side) (version : ℕ) (c : Connection) : Type 0 where
  pub run : Run
  pub runs : RunsAt side version run
  pub has : Contains (connections_of_calls run.key run.calls) c

-- and none is made up
abbrev pub NoneIsMadeUp : Type 0
NoneIsMadeUp = (side : Side) (version : ℕ) (list : List Connection) (c : Connection) → IsTimetableAt side version list → Contains list c → HasConnection side version c

-- a timetable is not empty where a run has two calls
abbrev pub NotEmpty : Type 0
NotEmpty = (side : Side) (version : ℕ) (run : Run) → RunsAt side version run → 2 ≤ length run.calls → IsTimetableAt side version [] → ⊥

-- a page is of the version that is asked, with no other links, no other list and no other name
pub record OnePage (side : Side) (version departs : ℕ) (page : Page) : Type 0 where
  pub of_version : page.name.version ≡ version
  pub other : (wrong : Page) → wrong ≢ page → IsPageOf side version departs wrong → ⊥

-- each page of a side is the only one of its name
abbrev pub PagesAreOne : Type 0
PagesAreOne = (side : Side) (version departs : ℕ) (page : Page) → IsPageOf side version departs page → OnePage side version departs page

-- the messages of a side are the first ones of a later side, in their order, and what was published beside them stays
pub record KeepsAll (before after : Side) : Type 0 where
  pub history : take (length before.history) after.history ≡ before.history
  pub runs : after.runs ≡ before.runs
  pub doc : after.doc ≡ before.doc
  pub base : after.base ≡ before.base
  pub base_moment : after.base_moment ≡ before.base_moment
  pub zone : after.zone ≡ before.zone
  pub accepts_updates : after.accepts_updates ≡ before.accepts_updates
  pub cuts_of : after.cuts_of ≡ before.cuts_of

-- a later side keeps all of the one before
abbrev pub NothingIsLost : Type 0
NothingIsLost = (before after : Side) → IsLater before after → KeepsAll before after

-- a side that lost its messages is none that a request leaves
abbrev pub NoneForgets : Type 0
NoneForgets = (side : Side) (bytes : List ℕ) → 1 ≤ length side.history → IsNextSide side bytes (record side { history = [] }) → ⊥

-- the messages of the second side are those of the first, with one after them
pub record HasOneMore (side next : Side) : Type 0 where
  pub entry : Entry
  pub history : next.history ≡ side.history ++ entry ∷ []

-- a request brings at most one message
abbrev pub AtMostOneMore : Type 0
AtMostOneMore = (side next : Side) (bytes : List ℕ) → IsNextSide side bytes next → (next.history ≡ side.history) ⊎ HasOneMore side next

-- the bytes that were admitted are not admitted a second time
abbrev pub AdmittedOnce : Type 0
AdmittedOnce =
    (side next : Side) (bytes first again : List ℕ) → HasReply side bytes (responses.Status 204) first → IsNextSide side bytes next
    → HasReply next bytes (responses.Status 204) again → ⊥

-- by a known moment no version after it is meant but the base, and none before the last one that is not after it
abbrev pub NoneLaterIsMeant : Type 0
NoneLaterIsMeant =
    (base : ℕ) (moments text : List ℕ) (known version : ℕ) → IsRising base moments → SaysHttpDate text known → Negotiates (base ∷ moments) (Some text) version
    → ((version ≤ known) ⊎ (version ≡ base)) × ((other : ℕ) → Contains (base ∷ moments) other → other ≤ known → other ≤ version)

-- where none is known the newest is meant
abbrev pub NoneOlderIsMeant : Type 0
NoneOlderIsMeant =
    (base : ℕ) (moments : List ℕ) (version : ℕ) → IsRising base moments → Negotiates (base ∷ moments) None version
    → (other : ℕ) → Contains (base ∷ moments) other → other ≤ version

-- a page is sent of versions that the side has, and of no others
abbrev pub SentOfItsVersions : Type 0
SentOfItsVersions =
    (side : Side) (bytes text : List ℕ) (page : Page) → HasReply side bytes (responses.Page page) text → has_version side page.name.version ≡ true

-- what is asked for a page at a version: the head, the version and the moment of departure
pub record AsksPage (side : Side) (bytes : List ℕ) (version departs : ℕ) : Type 0 where
  pub request : Request
  pub whole : IsWholeRequest bytes request
  pub asks : asked_at side request ≡ kinds.Page
  pub version_said : IsVersion request (Some version)
  pub departs_said : IsDeparture request (Some departs)

-- where the side has the version, the reply is that page and has the status 200; where it has not, it is 404
pub record IsPageSent (side : Side) (version departs : ℕ) (request : Request) (text : List ℕ) : Type 0 where
  pub page : Page
  pub page_is : IsPageOf side version departs page
  pub text_is : text ≡ text_said side request (responses.Page page)

-- a page of a version that is there is sent
abbrev pub SentWhereThere : Type 0
SentWhereThere =
    (side : Side) (bytes text : List ℕ) (version departs : ℕ) (asks : AsksPage side bytes version departs) → has_version side version ≡ true → IsReply side bytes text
    → IsPageSent side version departs asks.request text

-- a page of a version that is not there is not found
abbrev pub NotFoundWhereNot : Type 0
NotFoundWhereNot =
    (side : Side) (bytes text : List ℕ) (version departs : ℕ) (asks : AsksPage side bytes version departs) → has_version side version ≡ false → IsReply side bytes text
    → text ≡ text_said side asks.request (responses.Status 404)

-- a page is not sent as 404
abbrev pub PagesAreFound : Type 0
PagesAreFound = (side : Side) (request : Request) (page : Page) → text_said side request (responses.Page page) ≡ text_said side request (responses.Status 404) → ⊥

-- the time gate sends on to the version that is meant, and to no other
abbrev pub MovedToTheMeant : Type 0
MovedToTheMeant =
    (side : Side) (bytes text : List ℕ) (name : PageName) (departs version : ℕ) (has : HasReply side bytes (responses.Found name departs) text)
    → IsNegotiated side has.request (Some version) → name.version ≡ version

-- no reply is empty
abbrev pub NoneIsEmpty : Type 0
NoneIsEmpty = (side : Side) (bytes : List ℕ) → IsReply side bytes [] → ⊥

-- the request with HEAD as its method
abbrev pub as_head : Request → Request
as_head request = record request { method = codes "HEAD" }

-- what is sent to a HEAD is what is sent to another method without its body
abbrev pub HeadsHaveNoBody : Type 0
HeadsHaveNoBody =
    (side : Side) (request : Request) (response : Response) → is_head request.method ≡ false
    → text_said side request response ≡ text_said side (as_head request) response ++ (parts_of side.base side.doc request.close response).body
