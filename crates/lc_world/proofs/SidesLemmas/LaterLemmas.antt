-- Later sides: what a request leaves, and what stays.
use Rattle.std.proofs.Common.{◌≡◌, ℕ, ◌<◌, List, [], ◌++◌, drop, length, Bool, true, false, Option, Some, None, refl, ap, sym, subst, ◌∙◌}
use Rattle.std.specs.Prelude.{nat_le, nat_lt, ◌==◌, if◌then◌else◌}
use Rattle.std.proofs.lemmas.Bool.{leb-false}
use Rattle.std.proofs.lemmas.List.{append-nil, append_assoc}
use Rattle.lc_model.specs.declared.connection.Connection.{Connection}
use Rattle.lc_model.specs.Versions.History.{Entry, IsRising, moments_of}
use Rattle.lc_model.specs.Versions.News.{TripSaid}
use Rattle.lc_model.specs.Versions.Timetable.{AreLiveRuns}
use Rattle.lc_model.specs.declared.versions.update.Update.{Update}
use Rattle.http_text.specs.declared.request.Request.{Request}
use Rattle.lc_world.specs.Sides.Reply.{HasReply, IsBehind, IsNextSide, side_behind}
use Rattle.lc_world.specs.Sides.Response.{IsDocument, IsGateResponse, IsPageResponse, IsResponseTo, IsSentOf, asked_at, is_full, says_length, status_of_update}
use Rattle.lc_world.specs.Sides.Side.{IsLater, IsTimetableAt, IsValidSide, Side, date_in, has_version, newest_of, with_message}
use Rattle.lc_world.specs.declared.sides.asked.Asked.{Asked}
use Rattle.lc_world.specs.declared.sides.asked.Asked.TheVariants as kinds
use Rattle.lc_world.specs.declared.sides.response.Response.{Response}
use Rattle.lc_world.specs.declared.sides.response.Response.TheVariants.{Status}
use Rattle.lc_world.proofs.SidesLemmas.VersionLemmas.{history_rises, later_moments, news_stay, still_found}

-- the side with these messages after its own
abbrev pub with_more : Side → List Entry → Side
with_more side more = record side { history = side.history ++ more }

-- a side is a later one of itself
pub later_itself : (side : Side) → IsLater side side
later_itself side = record { more = []; is = ap (λ (history : List Entry). record side { history = history }) (sym (append-nil side.history)) }

-- a later one of a later one is a later one
pub later_on : (a b c : Side) → IsLater a b → IsLater b c → IsLater a c
later_on a b c first second = record {
  more = first.more ++ second.more;
  is =
      second.is ∙ ap (λ (side : Side). with_more side second.more) first.is
      ∙ ap (λ (history : List Entry). record a { history = history }) (append_assoc a.history first.more second.more);
}

-- the timetable of a version is the same after more messages
pub timetable_stays : (side : Side) (more : List Entry) (version : ℕ) (list : List Connection) → IsRising side.base_moment (moments_of (side.history ++ more))
    → has_version side version ≡ true → IsTimetableAt side version list → IsTimetableAt (with_more side more) version list
timetable_stays side more version list rising there t = record {
  live = t.live;
  are_live =
      subst (λ (news : List TripSaid). AreLiveRuns side.runs side.doc.stops news t.live)
      (sym (news_stay (date_in side.zone) side.history more version (later_moments side.base_moment side.history more version rising there))) t.are_live;
  are_connections = t.are_connections;
}

pub timetables_stay : (before after : Side) (version : ℕ) (list : List Connection) → IsValidSide after → IsLater before after → has_version before version ≡ true
    → IsTimetableAt before version list → IsTimetableAt after version list
timetables_stay before after version list valid later there t =
    subst (λ (side : Side). IsValidSide side → IsTimetableAt side version list) (sym later.is)
    (λ rises. timetable_stays before later.more version list rises.rising there t) valid

-- a status is no document
no_status : (response : Response) (status : ℕ) → response ≡ Status status → IsDocument response → ⊥
no_status response status is document = subst IsDocument is document

no_gate : (side : Side) (departs version : Option ℕ) (response : Response) → IsGateResponse side departs version response → IsDocument response → ⊥
no_gate side None version response is document = no_status response 400 is document
no_gate side (Some departs) None response is document = no_status response 400 is document
no_gate side (Some departs) (Some version) response is document = subst IsDocument is.is document

-- a page that was sent is sent after more messages
sent_stays : (side : Side) (more : List Entry) (there now : Bool) (version departs : ℕ) (response : Response) → IsRising side.base_moment (moments_of (side.history ++ more))
    → has_version side version ≡ there → has_version (with_more side more) version ≡ now → IsDocument response
    → IsSentOf side there version departs response → IsSentOf (with_more side more) now version departs response
sent_stays side more false now version departs response rising is still document sent = absurd (no_status response 404 sent document)
sent_stays side more true false version departs response rising is still document sent =
    absurd (let clash : true ≡ false = sym (still_found side.base_moment side.history more version is) ∙ still in cc)
sent_stays side more true true version departs response rising is still document sent = record {
  page = sent.page;
  page_is = record { list = sent.page_is.list; timetable = timetable_stays side more version sent.page_is.list rising is sent.page_is.timetable; is = sent.page_is.is };
  sound = sent.sound;
  is = sent.is;
}

page_stays : (side : Side) (more : List Entry) (version departs : Option ℕ) (response : Response) → IsRising side.base_moment (moments_of (side.history ++ more))
    → IsDocument response → IsPageResponse side version departs response → IsPageResponse (with_more side more) version departs response
page_stays side more version None response rising document is = is
page_stays side more None (Some departs) response rising document is = is
page_stays side more (Some version) (Some departs) response rising document is =
    sent_stays side more (has_version side version) (has_version (with_more side more) version) version departs response rising refl refl document is

response_stays : (side : Side) (more : List Entry) (request : Request) (body : List ℕ) (asked : Asked) (response : Response)
    → IsRising side.base_moment (moments_of (side.history ++ more)) → IsDocument response
    → IsResponseTo side request body asked response → IsResponseTo (with_more side more) request body asked response
response_stays side more request body kinds.Gate response rising document (departs, version, is_departs, is_version, is) = absurd (no_gate side departs version response is document)
response_stays side more request body kinds.Page response rising document (departs, version, is_departs, is_version, is) =
    (departs, version, is_departs, is_version, page_stays side more version departs response rising document is)
response_stays side more request body kinds.Stops response rising document is = record { sound = is.sound; is = is.is }
response_stays side more request body kinds.Update response rising document (update, is_update, is) = absurd (no_status response _ is document)
response_stays side more request body (kinds.OtherMethod allow) response rising document is = absurd (subst IsDocument is document)
response_stays side more request body kinds.Nothing response rising document is = absurd (no_status response 404 is document)

pub mementos_stay : (before after : Side) (bytes : List ℕ) (response : Response) (text : List ℕ) → IsValidSide after → IsLater before after
    → IsDocument response → HasReply before bytes response text → HasReply after bytes response text
mementos_stay before after bytes response text valid later document reply =
    subst (λ (side : Side). IsValidSide side → HasReply side bytes response text) (sym later.is)
    (λ rises. record {
      request = reply.request;
      whole = reply.whole;
      said = response_stays before later.more reply.request (drop reply.request.body_from bytes) (asked_at before reply.request) response rises.rising document reply.said;
      text_is = reply.text_is;
    }) valid

-- a side that is the same is a later one
same_is_later : (side next : Side) → next ≡ side → IsLater side next
same_is_later side next same = subst (λ (s : Side). IsLater side s) (sym same) (later_itself side)

behind_or_not : (side : Side) (update : Update) (bytes : ℕ) (admitted : Bool) (next : Side) → next ≡ (if admitted then with_message side update bytes else side) → IsLater side next
behind_or_not side update bytes true next is = record { more = _; is = is }
behind_or_not side update bytes false next is = same_is_later side next is

later_behind : (side : Side) (request : Request) (body : List ℕ) (update : Option Update) (next : Side) → next ≡ side_behind side request body update → IsLater side next
later_behind side request body None next is = same_is_later side next is
later_behind side request body (Some update) next is =
    behind_or_not side update (length body) (status_of_update side request body (Some update) == 204) next is

is_later_behind : (side : Side) (request : Request) (body : List ℕ) (asked : Asked) (next : Side) → IsBehind side request body asked next → IsLater side next
is_later_behind side request body kinds.Gate next is = same_is_later side next is
is_later_behind side request body kinds.Page next is = same_is_later side next is
is_later_behind side request body kinds.Stops next is = same_is_later side next is
is_later_behind side request body kinds.Update next (update, is_update, is) = later_behind side request body update next is
is_later_behind side request body (kinds.OtherMethod allow) next is = same_is_later side next is
is_later_behind side request body kinds.Nothing next is = same_is_later side next is

pub next_is_later : (side : Side) (bytes : List ℕ) (next : Side) → IsNextSide side bytes next → IsLater side next
next_is_later side bytes next step = is_later_behind side step.request (drop step.request.body_from bytes) (asked_at side step.request) next step.behind

-- a message that is admitted is not an old one
not_old : (said long old full : Bool) → ((if said then (if long then 413 else (if old then 409 else (if full then 507 else 204))) else 411) == 204) ≡ true → old ≡ false
not_old false long old full admitted = cc
not_old true true old full admitted = cc
not_old true false true full admitted = cc
not_old true false false full admitted = refl

-- an admitted message is newer than the side
pub newer : (side : Side) (request : Request) (body : List ℕ) (update : Update) → (status_of_update side request body (Some update) == 204) ≡ true → newest_of side < update.moment
newer side request body update admitted =
    leb-false update.moment (newest_of side)
    (not_old (says_length request) (nat_lt 16_777_216 (length body)) (nat_le update.moment (newest_of side)) (is_full side.history (length body)) admitted)

-- with a message that is newer a valid side is valid
pub valid_with : (side : Side) (update : Update) (bytes : ℕ) → IsValidSide side → newest_of side < update.moment → IsValidSide (with_message side update bytes)
valid_with side update bytes valid above = record {
  runs = valid.runs;
  calls = valid.calls;
  doc = valid.doc;
  base = valid.base;
  rising = history_rises side.base_moment side.history (record { update = update; bytes = bytes; cuts = [] }) valid.rising above;
  lawful = valid.lawful;
}

valid_or_not : (side : Side) (request : Request) (body : List ℕ) (update : Update) (admitted : Bool) (next : Side)
    → (status_of_update side request body (Some update) == 204) ≡ admitted → IsValidSide side
    → next ≡ (if admitted then with_message side update (length body) else side) → IsValidSide next
valid_or_not side request body update true next is valid same =
    subst IsValidSide (sym same) (valid_with side update (length body) valid (newer side request body update is))
valid_or_not side request body update false next is valid same = subst IsValidSide (sym same) valid

valid_behind : (side : Side) (request : Request) (body : List ℕ) (update : Option Update) (next : Side) → IsValidSide side → next ≡ side_behind side request body update → IsValidSide next
valid_behind side request body None next valid is = subst IsValidSide (sym is) valid
valid_behind side request body (Some update) next valid is =
    valid_or_not side request body update (status_of_update side request body (Some update) == 204) next refl valid is

is_valid_behind : (side : Side) (request : Request) (body : List ℕ) (asked : Asked) (next : Side) → IsValidSide side → IsBehind side request body asked next → IsValidSide next
is_valid_behind side request body kinds.Gate next valid is = subst IsValidSide (sym is) valid
is_valid_behind side request body kinds.Page next valid is = subst IsValidSide (sym is) valid
is_valid_behind side request body kinds.Stops next valid is = subst IsValidSide (sym is) valid
is_valid_behind side request body kinds.Update next valid (update, is_update, is) = valid_behind side request body update next valid is
is_valid_behind side request body (kinds.OtherMethod allow) next valid is = subst IsValidSide (sym is) valid
is_valid_behind side request body kinds.Nothing next valid is = subst IsValidSide (sym is) valid

pub next_is_valid : (side : Side) (bytes : List ℕ) (next : Side) → IsValidSide side → IsNextSide side bytes next → IsValidSide next
next_is_valid side bytes next valid step = is_valid_behind side step.request (drop step.request.body_from bytes) (asked_at side step.request) next valid step.behind
