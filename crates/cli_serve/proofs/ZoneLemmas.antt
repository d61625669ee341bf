-- Sides that differ in their zone alone, which shows the same dates, reply the same.
use Rattle.std.proofs.Common.{◌≡◌, ◌∙◌, ℕ, Bool, true, false, List, drop, length, Option, Some, None, ap, refl, subst, sym}
use Rattle.std.specs.Prelude.{◌==◌, if◌then◌else◌}
use Rattle.http_text.specs.declared.request.Request.{Request}
use Rattle.lc_model.specs.declared.connection.Connection.{Connection}
use Rattle.lc_model.specs.declared.date.ServiceDate.{ServiceDate}
use Rattle.lc_time.specs.declared.zone.Zone.{Zone}
use Rattle.lc_model.specs.Versions.History.{news_at}
use Rattle.lc_model.specs.Versions.Timetable.{AreLiveRuns}
use Rattle.lc_model.specs.declared.versions.update.Update.{Update}
use Rattle.lc_world.specs.Sides.Reply.{IsBehind, IsReply, side_behind}
use Rattle.lc_world.specs.Sides.Response.{IsGateResponse, IsPageOf, IsPageResponse, IsResponseTo, IsSentOf, asked_at, status_of_update}
use Rattle.lc_world.specs.Sides.Side.{IsTimetableAt, Side, date_in, with_message}
use Rattle.lc_world.specs.declared.sides.asked.Asked.{Asked}
use Rattle.lc_world.specs.declared.sides.asked.Asked.TheVariants as kinds
use Rattle.lc_world.specs.declared.sides.response.Response.{Response}
use Rattle.wire_session.specs.SessionOut.{IsAnswered}
use Rattle.cli_serve.specs.SameBytes.{AreOneSide}

-- the side with this zone in the place of its own
abbrev pub in_zone : Side → Zone → Side
in_zone side zone = record side { zone = zone }

-- a side in another zone that shows the same dates is the same one
pub one_in_zone : (zone : Zone) (a b : Side) → a ≡ in_zone b zone → date_in zone ≡ date_in b.zone → AreOneSide a b
one_in_zone zone a b is same =
    let own : a.zone ≡ zone = ap (λ (s : Side). s.zone) is in
    record {
      dates = λ moment. ap (λ (z : Zone). date_in z moment) own ∙ ap (λ (dates : ℕ → ServiceDate). dates moment) same;
      is = is ∙ ap (λ (z : Zone). in_zone b z) (sym own);
    }

module _ (side : Side) (zone : Zone) (same : date_in zone ≡ date_in side.zone) where
  timetable_at : (version : ℕ) (list : List Connection) → IsTimetableAt (in_zone side zone) version list → IsTimetableAt side version list
  timetable_at version list is = record {
    live = is.live;
    are_live = subst (λ (dates : ℕ → ServiceDate). AreLiveRuns side.runs side.doc.stops (news_at dates side.history version) is.live) same is.are_live;
    are_connections = is.are_connections;
  }

  page_at : (version departs : ℕ) (page : _) → IsPageOf (in_zone side zone) version departs page → IsPageOf side version departs page
  page_at version departs page is = record { list = is.list; timetable = timetable_at version is.list is.timetable; is = is.is }

  gate_at : (departs version : Option ℕ) (response : Response) → IsGateResponse (in_zone side zone) departs version response → IsGateResponse side departs version response
  gate_at None version response is = is
  gate_at (Some departs) None response is = is
  gate_at (Some departs) (Some version) response is =
      record { page = is.page; page_is = page_at version departs is.page is.page_is; sound = is.sound; is = is.is }

  sent_at : (there : Bool) (version departs : ℕ) (response : Response) → IsSentOf (in_zone side zone) there version departs response → IsSentOf side there version departs response
  sent_at true version departs response is = record { page = is.page; page_is = page_at version departs is.page is.page_is; sound = is.sound; is = is.is }
  sent_at false version departs response is = is

  memento_at : (version departs : Option ℕ) (response : Response) → IsPageResponse (in_zone side zone) version departs response → IsPageResponse side version departs response
  memento_at version None response is = is
  memento_at None (Some departs) response is = is
  memento_at (Some version) (Some departs) response is = sent_at _ version departs response is

  response_at : (request : Request) (body : List ℕ) (asked : Asked) (response : Response) → IsResponseTo (in_zone side zone) request body asked response
      → IsResponseTo side request body asked response
  response_at request body kinds.Gate response (departs, version, is_departs, is_version, is) = (departs, version, is_departs, is_version, gate_at departs version response is)
  response_at request body kinds.Page response (departs, version, is_departs, is_version, is) = (departs, version, is_departs, is_version, memento_at version departs response is)
  response_at request body kinds.Stops response is = record { sound = is.sound; is = is.is }
  response_at request body kinds.Update response is = is
  response_at request body (kinds.OtherMethod allow) response is = is
  response_at request body kinds.Nothing response is = is

  reply_at : (bytes text : List ℕ) → IsReply (in_zone side zone) bytes text → IsReply side bytes text
  reply_at bytes text (response, is) = (
    response,
    record {
      request = is.request;
      whole = is.whole;
      said = response_at is.request (drop is.request.body_from bytes) (asked_at side is.request) response is.said;
      text_is = is.text_is;
    },
  )

  by_status : (update : Update) (bytes : ℕ) (admitted : Bool)
      → (if admitted then with_message (in_zone side zone) update bytes else in_zone side zone) ≡ in_zone (if admitted then with_message side update bytes else side) zone
  by_status update bytes true = refl
  by_status update bytes false = refl

  behind_in : (request : Request) (body : List ℕ) (update : Option Update) → side_behind (in_zone side zone) request body update ≡ in_zone (side_behind side request body update) zone
  behind_in request body None = refl
  behind_in request body (Some update) = by_status update (length body) (status_of_update side request body (Some update) == 204)

  -- the side that is left is one that this side leaves, but for its zone
  left_by : (request : Request) (body : List ℕ) (asked : Asked) (next : Side) → IsBehind (in_zone side zone) request body asked next
      → (left : Side) × IsBehind side request body asked left × (next ≡ in_zone left zone)
  left_by request body kinds.Gate next is = (side, refl, is)
  left_by request body kinds.Page next is = (side, refl, is)
  left_by request body kinds.Stops next is = (side, refl, is)
  left_by request body kinds.Update next (update, is_update, is) = (side_behind side request body update, (update, is_update, refl), is ∙ behind_in request body update)
  left_by request body (kinds.OtherMethod allow) next is = (side, refl, is)
  left_by request body kinds.Nothing next is = (side, refl, is)

  -- one request is answered as by this side
  pub answered_by : (bytes reply : List ℕ) (next : Side) (closes : Bool) → IsAnswered (in_zone side zone) bytes reply next closes
      → (left : Side) × IsAnswered side bytes reply left closes × (next ≡ in_zone left zone)
  answered_by bytes reply next closes is =
      let request : Request = is.next_is.request in
      let left = left_by request (drop request.body_from bytes) (asked_at side request) next is.next_is.behind in (
        left.0,
        record {
          reply_is = reply_at bytes reply is.reply_is;
          next_is = record { request = request; whole = is.next_is.whole; behind = left.1 };
          request = is.request;
          request_is = is.request_is;
          closes_is = is.closes_is;
        },
        left.2,
      )
