-- A version has one timetable, a request one reply and one next side.
use Rattle.std.proofs.Common.{◌≡◌, ℕ, List, drop, Bool, true, false, Option, Some, None, refl, ap, sym, subst, ◌∙◌}
use Rattle.lc_model.specs.Connection.{AreConnectionsOf}
use Rattle.lc_model.specs.RunKey.{key_cmp}
use Rattle.lc_model.specs.Totals.{run_cmp_total}
use Rattle.lc_model.specs.declared.connection.Connection.{Connection}
use Rattle.lc_model.specs.declared.run.Run.{Run}
use Rattle.lc_model.specs.declared.stop.Stop.{Stop}
use Rattle.lc_model.proofs.OneValueLemmas.{one_list_of_connections}
use Rattle.lc_model.proofs.OrdersLemmas.{strict_lists_are_one}
use Rattle.lc_time.proofs.OneTextLemmas.{one_http_moment, one_moment}
use Rattle.lc_model.specs.Versions.News.{TripSaid}
use Rattle.lc_model.specs.Versions.Pages.{departures_of}
use Rattle.lc_model.specs.Versions.Timetable.{AreLiveRuns}
use Rattle.http_text.specs.declared.request.Request.{Request}
use Rattle.http_text.proofs.MessageLemmas.{one_request}
use Rattle.memento.specs.Negotiation.{Negotiates}
use Rattle.page_json.specs.declared.page.Page.{Page}
use Rattle.trip_updates.specs.Message.{IsMessage}
use Rattle.trip_updates.proofs.TreesLemmas.{same_meaning}
use Rattle.std.specs.Ordering.{on}
use Rattle.std.specs.Prelude.{codes}
use Rattle.lc_world.specs.Sides.Asked.{field_value, member_value}
use Rattle.lc_world.specs.Sides.PageAt.{page_at}
use Rattle.lc_world.specs.Sides.Reply.{IsBehind, IsNextSide, IsReply, side_behind, text_said}
use Rattle.lc_world.specs.Sides.Response.{IsGateResponse, IsMovedTo, IsPageOf, IsPageResponse, IsResponse, IsResponseTo, IsSent, IsSentOf, IsTheOne, SaysDeparture, SaysVersion, asked_at, status_of_update}
use Rattle.lc_world.specs.Sides.Side.{IsTimetableAt, Side, has_version, versions_of}
use Rattle.lc_world.specs.declared.sides.asked.Asked.{Asked}
use Rattle.lc_world.specs.declared.sides.asked.Asked.TheVariants as kinds
use Rattle.lc_world.specs.declared.sides.response.Response.{Response}
use Rattle.lc_world.specs.declared.sides.response.Response.TheVariants.{Status, Found}
use Rattle.lc_world.specs.declared.sides.response.Response.TheVariants as responses

-- the live runs by the same news are one list
pub one_list_of_live_runs : (runs : List Run) (stops : List Stop) (news : List TripSaid) (a b : List Run) → AreLiveRuns runs stops news a → AreLiveRuns runs stops news b → a ≡ b
one_list_of_live_runs runs stops news a b first second =
    strict_lists_are_one (on (λ (r : Run). r.key) key_cmp) run_cmp_total a b first.in_order second.in_order
    (λ run there. (second.exactly run).1 ((first.exactly run).0 there))
    (λ run there. (first.exactly run).1 ((second.exactly run).0 there))

-- a version has one timetable
pub one_timetable : (side : Side) (version : ℕ) (a b : List Connection) → IsTimetableAt side version a → IsTimetableAt side version b → a ≡ b
one_timetable side version a b first second =
    let same : second.live ≡ first.live = one_list_of_live_runs _ _ _ second.live first.live second.are_live first.are_live in
    one_list_of_connections first.live a b first.are_connections (subst (λ (live : List Run). AreConnectionsOf live b) same second.are_connections)

-- of one value it is so at most, and so there is one such value or none
pub the_one : {X : Type 0} (IsSo : X → Type 0) → ((x y : X) → IsSo x → IsSo y → x ≡ y) → (a b : Option X) → IsTheOne IsSo a → IsTheOne IsSo b → a ≡ b
the_one IsSo one None None first second = refl
the_one IsSo one None (Some y) first second = absurd (first y second)
the_one IsSo one (Some x) None first second = absurd (second x first)
the_one IsSo one (Some x) (Some y) first second = ap Some (one x y first second)

pub one_departure : (said : Option (List ℕ)) (x y : ℕ) → SaysDeparture said x → SaysDeparture said y → x ≡ y
one_departure None x y first second = first ∙ sym second
one_departure (Some text) x y first second = one_moment text x y first second

pub one_version : (said : Option (List ℕ)) (x y : ℕ) → SaysVersion said x → SaysVersion said y → x ≡ y
one_version None x y first second = absurd first
one_version (Some text) x y first second = one_moment text x y first second

pub one_negotiated : (versions : List ℕ) (said : Option (List ℕ)) (x y : ℕ) → Negotiates versions said x → Negotiates versions said y → x ≡ y
one_negotiated versions None x y first second = cc
one_negotiated versions (Some text) x y (known, says, first) (again, says_again, second) =
    let same : known ≡ again = one_http_moment text known again says says_again in
    cc

-- a page for a moment is one
pub one_page : (side : Side) (version departs : ℕ) (a b : Page) → IsPageOf side version departs a → IsPageOf side version departs b → a ≡ b
one_page side version departs a b first second =
    let same : first.list ≡ second.list = one_timetable side version first.list second.list first.timetable second.timetable in
    first.is ∙ ap (λ (list : List Connection). page_at version (side.cuts_of (departures_of list)) list departs) same ∙ sym second.is

one_moved : (side : Side) (version departs : ℕ) (a b : Response) → IsMovedTo side version departs a → IsMovedTo side version departs b → a ≡ b
one_moved side version departs a b first second =
    let same : first.page ≡ second.page = one_page side version departs first.page second.page first.page_is second.page_is in
    first.is ∙ ap (λ (page : Page). Found page.name departs) same ∙ sym second.is

one_sent : (side : Side) (version departs : ℕ) (a b : Response) → IsSent side version departs a → IsSent side version departs b → a ≡ b
one_sent side version departs a b first second =
    let same : first.page ≡ second.page = one_page side version departs first.page second.page first.page_is second.page_is in
    first.is ∙ ap responses.Page same ∙ sym second.is

one_gate_response : (side : Side) (departs version : Option ℕ) (a b : Response) → IsGateResponse side departs version a → IsGateResponse side departs version b → a ≡ b
one_gate_response side None version a b first second = first ∙ sym second
one_gate_response side (Some departs) None a b first second = first ∙ sym second
one_gate_response side (Some departs) (Some version) a b first second = one_moved side version departs a b first second

one_sent_of : (side : Side) (there : Bool) (version departs : ℕ) (a b : Response) → IsSentOf side there version departs a → IsSentOf side there version departs b → a ≡ b
one_sent_of side true version departs a b first second = one_sent side version departs a b first second
one_sent_of side false version departs a b first second = first ∙ sym second

one_page_response : (side : Side) (version departs : Option ℕ) (a b : Response) → IsPageResponse side version departs a → IsPageResponse side version departs b → a ≡ b
one_page_response side version None a b first second = first ∙ sym second
one_page_response side None (Some departs) a b first second = first ∙ sym second
one_page_response side (Some version) (Some departs) a b first second = one_sent_of side (has_version side version) version departs a b first second

-- what is said to a request is one
one_response_to : (side : Side) (request : Request) (body : List ℕ) (asked : Asked) (a b : Response) → IsResponseTo side request body asked a → IsResponseTo side request body asked b → a ≡ b
one_response_to side request body kinds.Gate a b (departs, version, is_departs, is_version, first) (departs', version', is_departs', is_version', second) =
    let same_departs : departs' ≡ departs = the_one _ (one_departure (member_value (codes "departureTime") request.query)) departs' departs is_departs' is_departs in
    let same_version : version' ≡ version = the_one _ (one_negotiated (versions_of side) (field_value (codes "accept-datetime") request.fields)) version' version is_version' is_version in
    one_gate_response side departs version a b first
    (subst (λ (v : Option ℕ). IsGateResponse side departs v b) same_version (subst (λ (d : Option ℕ). IsGateResponse side d version' b) same_departs second))
one_response_to side request body kinds.Page a b (departs, version, is_departs, is_version, first) (departs', version', is_departs', is_version', second) =
    let same_departs : departs' ≡ departs = the_one _ (one_departure (member_value (codes "departureTime") request.query)) departs' departs is_departs' is_departs in
    let same_version : version' ≡ version = the_one _ (one_version (member_value (codes "version") request.query)) version' version is_version' is_version in
    one_page_response side version departs a b first
    (subst (λ (v : Option ℕ). IsPageResponse side v departs b) same_version (subst (λ (d : Option ℕ). IsPageResponse side version' d b) same_departs second))
one_response_to side request body kinds.Stops a b first second = first.is ∙ sym second.is
one_response_to side request body kinds.Update a b (update, is, first) (update', is', second) =
    let same : update ≡ update' = the_one (IsMessage body) (same_meaning body) update update' is is' in
    first ∙ ap (λ u. Status (status_of_update side request body u)) same ∙ sym second
one_response_to side request body (kinds.OtherMethod allow) a b first second = first ∙ sym second
one_response_to side request body kinds.Nothing a b first second = first ∙ sym second

pub one_response : (side : Side) (request : Request) (body : List ℕ) (a b : Response) → IsResponse side request body a → IsResponse side request body b → a ≡ b
one_response side request body a b first second = one_response_to side request body (asked_at side request) a b first second

pub one_reply : (side : Side) (bytes a b : List ℕ) → IsReply side bytes a → IsReply side bytes b → a ≡ b
one_reply side bytes a b (response, first) (other, second) =
    let same : second.request ≡ first.request = one_request bytes second.request first.request second.whole first.whole in
    let said : IsResponse side first.request (drop first.request.body_from bytes) other =
    subst (λ (r : Request). IsResponse side r (drop r.body_from bytes) other) same second.said in
    let one : response ≡ other = one_response side first.request (drop first.request.body_from bytes) response other first.said said in
    let text : b ≡ text_said side first.request other = subst (λ (r : Request). b ≡ text_said side r other) same second.text_is in
    first.text_is ∙ ap (text_said side first.request) one ∙ sym text

one_behind : (side : Side) (request : Request) (body : List ℕ) (asked : Asked) (a b : Side) → IsBehind side request body asked a → IsBehind side request body asked b → a ≡ b
one_behind side request body kinds.Gate a b first second = first ∙ sym second
one_behind side request body kinds.Page a b first second = first ∙ sym second
one_behind side request body kinds.Stops a b first second = first ∙ sym second
one_behind side request body kinds.Update a b (update, is, first) (update', is', second) =
    let same : update ≡ update' = the_one (IsMessage body) (same_meaning body) update update' is is' in
    first ∙ ap (side_behind side request body) same ∙ sym second
one_behind side request body (kinds.OtherMethod allow) a b first second = first ∙ sym second
one_behind side request body kinds.Nothing a b first second = first ∙ sym second

pub one_next_side : (side : Side) (bytes : List ℕ) (a b : Side) → IsNextSide side bytes a → IsNextSide side bytes b → a ≡ b
one_next_side side bytes a b first second =
    let same : second.request ≡ first.request = one_request bytes second.request first.request second.whole first.whole in
    one_behind side first.request (drop first.request.body_from bytes) (asked_at side first.request) a b first.behind
    (subst (λ (r : Request). IsBehind side r (drop r.body_from bytes) (asked_at side r) b) same second.behind)
