-- One exchange over an honest link: what it leaves, what is recorded of it, and what is read of the reply.
use Rattle.std.proofs.Common.{◌≡◌, ℕ, true, List, [], ◌∷◌, ◌++◌, Option, Some, None, Result, Ok, refl, ap, ap₂, sym, subst, ◌∙◌, lit≤}
use Rattle.std.proofs.Math.Nat.{le_trans}
use Rattle.std.specs.Prelude.{OnOk}
use Rattle.std.specs.Option.{option_map}
use Rattle.std.proofs.lemmas.List.{map-append}
use Rattle.std.proofs.lemmas.List.Elements.{All-append, All-cons, All-nil}
use Rattle.lc_io.specs.Counts.{Rose}
use Rattle.lc_model.specs.declared.doc.StopsDoc.{StopsDoc}
use Rattle.lc_model.specs.declared.page.PageName.{PageName}
use Rattle.lc_model.specs.declared.query.Query.{Query}
use Rattle.connection_uri.specs.Base.{BaseParts}
use Rattle.connection_uri.specs.Page.{gate_target_of, page_target_of, stops_target_of}
use Rattle.http_text.specs.RequestText.{request_text_of}
use Rattle.lc_world.specs.Link.{Exchanges, IsHonestWith, LinkSeen, TellsMore}
use Rattle.lc_world.specs.declared.entry.Entry.{Entry}
use Rattle.page_json.specs.Sound.{IsSoundName, IsSoundPage}
use Rattle.page_json.specs.declared.page.Page.{Page}
use Rattle.page_client.specs.Gate.{IsGateReply}
use Rattle.page_client.specs.Page.{IsPageReply}
use Rattle.page_client.specs.Request.{Asks}
use Rattle.page_client.specs.Stops.{IsStopsReply}
use Rattle.page_client.specs.declared.fault.PeerFault.{PeerFault}
use Rattle.page_client.proofs.OneReplyLemmas.{one_page_reply}
use Rattle.lc_world.specs.Sides.Reply.{IsReply}
use Rattle.lc_world.specs.Sides.Response.{IsPageOf}
use Rattle.lc_world.specs.Sides.Short.{StandsUnder}
use Rattle.lc_world.specs.Sides.Side.{IsLater, Side, has_version}
use Rattle.lc_world.proofs.SidesLemmas.VersionLemmas.{still_found}
use Rattle.convoy.specs.ClientLaws.Stated.{IsGatePage}
use Rattle.convoy.proofs.ClientLawsLemmas.PageLemmas.{page_is_stated}
use Rattle.convoy.proofs.ClientLawsLemmas.ReadLemmas.{gate_is_read, stops_are_read}
use Rattle.convoy.specs.Exchange.{Got, bytes_of, result_of}
use Rattle.convoy.specs.Agreement.Leaves.{LeavesHonest}
use Rattle.convoy.specs.Agreement.Requests.{TellsRequests}
use Rattle.convoy.proofs.AgreementLemmas.HonestLemmas.{is_get}
use Rattle.convoy.proofs.AgreementLemmas.RepliesLemmas.{one_more, recorded_no_more, recorded_then}
use Rattle.back_scan.specs.declared.arrive_query.ArriveQuery.{ArriveQuery}
use Rattle.back_client.specs.Exchange.{IsExchange}

abbrev asked_at : List ℕ → Entry → Type 0
asked_at authority entry = entry.authority ≡ authority

-- nothing was asked
pub no_requests : (recorded : Option (List Entry)) (authority : List ℕ) → TellsRequests recorded recorded authority []
no_requests recorded authority = record { entries = []; are = refl; authorities = All-nil (asked_at authority); is = recorded_no_more recorded }

-- one thing was asked
one_request : (before after : Option (List Entry)) (authority request text : List ℕ) (got : Got) → request ≡ text → TellsMore before after authority request got → TellsRequests before after authority (text ∷ [])
one_request before after authority request text got same more =
    let entry : Entry = record { authority = authority; request = request; reply = more.reply } in
    record {
      entries = entry ∷ [];
      are = ap (λ (r : List ℕ). r ∷ []) same;
      authorities = All-cons (asked_at authority) entry [] refl (All-nil (asked_at authority));
      is = more.is;
    }

-- and then other things
pub requests_then : (a b c : Option (List Entry)) (authority : List ℕ) (first second : List (List ℕ)) → TellsRequests a b authority first → TellsRequests b c authority second →
    TellsRequests a c authority (first ++ second)
requests_then a b c authority first second one two = record {
  entries = one.entries ++ two.entries;
  are = map-append (λ (entry : Entry). entry.request) one.entries two.entries ∙ ap₂ (λ (x y : List (List ℕ)). x ++ y) one.are two.are;
  authorities = All-append (asked_at authority) one.entries two.entries one.authorities two.authorities;
  is = two.is ∙ ap (option_map (λ (recorded : List Entry). recorded ++ two.entries)) one.is ∙ recorded_then a one.entries two.entries;
}

-- what an exchange leaves of a link that was honest with the side
pub record OneExchange (base : BaseParts) (side : Side) (target : List ℕ) (known : Option ℕ) (before after : LinkSeen) (got : Got) : Type 0 where
  pub left : Side
  pub honest : LeavesHonest base side left before after
  pub recorded : TellsRequests before.recorded after.recorded base.authority (request_text_of base.authority target known ∷ [])
  pub request : List ℕ
  pub asks : Asks base target known request
  pub replied : OnOk (result_of got) (IsReply left request (bytes_of got))
  pub rose : got ≡ None → Rose before.faults after.faults

failed_so : (base : BaseParts) (target : List ℕ) (known : Option ℕ) (before after : LinkSeen) (got : Got) → IsExchange base target known before after got → got ≡ None → Rose before.faults after.faults
failed_so base target known before after None ex none = ex.faults.rose refl
failed_so base target known before after (Some reply) ex none = absurd (cc)

pub one_exchange : (base : BaseParts) (side : Side) (target : List ℕ) (known : Option ℕ) (before after : LinkSeen) (got : Got) → IsHonestWith before base side → IsExchange base target known before after got →
    OneExchange base side target known before after got
one_exchange base side target known before after got honest ex =
    let x : Exchanges before after base side ex.request (bytes_of got) (result_of got) = ex.honest base side (is_get base target known ex.request ex.asks) honest in
    record {
      left = x.side;
      honest = record { honest = x.honest; later = x.later; same = x.same; quiet = x.quiet; clear = ex.clear; not_fallen = ex.faults.not_fallen };
      recorded = one_request before.recorded after.recorded base.authority ex.request (request_text_of base.authority target known) got ex.asks.text_is
          (one_more before.recorded after.recorded base.authority ex.request got ex.recorded);
      request = ex.request;
      asks = ex.asks;
      replied = x.replied;
      rose = failed_so base target known before after got ex;
    }

pub same_side : (a b : Side) → Some a ≡ Some b → a ≡ b
same_side a b is = cc

-- a version stays one of a later side
pub has_later : (before after : Side) (version : ℕ) → IsLater before after → has_version before version ≡ true → has_version after version ≡ true
has_later before after version later has =
    subst (λ (side : Side). has_version side version ≡ true) (sym later.is) (still_found before.base_moment before.history later.more version has)

-- the question that leaves at the moment of arrival, as the time gate is asked
abbrev pub gate_query : ArriveQuery → Query
gate_query asked = record {
  from = asked.from;
  to = asked.to;
  leave = asked.arrive;
  known = asked.known;
  horizon = asked.horizon;
  not_before = le_trans (lit≤ tt) asked.not_before;
  not_after = le_trans asked.not_after (lit≤ tt);
}

-- the time gate's reply sends to the page for the moment of arrival
pub gate_read : (base : BaseParts) (side : Side) (asked : ArriveQuery) (request reply : List ℕ) (said : Result PageName PeerFault) → StandsUnder base side →
    Asks base (gate_target_of base asked.arrive) asked.known request → IsReply side request reply → IsGateReply base asked.arrive reply said →
    (name : PageName) × IsGatePage side (gate_query asked) name × (said ≡ Ok name)
gate_read base side asked request reply said stands asks replies says =
    let P : BaseParts → Type 0 = λ b. StandsUnder b side → Asks b (gate_target_of b asked.arrive) asked.known request → IsGateReply b asked.arrive reply said → (name : PageName) × IsGatePage side (gate_query asked) name × (said ≡ Ok name) in
    let under : P side.base = λ s a g. gate_is_read side (gate_query asked) reply said s (record { request = request; asks = a; replies = replies }) g in
    subst P stands.is_base under stands asks says

-- the stops document is read
pub stops_read : (base : BaseParts) (side : Side) (request reply : List ℕ) (said : Result StopsDoc PeerFault) → StandsUnder base side →
    Asks base (stops_target_of base) None request → IsReply side request reply → IsStopsReply reply said → said ≡ Ok side.doc
stops_read base side request reply said stands asks replies says =
    let P : BaseParts → Type 0 = λ b. StandsUnder b side → Asks b (stops_target_of b) None request → said ≡ Ok side.doc in
    let under : P side.base = λ s a. stops_are_read side reply said s (record { request = request; asks = a; replies = replies }) says in
    subst P stands.is_base under stands asks

-- the side's own page is read
pub page_read : (base : BaseParts) (side : Side) (page : Page) (request reply : List ℕ) (said : Result Page PeerFault) → StandsUnder base side → has_version side page.name.version ≡ true → IsSoundName page.name →
    IsPageOf side page.name.version page.name.departs page → Asks base (page_target_of base page.name) None request → IsReply side request reply → IsPageReply base page.name reply said → (said ≡ Ok page) × IsSoundPage page
page_read base side page request reply said stands has sound is_page asks replies says =
    let P : BaseParts → Type 0 = λ b. StandsUnder b side → Asks b (page_target_of b page.name) None request → IsPageReply b page.name reply said → (said ≡ Ok page) × IsSoundPage page in
    let under : P side.base = λ s a r.
    let stated = page_is_stated side page reply s has sound is_page (record { request = request; asks = a; replies = replies }) in
    (one_page_reply side.base page.name reply said (Ok page) r stated.0, stated.1) in
    subst P stands.is_base under stands asks says
