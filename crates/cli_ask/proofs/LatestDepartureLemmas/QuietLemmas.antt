-- Over a quiet link a question for the latest departure ends rightly by the link's side, and what is recorded are the replies of that side.
use Rattle.std.proofs.Common.{◌≡◌, ◌∙◌, ◌<◌, ◌≤◌, ℕ, inl, inr, arith, List, [], ◌∷◌, ◌++◌, Option, Some, None, Result, Ok, Err, ap, subst, sym}
use Rattle.std.specs.Option.{IfSome}
use Rattle.std.proofs.lemmas.List.Elements.{All-cons, All-nil}
use Rattle.back_client.specs.Arrives.{AfterDoc, AfterGotGate, AfterGotStops, AfterRefusal, AfterSaidGate, AfterSaidStops, Arrives, AsksStops}
use Rattle.back_client.specs.Exchange.{IsExchange}
use Rattle.back_client.specs.Steps.{Taken, WalksBack}
use Rattle.back_client.specs.declared.outcome.ArriveEnd.{ArriveEnd}
use Rattle.back_client.specs.declared.page.Place.{Place}
use Rattle.back_client.specs.declared.page.Place.TheVariants.{After}
use Rattle.back_scan.specs.declared.arrive_query.ArriveQuery.{ArriveQuery}
use Rattle.cli_ask.specs.Block.{IsPrintable}
use Rattle.cli_ask.specs.LatestDeparture.Client.{EndsRightLatest, client_of}
use Rattle.connection_uri.specs.Base.{BaseParts}
use Rattle.convoy.specs.Exchange.{Got, bytes_of, result_of}
use Rattle.back_client.specs.Ends.Right.{EndsAt, IsNamed, IsRight}
use Rattle.back_client.specs.Ends.Asked.{HasAskedLatest}
use Rattle.back_client.specs.Ends.Ends.{EndsBackBy}
use Rattle.convoy.proofs.AgreementLemmas.HonestLemmas.{is_get}
use Rattle.convoy.proofs.AgreementLemmas.RepliesLemmas.{Replied, one_more, recorded_no_more, replied_by, tells_replies_then}
use Rattle.convoy.specs.Agreement.Replies.{IsRepliedBy}
use Rattle.convoy.specs.Replies.Made.{Made}
use Rattle.convoy.specs.ClientLaws.Stated.{version_at}
use Rattle.lc_model.specs.Journey.{arrives_at}
use Rattle.lc_model.specs.declared.connection.Connection.{Connection}
use Rattle.lc_model.specs.declared.doc.StopsDoc.{StopsDoc}
use Rattle.lc_model.specs.declared.page.PageName.{PageName}
use Rattle.lc_world.specs.Link.{Exchanges, IsHonestWith, IsQuietWith, LinkSeen, TellsMore}
use Rattle.lc_world.specs.declared.entry.Entry.{Entry}
use Rattle.page_client.specs.declared.fault.PeerFault.{PeerFault}
use Rattle.page_client.specs.declared.fault.QueryFault.{QueryFault}
use Rattle.page_client.specs.declared.outcome.Outcome.{Outcome}
use Rattle.page_client.specs.declared.outcome.Outcome.TheVariants as outcomes
use Rattle.lc_world.specs.Sides.Side.{Side}

-- ---- a journey that was found has a text

before_the_end : (arrives arrive : ℕ) → arrives ≤ arrive → arrive ≤ 253_400_831_999 → arrives < 253_402_128_000
before_the_end arrives arrive by to = omega arith

by_ends : (base : BaseParts) (asked : ArriveQuery) (before now : ℕ) (version : Option ℕ) (made : List Made) (outcome : Outcome) → EndsBackBy base asked before now version made outcome → IsPrintable outcome
by_ends base asked before now version made (outcomes.Found journey) ends = before_the_end (arrives_at journey) asked.arrive ends.in_time asked.not_after
by_ends base asked before now version made outcomes.NoJourney ends = tt
by_ends base asked before now version made (outcomes.Refused fault) ends = tt
by_ends base asked before now version made (outcomes.LinkFault low high) ends = tt
by_ends base asked before now version made (outcomes.PeerWrong reply fault) ends = tt

pub printable : (base : BaseParts) (asked : ArriveQuery) (before after : LinkSeen) (version : Option ℕ) (exchanges : ℕ) (outcome : Outcome) → HasAskedLatest base asked before after version exchanges outcome → IsPrintable outcome
printable base asked before after version exchanges outcome has = by_ends base asked before.faults after.faults version has.made outcome has.ends

-- ---- what is recorded are replies of the side

replied_none : (base : BaseParts) (side : Side) (link : LinkSeen) → IsQuietWith link base side → Replied base side link link
replied_none base side link quiet = record { tells = record { entries = []; own = All-nil (IsRepliedBy side); is = recorded_no_more link.recorded }; quiet = quiet }

-- by an exchange over a quiet link
exchange_replied : (base : BaseParts) (side : Side) (target : List ℕ) (known : Option ℕ) (before after : LinkSeen) (got : Got) → IsQuietWith before base side → IsExchange base target known before after got → Replied base side before after
exchange_replied base side target known before after got quiet ex =
    let x : Exchanges before after base side ex.request (bytes_of got) (result_of got) = ex.honest base side (is_get base target known ex.request ex.asks) quiet.as_honest in
    let same : x.side ≡ side = x.same quiet.quiet in
    let more : TellsMore before.recorded after.recorded base.authority ex.request got = one_more before.recorded after.recorded base.authority ex.request got ex.recorded in
    let entry : Entry = record { authority = base.authority; request = ex.request; reply = more.reply } in
    let own : IsRepliedBy side entry =
    subst (λ (at : Side). IsRepliedBy at entry) same (λ reply is. replied_by x.side ex.request got more.reply reply x.replied more.is_given is) in
    record {
      tells = record { entries = entry ∷ []; own = All-cons (IsRepliedBy side) entry [] own (All-nil (IsRepliedBy side)); is = more.is };
      quiet = record { as_honest = subst (λ (at : Side). IsHonestWith after base at) same x.honest; quiet = x.quiet quiet.quiet };
    }

replied_then : (base : BaseParts) (side : Side) (a b c : LinkSeen) → Replied base side a b → Replied base side b c → Replied base side a c
replied_then base side a b c one two = record { tells = tells_replies_then side a.recorded b.recorded c.recorded one.tells two.tells; quiet = two.quiet }

module _ {X : Type 0} (seen : X → LinkSeen) (base : BaseParts) (asked : ArriveQuery) (side : Side) where
  -- nothing more was asked
  replied_so : (link last : X) → last ≡ link → IsQuietWith (seen link) base side → Replied base side (seen link) (seen last)
  replied_so link last same quiet = subst (λ (x : X). Replied base side (seen link) (seen x)) (sym same) (replied_none base side (seen link) quiet)

  -- page after page
  walk_replied : (doc : StopsDoc) (turns : List (Taken X)) (place : Place) (taken : List Connection) (name : PageName) (link last : X) (outcome : Outcome) → IsQuietWith (seen link) base side
      → WalksBack seen base asked doc place taken name link turns last outcome → Replied base side (seen link) (seen last)
  walk_replied doc [] place taken name link last outcome quiet ends = exchange_replied base side _ _ (seen link) (seen last) ends.got quiet ends.exchange
  walk_replied doc (turn ∷ rest) place taken name link last outcome quiet (leads, more) =
      let first = exchange_replied base side _ _ (seen link) (seen turn.link) (Some turn.reply) quiet leads.exchange in
      replied_then base side (seen link) (seen turn.link) (seen last) first
      (walk_replied doc rest (After name.departs) (turn.page.list ++ taken) turn.previous turn.link last outcome first.quiet more)

  doc_replied : (doc : StopsDoc) (gate : List ℕ) (first : PageName) (link last : X) (end : ArriveEnd) → IsQuietWith (seen link) base side → AfterDoc seen base asked doc gate first link last end
      → Replied base side (seen link) (seen last)
  doc_replied doc gate first link last end quiet (inl lacks) = replied_so link last lacks.same_link quiet
  doc_replied doc gate first link last end quiet (inr (inl lacks)) = replied_so link last lacks.same_link quiet
  doc_replied doc gate first link last end quiet (inr (inr (knows, walked))) = walk_replied doc walked.turns _ _ first link last walked.outcome quiet walked.walks

  stops_said_replied : (gate : List ℕ) (first : PageName) (reply : List ℕ) (link last : X) (end : ArriveEnd) (said : Result StopsDoc PeerFault) → IsQuietWith (seen link) base side
      → AfterSaidStops seen base asked gate first reply link last end said → Replied base side (seen link) (seen last)
  stops_said_replied gate first reply link last end (Ok doc) quiet leads = doc_replied doc gate first link last end quiet leads
  stops_said_replied gate first reply link last end (Err fault) quiet leads = replied_so link last leads.same_link quiet

  stops_got_replied : (gate : List ℕ) (first : PageName) (before after : ℕ) (link last : X) (end : ArriveEnd) (got : Got) → IsQuietWith (seen link) base side
      → AfterGotStops seen base asked gate first before after link last end got → Replied base side (seen link) (seen last)
  stops_got_replied gate first before after link last end None quiet leads = replied_so link last leads.same_link quiet
  stops_got_replied gate first before after link last end (Some reply) quiet (said, says, leads) = stops_said_replied gate first reply link last end said quiet leads

  stops_replied : (gate : List ℕ) (first : PageName) (link last : X) (end : ArriveEnd) → IsQuietWith (seen link) base side → AsksStops seen base asked gate first link last end → Replied base side (seen link) (seen last)
  stops_replied gate first link last end quiet stops =
      let one = exchange_replied base side _ _ (seen link) (seen stops.after) stops.got quiet stops.exchange in
      replied_then base side (seen link) (seen stops.after) (seen last) one (stops_got_replied gate first (seen link).faults (seen stops.after).faults stops.after last end stops.got one.quiet stops.leads)

  gate_said_replied : (reply : List ℕ) (link last : X) (end : ArriveEnd) (said : Result PageName PeerFault) → IsQuietWith (seen link) base side → AfterSaidGate seen base asked reply link last end said
      → Replied base side (seen link) (seen last)
  gate_said_replied reply link last end (Ok first) quiet leads = stops_replied reply first link last end quiet leads
  gate_said_replied reply link last end (Err fault) quiet leads = replied_so link last leads.same_link quiet

  gate_got_replied : (before after : ℕ) (link last : X) (end : ArriveEnd) (got : Got) → IsQuietWith (seen link) base side → AfterGotGate seen base asked before after link last end got
      → Replied base side (seen link) (seen last)
  gate_got_replied before after link last end None quiet leads = replied_so link last leads.same_link quiet
  gate_got_replied before after link last end (Some reply) quiet (said, says, leads) = gate_said_replied reply link last end said quiet leads

  refusal_replied : (link last : X) (end : ArriveEnd) (refusal : Option QueryFault) → IsQuietWith (seen link) base side → AfterRefusal seen base asked link last end refusal → Replied base side (seen link) (seen last)
  refusal_replied link last end (Some fault) quiet leads = replied_so link last leads.0 quiet
  refusal_replied link last end None quiet gate =
      let one = exchange_replied base side _ _ (seen link) (seen gate.after) gate.got quiet gate.exchange in
      replied_then base side (seen link) (seen gate.after) (seen last) one (gate_got_replied (seen link).faults (seen gate.after).faults gate.after last end gate.got one.quiet gate.leads)

-- ---- a right end by the link's side

module _ {X : Type 0} (seen : X → LinkSeen) (base : BaseParts) (asked : ArriveQuery) (side : Side) (before after : X) (end : ArriveEnd) (quiet : IsQuietWith (seen before) base side)
    (right : IsRight seen base asked side before after end) where
  -- the side where the version was named is that of the link
  at_side : (version : Option ℕ) → IsNamed seen base asked side right.at right.left before after version → right.at ≡ side
  at_side None same = same ∙ right.honest.same quiet.quiet
  at_side (Some version) named = named.first.same quiet.quiet

  version_named : (version : Option ℕ) → IsNamed seen base asked side right.at right.left before after version → IfSome version (λ (v : ℕ). v ≡ version_at side asked.known)
  version_named None same = tt
  version_named (Some version) named = named.is ∙ ap (λ (s : Side). version_at s asked.known) (named.first.same quiet.quiet)

  pub ends_right_latest : Arrives seen base asked before after end → EndsRightLatest side base asked (seen before).recorded (seen after).recorded (seen before).faults (seen after).faults (client_of end)
  ends_right_latest arrives = record {
    requests = right.requests;
    tells = right.recorded;
    exchanges = right.count;
    version_is = version_named end.version right.named;
    ends = subst (λ (s : Side). EndsAt base s asked end.version right.requests (seen before).faults (seen after).faults end.outcome) (at_side end.version right.named) right.ends;
    replied = (refusal_replied seen base asked side before after end arrives.refusal quiet arrives.leads).tells;
  }
