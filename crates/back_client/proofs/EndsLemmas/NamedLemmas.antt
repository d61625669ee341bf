-- That the version is the one that is meant at the side which the exchange with the time gate left, whatever the link records.
use Rattle.std.proofs.Common.{◌≡◌, ℕ, inl, inr, List, Some, None, Result, Ok, Err, ap, sym, subst, ◌∙◌}
use Rattle.lc_model.specs.declared.doc.StopsDoc.{StopsDoc}
use Rattle.lc_model.specs.declared.page.PageName.{PageName}
use Rattle.connection_uri.specs.Base.{BaseParts}
use Rattle.connection_uri.specs.Page.{gate_target_of}
use Rattle.lc_world.specs.Link.{IsHonestWith, LinkSeen}
use Rattle.page_json.specs.declared.page.Page.{Page}
use Rattle.page_client.specs.declared.fault.PeerFault.{PeerFault}
use Rattle.lc_world.specs.Sides.Side.{Side}
use Rattle.convoy.specs.ClientLaws.Stated.{IsGatePage, version_at}
use Rattle.convoy.specs.ClientLaws.Laws.{IsAmong}
use Rattle.convoy.proofs.ClientLawsLemmas.PublishedLemmas.{pages_are_among}
use Rattle.convoy.specs.Exchange.{Got}
use Rattle.back_scan.specs.declared.arrive_query.ArriveQuery.{ArriveQuery}
use Rattle.back_client.specs.Arrives.{AfterGotGate, AfterGotStops, AfterSaidGate, AfterSaidStops}
use Rattle.back_client.specs.declared.outcome.ArriveEnd.{ArriveEnd}
use Rattle.back_client.specs.Ends.Laws.{NamedAtGate}
use Rattle.back_client.proofs.EndsLemmas.ExchangeLemmas.{OneExchange, gate_query, gate_read, one_exchange, same_side}

-- the page to which the time gate sends is of the version that is meant
meant_by : (at : Side) (asked : ArriveQuery) (first : PageName) → IsGatePage at (gate_query asked) first → first.version ≡ version_at at asked.known
meant_by at asked first sent =
    let among : IsAmong at (version_at at asked.known) asked.arrive sent.page = pages_are_among at (version_at at asked.known) asked.arrive sent.page sent.is_page in
    ap (λ (n : PageName). n.version) sent.is ∙ ap (λ (p : Page). p.name.version) among.is

module _ {X : Type 0} (seen : X → LinkSeen) (base : BaseParts) (asked : ArriveQuery) where
  -- after the time gate's reply the version stays
  by_said_stops : (gate : List ℕ) (first : PageName) (reply : List ℕ) (link last : X) (end : ArriveEnd) (said : Result StopsDoc PeerFault) → AfterSaidStops seen base asked gate first reply link last end said →
      end.version ≡ Some first.version
  by_said_stops gate first reply link last end (Ok doc) (inl lacks) = ap (λ (e : ArriveEnd). e.version) lacks.is
  by_said_stops gate first reply link last end (Ok doc) (inr (inl lacks)) = ap (λ (e : ArriveEnd). e.version) lacks.is
  by_said_stops gate first reply link last end (Ok doc) (inr (inr (knows, walked))) = ap (λ (e : ArriveEnd). e.version) walked.is
  by_said_stops gate first reply link last end (Err fault) wrong = ap (λ (e : ArriveEnd). e.version) wrong.is

  by_got_stops : (gate : List ℕ) (first : PageName) (before after : ℕ) (link last : X) (end : ArriveEnd) (got : Got) → AfterGotStops seen base asked gate first before after link last end got → end.version ≡ Some first.version
  by_got_stops gate first before after link last end None failed = ap (λ (e : ArriveEnd). e.version) failed.is
  by_got_stops gate first before after link last end (Some reply) (said, says, leads) = by_said_stops gate first reply link last end said leads

  -- the time gate's reply names the version
  by_got : (side at : Side) (link after last : X) (end : ArriveEnd) (got : Got) (reply : List ℕ) → got ≡ Some reply → OneExchange base side (gate_target_of base asked.arrive) asked.known (seen link) (seen after) got →
      AfterGotGate seen base asked (seen link).faults (seen after).faults after last end got → IsHonestWith (seen after) base at → end.version ≡ Some (version_at at asked.known)
  by_got side at link after last end None reply is x leads there = absurd (cc)
  by_got side at link after last end (Some own) reply is x (said, says, leads) there =
      let read = gate_read base x.left asked x.request own said x.honest.honest.stands x.asks x.replied says in
      let S : Result PageName PeerFault → Type 0 = λ r. AfterSaidGate seen base asked own after last end r in
      let stops = subst S read.2 leads in
      let same : x.left ≡ at = same_side x.left at (sym x.honest.honest.tells ∙ there.tells) in
      by_got_stops own read.0 (seen after).faults (seen stops.after).faults stops.after last end stops.got stops.leads
      ∙ ap Some (meant_by x.left asked read.0 read.1)
      ∙ ap (λ (s : Side). Some (version_at s asked.known)) same

pub named_at_gate : {X : Type 0} (seen : X → LinkSeen) → NamedAtGate seen
named_at_gate seen side at base asked before after end reply honest gate got there =
    by_got seen base asked side at before gate.after after end gate.got reply got
    (one_exchange base side (gate_target_of base asked.arrive) asked.known (seen before) (seen gate.after) gate.got honest gate.exchange) gate.leads there
