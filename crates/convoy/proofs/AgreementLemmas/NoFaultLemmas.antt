-- A client that receives a reply or a page does not end by a fault of the link.
use Rattle.std.proofs.Common.{◌≡◌, ℕ, inl, inr, List, Bool, true, false, Option, Some, None, Result, Ok, Err, ap, sym, ◌∙◌}
use Rattle.std.specs.Prelude.{if◌then◌else◌}
use Rattle.lc_model.specs.declared.connection.Connection.{Connection}
use Rattle.lc_model.specs.declared.doc.StopsDoc.{StopsDoc}
use Rattle.lc_model.specs.declared.page.PageName.{PageName}
use Rattle.page_json.specs.declared.page.Page.{Page}
use Rattle.page_client.specs.Client.{AfterDoc, AfterPage, AfterStops, Leaves, StandsFor, TakesPage, shown}
use Rattle.page_client.specs.Shown.{Shown, after_gate, answered, is_off, wrong_gate}
use Rattle.page_client.specs.declared.client.Client.{Client}
use Rattle.page_client.specs.declared.fault.PeerFault.{PeerFault}
use Rattle.page_client.specs.declared.fault.PeerFault.TheVariants.{GateWrong}
use Rattle.page_client.specs.declared.fault.QueryFault.TheVariants.{UnknownFrom, UnknownTo}
use Rattle.page_client.specs.declared.outcome.Outcome.{Outcome}
use Rattle.page_client.specs.declared.outcome.Outcome.TheVariants.{LinkFault, PeerWrong, Refused}
use Rattle.page_client.specs.declared.step.Step.{Step}
use Rattle.page_client.specs.declared.step.Step.TheVariants.{Last, Next}
use Rattle.convoy.specs.Agreement.Leaves.{HasFault}

-- this is no fault of the link
abbrev pub IsOther : Option Outcome → Type 0
IsOther outcome = (low high : ℕ) → outcome ≡ Some (LinkFault low high) → ⊥

-- a client with another outcome has no fault
other : (s : Shown) (outcome : Option Outcome) → s.outcome ≡ outcome → IsOther outcome → ¬ HasFault s
other s outcome is not fault = not fault.low fault.high (sym is ∙ fault.is)

none_is_other : IsOther None
none_is_other low high is = cc

wrong_is_other : (reply : List ℕ) (fault : PeerFault) → IsOther (Some (PeerWrong reply fault))
wrong_is_other reply fault low high is = cc

answer_is_other : (journey : Option _) → IsOther (Some (answered journey))
answer_is_other None low high is = cc
answer_is_other (Some journey) low high is = cc

-- the time gate's reply
pub gate_no_fault : (old new : Shown) (reply : List ℕ) (said : Result PageName PeerFault) → new ≡ after_gate reply said old → old.outcome ≡ None → ¬ HasFault new
gate_no_fault old new reply (Ok name) is none = other new None (ap (λ (s : Shown). s.outcome) is ∙ none) none_is_other
gate_no_fault old new reply (Err fault) is none = other new (Some (PeerWrong reply fault)) (ap (λ (s : Shown). s.outcome) is) (wrong_is_other reply fault)

-- the stops document
doc_no_fault : (old new : Client) (doc : StopsDoc) → AfterDoc old doc new → (shown old).outcome ≡ None → ¬ HasFault (shown new)
doc_no_fault old new doc (inl (no_from, is)) none = other (shown new) (Some (Refused UnknownFrom)) (ap (λ (s : Shown). s.outcome) is) (λ low high e. cc)
doc_no_fault old new doc (inr (inl (from, no_to, is))) none = other (shown new) (Some (Refused UnknownTo)) (ap (λ (s : Shown). s.outcome) is) (λ low high e. cc)
doc_no_fault old new doc (inr (inr (from, to, is, stands))) none = other (shown new) None (ap (λ (s : Shown). s.outcome) is ∙ none) none_is_other

pub stops_no_fault : (old new : Client) (reply : List ℕ) (said : Result StopsDoc PeerFault) → AfterStops old reply said new → (shown old).outcome ≡ None → ¬ HasFault (shown new)
stops_no_fault old new reply (Ok doc) after none = doc_no_fault old new doc after none
stops_no_fault old new reply (Err fault) is none = other (shown new) (Some (PeerWrong reply fault)) (ap (λ (s : Shown). s.outcome) is) (wrong_is_other reply fault)

-- a page
wrong_gate_is_other : (page : Page) (leave : ℕ) (gate : Option (List ℕ)) → IsOther (wrong_gate page leave gate)
wrong_gate_is_other page leave None low high is = cc
wrong_gate_is_other page leave (Some reply) low high is =
    by_test (is_off leave page) is where
      by_test : (off : Bool) → (if off then Some (PeerWrong reply (GateWrong page)) else None) ≡ Some (LinkFault low high) → ⊥
      by_test true e = cc
      by_test false e = cc

leaves_no_fault : (old : Shown) (new : Client) (doc : StopsDoc) (taken : List Connection) (step : Step) → Leaves old doc taken step new → old.outcome ≡ None → ¬ HasFault (shown new)
leaves_no_fault old new doc taken (Next next) leaves none = other (shown new) None (ap (λ (s : Shown). s.outcome) leaves.0 ∙ none) none_is_other
leaves_no_fault old new doc taken (Last journey) leaves none = other (shown new) (Some (answered journey)) (ap (λ (s : Shown). s.outcome) leaves) (answer_is_other journey)

after_page_no_fault : (old new : Client) (page : Page) (doc : StopsDoc) (taken : List Connection) (outcome : Option Outcome) → IsOther outcome → AfterPage old page outcome new →
    StandsFor old doc taken → (shown old).outcome ≡ None → ¬ HasFault (shown new)
after_page_no_fault old new page doc taken (Some outcome) not is stands none = other (shown new) (Some outcome) (ap (λ (s : Shown). s.outcome) is) not
after_page_no_fault old new page doc taken None not goes_on stands none =
    let on = goes_on doc taken stands in
    leaves_no_fault (shown old) new doc _ on.0 on.2 none

pub page_no_fault : (old new : Client) (page : Page) (doc : StopsDoc) (taken : List Connection) → TakesPage old page new → StandsFor old doc taken → (shown old).outcome ≡ None → ¬ HasFault (shown new)
page_no_fault old new page doc taken takes stands none =
    after_page_no_fault old new page doc taken (wrong_gate page old.query.leave old.gate) (wrong_gate_is_other page old.query.leave old.gate) takes stands none
