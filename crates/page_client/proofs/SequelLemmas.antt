-- A client after a page, by what it does then.
use Rattle.std.proofs.Common.{◌≡◌, ℕ, List, Bool, true, false, Option, Some, None, refl, sym, ◌∙◌, ap, subst}
use Rattle.std.specs.Prelude.{if◌then◌else◌, is_some}
use Rattle.lc_model.specs.declared.journey.Journey.{Journey}
use Rattle.lc_model.specs.declared.page.PageName.{PageName}
use Rattle.csa_scan.specs.declared.scan.Scan.{Scan}
use Rattle.page_json.specs.Valid.{IsValidPage}
use Rattle.page_json.specs.declared.page.Page.{Page}
use Rattle.page_client.specs.Sequel.{IsSequel, sequel_of}
use Rattle.page_client.specs.Client.{AfterPage, TakesPage, shown}
use Rattle.page_client.specs.Course.{TakesOn}
use Rattle.page_client.specs.Page.{advances}
use Rattle.page_client.specs.Shown.{answered, ended, is_off, is_wrong, wrong_gate}
use Rattle.page_client.specs.declared.client.Client.{Client}
use Rattle.page_client.specs.declared.fault.PeerFault.TheVariants.{GateWrong}
use Rattle.page_client.specs.declared.outcome.Outcome.{Outcome}
use Rattle.page_client.specs.declared.outcome.Outcome.TheVariants.{PeerWrong}
use Rattle.page_client.specs.declared.phase.Phase.TheVariants as phases
use Rattle.page_client.specs.declared.step.Sequel.{Sequel}
use Rattle.page_client.specs.declared.step.Sequel.TheVariants.{Ends, Goes}
use Rattle.page_client.specs.declared.step.Step.{Step}
use Rattle.page_client.specs.declared.step.Step.TheVariants.{Last, Next}
use Rattle.page_client.proofs.PageLemmas.{last_taken}

-- where the client goes on, the time gate was not wrong
pub goes_right : (wrong : Option Outcome) (sequel : Sequel) (next : PageName) → sequel ≡ Goes next → ((outcome : Outcome) → wrong ≡ Some outcome → sequel ≡ Ends outcome) → wrong ≡ None
goes_right None sequel next is ends = refl
goes_right (Some outcome) sequel next is ends = let e = ends outcome refl in absurd (cc)

-- and the scan took the page on to the next one
pub goes_takes : (old new : Scan) (page : Page) (sequel : Sequel) (next : PageName) → sequel ≡ Goes next → IsSequel old new page sequel → TakesOn old new page (Next next)
goes_takes old new page sequel next is h = by h.step h.takes h.is
  where
    by : (step : Step) → TakesOn old new page step → sequel ≡ sequel_of step → TakesOn old new page (Next next)
    by (Next other) takes e = let same : other ≡ next = cc in subst (λ (n : PageName). TakesOn old new page (Next n)) same takes
    by (Last journey) takes e = absurd (cc)

-- a time gate that was wrong is said to be
gate_is_wrong : (page : Page) (leave : ℕ) (gate : Option (List ℕ)) (outcome : Outcome) → wrong_gate page leave gate ≡ Some outcome → is_wrong (Some outcome) ≡ true
gate_is_wrong page leave None outcome e = absurd (cc)
gate_is_wrong page leave (Some reply) outcome e = by (is_off leave page) e
  where
    by : (off : Bool) → (if off then Some (PeerWrong reply (GateWrong page)) else None) ≡ Some outcome → is_wrong (Some outcome) ≡ true
    by true f = let same : PeerWrong reply (GateWrong page) ≡ outcome = cc in subst (λ (o : Outcome). is_wrong (Some o) ≡ true) same refl
    by false f = absurd (cc)

-- an answer is not
answer_is_right : (journey : Option Journey) → is_wrong (Some (answered journey)) ≡ false
answer_is_right None = refl
answer_is_right (Some journey) = refl

module _ (page : Page) (old new : Scan) (sequel : Sequel) (outcome : Outcome) (is : sequel ≡ Ends outcome) where
  -- what is answered where the client ends, though the time gate was right
  ends_answered : IsSequel old new page sequel → (journey : Option Journey) × (outcome ≡ answered journey) × TakesOn old new page (Last journey)
  ends_answered h = by h.step h.takes h.is
    where
      by : (step : Step) → TakesOn old new page step → sequel ≡ sequel_of step → (journey : Option Journey) × (outcome ≡ answered journey) × TakesOn old new page (Last journey)
      by (Next next) takes e = absurd (cc)
      by (Last journey) takes e = let same : outcome ≡ answered journey = cc in (journey, same, takes)

  -- where the client ends, its outcome says whether the time gate was wrong
  pub ends_wrong : (leave : ℕ) (gate : Option (List ℕ)) → ((o : Outcome) → wrong_gate page leave gate ≡ Some o → sequel ≡ Ends o) → (wrong_gate page leave gate ≡ None → IsSequel old new page sequel)
      → is_wrong (Some outcome) ≡ is_some (wrong_gate page leave gate)
  ends_wrong leave gate wrong right = by (wrong_gate page leave gate) refl
    where
      by : (w : Option Outcome) → wrong_gate page leave gate ≡ w → is_wrong (Some outcome) ≡ is_some (wrong_gate page leave gate)
      by (Some o) e =
          let ends = wrong o e in
          let same : outcome ≡ o = cc in
          ap (λ (x : Outcome). is_wrong (Some x)) same ∙ gate_is_wrong page leave gate o e ∙ sym (ap (λ (x : Option Outcome). is_some x) e)
      by None e =
          let answer = ends_answered (right e) in
          ap (λ (x : Outcome). is_wrong (Some x)) answer.1 ∙ answer_is_right answer.0 ∙ sym (ap (λ (x : Option Outcome). is_some x) e)

  -- where the client ends, it took the page
  pub ends_taken : (goes : advances page ≡ true) (valid : IsValidPage page) (was now : Client) → was.scan ≡ Some old → was.phase ≡ phases.Page page.name
      → ((o : Outcome) → wrong_gate page was.query.leave was.gate ≡ Some o → sequel ≡ Ends o) → (wrong_gate page was.query.leave was.gate ≡ None → IsSequel old new page sequel)
      → shown now ≡ ended outcome (shown was) → TakesPage was page now
  ends_taken goes valid was now has wants wrong right shows = by (wrong_gate page was.query.leave was.gate) refl
    where
      by : (w : Option Outcome) → wrong_gate page was.query.leave was.gate ≡ w → TakesPage was page now
      by (Some o) e =
          let P : Option Outcome → Type 0 = λ w. AfterPage was page w now in
          let ends = wrong o e in
          let same : outcome ≡ o = cc in
          subst P (sym e) (shows ∙ ap (λ (x : Outcome). ended x (shown was)) same)
      by None e =
          let answer = ends_answered (right e) in
          last_taken page goes valid old new was now has wants e answer.0 answer.2 (shows ∙ ap (λ (x : Outcome). ended x (shown was)) answer.1)
