use Rattle.std.proofs.Common.{ℕ, List, Option, refl, ◌∙◌, ap}
use Rattle.page_client.specs.Shown.{Shown, is_wrong, wrong_gate}
use Rattle.page_client.specs.declared.phase.Phase.TheVariants as phases
use Rattle.page_client.proofs.SequelLemmas.{ends_taken, ends_wrong, goes_right, goes_takes}
use Rattle.page_client.proofs.PageLemmas.{next_fewer, next_sound, next_taken, waits_for}
use Rattle.page_client.proofs.client.Client.give_page.Goals as goal

pub invariant_of-self-in-Goes : goal.invariant_of-self-in-Goes
invariant_of-self-in-Goes c =
    let self = c.args.self.now in
    let page = c.args.page.now in
    let same = ap (wrong_gate page self.query.leave) c.take-gate.ensures.value in
    let right = goes_right (wrong_gate page self.query.leave self.gate) _ c.in-Goes.next c.in-Goes.is (λ o e. c.in_ok-next.ensures.wrong o (same ∙ e)) in
    let takes = goes_takes c.in-Some.scan c.after_page.new.scan page _ c.in-Goes.next c.in-Goes.is (c.in_ok-next.ensures.right (same ∙ right)) in
    record {
      sound = next_sound page c.requires.advances c.requires.valid c.in-Some.scan c.after_page.new.scan c.in-Goes.next takes self.query self.gate right
          self.scan c.in-Some.is self.phase (waits_for self.phase page.name c.requires.wanted) self.sound c.take-gate.new.self c.take-gate.ensures.after;
    }

pub returns-in-Goes-clause-fewer : goal.returns-in-Goes-clause-fewer
returns-in-Goes-clause-fewer c =
    let self = c.args.self.now in
    let page = c.args.page.now in
    let same = ap (wrong_gate page self.query.leave) c.take-gate.ensures.value in
    let right = goes_right (wrong_gate page self.query.leave self.gate) _ c.in-Goes.next c.in-Goes.is (λ o e. c.in_ok-next.ensures.wrong o (same ∙ e)) in
    let takes = goes_takes c.in-Some.scan c.after_page.new.scan page _ c.in-Goes.next c.in-Goes.is (c.in_ok-next.ensures.right (same ∙ right)) in
    next_fewer page c.requires.advances c.requires.valid c.in-Some.scan c.after_page.new.scan c.in-Goes.next takes self.query self.gate right
    self.scan c.in-Some.is self.phase (waits_for self.phase page.name c.requires.wanted) self.sound c.take-gate.new.self c.take-gate.ensures.after

pub returns-in-Goes-clause-ok : goal.returns-in-Goes-clause-ok
returns-in-Goes-clause-ok c =
    let self = c.args.self.now in
    let page = c.args.page.now in
    let same = ap (wrong_gate page self.query.leave) c.take-gate.ensures.value in
    let right = goes_right (wrong_gate page self.query.leave self.gate) _ c.in-Goes.next c.in-Goes.is (λ o e. c.in_ok-next.ensures.wrong o (same ∙ e)) in
    let takes = goes_takes c.in-Some.scan c.after_page.new.scan page _ c.in-Goes.next c.in-Goes.is (c.in_ok-next.ensures.right (same ∙ right)) in
    let F : Option (List ℕ) → Shown = λ gate. record { query = self.query; phase = phases.Page c.in-Goes.next; version = self.version; gate = gate; outcome = self.outcome } in
    next_taken page c.requires.advances c.requires.valid c.in-Some.scan c.after_page.new.scan self _ c.in-Some.is (waits_for self.phase page.name c.requires.wanted) right
    c.in-Goes.next takes refl refl refl (ap F c.take-gate.ensures.after)

pub returns-in-Goes-clause-wrong : goal.returns-in-Goes-clause-wrong
returns-in-Goes-clause-wrong c = λ none.
    let self = c.args.self.now in
    let page = c.args.page.now in
    let same = ap (wrong_gate page self.query.leave) c.take-gate.ensures.value in
    let right = goes_right (wrong_gate page self.query.leave self.gate) _ c.in-Goes.next c.in-Goes.is (λ o e. c.in_ok-next.ensures.wrong o (same ∙ e)) in
    rw (none, right) refl

pub returns-in-Ends-clause-ok : goal.returns-in-Ends-clause-ok
returns-in-Ends-clause-ok c =
    let self = c.args.self.now in
    let page = c.args.page.now in
    let same = ap (wrong_gate page self.query.leave) c.take-gate.ensures.value in
    ends_taken page c.in-Some.scan c.after_page.new.scan _ c.in-Ends.outcome c.in-Ends.is c.requires.advances c.requires.valid self _ c.in-Some.is
    (waits_for self.phase page.name c.requires.wanted) (λ o e. c.in_ok-next.ensures.wrong o (same ∙ e)) (λ e. c.in_ok-next.ensures.right (same ∙ e)) c.end.ensures

pub returns-in-Ends-clause-wrong : goal.returns-in-Ends-clause-wrong
returns-in-Ends-clause-wrong c = λ none.
    let self = c.args.self.now in
    let page = c.args.page.now in
    let same = ap (wrong_gate page self.query.leave) c.take-gate.ensures.value in
    ap (λ (s : Shown). is_wrong s.outcome) c.end.ensures
    ∙ ends_wrong page c.in-Some.scan c.after_page.new.scan _ c.in-Ends.outcome c.in-Ends.is self.query.leave self.gate
    (λ o e. c.in_ok-next.ensures.wrong o (same ∙ e)) (λ e. c.in_ok-next.ensures.right (same ∙ e))
