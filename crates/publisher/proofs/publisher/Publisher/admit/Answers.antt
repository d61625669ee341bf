use Rattle.std.proofs.Common.{◌≡◌, ◌∙◌, List, ap, subst, sym}
use Rattle.std.specs.List.{All}
use Rattle.lc_model.specs.Call.{InSequence}
use Rattle.lc_model.specs.Run.{InKeyOrder}
use Rattle.lc_model.specs.declared.run.Run.{Run}
use Rattle.version_store.specs.Admission.{IsRefused}
use Rattle.version_store.specs.Store.{Stored}
use Rattle.publisher.specs.Inside.{held_of}
use Rattle.publisher.proofs.CutsLemmas.{keeps_after, same_runs, same_stops}
use Rattle.publisher.proofs.publisher.Publisher.admit.Goals as goal

pub invariant_of-self : goal.invariant_of-self
invariant_of-self g c =
    let cuts_of = g.G.Fragmenter.cuts_of in
    let held = held_of c.self.inside in
    let store = c.admit-outcome.new.self in
    let bytes = c.args.bytes.now in
    let outcome = c.admit-outcome.result in
    let taken = c.admit-outcome.ensures.taken in
    let unchanged = c.admit-outcome.ensures.unchanged in
    let runs = sym (same_runs cuts_of held store bytes outcome taken unchanged) in
    record {
      stops = same_stops cuts_of held store bytes outcome taken unchanged ∙ c.self.invariant.stops;
      runs = subst InKeyOrder runs c.self.invariant.runs;
      calls = subst (λ (list : List Run). All (λ (run : Run). InSequence run.calls) list) runs c.self.invariant.calls;
      cuts = keeps_after cuts_of held store bytes outcome c.self.inside.cuts taken unchanged c.versions-versions.ensures.rising c.self.invariant.cuts;
      few = c.self.invariant.few;
      text = c.self.invariant.text;
      sound = c.self.invariant.sound;
    }

pub returns-clause-only_refused : goal.returns-clause-only_refused
returns-clause-only_refused g c = λ fault cause.
    let same : c.self.inside.store ≡ c.args.self.now.store = ap (λ held. held.store) c.self.view_is in
    c.admit-outcome.ensures.only_refused fault (subst (λ (store : Stored). IsRefused store c.args.bytes.now fault) (sym same) cause)
