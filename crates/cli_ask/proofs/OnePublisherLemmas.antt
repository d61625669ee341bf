-- A timetable and a message make one publisher.
use Rattle.std.proofs.Common.{◌≡◌, ◌∙◌, List, ap, refl, sym}
use Rattle.lc_model.specs.Versions.History.{Entry}
use Rattle.version_store.specs.Laws.{OneOutcome}
use Rattle.version_store.specs.Store.{Stored}
use Rattle.cli_ask.specs.Laws.{OnePublisher}
use Rattle.cli_ask.specs.Publishing.{held_for, store_of}
use Rattle.cli_ask.proofs.AdmissionLemmas.{of_history, one_behind, store_with}

pub one_publisher : OneOutcome → OnePublisher
one_publisher one_outcome made publishing accepts file held other line later p q =
    let moment = publishing.base_moment in
    let old = store_of made moment in
    let one = one_behind one_outcome old old (record { base = refl; history = refl }) p.store q.store line later file p.behind q.behind in
    let store : p.store ≡ q.store =
    of_history file old p.store line p.behind ∙ ap (λ (h : List Entry). store_with made moment h) one.heard.history
    ∙ sym (of_history file old q.store later q.behind) in
    (p.held_is ∙ ap (λ (s : Stored). held_for made publishing s accepts) store ∙ sym q.held_is, one.line)
