-- What is heard in an event sequence is one.
use Rattle.std.proofs.Common.{◌≡◌, ◌∙◌, ℕ, List, [], ◌∷◌, ◌++◌, Some, ap, ap₂, refl, subst, sym}
use Rattle.cli_ask.proofs.AdmissionLemmas.{AreOne, HaveHeardOne, of_history, one_behind}
use Rattle.version_store.specs.Laws.{OneOutcome}
use Rattle.version_store.specs.Store.{Stored}
use Rattle.cli_replay.specs.ReplayLaws.Versions.{HasHeard}
use Rattle.cli_replay.specs.declared.replay_laws.event.Event.{Event}
use Rattle.cli_replay.specs.declared.replay_laws.event.Event.TheVariants as events

-- the store after an event sequence differs in its history alone
pub of_course : (all : List Event) (old new : Stored) (lines : List ℕ) → HasHeard all old new lines → new ≡ record old { history = new.history }
of_course [] old new lines (same, none) = subst (λ (s : Stored). s ≡ record old { history = s.history }) (sym same) refl
of_course (events.Ask query ∷ more) old new lines heard = of_course more old new lines heard
of_course (events.Message message ∷ more) old new lines (between, line, rest, behind, heard, is) =
    of_course more between new rest heard ∙ ap (λ (s : Stored). record s { history = new.history }) (of_history (Some message.file) old between line behind)
of_course (events.Turn client ∷ more) old new lines heard = of_course more old new lines heard

-- stores that have heard the same hear the same, and the lines are one text
pub one_course_heard : OneOutcome → (all : List Event) (old new other later : Stored) (lines other_lines : List ℕ) → HaveHeardOne old other → HasHeard all old new lines →
    HasHeard all other later other_lines → AreOne new later lines other_lines
one_course_heard one_outcome [] old new other later lines other_lines one (same, none) (still, nothing) = record {
  heard = record {
    base = ap (λ (s : Stored). s.base) same ∙ one.base ∙ sym (ap (λ (s : Stored). s.base) still);
    history = ap (λ (s : Stored). s.history) same ∙ one.history ∙ sym (ap (λ (s : Stored). s.history) still);
  };
  line = none ∙ sym nothing;
}
one_course_heard one_outcome (events.Ask query ∷ more) old new other later lines other_lines one heard other_heard =
    one_course_heard one_outcome more old new other later lines other_lines one heard other_heard
one_course_heard one_outcome (events.Message message ∷ more) old new other later lines other_lines one (between, line, rest, behind, heard, is)
    (other_between, other_line, other_rest, other_behind, other_heard, other_is) =
    let first = one_behind one_outcome old other one between other_between line other_line (Some message.file) behind other_behind in
    let second = one_course_heard one_outcome more between new other_between later rest other_rest first.heard heard other_heard in
    record { heard = second.heard; line = is ∙ ap₂ (λ (x y : List ℕ). x ++ y) first.line second.line ∙ sym other_is }
one_course_heard one_outcome (events.Turn client ∷ more) old new other later lines other_lines one heard other_heard =
    one_course_heard one_outcome more old new other later lines other_lines one heard other_heard
