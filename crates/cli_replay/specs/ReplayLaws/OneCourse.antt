-- That two plays of one event sequence result in the same, where the replies come as the publisher gave them.
use Rattle.std.specs.Prelude.{◌≡◌, ℕ, List, Option, length}
use Rattle.std.specs.List.{All, AllZip}
use Rattle.cli_words.specs.declared.command.Publishing.{Publishing}
use Rattle.convoy.specs.Replies.Met.{Met}
use Rattle.lc_world.specs.declared.entry.Entry.{Entry}
use Rattle.timetable.specs.Laws.{AreSame}
use Rattle.timetable.specs.declared.timetable.Timetable.{Timetable}
use Rattle.cli_ask.specs.Laws.{AreOneEnd, IsNoLinkFault}
use Rattle.cli_ask.specs.declared.end.ClientEnd.{ClientEnd}
use Rattle.cli_replay.specs.ReplayLaws.Events.{TurnsAreOfClients, questions_in}
use Rattle.cli_replay.specs.ReplayLaws.Right.{ArePlayedRight}
use Rattle.cli_replay.specs.declared.replay_laws.event.Event.{Event}

-- The event sequence was played rightly, whatever was recorded or received of it, and however the count of faults increased. It has these lines
-- and one end for each question, of which none is a fault of the link.
pub record IsPlayedOut (made : Timetable) (publishing : Publishing) (all : List Event) (cache : ℕ) (lines : List ℕ) (ends : List ClientEnd) : Type 0 where
  pub recorded : Option (List Entry)
  pub now_recorded : Option (List Entry)
  pub faults : ℕ
  pub now_faults : ℕ
  pub met : List Met
  pub right : ArePlayedRight made publishing all cache recorded now_recorded faults now_faults lines ends met
  pub one_each : length ends ≡ length (questions_in all)
  pub no_fault : All (λ (end : ClientEnd). IsNoLinkFault end.outcome) ends

-- The messages have the same lines. As many clients have ends that are one: one version, equal outcomes, and as many exchanges.
pub record ComeToOne (lines other_lines : List ℕ) (ends other_ends : List ClientEnd) : Type 0 where
  pub one_text : lines ≡ other_lines
  pub one_each : AllZip AreOneEnd ends other_ends

-- an event sequence of turns of clients has one result, for equal timetables, with one way to publish them and one capacity of the cache
abbrev pub OneCourse : Type 0
OneCourse =
    (a b : Timetable) (publishing : Publishing) (all : List Event) (cache : ℕ) (lines other_lines : List ℕ) (ends other_ends : List ClientEnd)
    → AreSame a b → TurnsAreOfClients all → IsPlayedOut a publishing all cache lines ends → IsPlayedOut b publishing all cache other_lines other_ends
    → ComeToOne lines other_lines ends other_ends
