-- The live runs of a timetable go forward, and the further ones.
use Rattle.std.proofs.Common.{List, inl, inr, sym, subst}
use Rattle.std.specs.List.{All}
use Rattle.std.proofs.lemmas.List.Elements.{All-contains}
use Rattle.lc_model.specs.Call.{GoesForward, InSequence}
use Rattle.lc_model.specs.Run.{RunsForward}
use Rattle.lc_model.specs.declared.run.Run.{Run}
use Rattle.lc_model.specs.declared.stop.Stop.{Stop}
use Rattle.lc_model.proofs.ListLemmas.{All-from_contains}
use Rattle.lc_model.specs.Versions.Naming.{news_for}
use Rattle.lc_model.specs.Versions.News.{TripSaid}
use Rattle.lc_model.specs.Versions.Timetable.{AreLiveRuns}
use Rattle.live_calls.proofs.AddedLemmas.{added_go_forward}
use Rattle.live_calls.proofs.LiveLemmas.{live_go_forward}

pub live_runs_go_forward : (runs : List Run) (stops : List Stop) (list : List TripSaid) (live : List Run) → All (λ (r : Run). InSequence r.calls) runs → AreLiveRuns runs stops list live → RunsForward live
live_runs_go_forward runs stops list live rise are =
    All-from_contains (λ (r : Run). GoesForward r.calls) live (λ run there. elim ((are.exactly run).0 there) [
      | inl is ↦ subst GoesForward (sym is.calls) (live_go_forward is.run.calls (news_for is.run.key list) (All-contains (λ (r : Run). InSequence r.calls) runs is.run rise is.of_timetable))
      | inr further ↦ subst GoesForward (sym further.calls) (added_go_forward stops further.news.stops)
    ])
