-- The timetable of a version of a side: no connection arrives early, and its cuts are lawful.
use Rattle.std.proofs.Common.{ℕ, List, refl}
use Rattle.lc_model.specs.Connection.{NoneArrivesEarly, connections_of}
use Rattle.lc_model.specs.declared.connection.Connection.{Connection}
use Rattle.lc_model.proofs.ConnectionLemmas.{NoneArrivesEarly-sorted}
use Rattle.lc_model.specs.Versions.Cuts.{AreCuts}
use Rattle.lc_model.specs.Versions.History.{news_at}
use Rattle.lc_model.specs.Versions.Pages.{departures_of}
use Rattle.live_calls.proofs.LiveRunsLemmas.{live_runs_go_forward}
use Rattle.lc_world.specs.Sides.Side.{IsTimetableAt, IsValidSide, Side, date_in}
use Rattle.lc_world.proofs.SidesLemmas.PageLemmas.{never_falls}

pub none_arrives_early : (side : Side) (version : ℕ) (list : List Connection) → IsValidSide side → IsTimetableAt side version list → NoneArrivesEarly list
none_arrives_early side version list valid t =
    let news = news_at (date_in side.zone) side.history version in
    NoneArrivesEarly-sorted t.live (connections_of t.live) list (live_runs_go_forward side.runs side.doc.stops news t.live valid.calls t.are_live) refl t.are_connections.all

pub cuts_are_lawful : (side : Side) (version : ℕ) (list : List Connection) → IsValidSide side → IsTimetableAt side version list → AreCuts (departures_of list) (side.cuts_of (departures_of list))
cuts_are_lawful side version list valid t = valid.lawful (departures_of list) (never_falls list t.are_connections.in_order)
