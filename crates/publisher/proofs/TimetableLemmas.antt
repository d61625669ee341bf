-- Each version of a valid side has some timetable.
use Rattle.lc_model.specs.Versions.History.{news_at}
use Rattle.lc_world.specs.Sides.Side.{date_in}
use Rattle.version_store.proofs.SomeRowsLemmas.{some_connections}
use Rattle.publisher.specs.Laws.{SomeTimetable}

pub some_list : SomeTimetable
some_list side version valid =
    let some = some_connections side.runs side.doc.stops (news_at (date_in side.zone) side.history version) valid.runs valid.calls in
    (some.1.1.0, record { live = some.0; are_live = some.1.0; are_connections = some.1.1.1 })
