-- The entries of what a relay has recorded.
use Rattle.std.specs.Prelude.{List, map}
use Rattle.lc_world.specs.ListLink.{entry_of}
use Rattle.lc_world.specs.declared.entry.Entry.{Entry}
use Rattle.page_relay.specs.Recorded.{recorded_reply}
use Rattle.page_relay.specs.declared.recorded.Recorded.{Recorded}

-- an exchange with how it ended
abbrev pub entry_recorded : Recorded → Entry
entry_recorded recorded = entry_of recorded.sent.value.authority recorded.sent.value.request (recorded_reply recorded.came recorded.reply.value.items)

abbrev pub entries_of : List (Recorded × Unit {0}) → List Entry
entries_of all = map (λ (recorded : Recorded × Unit {0}). entry_recorded recorded.0) all
