use Rattle.std.proofs.Common.{◌≡◌, ◌++◌, take}
use Rattle.rounds_client.proofs.ending.push_page.Given as goal

abbrev pub invariant-added : goal.invariant-added
invariant-added l = l.list.items ≡ l.initial.list.items ++ take l.connection-index l.added
