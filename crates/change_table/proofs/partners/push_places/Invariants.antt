-- The places of the children so far are added.
use Rattle.std.proofs.Common.{◌≡◌, ◌++◌, take}
use Rattle.change_table.specs.Partners.{places_of}
use Rattle.change_table.proofs.partners.push_places.Given as goal

abbrev pub invariant-loop-child : goal.invariant-loop-child
invariant-loop-child l = l.places.items ≡ l.initial.places.items ++ places_of (take l.child-index l.children)
