use Rattle.version_store.specs.Filed.{AreAlike}
use Rattle.version_store.proofs.ExchangeLemmas.{HasSoFar}
use Rattle.version_store.proofs.exchange.make_room.Given as goal

abbrev pub invariant-loop-label : goal.invariant-loop-label
invariant-loop-label l = record { alike : AreAlike l.initial.filed l.filed; has : HasSoFar l.patch l.label-iterator l.filed }
