-- What is read in memory is recorded.
use Rattle.std.proofs.Common.{subst}
use Rattle.lc_io.specs.Door.{OnCurrent, Takes}
use Rattle.lc_io.specs.MemWires.{MemWiresState, recorded_of}
use Rattle.lc_io.proofs.RecordedLemmas.{reads_recorded}
use Rattle.lc_io.proofs.sure_door.SureDoorDoor.read.Goals as goal

pub returns-clause-recorded : goal.returns-clause-recorded
returns-clause-recorded c =
    let Goal : MemWiresState → Type 0 = λ wires. OnCurrent (Takes c.read.new.piece c.read.result) (recorded_of wires) (recorded_of c.read.new.self) in
    subst Goal c.self.view_is (reads_recorded c.args.piece.now c.read.new.piece c.read.result c.self.inside.wires c.read.new.self c.read.auto.piece c.read.ensures.others c.read.ensures.current)
