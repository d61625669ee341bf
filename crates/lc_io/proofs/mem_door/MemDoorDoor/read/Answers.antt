-- What is read in memory is recorded.
use Rattle.std.proofs.Common.{◌≡◌, ◌∙◌, ap, subst}
use Rattle.lc_io.specs.Door.{OnCurrent, Takes}
use Rattle.lc_io.specs.MemDoor.{MemDoorState}
use Rattle.lc_io.specs.MemWires.{MemWiresState, recorded_of}
use Rattle.lc_io.proofs.RecordedLemmas.{reads_recorded}
use Rattle.lc_io.proofs.mem_door.MemDoorDoor.read.Goals as goal

pub returns-clause-recorded : goal.returns-clause-recorded
returns-clause-recorded c =
    let Goal : MemWiresState → Type 0 = λ wires. OnCurrent (Takes c.read.new.piece c.read.result) (recorded_of wires) (recorded_of c.read.new.self) in
    let same : c.self-2.inside.wires ≡ c.args.self.now.wires = ap (λ (door : MemDoorState). door.wires) (c.self-2.view_is ∙ c.fails_now.ensures.counted) in
    subst Goal same (reads_recorded c.args.piece.now c.read.new.piece c.read.result c.self-2.inside.wires c.read.new.self c.read.auto.piece c.read.ensures.others c.read.ensures.current)
