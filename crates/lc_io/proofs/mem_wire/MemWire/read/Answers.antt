-- The first piece to come was read, whole or in part.
use Rattle.std.proofs.Common.{◌≡◌, ◌≢◌, ◌+◌, length, arith, subst}
use Rattle.lc_io.specs.MemWire.{MemWireState, ReadsPiece}
use Rattle.lc_io.proofs.PieceLemmas.{reads_part, reads_whole, wire_at}
use Rattle.lc_io.proofs.mem_wire.MemWire.read.Goals as goal

pub invariant_of-self : goal.invariant_of-self
invariant_of-self c =
    let all : c.copy_front-count.result ≡ length c.in-Some.rest.now = omega arith in
    (reads_whole c.deref.result.now c.self.inside.pieces.items c.self.inside.whole c.self.inside.part c.in-Some.rest.now c.self.inside.sent.items c.self.inside.failed c.self.inside.read_failed
    c.args.piece.now c.copy_front-count.new.to c.copy_front-count.result c.deref.ensures.value c.self.invariant c.in-Some.ensures.rest
    c.copy_front-count.ensures.count c.copy_front-count.ensures.copied c.copy_front-count.auto.to all).1

pub invariant_of-self-else-count-rest : goal.invariant_of-self-else-count-rest
invariant_of-self-else-count-rest c =
    let not_all : c.copy_front-count.result ≢ length c.in-Some.rest.now = omega arith in
    (reads_part c.deref.result.now c.self.inside.pieces.items c.self.inside.whole c.self.inside.part c.in-Some.rest.now c.self.inside.sent.items c.self.inside.failed c.self.inside.read_failed
    c.args.piece.now c.copy_front-count.new.to c.copy_front-count.result c.deref.ensures.value c.self.invariant c.in-Some.ensures.rest
    c.copy_front-count.ensures.count c.copy_front-count.ensures.copied c.copy_front-count.auto.to not_all).1

pub returns-then-count-rest : goal.returns-then-count-rest
returns-then-count-rest c =
    let all : c.copy_front-count.result ≡ length c.in-Some.rest.now = omega arith in
    let Goal : MemWireState → Type 0 = λ s. ReadsPiece s (wire_at c.self.inside.pieces.items (c.self.inside.whole + 1) 0 c.self.inside.sent.items c.self.inside.failed c.self.inside.read_failed)
    c.args.piece.now c.copy_front-count.new.to c.copy_front-count.result in
    subst Goal c.self.view_is (reads_whole c.deref.result.now c.self.inside.pieces.items c.self.inside.whole c.self.inside.part c.in-Some.rest.now c.self.inside.sent.items c.self.inside.failed c.self.inside.read_failed
    c.args.piece.now c.copy_front-count.new.to c.copy_front-count.result c.deref.ensures.value c.self.invariant c.in-Some.ensures.rest
    c.copy_front-count.ensures.count c.copy_front-count.ensures.copied c.copy_front-count.auto.to all).0

pub returns-else-count-rest : goal.returns-else-count-rest
returns-else-count-rest c =
    let not_all : c.copy_front-count.result ≢ length c.in-Some.rest.now = omega arith in
    let Goal : MemWireState → Type 0 = λ s. ReadsPiece s (wire_at c.self.inside.pieces.items c.self.inside.whole (c.self.inside.part + c.copy_front-count.result) c.self.inside.sent.items c.self.inside.failed c.self.inside.read_failed)
    c.args.piece.now c.copy_front-count.new.to c.copy_front-count.result in
    subst Goal c.self.view_is (reads_part c.deref.result.now c.self.inside.pieces.items c.self.inside.whole c.self.inside.part c.in-Some.rest.now c.self.inside.sent.items c.self.inside.failed c.self.inside.read_failed
    c.args.piece.now c.copy_front-count.new.to c.copy_front-count.result c.deref.ensures.value c.self.invariant c.in-Some.ensures.rest
    c.copy_front-count.ensures.count c.copy_front-count.ensures.copied c.copy_front-count.auto.to not_all).0
