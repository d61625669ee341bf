use Rattle.fragmenter.specs.Cutting.{chosen_cuts}
use Rattle.fragmenter.specs.declared.cutting.Cutting.{Cutting}
use Rattle.publisher.specs.Held.{side_of}
use Rattle.lc_world.specs.Sides.Side.{Side}
use Rattle.cli_serve.specs.Serving.{ServingState}
use Rattle.cli_serve.proofs.AnswerLemmas.{all_answered, none_answered, starts}
use Rattle.cli_serve.proofs.visit.answer.Goals as goal

pub returns-in_default : goal.returns-in_default
returns-in_default g c = none_answered (side_of chosen_cuts c.args.publisher) (g.D.Door.seen c.args.door.now) record {}

pub returns : goal.returns
returns g c =
    let side : Side = side_of chosen_cuts c.args.publisher in
    let made : ServingState Cutting = record { session = c.in-Ok.session; publisher = c.args.publisher; count = 0 } in
    let talk = c.new-serving.result in
    let served = c.serve_one-served in
    all_answered served.result side (side_of chosen_cuts c.into_publisher.result) talk served.new.talk (g.D.Door.seen c.args.door.now) (g.D.Door.seen served.new.door)
    (rw c.new-serving.ensures (starts side made c.in-Ok.ensures.fresh (c.in-Ok.ensures.stands side)))
    c.into_publisher.ensures.left
    (record {
      serves = served.ensures.serves;
      whole = served.ensures.served;
      requests = served.ensures.requests;
      out_of_memory = served.ensures.out_of_memory;
      broken = served.ensures.broken;
      others = served.ensures.others;
    })
