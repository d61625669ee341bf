use Rattle.std.proofs.Common.{◌≡◌, [], ◌∷◌, ◌++◌, arith}
use Rattle.csa_scan.proofs.NumbersGrowLemmas.{numbers_of-more}
use Rattle.csa_scan.proofs.run_numbers.number_each.Goals as goal

pub loop-connection-preserved : goal.loop-connection-preserved
loop-connection-preserved c =
    let old = c.loop-connection.invariant in
    let number = c.in_ok-number.number in
    let connection = c.connection-item.result in
    let pushed : c.push.new.self.items ≡ c.loop-connection.numbers.items ++ number ∷ [] = c.in_ok-push.ensures.items in
    record {
      each = numbers_of-more c.loop-connection.runs c.guessed_number.new.runs c.args.list.now c.loop-connection.connection-index c.loop-connection.numbers.items c.push.new.self.items connection number
          (omega arith) c.connection-item.is old.each c.guessed_number.ensures.grows c.in_ok-number.ensures.ok pushed;
      grows = λ i key e. c.guessed_number.ensures.grows i key (old.grows i key e);
      no_shorter = omega (arith, c.guessed_number.ensures.no_shorter);
    }
