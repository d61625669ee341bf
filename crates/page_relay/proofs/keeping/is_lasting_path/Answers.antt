use Rattle.page_relay.proofs.KeepableLemmas.{by_tail, no_tail, tail_of}
use Rattle.page_relay.proofs.keeping.is_lasting_path.Goals as goal

pub returns-in-Some : goal.returns-in-Some
returns-in-Some c =
    let is = rw (c.as_bytes.ensures.value, c.path.ensures.value) at c.in-Some.ensures.said in (
      λ tail. by_tail c.args.base.now c.args.path.now c.in-Some.tail.now is (c.is_lasting_tail.ensures.0 tail),
      λ lasting. c.is_lasting_tail.ensures.1 (tail_of c.args.base.now c.args.path.now c.in-Some.tail.now is lasting),
    )

pub returns-in-None : goal.returns-in-None
returns-in-None c =
    let none = rw (c.as_bytes.ensures.value, c.path.ensures.value) at c.in-None.ensures.exact in (
      λ tail. cc,
      λ lasting. absurd (no_tail c.args.base.now c.args.path.now none lasting),
    )
