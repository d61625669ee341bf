-- A call that is listed counts a fault, and one that is not reaches the link below.
use Rattle.std.proofs.Common.{IsTrue, rules}
use Rattle.lc_links.proofs.faulty_link.FaultyLinkLink.pass.Goals as goal

pub returns-then-fails_now-clause-reaches : goal.returns-then-fails_now-clause-reaches
returns-then-fails_now-clause-reaches g c =
    let listed : IsTrue c.fails_now.result = search rules in
    let found = rw c.as_slice.ensures.value at c.fails_now.ensures.listed.0 listed in
    rw (← c.self.view_is) (λ not_listed. absurd (not_listed found))

pub returns-then-fails_now-clause-faults : goal.returns-then-fails_now-clause-faults
returns-then-fails_now-clause-faults g c = rw (← c.self.view_is) record { not_fallen = c.fail.ensures.not_fallen; rose = λ _. c.fail.ensures.rose }

pub returns-in-Err-Failed-clause-faults : goal.returns-in-Err-Failed-clause-faults
returns-in-Err-Failed-clause-faults g c =
    rw (← c.self.view_is) record { not_fallen = c.fail-in-Err-Failed.ensures.not_fallen; rose = λ _. c.fail-in-Err-Failed.ensures.rose }
