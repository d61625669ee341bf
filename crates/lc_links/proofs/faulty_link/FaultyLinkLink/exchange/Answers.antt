-- A link with failures is as honest as the one below.
use Rattle.std.proofs.Common.{IsTrue, rules}
use Rattle.lc_world.specs.declared.link.LinkFail.TheVariants.{Failed, NoMemory}
use Rattle.lc_links.proofs.HonestLemmas.{not_reached, without_reply}
use Rattle.lc_links.proofs.faulty_link.FaultyLinkLink.exchange.Goals as goal

pub returns-then-fails_now-clause-honest : goal.returns-then-fails_now-clause-honest
returns-then-fails_now-clause-honest g c = rw (← c.self.view_is) (λ base side get honest. not_reached base side _ _ _ _ _ Failed honest)

pub returns-in-Ok-clause-honest : goal.returns-in-Ok-clause-honest
returns-in-Ok-clause-honest g c = rw (← c.self.view_is) c.in-Ok.ensures.honest

pub returns-in-Err-Failed-clause-honest : goal.returns-in-Err-Failed-clause-honest
returns-in-Err-Failed-clause-honest g c =
    rw (← c.self.view_is) (λ base side get honest. without_reply base side _ _ _ _ _ _ _ c.in-Err-Failed.field-0 Failed (c.in-Err-Failed.ensures.honest base side get honest))

pub returns-in-Err-NoMemory-clause-honest : goal.returns-in-Err-NoMemory-clause-honest
returns-in-Err-NoMemory-clause-honest g c =
    rw (← c.self.view_is) (λ base side get honest. without_reply base side _ _ _ _ _ _ _ c.in-Err-NoMemory.field-0 NoMemory (c.in-Err-NoMemory.ensures.honest base side get honest))

pub returns-then-fails_now-clause-reaches : goal.returns-then-fails_now-clause-reaches
returns-then-fails_now-clause-reaches g c =
    let listed : IsTrue c.fails_now.result = search rules in
    let found = rw c.as_slice.ensures.value at c.fails_now.ensures.listed.0 listed in
    rw (← c.self.view_is) (λ not_listed. absurd (not_listed found))

pub returns-then-fails_now-clause-faults : goal.returns-then-fails_now-clause-faults
returns-then-fails_now-clause-faults g c = rw (← c.self.view_is) record { not_fallen = c.fail.ensures.not_fallen; rose = λ _. c.fail.ensures.rose }

pub returns-in-Err-Failed-clause-faults : goal.returns-in-Err-Failed-clause-faults
returns-in-Err-Failed-clause-faults g c =
    rw (← c.self.view_is) record { not_fallen = c.fail-in-Err-Failed.ensures.not_fallen; rose = λ _. c.fail-in-Err-Failed.ensures.rose }
