-- The link at home is as honest as its own publisher, where the outer link is clear.
use Rattle.lc_world.specs.declared.link.LinkFail.TheVariants.{NoMemory}
use Rattle.lc_links.proofs.HonestLemmas.{handed_on, not_handed_on}
use Rattle.lc_links.proofs.home_link.HomeLinkLink.exchange.Goals as goal

pub returns-in-Ok-clause-honest : goal.returns-in-Ok-clause-honest
returns-in-Ok-clause-honest g c =
    rw (← c.self.view_is) (λ base side get honest. handed_on base side _ _ _ _ _ _ c.in-Ok.field-0 c.pass.result
    (c.in-Ok.ensures.honest base side get record { tells = honest.tells; stands = honest.stands; honest = tt })
    honest.honest c.pass.ensures.clear c.pass.ensures.answer)

pub returns-in-Err-clause-honest : goal.returns-in-Err-clause-honest
returns-in-Err-clause-honest g c =
    rw (← c.self.view_is) (λ base side get honest. not_handed_on base side _ _ _ _ c.in-Err.field-0 NoMemory
    (c.in-Err.ensures.honest base side get record { tells = honest.tells; stands = honest.stands; honest = tt }) honest.honest)
