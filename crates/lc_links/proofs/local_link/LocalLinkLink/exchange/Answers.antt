-- A GET leaves the publisher's side, and so does running out of memory.
use Rattle.std.proofs.Common.{ap, Ok, Err}
use Rattle.lc_world.specs.declared.link.LinkFail.TheVariants.{NoMemory}
use Rattle.publisher.specs.Held.{side_of}
use Rattle.lc_links.proofs.GetLemmas.{get_is_whole, get_leaves}
use Rattle.lc_links.proofs.HonestLemmas.{get_stays, side_stays}
use Rattle.lc_links.proofs.local_link.LocalLinkLink.exchange.Goals as goal

pub returns-in-Ok-clause-honest : goal.returns-in-Ok-clause-honest
returns-in-Ok-clause-honest g c base side get honest =
    get_stays base side (side_of g.G.Fragmenter.cuts_of c.args.self.now.publisher) (side_of g.G.Fragmenter.cuts_of c.answer.new.self.publisher)
    c.args.request.now c.in-Ok.answer.items (Ok tt) get honest (c.in-Ok.ensures.next (get_is_whole c.args.request.now get))
    (c.in-Ok.ensures.reply (get_is_whole c.args.request.now get))

pub returns-in-Err-clause-honest : goal.returns-in-Err-clause-honest
returns-in-Err-clause-honest g c base side get honest =
    side_stays base side (side_of g.G.Fragmenter.cuts_of c.args.self.now.publisher) (side_of g.G.Fragmenter.cuts_of c.answer.new.self.publisher)
    c.args.request.now c.clear.new.self.items (Err NoMemory) honest (ap (side_of g.G.Fragmenter.cuts_of) c.in-Err.ensures.unchanged) tt

pub returns-in-Ok-clause-side : goal.returns-in-Ok-clause-side
returns-in-Ok-clause-side g c get =
    get_leaves (side_of g.G.Fragmenter.cuts_of c.args.self.now.publisher) c.args.request.now (side_of g.G.Fragmenter.cuts_of c.answer.new.self.publisher) get
    (c.in-Ok.ensures.next (get_is_whole c.args.request.now get))

pub returns-in-Err-clause-side : goal.returns-in-Err-clause-side
returns-in-Err-clause-side g c get = ap (side_of g.G.Fragmenter.cuts_of) c.in-Err.ensures.unchanged
