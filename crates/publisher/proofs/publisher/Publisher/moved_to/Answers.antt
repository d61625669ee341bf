use Rattle.std.proofs.Common.{refl, subst, ◌<◌, ℕ}
use Rattle.lc_model.specs.declared.moment.TheConstants.{MOMENTS_END}
use Rattle.publisher.specs.Held.{side_of}
use Rattle.lc_world.specs.Sides.Side.{versions_of}
use Rattle.publisher.proofs.PageLemmas.{is_page_of, page_made}
use Rattle.publisher.proofs.VersionsLemmas.{there_is_contained}
use Rattle.publisher.proofs.publisher.Publisher.moved_to.Goals as goal

pub place-requires : goal.place-requires
place-requires g c = there_is_contained (versions_of (side_of g.G.Fragmenter.cuts_of c.args.self.now)) c.args.version c.requires

pub returns-clause-said : goal.returns-clause-said
returns-clause-said g c =
    let side = side_of g.G.Fragmenter.cuts_of c.args.self.now in
    let place = c.in_ok-place.place in
    let p = c.in_ok-place.ensures.place in
    record {
      page = page_made c.args.version place p.list;
      page_is = is_page_of side c.args.version c.args.departs place p;
      sound = record {
        version = subst (λ (n : ℕ). n < MOMENTS_END) c.seconds-version.ensures.value c.seconds-version.ensures.in_range;
        departs = subst (λ (n : ℕ). n < MOMENTS_END) c.seconds-cut.ensures.value c.seconds-cut.ensures.in_range;
      };
      is = refl;
    }
