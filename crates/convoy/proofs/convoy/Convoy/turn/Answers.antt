use Rattle.std.proofs.Common.{refl, ◌-◌, arith}
use Rattle.std.proofs.lemmas.List.Elements.{All-set}
use Rattle.std.proofs.lemmas.Option.{slice_get_read}
use Rattle.lc_world.proofs.GoneOnLemmas.{no_gets}
use Rattle.page_client.specs.Client.{shown}
use Rattle.convoy.specs.Steps.{IsDecided}
use Rattle.convoy.specs.declared.member.Member.{Member}
use Rattle.convoy.proofs.convoy.Convoy.turn.Goals as goal

pub invariant_of-self : goal.invariant_of-self
invariant_of-self g c = record {
  pages = c.turned.ensures.sound;
  decided = λ unspent. All-set (λ (m : Member). IsDecided (shown m.client)) c.self.inside.members.items (c.args.k - 1) c.turned.new.member c.in-Ok.ensures.decided (c.self.invariant.decided unspent);
}

pub returns-in-Ok-clause-turned : goal.returns-in-Ok-clause-turned
returns-in-Ok-clause-turned g c =
    let clients = rw (← c.self.view_is) at c.requires.clients in
    let from_one = c.requires.from_one in
    rw (← c.self.view_is) (record {
      was = c.index_mut.result.now;
      had = slice_get_read c.self.inside.members.items _ (c.args.k - 1) c.index_mut.result.now refl (omega arith) c.index_mut.ensures.value;
      is = c.turned.new.member;
      turned = c.in-Ok.ensures.turned;
      fewer = c.in-Ok.ensures.fewer;
      decided = c.in-Ok.ensures.decided;
      members = refl;
      base = refl;
      spent = refl;
    })

pub returns-then-self-clause-left : goal.returns-then-self-clause-left
returns-then-self-clause-left g c = no_gets _
