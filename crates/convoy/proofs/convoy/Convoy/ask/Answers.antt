use Rattle.std.proofs.Common.{refl, ap, List}
use Rattle.convoy.specs.State.{ConvoyState}
use Rattle.convoy.specs.declared.member.Member.{Member}
use Rattle.convoy.proofs.convoy.Convoy.ask.Goals as goal

pub returns-clause-asks : goal.returns-clause-asks
returns-clause-asks c =
    let of : List Member → ConvoyState = λ members. record { base = c.self.inside.base; members = members; kept = c.self.inside.cache; spent = c.self.inside.spent } in
    rw (← c.self.view_is) (record {
      member = _;
      begins = c.new-client.ensures.begins;
      none_made = refl;
      is = ap of c.in_ok-push.ensures.items;
    })
