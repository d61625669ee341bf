use Rattle.std.proofs.Common.{ℕ, List, Option, subst, sym}
use Rattle.std.specs.Prelude.{OnOk}
use Rattle.std.specs.Option.{option_to_list}
use Rattle.change_table.specs.Partners.{Gains}
use Rattle.change_table.proofs.partners.push_parent.Goals as goal

pub returns-in-Some : goal.returns-in-Some
returns-in-Some c =
    subst (λ (o : Option (List ℕ)). OnOk c.push_named.result (Gains c.args.stops.now (option_to_list o) c.args.places.now.items c.push_named.new.places.items))
    (sym c.in-Some.is) c.push_named.ensures
