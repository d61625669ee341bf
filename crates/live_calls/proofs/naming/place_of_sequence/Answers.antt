use Rattle.std.proofs.Common.{◌∙◌, rules}
use Rattle.std.proofs.lemmas.Fn.{always_returns_same}
use Rattle.std.specs.Ordering.{nat_cmp}
use Rattle.lc_model.specs.declared.call.Call.{Call}
use Rattle.live_calls.proofs.NamingLemmas.{found_place}
use Rattle.live_calls.proofs.naming.place_of_sequence.Goals as goal

pub returns-clause-place : goal.returns-clause-place
returns-clause-place c =
    let at = c.binary_search_by.ensures.position (λ (call : Call). nat_cmp call.seq c.args.seq) (always_returns_same _ _ _ (λ a r g called. (search rules, search rules))) in
    c.ok.ensures.value ∙ found_place c.args.calls.now c.args.seq c.binary_search_by.result c.requires c.binary_search_by.ensures.bound at
