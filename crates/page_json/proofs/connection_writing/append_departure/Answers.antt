-- The delay, and then the stop and the moment.
use Rattle.std.proofs.Common.{ℤ, ◌++◌, SFits, ap, ◌∙◌, rules, w64}
use Rattle.std.specs.String.{string_bytes}
use Rattle.std.proofs.lemmas.Int.{to_z-of_z}
use Rattle.page_json.specs.ConnectionWriting.{call_part, delay_part}
use Rattle.page_json.specs.declared.moment_text.End.TheVariants.{Departure}
use Rattle.page_json.proofs.AppendLemmas.{two}
use Rattle.page_json.proofs.connection_writing.append_departure.Goals as goal

pub returns : goal.returns
returns c =
    let connection = c.args.connection.now in
    let fronts = c.args.fronts.now in
    let old = string_bytes c.args.out.now in
    let fits : SFits w64 connection.dep_delay = search rules in
    let delay = c.in_ok-append_delay.ensures ∙ ap (λ (z : ℤ). old ++ delay_part fronts z) (to_z-of_z w64 connection.dep_delay fits) in
    two old _ _ (delay_part fronts connection.dep_delay) (call_part Departure connection.dep_stop connection.dep) delay c.in_ok-append_call.ensures
