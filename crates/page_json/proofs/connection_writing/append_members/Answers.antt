-- The parts of a connection follow each other.
use Rattle.std.proofs.Common.{ℕ, List, ◌++◌, ap, ◌∙◌}
use Rattle.std.specs.String.{string_bytes}
use Rattle.connection_uri.specs.Name.{run_part_of}
use Rattle.page_json.specs.ConnectionWriting.{end_part, name_part, use_part}
use Rattle.page_json.specs.declared.moment_text.End.TheVariants.{Arrival, Departure}
use Rattle.page_json.proofs.AppendLemmas.{four, members_by}
use Rattle.page_json.proofs.connection_writing.append_members.Goals as goal

pub returns-clause-text : goal.returns-clause-text
returns-clause-text c =
    let fronts = c.args.fronts.now in
    let connection = c.args.connection.now in
    let old = string_bytes c.args.out.now in
    let run = c.in_ok-append_run.ensures ∙ ap (λ (s : List ℕ). s ++ run_part_of connection.key) c.clear.ensures.bytes in
    let first = c.as_str.result.now in
    let again = c.as_str-2.result.now in
    members_by fronts connection old _ first again (c.as_str.ensures.value ∙ run) (c.as_str-2.ensures.value ∙ run)
    (four old _ _ _ _ (name_part first connection.seq) (end_part fronts.ends.arrival Arrival connection.arr_delay connection.arr_stop connection.arr)
    (end_part fronts.ends.departure Departure connection.dep_delay connection.dep_stop connection.dep) (use_part fronts.uses again connection)
    c.in_ok-append_name.ensures c.in_ok-append_arrival.ensures c.in_ok-append_departure.ensures c.in_ok-append_use.ensures)
