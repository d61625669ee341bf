use Rattle.std.proofs.Common.{◌≡◌, ◌⊎◌, ◌++◌, [], List, arith, length, rules, subst}
use Rattle.std.specs.Prelude.{option_to_list}
use Rattle.gtfs_tables.specs.Fields.TextPlaces.{HavePlaces}
use Rattle.gtfs_tables.specs.Calendars.Transfers.{ids_of_stops, transfer_said, transfers_rule}
use Rattle.lc_model.specs.declared.stop.Stop.{Stop}
use Rattle.gtfs_tables.specs.Fields.Table.{IsRowFault}
use Rattle.gtfs_tables.specs.declared.fields.fault.FileFault.TheVariants.{NoMemory}
use Rattle.gtfs_tables.proofs.FieldsLemmas.ExitFacts.{passed_on, wants_memory}
use Rattle.gtfs_tables.proofs.FieldsLemmas.SaidFacts.{reported_first}
use Rattle.gtfs_tables.proofs.CalendarsLemmas.TransferFacts.{kept_more}
use Rattle.gtfs_tables.proofs.calendars.transfers_file.transfer_rows.Goals as goal

pub returns-in_err-transfer-clause-fault : goal.returns-in_err-transfer-clause-fault
returns-in_err-transfer-clause-fault c =
    let rule = transfers_rule c.args.stops.now c.args.rows.now in
    let count = length c.args.rows.now.rows in
    passed_on (λ fault. (fault ≡ NoMemory) ⊎ IsRowFault rule count fault) c.from_residual-in_err-transfer.result c.in_err-transfer.field-0.0 c.from_residual-in_err-transfer.ensures.1
    (reported_first rule count c.rows.place c.in_err-transfer.field-0.0 (omega arith) c.rows.invariant.unbroken (c.in_err-transfer.ensures c.args.stops.now (subst (λ (xs : List Stop). HavePlaces (ids_of_stops xs) c.in_ok-places.places) c.as_slice.ensures.value c.in_ok-places.ensures)))

pub returns-in_err-push_one-clause-fault : goal.returns-in_err-push_one-clause-fault
returns-in_err-push_one-clause-fault c =
    wants_memory (IsRowFault (transfers_rule c.args.stops.now c.args.rows.now) (length c.args.rows.now.rows)) c.from_residual-in_err-push_one.result c.from_residual-in_err-push_one.ensures.1

pub rows-preserved : goal.rows-preserved
rows-preserved c =
    let sheet = c.args.rows.now in
    let pushed : c.push_one.new.list.items ≡ c.rows.list.items ++ option_to_list c.in_ok-transfer.transfer = search rules in
    rw pushed
    (kept_more (transfers_rule c.args.stops.now sheet) (transfer_said sheet) sheet.rows c.rows.place c.rows.list.items c.in_ok-transfer.transfer [] (omega arith) c.rows.invariant
    (c.in_ok-transfer.ensures c.args.stops.now (subst (λ (xs : List Stop). HavePlaces (ids_of_stops xs) c.in_ok-places.places) c.as_slice.ensures.value c.in_ok-places.ensures)))
