use Rattle.std.proofs.Common.{◌≡◌, ◌⊎◌, ◌++◌, [], ◌∷◌, List, arith, length, rules, subst}
use Rattle.gtfs_tables.specs.Fields.TextPlaces.{HavePlaces}
use Rattle.gtfs_tables.specs.declared.fields.trip_rows.TripRow.{TripRow}
use Rattle.gtfs_tables.specs.Fields.Table.{IsRowFault}
use Rattle.gtfs_tables.specs.declared.fields.fault.FileFault.TheVariants.{NoMemory}
use Rattle.gtfs_tables.proofs.FieldsLemmas.ExitFacts.{passed_on, wants_memory}
use Rattle.gtfs_tables.proofs.FieldsLemmas.SaidFacts.{read_more, reported_first}
use Rattle.gtfs_tables.specs.Calendars.Frequencies.{frequencies_rule, frequency_said, ids_of_trips}
use Rattle.gtfs_tables.proofs.calendars.frequencies_file.frequency_rows.Goals as goal

pub returns-in_err-frequency-clause-fault : goal.returns-in_err-frequency-clause-fault
returns-in_err-frequency-clause-fault c =
    let rule = frequencies_rule c.args.trips.now c.args.rows.now in
    let count = length c.args.rows.now.rows in
    passed_on (λ fault. (fault ≡ NoMemory) ⊎ IsRowFault rule count fault) c.from_residual-in_err-frequency.result c.in_err-frequency.field-0.0 c.from_residual-in_err-frequency.ensures.1
    (reported_first rule count c.rows.place c.in_err-frequency.field-0.0 (omega arith) c.rows.invariant.unbroken (c.in_err-frequency.ensures c.args.trips.now (subst (λ (xs : List TripRow). HavePlaces (ids_of_trips xs) c.in_ok-places.places) c.as_slice.ensures.value c.in_ok-places.ensures)))

pub returns-in_err-push-clause-fault : goal.returns-in_err-push-clause-fault
returns-in_err-push-clause-fault c =
    wants_memory (IsRowFault (frequencies_rule c.args.trips.now c.args.rows.now) (length c.args.rows.now.rows)) c.from_residual-in_err-push.result c.from_residual-in_err-push.ensures.1

pub rows-preserved : goal.rows-preserved
rows-preserved c =
    let sheet = c.args.rows.now in
    let pushed : c.push.new.self.items ≡ c.rows.list.items ++ c.in_ok-frequency.frequency ∷ [] = search rules in
    rw pushed (read_more (frequencies_rule c.args.trips.now sheet) (frequency_said sheet) sheet.rows c.rows.place c.rows.list.items c.in_ok-frequency.frequency [] (omega arith) c.rows.invariant (c.in_ok-frequency.ensures c.args.trips.now (subst (λ (xs : List TripRow). HavePlaces (ids_of_trips xs) c.in_ok-places.places) c.as_slice.ensures.value c.in_ok-places.ensures)))
