use Rattle.std.proofs.Common.{◌≡◌, ◌∙◌, ◌-◌, ◌++◌, [], ◌∷◌, drop, sym, take}
use Rattle.csv.specs.Records.{fields_of, partial_of}
use Rattle.gtfs_rows.specs.Spaces.{without_spaces}
use Rattle.gtfs_rows.proofs.UnquotedLemmas.{adding_done, adding_more, adding_start, pushed_alone}
use Rattle.gtfs_rows.proofs.unquoted.add_record.Goals as goal

pub fields-init : goal.fields-init
fields-init c = (adding_start c.args.text.now c.args.start (fields_of c.args.fields.now) c.requires.inside c.requires.begun, c.requires.partial)

pub returns-then-not-has_at-clause-adds : goal.returns-then-not-has_at-clause-adds
returns-then-not-has_at-clause-adds c =
    let end = c.field_end-end.ensures in
    let pushed : fields_of c.push_field.new.self ≡ fields_of c.fields.fields ++ (without_spaces (take (c.field_end-end.result - c.fields.at) (drop c.fields.at c.args.text.now)) ∷ []) =
    pushed_alone (fields_of c.fields.fields) (fields_of c.push_field.new.self) (partial_of c.fields.fields) c.without_spaces.result.now _ c.in_ok-push_field.ensures.fields c.fields.invariant.1 c.without_spaces.ensures in
    adding_done c.args.text.now c.args.start c.fields.at c.field_end-end.result (fields_of c.args.fields.now) (fields_of c.fields.fields) (fields_of c.push_field.new.self) c.fields.invariant.0
    end.low end.high end.joins (sym c.has_at.ensures ∙ c.fields-test.true) (sym c.has_at-in-fields.ensures ∙ c.if-not-has_at.true) end.ended pushed

pub fields-preserved : goal.fields-preserved
fields-preserved c =
    let end = c.field_end-end.ensures in
    let pushed : fields_of c.push_field.new.self ≡ fields_of c.fields.fields ++ (without_spaces (take (c.field_end-end.result - c.fields.at) (drop c.fields.at c.args.text.now)) ∷ []) =
    pushed_alone (fields_of c.fields.fields) (fields_of c.push_field.new.self) (partial_of c.fields.fields) c.without_spaces.result.now _ c.in_ok-push_field.ensures.fields c.fields.invariant.1 c.without_spaces.ensures in (
      adding_more c.args.text.now c.args.start c.fields.at c.field_end-end.result (fields_of c.args.fields.now) (fields_of c.fields.fields) (fields_of c.push_field.new.self) c.fields.invariant.0
          end.low end.joins (sym c.has_at.ensures ∙ c.fields-test.true) (sym c.has_at-in-fields.ensures ∙ c.if-not-has_at.false) pushed,
      c.in_ok-push_field.ensures.partial,
    )
