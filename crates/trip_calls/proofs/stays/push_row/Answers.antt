use Rattle.std.proofs.Common.{◌∙◌, ◌++◌, [], ◌∷◌, List, ap, sym}
use Rattle.trip_calls.specs.Stays.{stay_said}
use Rattle.trip_calls.specs.declared.stays.Stay.{Stay}
use Rattle.trip_calls.proofs.FillLemmas.{blank_row, none_later, stay_row}
use Rattle.trip_calls.proofs.stays.push_row.Goals as goal

pub push_blank-requires-clause-none_later : goal.push_blank-requires-clause-none_later
push_blank-requires-clause-none_later c =
    let row = c.index-rows-place in
    none_later c.args.rows.now c.args.place row.result c.args.stays.now.items c.in-Some.stay c.requires.there c.requires.timely c.requires.so_far (ap stay_said (sym row.is) ∙ sym c.in-Some.ensures)

pub returns-in_ok-push : goal.returns-in_ok-push
returns-in_ok-push c =
    let row = c.index-rows-place in
    stay_row c.args.rows.now c.args.place row.result c.args.stays.now.items c.push.new.self.items c.in-Some.stay c.requires.there c.requires.timely c.requires.so_far (ap stay_said (sym row.is) ∙ sym c.in-Some.ensures)
    (c.in_ok-push.ensures.items ∙ ap (λ (l : List Stay). l ++ c.in-Some.stay ∷ []) c.in_ok-push_blank.ensures)

pub returns-in_default : goal.returns-in_default
returns-in_default c =
    let row = c.index-rows-place in
    blank_row c.args.rows.now c.args.place row.result c.args.stays.now.items c.requires.there c.requires.timely c.requires.so_far (ap stay_said (sym row.is) ∙ sym c.in_default.ensures)
