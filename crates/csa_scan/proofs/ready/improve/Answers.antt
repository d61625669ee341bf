use Rattle.std.proofs.Common.{None, Some, get_or, length, refl, sym, ◌∙◌, ◌<◌, arith}
use Rattle.std.proofs.lemmas.Bool.{false≢true}
use Rattle.std.proofs.lemmas.Option.{get_or_from_slice_get}
use Rattle.csa_scan.proofs.RelaxingLemmas.{improves_to, improves_kept}
use Rattle.csa_scan.proofs.ready.improve.Goals as goal

pub returns-then-is_sooner : goal.returns-then-is_sooner
returns-then-is_sooner c =
    let ready = c.args.ready.now in
    let is = c.in-Some.ensures in
    let within : c.in-Some.place < length ready = let w = is.within in let o = c.requires.one_each in omega arith in
    improves_to c.args.stops.now c.args.to.now c.args.at c.args.after ready c.in-Some.place is within (record { at = c.args.at; after = c.args.after }) refl refl
    (λ r e. let l = c.is_sooner.ensures.0 c.if-is_sooner.true r (get_or_from_slice_get ready c.in-Some.place (Some r) None e) in omega arith)

pub returns-else-is_sooner : goal.returns-else-is_sooner
returns-else-is_sooner c =
    let ready = c.args.ready.now in
    let is = c.in-Some.ensures in
    let within : c.in-Some.place < length ready = let w = is.within in let o = c.requires.one_each in omega arith in
    improves_kept c.args.stops.now c.args.to.now c.args.at c.args.after ready c.in-Some.place is within (get_or ready c.in-Some.place None) refl
    (λ later. false≢true (sym c.if-is_sooner.false ∙ c.is_sooner.ensures.1 later))
