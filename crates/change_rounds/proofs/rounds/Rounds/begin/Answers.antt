use Rattle.std.proofs.Common.{◌≡◌, length, Result, Ok, Err, ◌∙◌, ap, arith}
use Rattle.csa_scan.specs.Kept.{kept_of}
use Rattle.csa_scan.specs.Nothing.{nothing_of}
use Rattle.std.specs.Result.{IfOk}
use Rattle.change_rounds.specs.Rounds.{AreRounds}
use Rattle.change_rounds.proofs.rounds.Rounds.begin.Goals as goal

-- what is so of a value, where there is one, is so under a weaker fact
weaker : {T E : Type 0} (r : Result T E) (P Q : T → Type 0) → ((x : T) → P x → Q x) → IfOk r P → IfOk r Q
weaker (Ok x) P Q f h = f x h
weaker (Err e) P Q f h = h

pub returns : goal.returns
returns c =
    let made : kept_of c.in_ok-progress.progress ≡ nothing_of (length c.args.doc.now.stops) = c.in_ok-progress.ensures ∙ ap nothing_of (grind (arith, c.as_slice.ensures.value)) in
    weaker c.over.result _ (AreRounds c.args.query.now c.args.doc.now c.args.list.now 0) (λ rounds h. h c.args.query.now c.args.doc.now c.in_ok-walks.ensures made) c.over.ensures
