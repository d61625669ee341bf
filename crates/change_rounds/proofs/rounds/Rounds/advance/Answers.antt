use Rattle.std.proofs.Common.{List, ℕ, Result, Ok, Err, sym, subst}
use Rattle.std.specs.Result.{OnOk}
use Rattle.csa_scan.specs.Numbers.{AreNumbersOf}
use Rattle.change_rounds.proofs.rounds.Rounds.advance.Goals as goal

-- what is so where there is a value is so under a weaker fact
weaker : {T E : Type 0} (r : Result T E) (P Q : Type 0) → (P → Q) → OnOk r P → OnOk r Q
weaker (Ok x) P Q f h = f h
weaker (Err e) P Q f h = h

pub returns-clause-one_more : goal.returns-clause-one_more
returns-clause-one_more c =
    let rounds = c.args.self.now in
    let list = c.args.list.now in
    weaker c.round.result _ _ (λ more n asked are.
    let P : List ℕ → Type 0 = λ l. AreNumbersOf rounds.runs list l in
    record {
      walks = are.walks;
      distinct = are.distinct;
      numbers = are.numbers;
      after = more rounds.runs n asked are.walks are.distinct (subst P (sym c.as_slice.ensures.value) are.numbers) are.after;
    }) c.round.ensures.one_more
