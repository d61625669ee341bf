use Rattle.std.proofs.Common.{◌≡◌, length}
use Rattle.lc_time.specs.Http.{without_front_blanks}
use Rattle.lc_time.proofs.http.without_front_blanks.Given as goal

abbrev pub invariant-loop-text : goal.invariant-loop-text
invariant-loop-text l = without_front_blanks l.text ≡ without_front_blanks l.fn.text

abbrev pub decreases-loop-text : goal.decreases-loop-text
decreases-loop-text l = length l.text
