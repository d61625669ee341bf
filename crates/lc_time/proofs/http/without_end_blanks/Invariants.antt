use Rattle.std.proofs.Common.{◌≡◌, length, reverse}
use Rattle.lc_time.specs.Http.{without_front_blanks}
use Rattle.lc_time.proofs.http.without_end_blanks.Given as goal

abbrev pub invariant-loop-text : goal.invariant-loop-text
invariant-loop-text l = without_front_blanks (reverse l.text) ≡ without_front_blanks (reverse l.fn.text)

abbrev pub decreases-loop-text : goal.decreases-loop-text
decreases-loop-text l = length l.text
