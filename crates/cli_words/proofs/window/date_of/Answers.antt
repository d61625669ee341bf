-- The text of the moment begins with the date of its day.
use Rattle.std.proofs.Common.{◌/◌, ◌<◌, arith, refl, rules}
use Rattle.lc_time.proofs.DateLemmas.{date_of}
use Rattle.cli_words.proofs.window.date_of.Goals as goal

pub unwrap-requires : goal.unwrap-requires
unfolding date_of
unwrap-requires c =
    let bound : c.args.moment / 86_400 < 2_932_897 = omega (arith, c.iso_text.ensures.says.in_range) in
    let there = c.read_date.ensures.exact (date_of (c.args.moment / 86_400) bound) (rw c.iso_text.ensures.text refl) in
    search (rules, there)
