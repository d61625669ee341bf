-- Only the time of day is another one.
use Rattle.page_json.proofs.MomentTextLemmas.{arrival_of_day}
use Rattle.page_json.proofs.moment_text.arrival_at.Goals as goal

pub returns : goal.returns
returns c = λ last moment is day clock.
    rw (c.copy_from_slice.ensures.after, c.clock_text.ensures, is) (arrival_of_day last moment c.args.seconds day clock)
