-- Only the time of day is another one.
use Rattle.page_json.proofs.MomentTextLemmas.{departure_of_day}
use Rattle.page_json.proofs.moment_text.departure_at.Goals as goal

pub returns : goal.returns
returns c = λ last moment is day clock.
    rw (c.copy_from_slice.ensures.after, c.clock_text.ensures, is) (departure_of_day last moment c.args.seconds day clock)
