use Rattle.std.proofs.Common.{◌∙◌, ◌+◌, List, subst, sym}
use Rattle.lc_model.specs.declared.ride.Ride.{Ride}
use Rattle.journey_text.proofs.ReadingLemmas.{GoesOn, all_taken, goes_on, long_there}
use Rattle.journey_text.proofs.answer_reading.written_rides.Goals as goal

pub rides-preserved : goal.rides-preserved
rides-preserved c =
    let words = c.args.words.now in
    let place = c.rides.place in
    let read = rw c.in-Some.is at c.in_ok-ride.ensures in
    record {
      within = long_there words place c.rides.invariant.within read.long;
      goes = subst (λ (taken : List Ride). GoesOn words (place + 10) taken) (sym c.in_ok-push.ensures.items)
          (goes_on words place c.rides.rides.items c.in-Some.ride read.mark read.exact c.rides.invariant.goes);
    }

pub returns : goal.returns
returns c = λ rides after sound e.
    let read = rw c.in_default.is at c.in_ok-ride.ensures in
    let all = all_taken c.args.words.now c.rides.place c.rides.rides.items rides after read.exact c.rides.invariant.goes sound e in
    (c.from_list.ensures ∙ all.0, all.1)
