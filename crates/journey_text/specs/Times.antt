-- Where in its run a ride boards and alights, and when.
use Rattle.std.specs.Prelude.{◌≡◌}
use Rattle.lc_model.specs.declared.ride.Ride.{Ride}
use Rattle.journey_text.specs.declared.ride_words.RideTimes.{RideTimes}

-- these are the sequences and the moments of the ride
pub record AreTimesOf (ride : Ride) (times : RideTimes) : Type 0 where
  pub first_seq : times.first_seq ≡ ride.first_seq
  pub last_seq : times.last_seq ≡ ride.last_seq
  pub dep : times.dep ≡ ride.dep
  pub arr : times.arr ≡ ride.arr
