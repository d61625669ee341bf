-- The number so far, which has no more digits than were taken, is that before the digits which follow.
use Rattle.std.proofs.Common.{◌≡◌, ◌<◌, ◌^◌, drop}
use Rattle.std.specs.Str.Parse.{digits_value, digits_value_after}
use Rattle.lc_time.proofs.digits.value_of_digits.Given as goal

abbrev pub invariant-digits : goal.invariant-digits
invariant-digits l = record {
  small : l.number < 10 ^ l.digit-index;
  value : digits_value_after 10 l.number (drop l.digit-index l.text) ≡ digits_value 10 l.text;
}
