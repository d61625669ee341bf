-- A value that is there exactly where a fact holds.
use Rattle.std.proofs.Common.{◌≡◌, Option, Some, None, SomeIff, ap}

pub some_at : {T : Type 0} (r : Option T) (P : Type 0) (v : T) → SomeIff r P v → P → r ≡ Some v
some_at None P v not h = absurd (not h)
some_at (Some x) P v is h = ap Some is.1
