-- What a step that failed or did not fail says.
use Rattle.std.proofs.Common.{◌≡◌, Bool, true, false, cond, Option, Some, None, Result, Ok, Err, refl}
use Rattle.std.specs.Prelude.{option_map}
use Rattle.trip_updates.specs.declared.fault.RtFault.{RtFault}
use Rattle.trip_updates.specs.Tree.{Tree}
use Rattle.trip_updates.specs.Faults.{◌>>=◌, complete, fault_in}

abbrev pub done : {A : Type 0} → A → Result A RtFault
done x = Ok x

pub ok_is : {A : Type 0} (x y : A) → done x ≡ done y → x ≡ y
ok_is x y e = cc

pub bind_ok : {A B : Type 0} (r : Result A RtFault) (f : A → Result B RtFault) (y : B) → (r >>= f) ≡ Ok y → (x : A) × (r ≡ Ok x) × (f x ≡ Ok y)
bind_ok (Ok x) f y e = (x, refl, e)
bind_ok (Err d) f y e = absurd cc

-- the test of a front that may fail
pub guard_ok : {A : Type 0} (b : Bool) (d : RtFault) (r : Result A RtFault) (y : A) → cond b (Err d) r ≡ Ok y → (b ≡ false) × (r ≡ Ok y)
guard_ok true d r y e = absurd cc
guard_ok false d r y e = (refl, e)

pub complete_ok : (o : Option RtFault) (before tree : Tree) → complete o before ≡ Ok tree → (o ≡ None) × (before ≡ tree)
complete_ok None before tree e = (refl, ok_is before tree e)
complete_ok (Some fault) before tree e = absurd cc

pub some_of : {X Y : Type 0} (o : Option X) (f : X → Y) (y : Y) → option_map f o ≡ Some y → (x : X) × (o ≡ Some x) × (f x ≡ y)
some_of None f y e = absurd cc
some_of (Some x) f y e = (x, refl, cc)

pub no_fault : {A : Type 0} (r : Result A RtFault) → fault_in r ≡ None → (x : A) × (r ≡ Ok x)
no_fault (Ok x) e = (x, refl)
no_fault (Err d) e = absurd cc
