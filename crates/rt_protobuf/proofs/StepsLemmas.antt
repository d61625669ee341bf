-- What a step that failed or did not fail says.
use Rattle.std.proofs.Common.{◌≡◌, Bool, true, false, cond, Result, Ok, Err, refl, sym, ap, ◌∙◌, inl, inr, ◌⊎◌}
use Rattle.std.specs.Prelude.{is_ok}
use Rattle.std.proofs.lemmas.Bool.{true≢false}
use Rattle.rt_protobuf.specs.declared.fault.WireFault.{WireFault}
use Rattle.rt_protobuf.specs.Reading.{◌>>=◌}

-- the value of a step that did not fail
pub bind_ok : {A B : Type 0} (r : Result A WireFault) (f : A → Result B WireFault) (y : B) → (r >>= f) ≡ Ok y → (x : A) × (r ≡ Ok x) × (f x ≡ Ok y)
bind_ok (Ok x) f y e = (x, refl, e)
bind_ok (Err d) f y e = absurd cc

abbrev done : {A : Type 0} → A → Result A WireFault
done x = Ok x

pub ok_is : {A : Type 0} (x y : A) → done x ≡ done y → x ≡ y
ok_is x y e = cc

abbrev pub failed : (A : Type 0) → WireFault → Result A WireFault
failed A d = Err d

pub err_is : (A : Type 0) (c d : WireFault) → failed A c ≡ failed A d → c ≡ d
err_is A c d e = cc

-- a step fails, or the one after it
pub bind_err : {A B : Type 0} (r : Result A WireFault) (f : A → Result B WireFault) (d : WireFault) → (r >>= f) ≡ Err d → (r ≡ Err d) ⊎ ((x : A) × (r ≡ Ok x) × (f x ≡ Err d))
bind_err (Ok x) f d e = inr (x, refl, e)
bind_err {A} {B} (Err c) f d e = inl (ap (failed A) (err_is B c d e))

-- which way a test went
pub chosen : {X : Type 0} (b : Bool) (x y z : X) → cond b x y ≡ z → ((b ≡ true) × (x ≡ z)) ⊎ ((b ≡ false) × (y ≡ z))
chosen true x y z e = inl (refl, e)
chosen false x y z e = inr (refl, e)

-- the test of a front that may fail
pub guard_ok : {A : Type 0} (b : Bool) (d : WireFault) (r : Result A WireFault) (y : A) → cond b (Err d) r ≡ Ok y → (b ≡ false) × (r ≡ Ok y)
guard_ok true d r y e = absurd cc
guard_ok false d r y e = (refl, e)

pub ok_or_err : {A : Type 0} (r : Result A WireFault) (x : A) (d : WireFault) → r ≡ Ok x → r ≡ Err d → ⊥
ok_or_err r x d p q = true≢false (ap is_ok (sym p ∙ q))
