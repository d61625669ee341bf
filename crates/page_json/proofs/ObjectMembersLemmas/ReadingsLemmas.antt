-- What a call read of a member, put together from what it looked for and what it found.
use Rattle.std.proofs.Common.{◌≡◌, ◌≢◌, ℕ, List, Option, Some, None, Result, Ok, Err, refl, sym, subst, ◌∙◌}
use Rattle.std.specs.Option.{IfSome}
use Rattle.std.specs.Result.{IfOk, IfErr, IsErrAnd}
use Rattle.page_json.specs.ObjectMembers.Reading.{Reading, Meets, after, what_is_said}
use Rattle.page_json.specs.declared.object_members.fault.PageFault.{PageFault}
use Rattle.page_json.specs.declared.object_members.fault.PageFault.TheVariants.{BadMember, NoMemory}

same_some : {X : Type 0} (read : Option X) (x y : X) → read ≡ Some x → read ≡ Some y → y ≡ x
same_some read x y e f = cc

not_both : {X : Type 0} (read : Option X) (y : X) → read ≡ None → read ≡ Some y → ⊥
not_both read y e f = cc

-- a text says what was read of it, and nothing else
pub said_from : {X : Type 0} (Says : List ℕ → X → Type 0) (key text : List ℕ) (read : Option X) (result : Result X PageFault)
    → IfSome read (Says text) → ((y : X) → Says text y → read ≡ Some y)
    → IfOk result (λ x. read ≡ Some x) → IfErr result (λ fault. fault ≢ NoMemory → (read ≡ None) × (fault ≡ BadMember key))
    → Meets (what_is_said Says key text) result
said_from {X} Says key text read (Ok x) said exact ok err =
    (subst (λ (o : Option X). IfSome o (Says text)) ok said, λ y says. same_some read x y ok (exact y says))
said_from Says key text read (Err fault) said exact ok err =
    λ other. let none = err other in (none.1, λ y says. not_both read y none.0 (exact y says))

-- what is read after a text that is there
pub after_ok : {A B : Type 0} (first : Result A PageFault) (x : A) (next : A → Reading B) (result : Result B PageFault) → first ≡ Ok x → Meets (next x) result → Meets (after first next) result
after_ok {A} {B} first x next result e h = subst (λ (r : Result A PageFault). Meets (after r next) result) (sym e) h

-- the fault of what comes first is the fault
pub after_err : {A B : Type 0} (first : Result A PageFault) (fault : PageFault) (next : A → Reading B) → first ≡ Err fault → after first next (Err fault)
after_err {A} {B} first fault next e = subst (λ (r : Result A PageFault). after r next (Err fault)) (sym e) refl

-- a `?` hands a fault on
pub meets_err : {X : Type 0} (reading : Reading X) (result : Result X PageFault) (fault : PageFault) → IsErrAnd result (λ y. y ≡ fault) → (fault ≢ NoMemory → reading (Err fault)) → Meets reading result
meets_err reading (Ok x) fault is h = absurd is
meets_err {X} reading (Err y) fault is h = λ other. subst (λ (z : PageFault). reading (Err z)) (sym is) (h (λ e. other (is ∙ e)))

-- what the last call read, as the last step of a reading
pub meets_last : {X : Type 0} (last whole : Reading X) (result : Result X PageFault) → ((r : Result X PageFault) → last r → whole r) → Meets last result → Meets whole result
meets_last last whole (Ok x) then' h = then' (Ok x) h
meets_last last whole (Err fault) then' h = λ other. then' (Err fault) (h other)

-- a fault that is handed on, where what was read is not the result itself
pub err_handed_on : {X : Type 0} (P : PageFault → Type 0) (result : Result X PageFault) (fault : PageFault) → IsErrAnd result (λ y. y ≡ fault) → (fault ≢ NoMemory → P fault) → IfErr result (λ y. y ≢ NoMemory → P y)
err_handed_on P (Ok x) fault is h = absurd is
err_handed_on P (Err y) fault is h = λ other. subst P (sym is) (h (λ e. other (is ∙ e)))
