-- What is known of a fault that is passed on.
use Rattle.std.proofs.Common.{◌≡◌, ◌⊎◌, Result, Ok, Err, IfErr, inl, subst, sym}
use Rattle.std.specs.Result.{IsErrAnd}
use Rattle.gtfs_tables.specs.declared.fields.fault.FileFault.{FileFault}
use Rattle.gtfs_tables.specs.declared.fields.fault.FileFault.TheVariants.{NoMemory}

-- a fault that is passed on as it is
pub passed_on : {X : Type 0} (P : FileFault → Type 0) (r : Result X FileFault) (fault : FileFault) → IsErrAnd r (λ recorded. recorded ≡ fault) → P fault → IfErr r P
passed_on P (Ok x) fault is h = tt
passed_on P (Err recorded) fault is h = subst P (sym is) h

-- running out of memory, passed on
pub wants_memory : {X : Type 0} (P : FileFault → Type 0) (r : Result X FileFault) → IsErrAnd r (λ recorded. recorded ≡ NoMemory) → IfErr r (λ recorded. (recorded ≡ NoMemory) ⊎ P recorded)
wants_memory P (Ok x) is = tt
wants_memory P (Err recorded) is = inl is
