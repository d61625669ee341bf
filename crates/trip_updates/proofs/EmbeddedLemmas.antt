-- A field that is an embedded message.
use Rattle.std.proofs.Common.{◌≡◌, ℕ, ◌-◌, ◌≤◌, false, List, length, drop, Option, Some, None, Result, Ok, Err, refl, sym, ap, subst, ◌∙◌, arith}
use Rattle.std.specs.Prelude.{slice_range, is_some, option_map}
use Rattle.std.proofs.lemmas.Bool.{true≢false}
use Rattle.std.proofs.lemmas.List.{length-take, length-drop}
use Rattle.rt_protobuf.specs.declared.field.Field.{Field}
use Rattle.rt_protobuf.specs.declared.field.Value.{Value}
use Rattle.rt_protobuf.specs.declared.field.Value.TheVariants as values
use Rattle.rt_protobuf.specs.Message.{field_of}
use Rattle.trip_updates.specs.declared.fault.Part.{Part}
use Rattle.trip_updates.specs.declared.fault.RtFault.{RtFault}
use Rattle.trip_updates.specs.Tree.{Tree, and_message, last_message}
use Rattle.trip_updates.specs.Table.{Message, one, many, kind}
use Rattle.trip_updates.specs.Faults.{◌>>=◌, Reader, with_text, step}
use Rattle.trip_updates.specs.Shows.{Answers, SpanEnds, BothShow}
use Rattle.trip_updates.proofs.WalkingLemmas.{value_goes_on, fault_goes_on}

-- the step at a field with this number and this span
pub at_span : (inner : Reader) (message : Message) (before : Tree) (bytes : List ℕ) (f : Field) (k from to : ℕ) → f.number ≡ k → f.value ≡ values.Span from to
    → with_text inner (kind message k) before f.next k (slice_range bytes from to) ≡ step inner message before f.next (field_of bytes f)
at_span inner message before bytes f k from to p q = sym (rw (p, q) refl)

-- the place of the first byte of what a span holds
place_of : (bytes : List ℕ) (from to next : ℕ) → from ≤ to → to ≡ next → next ≤ length bytes → next - length (slice_range bytes from to) ≡ from
place_of bytes from to next order is within =
    let size : length (slice_range bytes from to) ≡ to - from = omega (arith, length-take (to - from) (drop from bytes), length-drop from bytes) in
    omega (arith, size)

pub many_ok : {X Y : Type 0} (shows : X → Tree → Type 0) (shows' : Y → Tree → Type 0) (inner : Reader) (m : Message) (before : Tree) (next number from to : ℕ) (bytes : List ℕ) (x : X) (y : Result Y RtFault)
    → from ≤ to → to ≡ next → next ≤ length bytes → Answers shows (Ok x) (inner m from (slice_range bytes from to)) → ((tree : Tree) → shows x tree → Answers shows' y (Ok (and_message before number tree)))
    → Answers shows' y (with_text inner (many m) before next number (slice_range bytes from to))
many_ok shows shows' inner m before next number from to bytes x y order is within a go =
    subst (λ (p : ℕ). Answers shows' y (inner m p (slice_range bytes from to) >>= λ tree. Ok (and_message before number tree))) (sym (place_of bytes from to next order is within))
    (value_goes_on shows shows' x y (inner m from (slice_range bytes from to)) (λ tree. Ok (and_message before number tree)) a go)

pub many_err : {X Y : Type 0} (shows : X → Tree → Type 0) (shows' : Y → Tree → Type 0) (inner : Reader) (m : Message) (before : Tree) (next number from to : ℕ) (bytes : List ℕ) (e : RtFault)
    → from ≤ to → to ≡ next → next ≤ length bytes → Answers shows (Err e) (inner m from (slice_range bytes from to)) → Answers shows' (Err e) (with_text inner (many m) before next number (slice_range bytes from to))
many_err shows shows' inner m before next number from to bytes e order is within a =
    subst (λ (p : ℕ). Answers shows' (Err e) (inner m p (slice_range bytes from to) >>= λ tree. Ok (and_message before number tree))) (sym (place_of bytes from to next order is within))
    (fault_goes_on shows shows' e (inner m from (slice_range bytes from to)) (λ tree. Ok (and_message before number tree)) a)

-- a message that is there at most once, and was not there before
pub one_ok : {X Y : Type 0} (shows : X → Tree → Type 0) (shows' : Y → Tree → Type 0) (inner : Reader) (part : Part) (m : Message) (before : Tree) (next number from to : ℕ) (bytes : List ℕ) (x : X) (y : Result Y RtFault)
    → is_some (last_message number before) ≡ false → from ≤ to → to ≡ next → next ≤ length bytes → Answers shows (Ok x) (inner m from (slice_range bytes from to)) → ((tree : Tree) → shows x tree → Answers shows' y (Ok (and_message before number tree)))
    → Answers shows' y (with_text inner (one part m) before next number (slice_range bytes from to))
one_ok shows shows' inner part m before next number from to bytes x y first order is within a go =
    rw first (many_ok shows shows' inner m before next number from to bytes x y order is within a go)

pub one_err : {X Y : Type 0} (shows : X → Tree → Type 0) (shows' : Y → Tree → Type 0) (inner : Reader) (part : Part) (m : Message) (before : Tree) (next number from to : ℕ) (bytes : List ℕ) (e : RtFault)
    → is_some (last_message number before) ≡ false → from ≤ to → to ≡ next → next ≤ length bytes → Answers shows (Err e) (inner m from (slice_range bytes from to)) → Answers shows' (Err e) (with_text inner (one part m) before next number (slice_range bytes from to))
one_err shows shows' inner part m before next number from to bytes e first order is within a =
    rw first (many_err shows shows' inner m before next number from to bytes e order is within a)

-- an answer at such a field
pub in_span : {Y : Type 0} (shows : Y → Tree → Type 0) (y : Result Y RtFault) (inner : Reader) (message : Message) (before : Tree) (bytes : List ℕ) (f : Field) (k from to : ℕ) → f.number ≡ k → f.value ≡ values.Span from to
    → Answers shows y (with_text inner (kind message k) before f.next k (slice_range bytes from to)) → Answers shows y (step inner message before f.next (field_of bytes f))
in_span shows y inner message before bytes f k from to p q a =
    subst (λ (r : Result Tree RtFault). Answers shows y r) (at_span inner message before bytes f k from to p q) a

pub span_at : (len next from to : ℕ) (v : Value) → v ≡ values.Span from to → SpanEnds len next v → (from ≤ to) × (to ≡ next) × (next ≤ len)
span_at len next from to v is s = subst (λ (x : Value). SpanEnds len next x) is s

-- what was not there before
pub none_yet : {X : Type 0} (f : Tree → X) (o : Option Tree) (p : Option X) → p ≡ option_map f o → is_some p ≡ false → is_some o ≡ false
none_yet f None p e s = refl
none_yet f (Some tree) p e s = sym (ap is_some e) ∙ s

pub none_both : {X : Type 0} (shows : X → Tree → Type 0) (p : Option X) (o : Option Tree) → BothShow shows p o → is_some p ≡ false → is_some o ≡ false
none_both shows None None b s = refl
none_both shows None (Some tree) b s = absurd b
none_both shows (Some x) o b s = absurd (true≢false s)
