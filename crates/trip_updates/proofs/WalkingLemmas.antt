-- A loop over the fields between two places, whatever it keeps of them.
use Rattle.std.proofs.Common.{◌≡◌, ℕ, suc, ◌<◌, ◌≤◌, List, length, Option, Some, None, Result, Ok, Err, refl, sym, ap, subst, ◌∙◌, arith, inl, inr}
use Rattle.std.specs.Prelude.{slice_range, IfSome}
use Rattle.rt_protobuf.specs.declared.fault.WireFault.{WireFault}
use Rattle.rt_protobuf.specs.declared.field.Field.{Field}
use Rattle.rt_protobuf.specs.Parts.{Parts, whole, broken, field}
use Rattle.rt_protobuf.specs.Reading.{parts_of}
use Rattle.rt_protobuf.specs.Message.{field_of, IsFieldAt, EndsField, begun}
use Rattle.rt_protobuf.specs.declared.field.Value.{Value}
use Rattle.rt_protobuf.specs.declared.field.Value.TheVariants as values
use Rattle.trip_updates.specs.declared.fault.RtFault.{RtFault}
use Rattle.trip_updates.specs.declared.fault.RtFault.TheVariants as faults
use Rattle.trip_updates.specs.Wire.{wire}
use Rattle.trip_updates.specs.Tree.{Tree, empty}
use Rattle.trip_updates.specs.Table.{Message, lacks}
use Rattle.trip_updates.specs.Faults.{◌>>=◌, Reader, step, complete, walk, read}
use Rattle.trip_updates.specs.Shows.{Answers, SpanEnds}

-- ---- answers

-- running out of memory answers everything
pub no_memory : {X : Type 0} (shows : X → Tree → Type 0) (e : RtFault) (r : Result Tree RtFault) → e ≡ faults.NoMemory → Answers shows (Err e) r
no_memory shows e (Ok tree) is = is
no_memory shows e (Err fault) is = inl is

-- a fault is handed on
pub fault_goes_on : {X Y : Type 0} (shows : X → Tree → Type 0) (shows' : Y → Tree → Type 0) (e : RtFault) (r : Result Tree RtFault) (f : Tree → Result Tree RtFault) → Answers shows (Err e) r → Answers shows' (Err e) (r >>= f)
fault_goes_on shows shows' e (Ok tree) f a = no_memory shows' e (f tree) a
fault_goes_on shows shows' e (Err fault) f a = a

-- a fault answers whatever is shown
pub fault_as : {X Y : Type 0} (shows : X → Tree → Type 0) (shows' : Y → Tree → Type 0) (e : RtFault) (r : Result Tree RtFault) → Answers shows (Err e) r → Answers shows' (Err e) r
fault_as shows shows' e (Ok tree) a = a
fault_as shows shows' e (Err fault) a = a

-- what one shows by a value, another shows by what is made of it
pub shown_by : {X Y : Type 0} (shows : X → Tree → Type 0) (shows' : Y → Tree → Type 0) (x : X) (y : Y) (r : Result Tree RtFault)
    → ((tree : Tree) → shows x tree → shows' y tree) → Answers shows (Ok x) r → Answers shows' (Ok y) r
shown_by shows shows' x y (Ok tree) by a = by tree a
shown_by shows shows' x y (Err fault) by a = absurd a

-- a value is used
pub value_goes_on : {X Y : Type 0} (shows : X → Tree → Type 0) (shows' : Y → Tree → Type 0) (x : X) (y : Result Y RtFault) (r : Result Tree RtFault) (f : Tree → Result Tree RtFault)
    → Answers shows (Ok x) r → ((tree : Tree) → shows x tree → Answers shows' y (f tree)) → Answers shows' y (r >>= f)
value_goes_on shows shows' x y (Ok tree) f a go = go tree a
value_goes_on shows shows' x y (Err fault) f a go = absurd a

abbrev failed : RtFault → Result Tree RtFault
failed e = Err e

same_fault : (a b : RtFault) → failed a ≡ failed b → a ≡ b
same_fault a b e = cc

pub fault_of_same : {X : Type 0} (shows : X → Tree → Type 0) (e : RtFault) (r : Result Tree RtFault) → r ≡ Err e → Answers shows (Err e) r
fault_of_same shows e (Ok tree) is = absurd cc
fault_of_same shows e (Err fault) is = inr (sym (same_fault fault e is))

-- ---- the loop

pub record Going {X : Type 0} (shows : X → Tree → Type 0) (inner : Reader) (message : Message) (bytes : List ℕ) (to : ℕ) (x : X) (at : ℕ) (total : Result Tree RtFault) : Type 0 where
  pub order : at ≤ to
  pub before : Tree
  pub shown : shows x before
  pub rest : walk inner message before (parts_of at (slice_range bytes at to)) ≡ total

pub starts : {X : Type 0} (shows : X → Tree → Type 0) (inner : Reader) (message : Message) (bytes : List ℕ) (from to : ℕ) (x : X) (total : Result Tree RtFault) → from ≤ to → shows x empty
    → total ≡ walk inner message empty (parts_of from (slice_range bytes from to)) → Going shows inner message bytes to x from total
starts shows inner message bytes from to x total order shown is = record { order = order; before = empty; shown = shown; rest = sym is }

-- the parts begin with this field
abbrev pub Begins : List ℕ → ℕ → ℕ → Field → Type 0
Begins bytes at to f = parts_of at (slice_range bytes at to) ≡ field at f.next (field_of bytes f) (parts_of f.next (slice_range bytes f.next to))

next_is : {X : Type 0} (shows : X → Tree → Type 0) (inner : Reader) (message : Message) (bytes : List ℕ) (to : ℕ) (x : X) (at : ℕ) (total : Result Tree RtFault) (f : Field) (g : Going shows inner message bytes to x at total) → Begins bytes at to f
    → (step inner message g.before f.next (field_of bytes f) >>= λ tree. walk inner message tree (parts_of f.next (slice_range bytes f.next to))) ≡ total
unfolding walk
next_is shows inner message bytes to x at total f g begins = sym (ap (walk inner message g.before) begins) ∙ g.rest

going_on : {X : Type 0} (shows : X → Tree → Type 0) (inner : Reader) (message : Message) (bytes : List ℕ) (to : ℕ) (y : X) (next : ℕ) (parts : Parts) (total : Result Tree RtFault) (r : Result Tree RtFault)
    → next ≤ to → Answers shows (Ok y) r → parts ≡ parts_of next (slice_range bytes next to) → (r >>= λ tree. walk inner message tree parts) ≡ total → Going shows inner message bytes to y next total
going_on shows inner message bytes to y next parts total (Ok tree) order a p e = record { order = order; before = tree; shown = a; rest = ap (walk inner message tree) (sym p) ∙ e }
going_on shows inner message bytes to y next parts total (Err fault) order a p e = absurd a

pub goes_on : {X : Type 0} (shows : X → Tree → Type 0) (inner : Reader) (message : Message) (bytes : List ℕ) (to : ℕ) (x y : X) (at : ℕ) (total : Result Tree RtFault) (f : Field) → Going shows inner message bytes to x at total
    → IsFieldAt bytes at to f → Begins bytes at to f → ((before : Tree) → shows x before → Answers shows (Ok y) (step inner message before f.next (field_of bytes f))) → Going shows inner message bytes to y f.next total
goes_on shows inner message bytes to x y at total f g is begins stepped =
    going_on shows inner message bytes to y f.next (parts_of f.next (slice_range bytes f.next to)) total (step inner message g.before f.next (field_of bytes f)) is.within (stepped g.before g.shown) refl
    (next_is shows inner message bytes to x at total f g begins)

-- a field that can't be taken ends it
pub stops : {X Y : Type 0} (shows : X → Tree → Type 0) (result : Y → Tree → Type 0) (inner : Reader) (message : Message) (bytes : List ℕ) (to : ℕ) (x : X) (at : ℕ) (total : Result Tree RtFault) (f : Field) (e : RtFault) → Going shows inner message bytes to x at total
    → Begins bytes at to f → ((before : Tree) → shows x before → Answers shows (Err e) (step inner message before f.next (field_of bytes f))) → Answers result (Err e) total
stops shows result inner message bytes to x at total f e g begins stepped =
    subst (λ (r : Result Tree RtFault). Answers result (Err e) r) (next_is shows inner message bytes to x at total f g begins)
    (fault_goes_on shows result e (step inner message g.before f.next (field_of bytes f)) (λ tree. walk inner message tree (parts_of f.next (slice_range bytes f.next to))) (stepped g.before g.shown))

-- bytes that are broken end it
pub breaks : {X Y : Type 0} (shows : X → Tree → Type 0) (result : Y → Tree → Type 0) (inner : Reader) (message : Message) (bytes : List ℕ) (to : ℕ) (x : X) (at : ℕ) (total : Result Tree RtFault) (fault : WireFault) (e : RtFault) → Going shows inner message bytes to x at total
    → parts_of at (slice_range bytes at to) ≡ broken fault → e ≡ wire fault → Answers result (Err e) total
unfolding walk
breaks shows result inner message bytes to x at total fault e g broken_is is =
    fault_of_same result e total (sym g.rest ∙ ap (walk inner message g.before) broken_is ∙ ap (λ (d : RtFault). Err d) (sym is))

-- the end
pub ends : {X : Type 0} (shows : X → Tree → Type 0) (inner : Reader) (message : Message) (bytes : List ℕ) (to : ℕ) (x : X) (at : ℕ) (total : Result Tree RtFault) → Going shows inner message bytes to x at total
    → parts_of at (slice_range bytes at to) ≡ whole → (before : Tree) × shows x before × (total ≡ complete (lacks message before) before)
unfolding walk
ends shows inner message bytes to x at total g whole_is = (g.before, g.shown, sym g.rest ∙ ap (walk inner message g.before) whole_is)

-- where nothing can lack
pub ends_whole : {X : Type 0} (shows : X → Tree → Type 0) (inner : Reader) (message : Message) (bytes : List ℕ) (to : ℕ) (x : X) (at : ℕ) (total : Result Tree RtFault) → Going shows inner message bytes to x at total
    → parts_of at (slice_range bytes at to) ≡ whole → ((tree : Tree) → lacks message tree ≡ None) → Answers shows (Ok x) total
ends_whole shows inner message bytes to x at total g whole_is nothing =
    let e = ends shows inner message bytes to x at total g whole_is in
    let is : total ≡ Ok e.0 = e.2 ∙ ap (λ (o : Option RtFault). complete o e.0) (nothing e.0) in
    subst (λ (r : Result Tree RtFault). Answers shows (Ok x) r) (sym is) e.1

-- ---- reading is a walk

pub read_flat : (message : Message) (place : ℕ) (bytes : List ℕ) → read 0 message place bytes ≡ walk (λ _ _ _. Ok empty) message empty (parts_of place bytes)
unfolding read
read_flat message place bytes = refl

pub read_deep : (levels : ℕ) (message : Message) (place : ℕ) (bytes : List ℕ) → read (suc levels) message place bytes ≡ walk (read levels) message empty (parts_of place bytes)
unfolding read
read_deep levels message place bytes = refl

-- ---- the same from what a call of `next_field` ensures

found_at : (bytes : List ℕ) (at to : ℕ) (o : Option Field) (f : Field) → o ≡ Some f → IfSome o (IsFieldAt bytes at to) → IsFieldAt bytes at to f
found_at bytes at to o f is found = let P : Option Field → Type 0 = λ o. IfSome o (IsFieldAt bytes at to) in subst P is found

begins_at : (bytes : List ℕ) (at to : ℕ) (o : Option Field) (f : Field) → o ≡ Some f → parts_of at (slice_range bytes at to) ≡ begun bytes at to (Ok o) → Begins bytes at to f
begins_at bytes at to o f is parts = parts ∙ ap (λ (o : Option Field). begun bytes at to (Ok o)) is

pub next_at : (bytes : List ℕ) (at to : ℕ) (o : Option Field) (f : Field) → o ≡ Some f → IfSome o (IsFieldAt bytes at to) → f.next ≤ to
next_at bytes at to o f is found = (found_at bytes at to o f is found).within

pub forward_at : (bytes : List ℕ) (at to : ℕ) (o : Option Field) (f : Field) → o ≡ Some f → IfSome o (IsFieldAt bytes at to) → at < f.next
forward_at bytes at to o f is found = (found_at bytes at to o f is found).forward

pub takes : {X : Type 0} (shows : X → Tree → Type 0) (inner : Reader) (message : Message) (bytes : List ℕ) (to : ℕ) (x y : X) (at : ℕ) (total : Result Tree RtFault) (o : Option Field) (f : Field) → Going shows inner message bytes to x at total
    → o ≡ Some f → IfSome o (IsFieldAt bytes at to) → parts_of at (slice_range bytes at to) ≡ begun bytes at to (Ok o)
    → ((before : Tree) → shows x before → Answers shows (Ok y) (step inner message before f.next (field_of bytes f))) → Going shows inner message bytes to y f.next total
takes shows inner message bytes to x y at total o f g is found parts stepped =
    goes_on shows inner message bytes to x y at total f g (found_at bytes at to o f is found) (begins_at bytes at to o f is parts) stepped

pub fails : {X Y : Type 0} (shows : X → Tree → Type 0) (result : Y → Tree → Type 0) (inner : Reader) (message : Message) (bytes : List ℕ) (to : ℕ) (x : X) (at : ℕ) (total : Result Tree RtFault) (o : Option Field) (f : Field) (e : RtFault) → Going shows inner message bytes to x at total
    → o ≡ Some f → parts_of at (slice_range bytes at to) ≡ begun bytes at to (Ok o)
    → ((before : Tree) → shows x before → Answers shows (Err e) (step inner message before f.next (field_of bytes f))) → Answers result (Err e) total
fails shows result inner message bytes to x at total o f e g is parts stepped =
    stops shows result inner message bytes to x at total f e g (begins_at bytes at to o f is parts) stepped

pub no_more : (bytes : List ℕ) (at to : ℕ) (o : Option Field) → ((f : Field) → o ≡ Some f → ⊥) → parts_of at (slice_range bytes at to) ≡ begun bytes at to (Ok o) → parts_of at (slice_range bytes at to) ≡ whole
no_more bytes at to None never parts = parts
no_more bytes at to (Some f) never parts = absurd (never f refl)

span_of : (len place next : ℕ) (v : Value) → EndsField place next v → next ≤ len → SpanEnds len next v
span_of len place next (values.Varint n) ends le = tt
span_of len place next (values.Eight n) ends le = tt
span_of len place next (values.Span from to) ends le = (ends.1, ends.2, le)
span_of len place next (values.Four n) ends le = tt

pub span_ends : (bytes : List ℕ) (at to : ℕ) (o : Option Field) (f : Field) → to ≤ length bytes → o ≡ Some f → IfSome o (IsFieldAt bytes at to) → SpanEnds (length bytes) f.next f.value
span_ends bytes at to o f within is found =
    let i = found_at bytes at to o f is found in
    span_of (length bytes) at f.next f.value i.span (omega (arith, i.within, within))

-- the end, tested by a function of its own
pub ends_tested : {X Y : Type 0} (shows : X → Tree → Type 0) (result : Y → Tree → Type 0) (inner : Reader) (message : Message) (bytes : List ℕ) (to : ℕ) (x : X) (y : Result Y RtFault) (at : ℕ) (total : Result Tree RtFault) → Going shows inner message bytes to x at total
    → parts_of at (slice_range bytes at to) ≡ whole → ((tree : Tree) → shows x tree → Answers result y (complete (lacks message tree) tree)) → Answers result y total
ends_tested shows result inner message bytes to x y at total g whole_is tested =
    let e = ends shows inner message bytes to x at total g whole_is in
    subst (λ (r : Result Tree RtFault). Answers result y r) (sym e.2) (tested e.0 e.1)
