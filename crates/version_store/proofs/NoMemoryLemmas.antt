-- No fault of bytes is running out of memory.
use Rattle.std.proofs.Common.{◌≡◌, ℕ, zero, suc, List, Bool, true, false, Option, Some, None, Result, Ok, Err, refl, ap, sym, ◌∙◌, arith}
use Rattle.std.specs.Prelude.{nat_lt, ◌-◌, length, is_some, if◌then◌else◌}
use Rattle.rt_protobuf.specs.Grammar.{Content, varint, eight, text, four}
use Rattle.rt_protobuf.specs.Parts.{Parts, whole, broken, field}
use Rattle.rt_protobuf.specs.Reading.{parts_of}
use Rattle.rt_protobuf.specs.declared.fault.WireFault.{WireFault}
use Rattle.rt_protobuf.specs.declared.fault.WireFault.TheVariants as wires
use Rattle.trip_updates.specs.Faults.{Reader, complete, fault_in, fault_of, read, step, walk, with_content, with_text, ◌>>=◌}
use Rattle.trip_updates.specs.Table.{Kind, Message, a_text, a_varint, feed_entity, feed_header, feed_message, kind, lacks, lacks_moment, many, one, skipped, stop_time_event, stop_time_update, trip_descriptor, trip_update}
use Rattle.trip_updates.specs.Tree.{Tree, and_message, empty, last_message, last_text, last_varint}
use Rattle.trip_updates.specs.Wire.{wire}
use Rattle.trip_updates.specs.declared.fault.RtFault.{RtFault}
use Rattle.trip_updates.specs.declared.fault.RtFault.TheVariants as rts

is_memory : RtFault → ℕ
is_memory (rts.Cut place) = 0
is_memory (rts.LongVarint place) = 0
is_memory (rts.Group place) = 0
is_memory (rts.BadField place) = 0
is_memory (rts.Missing part) = 0
is_memory rts.NoMoment = 0
is_memory (rts.Repeated part) = 0
is_memory rts.NoMemory = 1

-- it is read, or there is another fault in it
abbrev HasMemory : Result Tree RtFault → Type 0
HasMemory (Ok tree) = Unit {0}
HasMemory (Err fault) = is_memory fault ≡ 0

wire_has : (fault : WireFault) → is_memory (wire fault) ≡ 0
unfolding is_memory
wire_has (wires.Cut place) = refl
wire_has (wires.LongVarint place) = refl
wire_has (wires.Group place) = refl
wire_has (wires.BadField place) = refl

-- nothing that a message lacks is memory
abbrev LacksNone : Option RtFault → Type 0
LacksNone None = Unit {0}
LacksNone (Some fault) = is_memory fault ≡ 0

lacks_if : (b : Bool) (fault : RtFault) → is_memory fault ≡ 0 → LacksNone (if b then None else Some fault)
lacks_if true fault e = tt
lacks_if false fault e = e

lacks_moment_none : (said : Option ℕ) → LacksNone (lacks_moment said)
unfolding is_memory
lacks_moment_none None = refl
lacks_moment_none (Some n) = lacks_if (nat_lt n 253_402_128_000) rts.NoMoment refl

header_lacks : (tree : Tree) (b : Bool) (said : Option ℕ) (fault : RtFault) → is_memory fault ≡ 0 → LacksNone (if b then lacks_moment said else Some fault)
header_lacks tree true said fault e = lacks_moment_none said
header_lacks tree false said fault e = e

lacks_none : (message : Message) (tree : Tree) → LacksNone (lacks message tree)
unfolding is_memory
lacks_none feed_message tree = lacks_if (is_some (last_message 1 tree)) _ refl
lacks_none feed_header tree = header_lacks tree (is_some (last_text 1 tree)) (last_varint 3 tree) _ refl
lacks_none feed_entity tree = lacks_if (is_some (last_text 1 tree)) _ refl
lacks_none trip_update tree = lacks_if (is_some (last_message 1 tree)) _ refl
lacks_none trip_descriptor tree = tt
lacks_none stop_time_update tree = tt
lacks_none stop_time_event tree = tt

completes : (lacking : Option RtFault) (tree : Tree) → LacksNone lacking → HasMemory (complete lacking tree)
completes None tree e = tt
completes (Some fault) tree e = e

goes_on : (r : Result Tree RtFault) (f : Tree → Result Tree RtFault) → HasMemory r → ((tree : Tree) → HasMemory (f tree)) → HasMemory (r >>= f)
goes_on (Ok tree) f has on = on tree
goes_on (Err fault) f has on = has

-- a way to read that never runs out of memory
abbrev ReaderHas : Reader → Type 0
ReaderHas inner = (message : Message) (place : ℕ) (bytes : List ℕ) → HasMemory (inner message place bytes)

one_has : (inner : Reader) → ReaderHas inner → (b : Bool) (fault : RtFault) → is_memory fault ≡ 0 → (message : Message) (before : Tree) (place number : ℕ) (bytes : List ℕ)
    → HasMemory (if b then Err fault else (inner message place bytes >>= λ tree. Ok (and_message before number tree)))
one_has inner has true fault e message before place number bytes = e
one_has inner has false fault e message before place number bytes = goes_on (inner message place bytes) (λ tree. Ok (and_message before number tree)) (has message place bytes) (λ tree. tt)

text_has : (inner : Reader) → ReaderHas inner → (k : Kind) (before : Tree) (next number : ℕ) (bytes : List ℕ) → HasMemory (with_text inner k before next number bytes)
unfolding is_memory
text_has inner has skipped before next number bytes = tt
text_has inner has a_varint before next number bytes = tt
text_has inner has a_text before next number bytes = tt
text_has inner has (one part message) before next number bytes =
    one_has inner has (is_some (last_message number before)) (rts.Repeated part) refl message before (next - length bytes) number bytes
text_has inner has (many message) before next number bytes =
    goes_on (inner message (next - length bytes) bytes) (λ tree. Ok (and_message before number tree)) (has message (next - length bytes) bytes) (λ tree. tt)

content_has : (inner : Reader) → ReaderHas inner → (k : Kind) (before : Tree) (next number : ℕ) (content : Content) → HasMemory (with_content inner k before next number content)
content_has inner has k before next number (varint n) = tt
content_has inner has k before next number (eight n) = tt
content_has inner has k before next number (text bytes) = text_has inner has k before next number bytes
content_has inner has k before next number (four n) = tt

walk_has : (inner : Reader) → ReaderHas inner → (message : Message) (parts : Parts) (before : Tree) → HasMemory (walk inner message before parts)
unfolding walk
walk_has inner has message whole before = completes (lacks message before) before (lacks_none message before)
walk_has inner has message (broken fault) before = wire_has fault
walk_has inner has message (field place next first others) before =
    goes_on (step inner message before next first) (λ tree. walk inner message tree others)
    (content_has inner has (kind message first.number) before next first.number first.content) (λ tree. walk_has inner has message others tree)

read_has : (levels : ℕ) → ReaderHas (read levels)
unfolding read
read_has zero message place bytes = walk_has (λ _ _ _. Ok empty) (λ _ _ _. tt) message (parts_of place bytes) empty
read_has (suc levels) message place bytes = walk_has (read levels) (read_has levels) message (parts_of place bytes) empty

some_is_one : (x y : RtFault) → Some x ≡ Some y → x ≡ y
some_is_one x y e = cc

not_memory : (fault : RtFault) → is_memory fault ≡ 0 → fault ≡ rts.NoMemory → ⊥
unfolding is_memory
not_memory fault has e = let f : 0 ≡ 1 = sym has ∙ ap is_memory e in omega (arith, f)

no_fault_of_memory : (r : Result Tree RtFault) → HasMemory r → fault_in r ≡ Some rts.NoMemory → ⊥
no_fault_of_memory (Ok tree) has e = let f : None ≡ Some rts.NoMemory = e in cc
no_fault_of_memory (Err fault) has e = not_memory fault has (some_is_one fault rts.NoMemory e)

pub no_fault_is_memory : (bytes : List ℕ) → fault_of bytes ≡ Some rts.NoMemory → ⊥
no_fault_is_memory bytes e = no_fault_of_memory (read 4 feed_message 0 bytes) (read_has 4 feed_message 0 bytes) e
