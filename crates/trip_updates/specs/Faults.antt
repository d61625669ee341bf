-- The first fault, by recursion on the rest of the bytes, one field at a time.
use Rattle.std.specs.Prelude.{ℕ, zero, suc, ◌-◌, List, length, Option, Some, None, is_some, Result, Ok, Err, if◌then◌else◌}
use Rattle.rt_protobuf.specs.Grammar.{Content, varint, eight, text, four, WireField}
use Rattle.rt_protobuf.specs.Parts.{Parts, whole, broken, field}
use Rattle.rt_protobuf.specs.Reading.{parts_of}
use Rattle.trip_updates.specs.declared.fault.RtFault.{RtFault}
use Rattle.trip_updates.specs.declared.fault.RtFault.TheVariants as faults
use Rattle.trip_updates.specs.Wire.{wire}
use Rattle.trip_updates.specs.Tree.{Tree, empty, and_varint, and_text, and_message, last_message}
use Rattle.trip_updates.specs.Table.{Message, feed_message, Kind, a_varint, a_text, one, many, kind, lacks}

-- what goes on from a value, and stops at a fault
infixl 10 ◌>>=◌
abbrev pub ◌>>=◌ : {A B : Type 0} → Result A RtFault → (A → Result B RtFault) → Result B RtFault
(Ok x) >>= f = f x
(Err e) >>= f = Err e

-- a way to read an embedded message, of which the first byte is at a place
abbrev pub Reader : Type 0
Reader = Message → ℕ → List ℕ → Result Tree RtFault

-- a varint, kept where the field is read as one
abbrev pub with_varint : Kind → Tree → ℕ → ℕ → Tree
with_varint a_varint before number n = and_varint before number n
with_varint _ before number n = before

-- a text that ends before the place `next`
abbrev pub with_text : Reader → Kind → Tree → ℕ → ℕ → List ℕ → Result Tree RtFault
with_text inner a_text before next number bytes = Ok (and_text before number bytes)
with_text inner (one part message) before next number bytes =
    if is_some (last_message number before) then Err (faults.Repeated part)
    else (inner message (next - length bytes) bytes >>= λ tree. Ok (and_message before number tree))
with_text inner (many message) before next number bytes =
    inner message (next - length bytes) bytes >>= λ tree. Ok (and_message before number tree)
with_text inner _ before next number bytes = Ok before

-- the fields with the content of one more, by what it is read as, or the fault in it
abbrev pub with_content : Reader → Kind → Tree → ℕ → ℕ → Content → Result Tree RtFault
with_content inner k before next number (varint n) = Ok (with_varint k before number n)
with_content inner k before next number (eight n) = Ok before
with_content inner k before next number (text bytes) = with_text inner k before next number bytes
with_content inner k before next number (four n) = Ok before

-- the fields of a message with one more, or the fault in it
abbrev pub step : Reader → Message → Tree → ℕ → WireField → Result Tree RtFault
step inner message before next f = with_content inner (kind message f.number) before next f.number f.content

-- the fields at the end of a message, or what is lacking there
abbrev pub complete : Option RtFault → Tree → Result Tree RtFault
complete None tree = Ok tree
complete (Some fault) tree = Err fault

-- the fields of all of these parts after those before them, or the first fault
unfoldable pub walk : Reader → Message → Tree → Parts → Result Tree RtFault
walk inner message before whole = complete (lacks message before) before
walk inner message before (broken fault) = Err (wire fault)
walk inner message before (field place next first others) = step inner message before next first >>= λ tree. walk inner message tree others

-- the reading of bytes of so many levels of messages
unfoldable pub read : ℕ → Reader
read zero message place bytes = walk (λ _ _ _. Ok empty) message empty (parts_of place bytes)
read (suc levels) message place bytes = walk (read levels) message empty (parts_of place bytes)

-- the fault, if there is one
abbrev pub fault_in : {X : Type 0} → Result X RtFault → Option RtFault
fault_in (Ok x) = None
fault_in (Err fault) = Some fault

-- the first fault of bytes that are no FeedMessage
abbrev pub fault_of : List ℕ → Option RtFault
fault_of bytes = fault_in (read 4 feed_message 0 bytes)
