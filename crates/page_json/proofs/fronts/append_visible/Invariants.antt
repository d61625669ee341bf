-- The bytes so far are appended.
use Rattle.std.proofs.Common.{◌≡◌, ◌++◌, string_bytes, take}
use Rattle.json.specs.Print.{escape}
use Rattle.page_json.proofs.fronts.append_visible.Given as goal

abbrev pub invariant-loop-byte : goal.invariant-loop-byte
invariant-loop-byte l = string_bytes l.out ≡ string_bytes l.initial.out ++ escape (take l.byte-index l.bytes)
