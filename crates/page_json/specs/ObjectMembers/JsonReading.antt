-- The JSON that bytes are.
use Rattle.std.specs.Prelude.{◌≡◌, ℕ, List, Some, None, Ok, Err}
use Rattle.std.specs.Str.{IsUtf8}
use Rattle.serde_json.specs.Data.{Data}
use Rattle.serde_json.specs.Read.{read}
use Rattle.page_json.specs.ObjectMembers.Reading.{Reading}
use Rattle.page_json.specs.declared.object_members.fault.PageFault.TheVariants.{NotJson}

-- the JSON that the bytes are (RFC 8259; of members of one name the last counts), if they are any
abbrev pub json_in : List ℕ → Reading Data
json_in bytes (Ok tree) = IsUtf8 bytes × (read bytes ≡ Some tree)
json_in bytes (Err fault) = (fault ≡ NotJson) × (IsUtf8 bytes → read bytes ≡ None)
