-- Ids, texts and seconds that a member is.
use Rattle.std.specs.Prelude.{ℕ, ◌^◌, ◌&&◌, List, [], ◌∷◌, nat_le, nat_lt, Option, Some, None, option_and_then, option_map, Result, Ok, if◌then◌else◌}
use Rattle.serde_json.specs.Data.{Data}
use Rattle.serde_json.specs.Find.{as_number, as_str, as_u64}
use Rattle.page_json.specs.ObjectMembers.Members.{formed}
use Rattle.page_json.specs.declared.object_members.fault.PageFault.{PageFault}

-- a text that is not empty
abbrev pub id_from : List ℕ → Option (List ℕ)
id_from [] = None
id_from (first ∷ rest) = Some (first ∷ rest)

-- the id that a value is
abbrev pub as_id : Data → Option (List ℕ)
as_id d = option_and_then id_from (as_str d)

-- the text of a member, or the empty one where it is missing
abbrev pub text_if : List ℕ → Option Data → Result (List ℕ) PageFault
text_if key None = Ok []
text_if key (Some d) = formed key (as_str d)

-- the id of a member, if it is there
abbrev pub id_if : List ℕ → Option Data → Result (Option (List ℕ)) PageFault
id_if key None = Ok None
id_if key (Some d) = formed key (option_map Some (as_id d))

-- from one second to as many as 32 bits can count
abbrev pub seconds_from : ℕ → Option ℕ
seconds_from n = if nat_le 1 n && nat_lt n (2 ^ 32) then Some n else None

-- the seconds that a value is
abbrev pub as_seconds : Data → Option ℕ
as_seconds d = option_and_then seconds_from (option_and_then as_u64 (as_number d))
