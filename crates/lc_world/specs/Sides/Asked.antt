-- What a request asks a publisher for (RFC 7089, section 4.2: a time gate apart from its mementos).
use Rattle.std.specs.Prelude.{ℕ, Bool, ◌||◌, ◌&&◌, List, ◌++◌, codes, Option, option_map, find, if◌then◌else◌}
use Rattle.std.specs.Str.{str_eq_ignore_ascii_case}
use Rattle.lc_model.specs.Change.{is_same_id}
use Rattle.connection_uri.specs.Base.{BaseParts}
use Rattle.http_text.specs.declared.field.Field.{Field}
use Rattle.http_text.specs.declared.member.Member.{Member}
use Rattle.http_text.specs.declared.reply_parts.Allow.TheVariants.{Posting, Reading}
use Rattle.lc_world.specs.declared.sides.asked.Asked.{Asked}
use Rattle.lc_world.specs.declared.sides.asked.Asked.TheVariants as kinds

-- two byte lists are the same
abbrev pub is_same : List ℕ → List ℕ → Bool
is_same = is_same_id

-- the path is the base's with this after it
abbrev pub is_under : BaseParts → List ℕ → List ℕ → Bool
is_under base tail path = is_same path (base.path ++ tail)

-- a HEAD wants what a GET wants, without the body (RFC 9110, section 9.3.2)
abbrev pub is_head : List ℕ → Bool
is_head method = is_same method (codes "HEAD")

-- a method reads
abbrev pub is_reading : List ℕ → Bool
is_reading method = is_same method (codes "GET") || is_head method

-- a method posts
abbrev pub is_posting : List ℕ → Bool
is_posting method = is_same method (codes "POST")

-- what is asked for, where the method is one that reads
abbrev pub asked_by_reading : List ℕ → Asked → Asked
asked_by_reading method asked = if is_reading method then asked else kinds.OtherMethod Reading

-- what is asked for, where the method is POST
abbrev pub asked_by_posting : List ℕ → Asked → Asked
asked_by_posting method asked = if is_posting method then asked else kinds.OtherMethod Posting

-- What a request asks for by its path and its method: the time gate, a page or the stops document. Where messages are taken, one
-- may be admitted. A known path with another method is distinguished from an unknown one.
abbrev pub asked_of : BaseParts → Bool → List ℕ → List ℕ → Asked
asked_of base accepts_updates path method =
    if is_under base (codes "connections") path then asked_by_reading method kinds.Gate
    else (if is_under base (codes "memento/connections") path then asked_by_reading method kinds.Page
    else (if is_under base (codes "stops") path then asked_by_reading method kinds.Stops
    else (if accepts_updates && is_under base (codes "updates") path then asked_by_posting method kinds.Update
    else kinds.Nothing)))

-- the value of the first member of this name, if there is one
abbrev pub member_value : List ℕ → List Member → Option (List ℕ)
member_value name query = option_map (λ (m : Member). m.value) (find (λ (m : Member). is_same m.name name) query)

-- the value of the first field of this name, if there is one. Names are compared without regard to case
abbrev pub field_value : List ℕ → List Field → Option (List ℕ)
field_value name fields = option_map (λ (f : Field). f.value) (find (λ (f : Field). str_eq_ignore_ascii_case f.name name) fields)
