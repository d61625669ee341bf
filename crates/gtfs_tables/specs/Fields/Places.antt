-- The places of keys in a list of them.
use Rattle.std.specs.Prelude.{ℕ, ◌==◌, ◌&&◌, Bool, false, List, Option, Some, None, is_none, length, nat_lt, not}
use Rattle.std.specs.List.{position_from}
use Rattle.std.specs.Str.{bytes_eq}

-- the first place, from 0, of a key in a list of keys
abbrev pub first_place : {Key : Type 0} → (Key → Key → Bool) → List Key → Key → Option ℕ
first_place same keys key = position_from (λ other. same other key) 0 keys

-- a first place is there, and comes before this one
abbrev pub is_before : Option ℕ → ℕ → Bool
is_before None place = false
is_before (Some first) place = nat_lt first place

-- the key, which is at this place, is at an earlier one too
abbrev pub stands_twice : {Key : Type 0} → (Key → Key → Bool) → List Key → ℕ → Key → Bool
stands_twice same keys place key = is_before (first_place same keys key) place

-- a text that is not empty is none of these
abbrev pub is_unknown : List (List ℕ) → List ℕ → Bool
is_unknown texts text = not (length text == 0) && is_none (first_place bytes_eq texts text)
