-- How JSON is read, step by step: each step gives what it reads, or the first fault.
use Rattle.std.specs.Prelude.{◌≡◌, ◌≢◌, ℕ, List, [], ◌∷◌, Result, Ok, Err}
use Rattle.serde_json.specs.Data.{Data, Items, no_items, item}
use Rattle.page_json.specs.declared.object_members.fault.PageFault.{PageFault}
use Rattle.page_json.specs.declared.object_members.fault.PageFault.TheVariants.{BadMember, NoMemory}

-- which results a reading may have: it has exactly one
abbrev pub Reading : Type 0 → Type 1
Reading X = Result X PageFault → Type 0

-- a result that the reading has
abbrev pub HasResult : {X : Type 0} → Reading X → Type 0
HasResult {X} reading = (result : Result X PageFault) × reading result

-- the reading gives this
abbrev pub gives : {X : Type 0} → X → Reading X
gives x result = result ≡ Ok x

-- the reading has this result
abbrev pub exactly : {X : Type 0} → Result X PageFault → Reading X
exactly answer result = result ≡ answer

-- the reading ends with this fault
abbrev pub refuses : {X : Type 0} → PageFault → Reading X
refuses fault result = result ≡ Err fault

-- a result, and what is read after it; a fault is the last
abbrev pub after : {A B : Type 0} → Result A PageFault → (A → Reading B) → Reading B
after (Ok x) next = next x
after (Err fault) next = refuses fault

-- one reading, and with what it gives the next
infixl 10 ◌>>=◌
abbrev pub ◌>>=◌ : {A B : Type 0} → Reading A → (A → Reading B) → Reading B
◌>>=◌ {A} first next result = (read : Result A PageFault) × first read × after read next result

-- the items of a list, one after the other
unfoldable pub each_in : {X : Type 0} → (Data → Reading X) → Items → Reading (List X)
each_in inner no_items = gives []
each_in inner (item first rest) = do
  x ← inner first
  xs ← each_in inner rest
  gives (x ∷ xs)

-- what a call returned is what the reading has, unless memory ran out
abbrev pub Meets : {X : Type 0} → Reading X → Result X PageFault → Type 0
Meets reading (Ok x) = reading (Ok x)
Meets reading (Err fault) = fault ≢ NoMemory → reading (Err fault)

-- What the text of a member says, where `Says` has what a text may say: that alone, or nothing, and then the member is
-- bad.
abbrev pub what_is_said : {X : Type 0} → (List ℕ → X → Type 0) → List ℕ → List ℕ → Reading X
what_is_said Says key text (Ok x) = Says text x × ((y : _) → Says text y → y ≡ x)
what_is_said Says key text (Err fault) = (fault ≡ BadMember key) × ((y : _) → Says text y → ⊥)
