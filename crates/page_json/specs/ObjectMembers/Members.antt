-- The members of a JSON object, as they are read.
use Rattle.std.specs.Prelude.{ℕ, List, ℤ, pos, Option, Some, None, option_and_then, Result, Ok, Err}
use Rattle.serde_json.specs.Data.{Data, Items, Members}
use Rattle.serde_json.specs.Find.{as_array, as_i64, as_number, as_object, as_str, get}
use Rattle.page_json.specs.ObjectMembers.Reading.{Reading, after, gives, what_is_said, ◌>>=◌}
use Rattle.page_json.specs.declared.object_members.fault.PageFault.{PageFault}
use Rattle.page_json.specs.declared.object_members.fault.PageFault.TheVariants.{BadMember, NoMember}

-- a form that the member has, or else it is bad
abbrev pub formed : {X : Type 0} → List ℕ → Option X → Result X PageFault
formed key None = Err (BadMember key)
formed key (Some x) = Ok x

-- a member that is needed, in a form
abbrev pub needed : {X : Type 0} → (Data → Option X) → List ℕ → Option Data → Result X PageFault
needed form key None = Err (NoMember key)
needed form key (Some d) = formed key (form d)

-- the text of a member that is needed
abbrev pub text_of : List ℕ → Data → Result (List ℕ) PageFault
text_of key tree = needed as_str key (get key tree)

-- the list of a member that is needed
abbrev pub list_of : List ℕ → Data → Result Items PageFault
list_of key tree = needed as_array key (get key tree)

-- the tree is an object; else what it is under is bad
abbrev pub object_under : List ℕ → Data → Result Members PageFault
object_under name tree = formed name (as_object tree)

-- what the text of a needed member says
abbrev pub said_at : {X : Type 0} → (List ℕ → X → Type 0) → List ℕ → Data → Reading X
said_at Says key tree = after (text_of key tree) (what_is_said Says key)

-- what the text of a member that is there says
abbrev pub said_in : {X : Type 0} → (List ℕ → X → Type 0) → List ℕ → Data → Reading X
said_in Says key d = after (formed key (as_str d)) (what_is_said Says key)

-- what the text of a member says, which may be missing
abbrev pub said_if : {X : Type 0} → (List ℕ → X → Type 0) → List ℕ → Option Data → Reading (Option X)
said_if Says key None = gives None
said_if Says key (Some d) = do
  said ← said_in Says key d
  gives (Some said)

-- what the text of a member says, if the member is there
abbrev pub said_if_there : {X : Type 0} → (List ℕ → X → Type 0) → List ℕ → Data → Reading (Option X)
said_if_there Says key tree = said_if Says key (get key tree)

-- a whole number that is there
abbrev pub delay_in : List ℕ → Option Data → Result ℤ PageFault
delay_in key None = Ok (pos 0)
delay_in key (Some d) = formed key (option_and_then as_i64 (as_number d))

-- a delay: a whole number of 64 bits, or 0 where the member is missing
abbrev pub delay_of : List ℕ → Data → Result ℤ PageFault
delay_of key tree = delay_in key (get key tree)
