-- Scripts: CSV without a header, whose rows ask questions, name messages and give clients their turns.
use Rattle.std.specs.Prelude.{◌≡◌, ℕ, ◌+◌, ◌≤◌, Bool, true, List, [], ◌∷◌, ◌++◌, Option, Some, None, codes, length, slice_index_or}
use Rattle.std.specs.List.{sum_by}
use Rattle.std.specs.Str.{IsUtf8}
use Rattle.lc_model.specs.Text.{IsIdText}
use Rattle.lc_model.specs.declared.query.Query.{Query}
use Rattle.lc_model.specs.declared.query.TheConstants.{FIRST_LEAVE, LAST_LEAVE}
use Rattle.lc_time.specs.Digits.{u32_said}
use Rattle.lc_time.specs.Iso.{SaysMoment}
use Rattle.journey_text.specs.declared.script.Record.{Record}
use Rattle.journey_text.specs.declared.script.Record.TheVariants as records

-- the field at a place of a row, from 0; one that is not there is as an empty one
abbrev pub field_of : List (List ℕ) → ℕ → List ℕ
field_of row place = slice_index_or row place []

-- the row begins with this word, and has at least and at most so many fields
pub record IsOfKind (row : List (List ℕ)) (word : List ℕ) (least most : ℕ) : Type 0 where
  pub begins : field_of row 0 ≡ word
  pub at_least : least ≤ length row
  pub at_most : length row ≤ most

-- the text says a moment at which a question may leave
pub record SaysLeave (text : List ℕ) (leave : ℕ) : Type 0 where
  pub says : SaysMoment text leave
  pub not_before : FIRST_LEAVE ≤ leave
  pub not_after : leave ≤ LAST_LEAVE

-- the moment whose knowledge is meant, and none where the text is empty
abbrev pub SaysKnown : List ℕ → Option ℕ → Type 0
SaysKnown [] known = known ≡ None
SaysKnown (byte ∷ rest) None = ⊥
SaysKnown (byte ∷ rest) (Some known) = SaysMoment (byte ∷ rest) known

-- the seconds that a text says, any number of 32 bits, and a day where it is empty
abbrev pub horizon_said : List ℕ → Option ℕ
horizon_said [] = Some 86_400
horizon_said (byte ∷ rest) = u32_said (byte ∷ rest)

-- the row says when the question leaves, what is known then, and the horizon
pub record SaysTimes (row : List (List ℕ)) (leave : ℕ) (known : Option ℕ) (horizon : ℕ) : Type 0 where
  pub leave_is : SaysLeave (field_of row 3) leave
  pub known_is : SaysKnown (field_of row 4) known
  pub horizon_is : horizon_said (field_of row 5) ≡ Some horizon

-- `ask,FROM,TO,MOMENT`, and after it KNOWN, or KNOWN and HORIZON: a new client asks this
pub record SaysAsk (row : List (List ℕ)) (query : Query) : Type 0 where
  pub kind : IsOfKind row (codes "ask") 4 6
  pub from_is : query.from ≡ field_of row 1
  pub from_text : IsIdText (field_of row 1)
  pub to_is : query.to ≡ field_of row 2
  pub to_text : IsIdText (field_of row 2)
  pub times : SaysTimes row query.leave query.known query.horizon

-- `update,FILE`: the message in the file is admitted, where messages may be named
pub record SaysUpdate (updates : Bool) (row : List (List ℕ)) (file : List ℕ) : Type 0 where
  pub may : updates ≡ true
  pub kind : IsOfKind row (codes "update") 2 2
  pub file_is : file ≡ field_of row 1
  pub text : IsUtf8 (field_of row 1)

-- the number is that of one of so many clients, who have the numbers from 1 on
pub record IsClient (clients number : ℕ) : Type 0 where
  pub from_one : 1 ≤ number
  pub at_most : number ≤ clients

-- `turn,K`: one turn of client K, one of so many that earlier rows brought
pub record SaysTurn (clients : ℕ) (row : List (List ℕ)) (client : ℕ) : Type 0 where
  pub kind : IsOfKind row (codes "turn") 2 2
  pub client_is : u32_said (field_of row 1) ≡ Some client
  pub is_there : IsClient clients client

-- the row says this record, where messages may be named or not, and earlier rows brought so many clients
abbrev pub SaysRecord : Bool → ℕ → List (List ℕ) → Record → Type 0
SaysRecord updates clients row (records.Ask query) = SaysAsk row query
SaysRecord updates clients row (records.Update file) = SaysUpdate updates row file
SaysRecord updates clients row (records.Turn client) = SaysTurn clients row client

-- how many clients a record brings
abbrev pub clients_of : Record → ℕ
clients_of (records.Ask query) = 1
clients_of (records.Update file) = 0
clients_of (records.Turn client) = 0

-- how many clients the records bring
abbrev pub clients_in : List Record → ℕ
clients_in script = sum_by clients_of script

-- the rows say these records, one each, where earlier rows brought so many clients
abbrev pub SayRecords : Bool → ℕ → List (List (List ℕ)) → List Record → Type 0
SayRecords updates clients [] [] = Unit {0}
SayRecords updates clients [] (said ∷ script) = ⊥
SayRecords updates clients (row ∷ rows) [] = ⊥
SayRecords updates clients (row ∷ rows) (said ∷ script) =
    SaysRecord updates clients row said × SayRecords updates (clients + clients_of said) rows script

-- each turn is one of a client that an earlier record brings
abbrev pub TurnsAreOfClients : List Record → Type 0
TurnsAreOfClients script =
    (before behind : List Record) (client : ℕ) → script ≡ before ++ (records.Turn client ∷ behind) → IsClient (clients_in before) client

-- the record names no message
abbrev pub NamesNone : Record → Type 0
NamesNone (records.Ask query) = Unit {0}
NamesNone (records.Update file) = ⊥
NamesNone (records.Turn client) = Unit {0}
