-- Rows say records one after the other.
use Rattle.std.proofs.Common.{All, false, ◌≡◌, ◌∙◌, ℕ, zero, suc, ◌+◌, ◌<◌, ◌≤◌, Bool, List, [], ◌∷◌, ◌++◌, add-one, add-zero, add_assoc, ap, arith, get_or, length, refl, subst, sym, take, zero-add}
use Rattle.std.proofs.lemmas.List.Elements.{All-cons, All-nil}
use Rattle.std.proofs.lemmas.List.Sums.{sum_by-cons, sum_by_push}
use Rattle.journey_text.specs.ScriptReading.{IsFirstWrong}
use Rattle.journey_text.specs.Script.{IsClient, NamesNone, SayRecords, SaysRecord, clients_in, clients_of}
use Rattle.journey_text.specs.declared.script.Record.{Record}
use Rattle.journey_text.specs.declared.script.Record.TheVariants as records

-- the clients before a record are the first ones and those of what is between
clients_behind : (clients : ℕ) (first : Record) (before : List Record) → clients + clients_in (first ∷ before) ≡ clients + clients_of first + clients_in before
clients_behind clients first before =
    ap (λ n. clients + n) (sum_by-cons clients_of first before) ∙ sym (add_assoc clients (clients_of first) (clients_in before))

say_next : (updates : Bool) (clients : ℕ) (rows : List (List (List ℕ))) (place : ℕ) (items : List Record) (said : Record) → place < length rows → SayRecords updates clients (take place rows) items → SaysRecord updates (clients + clients_in items) (get_or rows place []) said → SayRecords updates clients (take (suc place) rows) (items ++ said ∷ [])
say_next updates clients [] place items said inside h p = absurd (omega arith)
say_next updates clients (row ∷ rows) zero [] said inside h p = (subst (λ (n : ℕ). SaysRecord updates n row said) (add-zero clients) p, tt)
say_next updates clients (row ∷ rows) zero (first ∷ items) said inside h p = absurd h
say_next updates clients (row ∷ rows) (suc place) [] said inside h p = absurd h
say_next updates clients (row ∷ rows) (suc place) (first ∷ items) said inside h p = (
  h.0,
  say_next updates (clients + clients_of first) rows place items said (omega arith) h.1 (subst (λ (n : ℕ). SaysRecord updates n (get_or rows place []) said) (clients_behind clients first items) p),
)

one_at_most : (said : Record) → clients_of said ≤ 1
one_at_most (records.Ask query) = omega arith
one_at_most (records.Update file) = omega arith
one_at_most (records.Turn client) = omega arith

-- the rows before a place say these records, which bring so many clients, at most one a row
abbrev pub SayUntil : Bool → List (List (List ℕ)) → ℕ → ℕ → List Record → Type 0
SayUntil updates rows place clients items = SayRecords updates 0 (take place rows) items × (clients ≡ clients_in items) × (clients ≤ place)

-- with the row at the place they say one record more
pub say_more : (updates : Bool) (rows : List (List (List ℕ))) (place clients behind : ℕ) (items new : List Record) (said : Record) → place < length rows → SayUntil updates rows place clients items → SaysRecord updates clients (get_or rows place []) said → behind ≡ clients + clients_of said → new ≡ items ++ said ∷ [] → SayUntil updates rows (place + 1) behind new
say_more updates rows place clients behind items new said inside h p more pushed =
    let same : clients ≡ 0 + clients_in items = omega (arith, h.1) in
    let few = one_at_most said in
    let say : SayRecords updates 0 (take (suc place) rows) (items ++ said ∷ []) = say_next updates 0 rows place items said inside h.0 (subst (λ (n : ℕ). SaysRecord updates n (get_or rows place []) said) same p) in
    let count : clients + clients_of said ≡ clients_in (items ++ said ∷ []) = ap (λ n. n + clients_of said) h.1 ∙ sym (sum_by_push clients_of items said) in (
      subst (λ (end : ℕ). SayRecords updates 0 (take end rows) new) (sym (add-one place)) (subst (λ (script : List Record). SayRecords updates 0 (take (suc place) rows) script) (sym pushed) say),
      more ∙ count ∙ ap clients_in (sym pushed),
      omega (arith, more, few, h.2),
    )

-- where no row is the first wrong one, the rows up to a place are not without records
pub some_say : (updates : Bool) (rows : List (List (List ℕ))) → ((row : ℕ) → ¬ (IsFirstWrong updates rows row)) → (place : ℕ) → place ≤ length rows → ((items : List Record) → ¬ (SayRecords updates 0 (take place rows) items)) → ⊥
some_say updates rows right zero fits none = none [] tt
some_say updates rows right (suc place) fits none =
    some_say updates rows right place (omega arith) (λ items say.
    right (place + 1) (record {
      place = place;
      counted = refl;
      is_there = omega arith;
      before = items;
      say = say;
      says_none = λ said says.
          none (items ++ said ∷ []) (say_next updates 0 rows place items said (omega arith) say (subst (λ (n : ℕ). SaysRecord updates n (get_or rows place []) said) (sym (zero-add (clients_in items))) says));
    }))

-- what the row at a place says, and those before it
pub record SayUpTo (updates : Bool) (clients : ℕ) (rows : List (List (List ℕ))) (place : ℕ) : Type 0 where
  pub before : List Record
  pub say : SayRecords updates clients (take place rows) before
  pub said : Record
  pub says : SaysRecord updates (clients + clients_in before) (get_or rows place []) said

-- rows of which more say records say them up to this place
pub say_before : (updates : Bool) (clients : ℕ) (rows : List (List (List ℕ))) (end : ℕ) (items : List Record) (place : ℕ) → SayRecords updates clients (take end rows) items → place < end → place < length rows → SayUpTo updates clients rows place
say_before updates clients [] end items place h below inside = absurd (omega arith)
say_before updates clients (row ∷ rows) zero items place h below inside = absurd (omega arith)
say_before updates clients (row ∷ rows) (suc end) [] place h below inside = absurd h
say_before updates clients (row ∷ rows) (suc end) (first ∷ items) zero h below inside =
    record { before = []; say = tt; said = first; says = subst (λ (n : ℕ). SaysRecord updates n row first) (sym (add-zero clients)) h.0 }
say_before updates clients (row ∷ rows) (suc end) (first ∷ items) (suc place) h below inside =
    let further = say_before updates (clients + clients_of first) rows end items place h.1 (omega arith) (omega arith) in
    record {
      before = first ∷ further.before;
      say = (h.0, further.say);
      said = further.said;
      says = subst (λ (n : ℕ). SaysRecord updates n (get_or rows place []) further.said) (sym (clients_behind clients first further.before)) further.says;
    }

-- a turn among the records is one of a client that those before it bring
pub turn_of_client : (updates : Bool) (clients : ℕ) (rows : List (List (List ℕ))) (before behind : List Record) (client : ℕ) → SayRecords updates clients rows (before ++ records.Turn client ∷ behind) → IsClient (clients + clients_in before) client
turn_of_client updates clients [] [] behind client h = absurd h
turn_of_client updates clients [] (first ∷ before) behind client h = absurd h
turn_of_client updates clients (row ∷ rows) [] behind client h = subst (λ (n : ℕ). IsClient n client) (sym (add-zero clients)) h.0.is_there
turn_of_client updates clients (row ∷ rows) (first ∷ before) behind client h =
    subst (λ (n : ℕ). IsClient n client) (sym (clients_behind clients first before)) (turn_of_client updates (clients + clients_of first) rows before behind client h.1)

names_none_of : (updates : Bool) (clients : ℕ) (row : List (List ℕ)) (said : Record) → updates ≡ false → SaysRecord updates clients row said → NamesNone said
names_none_of updates clients row (records.Ask query) never says = tt
names_none_of updates clients row (records.Update file) never says = absurd (cc (sym never ∙ says.may))
names_none_of updates clients row (records.Turn client) never says = tt

-- where no message may be named none is
pub names_none : (updates : Bool) (clients : ℕ) (rows : List (List (List ℕ))) (script : List Record) → updates ≡ false → SayRecords updates clients rows script → All NamesNone script
names_none updates clients [] [] never h = All-nil NamesNone
names_none updates clients [] (first ∷ script) never h = absurd h
names_none updates clients (row ∷ rows) [] never h = absurd h
names_none updates clients (row ∷ rows) (first ∷ script) never h =
    All-cons NamesNone first script (names_none_of updates clients row first never h.0) (names_none updates (clients + clients_of first) rows script never h.1)
