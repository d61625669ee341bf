-- Bytes say one script, or have one fault.
use Rattle.std.proofs.Common.{◌≡◌, ◌∙◌, ◌⊎◌, ℕ, ◌+◌, ◌<◌, Bool, List, [], ◌∷◌, Result, Ok, Err, IfErr, IfOk, IsOkUnless, ap, arith, inl, inr, le_refl, length, map, refl, subst, sym, take, take_all, zero-add, All, false}
use Rattle.std.proofs.lemmas.Bool.{cases_order}
use Rattle.gtfs_rows.specs.Sheet.{AreTrimmedRecordsOf}
use Rattle.gtfs_rows.specs.Spaces.{without_spaces}
use Rattle.gtfs_rows.proofs.SheetLemmas.{records_of_are_one, some_records}
use Rattle.journey_text.specs.ScriptLaws.{NeverBoth, OneFault, OneScript, SomeReading}
use Rattle.journey_text.specs.ScriptReading.{HasFault, HaveFault, IsFirstWrong, SaysScript, row_at}
use Rattle.journey_text.specs.Script.{IsClient, NamesNone, SayRecords, SaysRecord, TurnsAreOfClients, clients_in, clients_of}
use Rattle.journey_text.specs.declared.script_fault.ScriptFault.{ScriptFault}
use Rattle.journey_text.specs.declared.script_fault.ScriptFault.TheVariants.{Wrong, NoMemory}
use Rattle.journey_text.specs.declared.script.Record.{Record}
use Rattle.journey_text.proofs.OneRecordLemmas.{one_record}
use Rattle.journey_text.proofs.ScriptRowsLemmas.{names_none, say_before, some_say, turn_of_client}

one_list : (updates : Bool) (clients : ℕ) (rows : List (List (List ℕ))) (a b : List Record) → SayRecords updates clients rows a → SayRecords updates clients rows b → a ≡ b
one_list updates clients [] [] [] h k = refl
one_list updates clients [] [] (y ∷ b) h k = absurd k
one_list updates clients [] (x ∷ a) b h k = absurd h
one_list updates clients (row ∷ rows) [] b h k = absurd h
one_list updates clients (row ∷ rows) (x ∷ a) [] h k = absurd k
one_list updates clients (row ∷ rows) (x ∷ a) (y ∷ b) h k =
    let first : x ≡ y = one_record updates clients row x y h.0 k.0 in
    let rest : a ≡ b = one_list updates (clients + clients_of x) rows a b h.1 (subst (λ (r : Record). SayRecords updates (clients + clients_of r) rows b) (sym first) k.1) in
    cc

-- the rows of a text are one list
one_reading : (bytes : List ℕ) (a b : List (List (List ℕ))) → AreTrimmedRecordsOf bytes a → AreTrimmedRecordsOf bytes b → a ≡ b
one_reading bytes a b h k = h.2 ∙ ap (map (map without_spaces)) (records_of_are_one bytes h.0 k.0 h.1 k.1) ∙ sym k.2

-- no rows that say records reach past the first that says none
none_past : (updates : Bool) (rows : List (List (List ℕ))) (row end : ℕ) (items : List Record) (wrong : IsFirstWrong updates rows row) → SayRecords updates 0 (take end rows) items → wrong.place < end → ⊥
none_past updates rows row end items wrong say below =
    let here = say_before updates 0 rows end items wrong.place say below wrong.is_there in
    let same : here.before ≡ wrong.before = one_list updates 0 (take wrong.place rows) here.before wrong.before here.say wrong.say in
    let clients : clients_in here.before ≡ clients_in wrong.before = ap clients_in same in
    let count : 0 + clients_in here.before ≡ clients_in wrong.before = omega arith in
    wrong.says_none here.said (subst (λ (n : ℕ). SaysRecord updates n (row_at rows wrong.place) here.said) count here.says)

never_have : (updates : Bool) (rows : List (List (List ℕ))) (script : List Record) (fault : ScriptFault) → SayRecords updates 0 rows script → HaveFault updates rows fault → ⊥
never_have updates rows script (Wrong row) say have =
    none_past updates rows row (length rows) script have
    (subst (λ (r : List (List (List ℕ))). SayRecords updates 0 r script) (sym (take_all (length rows) rows (le_refl (length rows)))) say)
    have.is_there
never_have updates rows script NoMemory say have = absurd have

one_have : (updates : Bool) (rows : List (List (List ℕ))) (a b : ScriptFault) → HaveFault updates rows a → HaveFault updates rows b → a ≡ b
one_have updates rows NoMemory b p q = absurd p
one_have updates rows (Wrong m) NoMemory p q = absurd q
one_have updates rows (Wrong m) (Wrong n) p q = elim (cases_order p.place q.place) [
  | inl same ↦ ap (λ (row : ℕ). Wrong row) (p.counted ∙ ap (λ (place : ℕ). place + 1) same ∙ sym q.counted)
  | inr (inl before) ↦ absurd (none_past updates rows m q.place q.before p q.say before)
  | inr (inr behind) ↦ absurd (none_past updates rows n p.place p.before q p.say behind)
]

pub only_script : OneScript
only_script bytes updates a b p q =
    let same : p.rows ≡ q.rows = one_reading bytes p.rows q.rows p.read q.read in
    one_list updates 0 q.rows a b (subst (λ (rows : List (List (List ℕ))). SayRecords updates 0 rows a) same p.say) q.say

pub only_fault : OneFault
only_fault bytes updates a b p q =
    let same : p.rows ≡ q.rows = one_reading bytes p.rows q.rows p.read q.read in
    one_have updates q.rows a b (subst (λ (rows : List (List (List ℕ))). HaveFault updates rows a) same p.have) q.have

pub never_both : NeverBoth
never_both bytes updates script fault p q =
    let same : p.rows ≡ q.rows = one_reading bytes p.rows q.rows p.read q.read in
    never_have updates q.rows script fault (subst (λ (rows : List (List (List ℕ))). SayRecords updates 0 rows script) same p.say) q.have

pub some_reading : SomeReading
some_reading bytes updates no_script no_fault =
    let found = some_records bytes in
    let rows = map (map without_spaces) found.0 in
    let read : AreTrimmedRecordsOf bytes rows = (found.0, found.1, refl) in
    let right : (row : ℕ) → ¬ (IsFirstWrong updates rows row) = λ row wrong. no_fault (Wrong row) (record { rows = rows; read = read; have = wrong }) in
    some_say updates rows right (length rows) (le_refl (length rows)) (λ script say.
    no_script script (record {
      rows = rows;
      read = read;
      say = subst (λ (r : List (List (List ℕ))). SayRecords updates 0 r script) (take_all (length rows) rows (le_refl (length rows))) say;
    }))

-- what is said of the answer that was found for the rows of a text
module _ (bytes : List ℕ) (updates : Bool) (rows : List (List (List ℕ))) (read : AreTrimmedRecordsOf bytes rows) where
  pub read_where_said : (result : Result (List Record) ScriptFault) → IfErr result (λ fault. (fault ≡ NoMemory) ⊎ HaveFault updates rows fault) → (script : List Record) → SaysScript bytes updates script → IsOkUnless result NoMemory
  read_where_said (Ok found) fault script says = tt
  read_where_said (Err found) (inl none) script says = none
  read_where_said (Err found) (inr have) script says = absurd (never_both bytes updates script found says (record { rows = rows; read = read; have = have }))

  pub faulty_where_wrong : (result : Result (List Record) ScriptFault) → IfOk result (SayRecords updates 0 rows) → IfErr result (λ fault. (fault ≡ NoMemory) ⊎ HaveFault updates rows fault) → (fault : ScriptFault) → HasFault bytes updates fault → (result ≡ Err fault) ⊎ (result ≡ Err NoMemory)
  faulty_where_wrong (Ok found) say have fault wrong = absurd (never_both bytes updates found fault (record { rows = rows; read = read; say = say }) wrong)
  faulty_where_wrong (Err found) say (inl none) fault wrong = inr (ap (λ (f : ScriptFault). Err f) none)
  faulty_where_wrong (Err found) say (inr have) fault wrong =
      inl (ap (λ (f : ScriptFault). Err f) (only_fault bytes updates found fault (record { rows = rows; read = read; have = have }) wrong))

  pub turns_where_read : (result : Result (List Record) ScriptFault) → IfOk result (SayRecords updates 0 rows) → IfOk result TurnsAreOfClients
  turns_where_read (Ok found) say = λ before behind client is.
      let there = turn_of_client updates 0 rows before behind client (subst (λ (script : List Record). SayRecords updates 0 rows script) is say) in
      subst (λ (n : ℕ). IsClient n client) (zero-add (clients_in before)) there
  turns_where_read (Err found) say = tt

  pub none_where_read : (result : Result (List Record) ScriptFault) → IfOk result (SayRecords updates 0 rows) → updates ≡ false → IfOk result (All NamesNone)
  none_where_read (Ok found) say never = names_none updates 0 rows found never say
  none_where_read (Err found) say never = tt

  pub same_where_read : (result : Result (List Record) ScriptFault) → IfOk result (SayRecords updates 0 rows) → IfOk result (λ said. (script : List Record) → SaysScript bytes updates script → script ≡ said)
  same_where_read (Ok found) say = λ script says. only_script bytes updates script found says (record { rows = rows; read = read; say = say })
  same_where_read (Err found) say = tt
