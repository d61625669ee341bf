-- How the records of a text without quoted fields follow its bytes.
use Rattle.std.proofs.Common.{◌≡◌, ◌∙◌, ℕ, ◌+◌, ◌-◌, ◌<◌, ◌≤◌, List, [], ◌∷◌, ◌++◌, Bool, true, false, Option, Some, None, IfSome, ap₂, append_assoc, append-nil, cond, length, map, take, drop, get_or, refl, sym, ap, subst, arith}
use Rattle.std.specs.Prelude.{◌==◌, ◌||◌}
use Rattle.std.proofs.lemmas.Bool.{false≢true}
use Rattle.std.proofs.lemmas.List.{drop_all, drop_more, get_or-drop, get_or_past, length-drop, map-append, take_more}
use native.Mathlib.Decide.{dec_lt}
use Rattle.csv.proofs.ReadFacts.{part-rest, reached-more, run-copies, runs-step}
use Rattle.csv.specs.Machine.{Read, Runs, next_record, step}
use Rattle.csv.specs.Reading.{Reached, default_config, is_bom, strip_bom}
use Rattle.csv.specs.Records.{Row, fields_of, partial_of}
use Rattle.csv.specs.declared.parser.Action.{Action}
use Rattle.csv.specs.declared.parser.Action.TheVariants as act
use Rattle.csv.specs.declared.parser.State.{State}
use Rattle.csv.specs.declared.parser.State.TheVariants as st
use Rattle.gtfs_rows.specs.Spaces.{without_spaces}
use Rattle.gtfs_rows.specs.Store.{cut_records}
use Rattle.gtfs_rows.specs.Unquoted.{AddsRecord, HasTrimmedRecords, ends_field, is_line_end, record_from}
use Rattle.gtfs_rows.proofs.StoreLemmas.{IsStore, store_none, store_push}

joins : (parts ends returns : Bool) → (parts || ends) ≡ false
    → ◌≡◌ {A = State × Action} (cond parts (st.StartField, act.EndField) (cond ends (cond returns st.AfterCr st.StartRecord, act.EndRecord) (st.InField, act.Copy))) (st.InField, act.Copy)
joins true ends returns h = cc
joins false true returns h = cc
joins false false returns h = refl

-- a byte that ends no field joins it
pub byte_joins : (c : ℕ) → ends_field c ≡ false → step default_config st.InField c ≡ (st.InField, act.Copy)
byte_joins c h = joins (c == 44) ((c == 13) || (c == 10)) (c == 13) h

part_more : (text : List ℕ) (start place : ℕ) → start ≤ place → place < length text → take (place + 1 - start) (drop start text) ≡ take (place - start) (drop start text) ++ get_or text place 0 ∷ []
part_more text start place low inside =
    let one : place + 1 - start ≡ (place - start) + 1 = omega arith in
    let at : start + (place - start) ≡ place = omega arith in
    let within : place - start < length (drop start text) = omega (arith, length-drop start text) in
    ap (λ n. take n (drop start text)) one ∙ take_more (drop start text) (place - start) 0 within
    ∙ ap (λ v. take (place - start) (drop start text) ++ v ∷ []) (get_or-drop start text (place - start) 0 ∙ ap (λ k. get_or text k 0) at)

pub runs_none : (text : List ℕ) (start : ℕ) → Runs default_config st.InField (take (start - start) (drop start text))
unfolding Runs
runs_none text start = let none : start - start ≡ 0 = omega arith in rw none tt

-- one more byte joins the field
pub runs_more : (text : List ℕ) (start place : ℕ) → start ≤ place → place < length text → Runs default_config st.InField (take (place - start) (drop start text))
    → ends_field (get_or text place 0) ≡ false → Runs default_config st.InField (take (place + 1 - start) (drop start text))
runs_more text start place low inside runs other =
    rw (part_more text start place low inside) (runs-step default_config st.InField (take (place - start) (drop start text)) (get_or text place 0) runs (byte_joins (get_or text place 0) other))

-- a line's end before a record is passed over
passes_by : (c : ℕ) (rest : List ℕ) → is_line_end c ≡ true
    → next_record default_config st.StartRecord [] [] (c ∷ rest) ≡ next_record default_config st.StartRecord [] [] rest
unfolding next_record
passes_by c rest h = rw h refl

pub passes : (text : List ℕ) (place : ℕ) → place < length text → is_line_end (get_or text place 0) ≡ true → record_from text place ≡ record_from text (place + 1)
passes text place inside h = rw (drop_more text place 0 inside) (passes_by (get_or text place 0) (drop (place + 1) text) h)

second : (x y : Bool) → y ≡ true → (x || y) ≡ true
second true y h = refl
second false y h = h

-- after a carriage return a record is read as at the start
after_return : (text : List ℕ) → next_record default_config st.AfterCr [] [] text ≡ next_record default_config st.StartRecord [] [] text
unfolding next_record
after_return [] = refl
after_return (c ∷ rest) = by (c == 10) refl
  where
    by : (b : Bool) → (c == 10) ≡ b → next_record default_config st.AfterCr [] [] (c ∷ rest) ≡ next_record default_config st.StartRecord [] [] (c ∷ rest)
    by true e =
        let one : next_record default_config st.AfterCr [] [] (c ∷ rest) ≡ next_record default_config st.StartRecord [] [] rest = rw e refl in
        one ∙ sym (passes_by c rest (second (c == 13) (c == 10) e))
    by false e = rw e refl

-- a record begins with its first field
begins_by : (c : ℕ) (rest : List ℕ) → is_line_end c ≡ false
    → next_record default_config st.StartRecord [] [] (c ∷ rest) ≡ next_record default_config st.StartField [] [] (c ∷ rest)
unfolding next_record
begins_by c rest h = rw h refl

-- a field that begins with no quote is read like one that has begun
unquoted_by : (fields : List (List ℕ)) (c : ℕ) (rest : List ℕ) → (c == 34) ≡ false
    → next_record default_config st.StartField fields [] (c ∷ rest) ≡ next_record default_config st.InField fields [] (c ∷ rest)
unfolding next_record
unquoted_by fields c rest h = rw h refl

unquoted_end : (fields : List (List ℕ)) → next_record default_config st.StartField fields [] [] ≡ next_record default_config st.InField fields [] []
unfolding next_record
unquoted_end fields = refl

unquoted : (fields : List (List ℕ)) (text : List ℕ) (place : ℕ) → (get_or text place 0 == 34) ≡ false
    → next_record default_config st.StartField fields [] (drop place text) ≡ next_record default_config st.InField fields [] (drop place text)
unquoted fields text place h =
    elim (dec_lt place (length text)) [
      | yes inside ↦ rw (drop_more text place 0 inside) (unquoted_by fields (get_or text place 0) (drop (place + 1) text) h)
      | no past ↦ rw (drop_all place text (omega arith)) (unquoted_end fields)
    ]

-- the bytes of a field up to its end are read
field_read : (fields : List (List ℕ)) (text : List ℕ) (start end : ℕ) → start ≤ end → Runs default_config st.InField (take (end - start) (drop start text)) → (get_or text start 0 == 34) ≡ false
    → next_record default_config st.StartField fields [] (drop start text) ≡ next_record default_config st.InField fields (take (end - start) (drop start text)) (drop end text)
field_read fields text start end low runs h =
    let field = take (end - start) (drop start text) in
    let at : start + (end - start) ≡ end = omega arith in
    let split : drop start text ≡ field ++ drop end text = part-rest start (end - start) text ∙ ap (λ k. take (end - start) (drop start text) ++ drop k text) at in
    unquoted fields text start h ∙ ap (λ t. next_record default_config st.InField fields [] t) split ∙ run-copies default_config st.InField fields [] field (drop end text) runs

-- a comma ends a field
parts_by : (fields : List (List ℕ)) (field : List ℕ) (c : ℕ) (rest : List ℕ) → (c == 44) ≡ true
    → next_record default_config st.InField fields field (c ∷ rest) ≡ next_record default_config st.StartField (fields ++ (field ∷ [])) [] rest
unfolding next_record
parts_by fields field c rest h = rw h refl

-- the text ends a field and its record
record Closes (fields : List (List ℕ)) (field text : List ℕ) : Type 0 where
  read : Read
  next : next_record default_config st.InField fields field text ≡ Some read
  whole : read.0 ≡ fields ++ (field ∷ [])
  after : next_record default_config read.1 [] [] read.2 ≡ next_record default_config st.StartRecord [] [] text

closes_end : (fields : List (List ℕ)) (field : List ℕ) → Closes fields field []
unfolding next_record
closes_end fields field = record { read = (fields ++ (field ∷ []), st.StartRecord, []); next = refl; whole = refl; after = refl }

closes_by : (fields : List (List ℕ)) (field : List ℕ) (c : ℕ) (rest : List ℕ) → (c == 44) ≡ false → is_line_end c ≡ true → Closes fields field (c ∷ rest)
unfolding next_record
closes_by fields field c rest other line = by (c == 13) refl
  where
    by : (b : Bool) → (c == 13) ≡ b → Closes fields field (c ∷ rest)
    by true e = record {
      read = (fields ++ (field ∷ []), st.AfterCr, rest);
      next = rw (other, e) refl;
      whole = refl;
      after = after_return rest ∙ sym (passes_by c rest line);
    }
    by false e =
        let feed : (c == 10) ≡ true = rw e at line in
        record {
          read = (fields ++ (field ∷ []), st.StartRecord, rest);
          next = rw (other, e, feed) refl;
          whole = refl;
          after = sym (passes_by c rest line);
        }

either_is : (x y : Bool) → x ≡ false → (x || y) ≡ true → y ≡ true
either_is true y e h = absurd (false≢true (sym e))
either_is false y e h = h

closes : (fields : List (List ℕ)) (field text : List ℕ) (end : ℕ) → (get_or text end 0 == 44) ≡ false → (end < length text → ends_field (get_or text end 0) ≡ true)
    → Closes fields field (drop end text)
closes fields field text end other ended =
    elim (dec_lt end (length text)) [
      | yes inside ↦
          let line = either_is (get_or text end 0 == 44) (is_line_end (get_or text end 0)) other (ended inside) in
          subst (Closes fields field) (sym (drop_more text end 0 inside)) (closes_by fields field (get_or text end 0) (drop (end + 1) text) other line)
      | no past ↦ subst (Closes fields field) (sym (drop_all end text (omega arith))) (closes_end fields field)
    ]

-- the fields of a record that are before a place are added
pub record IsAdding (text : List ℕ) (start at : ℕ) (old new : List (List ℕ)) : Type 0 where
  pub low : start ≤ at
  pub within : at ≤ length text
  pub fields : List (List ℕ)
  pub next : record_from text start ≡ next_record default_config st.StartField fields [] (drop at text)
  pub added : new ≡ old ++ map without_spaces fields

pub adding_start : (text : List ℕ) (start : ℕ) (old : List (List ℕ)) → start < length text → is_line_end (get_or text start 0) ≡ false → IsAdding text start start old old
adding_start text start old inside begun = record {
  low = omega arith;
  within = omega arith;
  fields = [];
  next = rw (drop_more text start 0 inside) (begins_by (get_or text start 0) (drop (start + 1) text) begun);
  added = sym (append-nil old);
}

comma_inside : (text : List ℕ) (end : ℕ) → (get_or text end 0 == 44) ≡ true → end < length text
comma_inside text end comma =
    elim (dec_lt end (length text)) [
      | yes inside ↦ inside
      | no past ↦
          let none : get_or text end 0 ≡ 0 = get_or_past text end 0 (omega arith) in
          let never : false ≡ true = rw none at comma in
          absurd (false≢true never)
    ]

pushed_is : (old new new2 fields : List (List ℕ)) (field : List ℕ) → new ≡ old ++ map without_spaces fields → new2 ≡ new ++ (without_spaces field ∷ [])
    → new2 ≡ old ++ map without_spaces (fields ++ (field ∷ []))
pushed_is old new new2 fields field was pushed =
    pushed ∙ ap (λ (l : List (List ℕ)). l ++ (without_spaces field ∷ [])) was ∙ append_assoc old (map without_spaces fields) (without_spaces field ∷ [])
    ∙ ap (λ (l : List (List ℕ)). old ++ l) (sym (map-append without_spaces fields (field ∷ [])))

pub adding_more : (text : List ℕ) (start at end : ℕ) (old new new2 : List (List ℕ)) → IsAdding text start at old new → at ≤ end
    → Runs default_config st.InField (take (end - at) (drop at text)) → (get_or text at 0 == 34) ≡ false → (get_or text end 0 == 44) ≡ true
    → new2 ≡ new ++ (without_spaces (take (end - at) (drop at text)) ∷ []) → IsAdding text start (end + 1) old new2
adding_more text start at end old new new2 was low runs plain comma pushed =
    let inside : end < length text = comma_inside text end comma in
    let first : start ≤ at = was.low in
    let field = take (end - at) (drop at text) in
    let parted : next_record default_config st.InField was.fields field (drop end text) ≡ next_record default_config st.StartField (was.fields ++ (field ∷ [])) [] (drop (end + 1) text) =
    ap (λ t. next_record default_config st.InField was.fields field t) (drop_more text end 0 inside) ∙ parts_by was.fields field (get_or text end 0) (drop (end + 1) text) comma in
    record {
      low = omega arith;
      within = omega arith;
      fields = was.fields ++ (field ∷ []);
      next = was.next ∙ field_read was.fields text at end low runs plain ∙ parted;
      added = pushed_is old new new2 was.fields field was.added pushed;
    }

pub adding_done : (text : List ℕ) (start at end : ℕ) (old new new2 : List (List ℕ)) → IsAdding text start at old new → at ≤ end → end ≤ length text
    → Runs default_config st.InField (take (end - at) (drop at text)) → (get_or text at 0 == 34) ≡ false → (get_or text end 0 == 44) ≡ false
    → (end < length text → ends_field (get_or text end 0) ≡ true)
    → new2 ≡ new ++ (without_spaces (take (end - at) (drop at text)) ∷ []) → AddsRecord text start end old new2
adding_done text start at end old new new2 was low high runs plain other ended pushed =
    let field = take (end - at) (drop at text) in
    let closed = closes was.fields field text end other ended in
    let first : start ≤ at = was.low in
    record {
      low = omega arith;
      high = high;
      ended = λ inside. either_is (get_or text end 0 == 44) (is_line_end (get_or text end 0)) other (ended inside);
      read = closed.read;
      next = was.next ∙ field_read was.fields text at end low runs plain ∙ closed.next;
      added = pushed_is old new new2 was.fields field was.added pushed ∙ ap (λ (l : List (List ℕ)). old ++ map without_spaces l) (sym closed.whole);
      after = closed.after;
    }

-- the records that are before a place of the text are stored
pub record IsFilling (text : List ℕ) (at : ℕ) (ends : List ℕ) (fields : Row) : Type 0 where
  pub within : at ≤ length text
  pub begun : at < length text → is_line_end (get_or text at 0) ≡ false
  pub state : State
  pub left : List ℕ
  pub read : List (List (List ℕ))
  pub reached : Reached default_config st.StartRecord text read state left
  pub next : next_record default_config state [] [] left ≡ record_from text at
  pub store : IsStore ends (fields_of fields) (map (map without_spaces) read)
  pub closed : partial_of fields ≡ []

pub filling_start : (text : List ℕ) (at : ℕ) (fields : Row) → at ≤ length text → (at < length text → is_line_end (get_or text at 0) ≡ false)
    → record_from text 0 ≡ record_from text at → fields_of fields ≡ [] → partial_of fields ≡ [] → IsFilling text at [] fields
unfolding Reached
filling_start text at fields within begun same empty closed = record {
  within = within;
  begun = begun;
  state = st.StartRecord;
  left = text;
  read = [];
  reached = (refl, refl);
  next = same;
  store = rw empty store_none;
  closed = closed;
}

-- one more record is stored
pub filling_more : (text : List ℕ) (at end next : ℕ) (ends ends2 : List ℕ) (fields fields2 : Row) (n : ℕ)
    → IsFilling text at ends fields → AddsRecord text at end (fields_of fields) (fields_of fields2) → partial_of fields2 ≡ [] → n ≡ length (fields_of fields2) → ends2 ≡ ends ++ (n ∷ [])
    → next ≤ length text → (next < length text → is_line_end (get_or text next 0) ≡ false) → record_from text end ≡ record_from text next
    → IsFilling text next ends2 fields2
filling_more text at end next ends ends2 fields fields2 n was adds closed size ended within begun same =
    let rows : map (map without_spaces) (was.read ++ (adds.read.0 ∷ [])) ≡ map (map without_spaces) was.read ++ (map without_spaces adds.read.0 ∷ []) =
    map-append (map without_spaces) was.read (adds.read.0 ∷ []) in
    record {
      within = within;
      begun = begun;
      state = adds.read.1;
      left = adds.read.2;
      read = was.read ++ (adds.read.0 ∷ []);
      reached = reached-more default_config st.StartRecord was.state text was.left was.read adds.read was.reached (was.next ∙ adds.next);
      next = adds.after ∙ same;
      store = rw (ended, adds.added, rows) (store_push ends (fields_of fields) (map without_spaces adds.read.0) (map (map without_spaces) was.read) n was.store (rw (← adds.added) size));
      closed = closed;
    }

no_more : (text : List ℕ) (at : ℕ) → length text ≤ at → record_from text at ≡ None
unfolding next_record
no_more text at past = rw (drop_all at text past) refl

pub filling_done : (text : List ℕ) (at : ℕ) (ends : List ℕ) (fields : Row) → IsFilling text at ends fields → length text ≤ at
    → HasTrimmedRecords text (cut_records 0 ends (fields_of fields))
filling_done text at ends fields was past = (was.read, (was.state, was.left, was.reached, was.next ∙ no_more text at past), was.store.cut)

-- what holds of what an option holds
pub at_some : {A : Type 0} (P : A → Type 0) (o : Option A) (x : A) → o ≡ Some x → IfSome o P → P x
at_some P o x is h = subst (λ p. IfSome p P) is h

-- a field that is pushed where no other is begun
pub pushed_alone : (old new : List (List ℕ)) (begun field text : List ℕ) → new ≡ old ++ ((begun ++ field) ∷ []) → begun ≡ [] → field ≡ text → new ≡ old ++ (text ∷ [])
pushed_alone old new begun field text pushed none is = pushed ∙ ap₂ (λ (b f : List ℕ). old ++ ((b ++ f) ∷ [])) none is

pub strip_long : (bytes : List ℕ) (mark : Bool) → 3 ≤ length bytes → is_bom (get_or bytes 0 0) (get_or bytes 1 0) (get_or bytes 2 0) ≡ mark → strip_bom bytes ≡ cond mark (drop 3 bytes) bytes
unfolding strip_bom
strip_long [] mark long is = absurd (omega arith)
strip_long (a ∷ []) mark long is = absurd (omega arith)
strip_long (a ∷ b ∷ []) mark long is = absurd (omega arith)
strip_long (a ∷ b ∷ c ∷ rest) mark long is = ap (λ m. cond m rest (a ∷ b ∷ c ∷ rest)) is
