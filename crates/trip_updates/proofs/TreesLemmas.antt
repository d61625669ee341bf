-- The walk reads exactly the trees that bytes are.
use Rattle.std.proofs.Common.{◌≡◌, ℕ, zero, suc, ◌-◌, false, List, [], ◌∷◌, length, Option, Some, None, Result, Ok, Err, refl, sym, ap, subst, ◌∙◌, arith, inl, inr, ◌⊎◌}
use Rattle.std.specs.Prelude.{is_some, option_map, slice_range, IfOk, IfErr}
use Rattle.std.proofs.lemmas.Slice.{between_from_start}
use Rattle.std.proofs.lemmas.List.{take_all}
use Rattle.rt_protobuf.specs.Grammar.{Content, varint, eight, text, four, WireField}
use Rattle.rt_protobuf.specs.Parts.{Parts, whole, broken, field, fields_in}
use Rattle.rt_protobuf.specs.Reading.{parts_of}
use Rattle.rt_protobuf.proofs.OneWayLemmas.{fields_are, are_fields}
use Rattle.trip_updates.specs.declared.fault.RtFault.{RtFault}
use Rattle.trip_updates.specs.declared.fault.RtFault.TheVariants as faults
use Rattle.lc_model.specs.declared.versions.update.Update.{Update}
use Rattle.trip_updates.specs.Tree.{Tree, empty, and_varint, and_text, and_message, last_message}
use Rattle.trip_updates.specs.Table.{Message, feed_message, Kind, skipped, a_varint, a_text, one, many, kind, lacks}
use Rattle.trip_updates.specs.Message.{Adds, Add, IsTreeWith, IsTree, IsMessage}
use Rattle.trip_updates.specs.Meaning.{update_of}
use Rattle.trip_updates.specs.Faults.{◌>>=◌, Reader, with_content, step, walk, read, fault_in, fault_of}
use Rattle.trip_updates.specs.Shows.{Answers, ShowsUpdate}
use Rattle.trip_updates.proofs.StepsLemmas.{done, ok_is, bind_ok, guard_ok, complete_ok, some_of, no_fault}

-- a way to read embedded messages, and what they are
pub record Agree (inner : Reader) (Inner : Message → List ℕ → Tree → Type 0) : Type 0 where
  pub reads : (message : Message) (place : ℕ) (bytes : List ℕ) (tree : Tree) → inner message place bytes ≡ Ok tree → Inner message bytes tree
  pub is_read : (message : Message) (place : ℕ) (bytes : List ℕ) (tree : Tree) → Inner message bytes tree → inner message place bytes ≡ Ok tree

stays : (before after : Tree) → done before ≡ done after → after ≡ before
stays before after e = sym (ok_is before after e)

-- ---- one field

read_inner : (inner : Reader) (Inner : Message → List ℕ → Tree → Type 0) (agree : Agree inner Inner) (message : Message) (before : Tree) (place number : ℕ) (bytes : List ℕ) (after : Tree)
    → (inner message place bytes >>= λ tree. Ok (and_message before number tree)) ≡ Ok after → (t : Tree) × Inner message bytes t × (after ≡ and_message before number t)
read_inner inner Inner agree message before place number bytes after e =
    let s = bind_ok (inner message place bytes) (λ (tree : Tree). Ok (and_message before number tree)) after e in
    (s.0, agree.reads message place bytes s.0 s.1, stays (and_message before number s.0) after s.2)

inner_read : (inner : Reader) (Inner : Message → List ℕ → Tree → Type 0) (agree : Agree inner Inner) (message : Message) (before : Tree) (place number : ℕ) (bytes : List ℕ) (after t : Tree)
    → Inner message bytes t → after ≡ and_message before number t → (inner message place bytes >>= λ tree. Ok (and_message before number tree)) ≡ Ok after
inner_read inner Inner agree message before place number bytes after t i e =
    rw (agree.is_read message place bytes t i) (ap (λ (x : Tree). Ok x) (sym e))

none_of : {X : Type 0} (o : Option X) → is_some o ≡ false → o ≡ None
none_of None e = refl
none_of (Some x) e = absurd cc

adds : (inner : Reader) (Inner : Message → List ℕ → Tree → Type 0) (agree : Agree inner Inner) (k : Kind) (before : Tree) (next number : ℕ) (c : Content) (after : Tree)
    → with_content inner k before next number c ≡ Ok after → Adds Inner k before number c after
adds inner Inner agree skipped before next number (varint n) after e = stays before after e
adds inner Inner agree skipped before next number (eight n) after e = stays before after e
adds inner Inner agree skipped before next number (text bytes) after e = stays before after e
adds inner Inner agree skipped before next number (four n) after e = stays before after e
adds inner Inner agree a_varint before next number (varint n) after e = stays (and_varint before number n) after e
adds inner Inner agree a_varint before next number (eight n) after e = stays before after e
adds inner Inner agree a_varint before next number (text bytes) after e = stays before after e
adds inner Inner agree a_varint before next number (four n) after e = stays before after e
adds inner Inner agree a_text before next number (varint n) after e = stays before after e
adds inner Inner agree a_text before next number (eight n) after e = stays before after e
adds inner Inner agree a_text before next number (text bytes) after e = stays (and_text before number bytes) after e
adds inner Inner agree a_text before next number (four n) after e = stays before after e
adds inner Inner agree (one part m) before next number (varint n) after e = stays before after e
adds inner Inner agree (one part m) before next number (eight n) after e = stays before after e
adds inner Inner agree (one part m) before next number (text bytes) after e =
    let g = guard_ok (is_some (last_message number before)) (faults.Repeated part) (inner m (next - length bytes) bytes >>= λ tree. Ok (and_message before number tree)) after e in
    let r = read_inner inner Inner agree m before (next - length bytes) number bytes after g.1 in
    (none_of (last_message number before) g.0, r.0, r.1, r.2)
adds inner Inner agree (one part m) before next number (four n) after e = stays before after e
adds inner Inner agree (many m) before next number (varint n) after e = stays before after e
adds inner Inner agree (many m) before next number (eight n) after e = stays before after e
adds inner Inner agree (many m) before next number (text bytes) after e = read_inner inner Inner agree m before (next - length bytes) number bytes after e
adds inner Inner agree (many m) before next number (four n) after e = stays before after e

as_before : (before after : Tree) → after ≡ before → done before ≡ done after
as_before before after e = ap (λ (x : Tree). done x) (sym e)

added : (inner : Reader) (Inner : Message → List ℕ → Tree → Type 0) (agree : Agree inner Inner) (k : Kind) (before : Tree) (next number : ℕ) (c : Content) (after : Tree)
    → Adds Inner k before number c after → with_content inner k before next number c ≡ Ok after
added inner Inner agree skipped before next number (varint n) after e = as_before before after e
added inner Inner agree skipped before next number (eight n) after e = as_before before after e
added inner Inner agree skipped before next number (text bytes) after e = as_before before after e
added inner Inner agree skipped before next number (four n) after e = as_before before after e
added inner Inner agree a_varint before next number (varint n) after e = as_before (and_varint before number n) after e
added inner Inner agree a_varint before next number (eight n) after e = as_before before after e
added inner Inner agree a_varint before next number (text bytes) after e = as_before before after e
added inner Inner agree a_varint before next number (four n) after e = as_before before after e
added inner Inner agree a_text before next number (varint n) after e = as_before before after e
added inner Inner agree a_text before next number (eight n) after e = as_before before after e
added inner Inner agree a_text before next number (text bytes) after e = as_before (and_text before number bytes) after e
added inner Inner agree a_text before next number (four n) after e = as_before before after e
added inner Inner agree (one part m) before next number (varint n) after e = as_before before after e
added inner Inner agree (one part m) before next number (eight n) after e = as_before before after e
added inner Inner agree (one part m) before next number (text bytes) after e =
    rw e.0 (inner_read inner Inner agree m before (next - length bytes) number bytes after e.1 e.2 e.3)
added inner Inner agree (one part m) before next number (four n) after e = as_before before after e
added inner Inner agree (many m) before next number (varint n) after e = as_before before after e
added inner Inner agree (many m) before next number (eight n) after e = as_before before after e
added inner Inner agree (many m) before next number (text bytes) after e = inner_read inner Inner agree m before (next - length bytes) number bytes after e.0 e.1 e.2
added inner Inner agree (many m) before next number (four n) after e = as_before before after e

-- ---- field after field

record Walked (Inner : Message → List ℕ → Tree → Type 0) (message : Message) (before : Tree) (parts : Parts) (tree : Tree) : Type 0 where
  fields : List WireField
  in_parts : fields_in parts ≡ Some fields
  add : Add Inner message before fields tree
  nothing : lacks message tree ≡ None

walked : (inner : Reader) (Inner : Message → List ℕ → Tree → Type 0) (agree : Agree inner Inner) (message : Message) (parts : Parts) (before tree : Tree) → walk inner message before parts ≡ Ok tree → Walked Inner message before parts tree
unfolding walk
walked inner Inner agree message whole before tree e =
    let p = complete_ok (lacks message before) before tree e in
    record { fields = []; in_parts = refl; add = sym p.1; nothing = ap (lacks message) (sym p.1) ∙ p.0 }
walked inner Inner agree message (broken fault) before tree e = absurd cc
walked inner Inner agree message (field place next first others) before tree e =
    let s = bind_ok (step inner message before next first) (λ (t : Tree). walk inner message t others) tree e in
    let rest = walked inner Inner agree message others s.0 tree s.2 in
    record {
      fields = first ∷ rest.fields;
      in_parts = ap (option_map (λ (fields : List WireField). first ∷ fields)) rest.in_parts;
      add = (s.0, adds inner Inner agree (kind message first.number) before next first.number first.content s.0 s.1, rest.add);
      nothing = rest.nothing;
    }

rest_of : (first other : WireField) (o : Option (List WireField)) (others : List WireField) → option_map (λ fields. first ∷ fields) o ≡ Some (other ∷ others) → (first ≡ other) × (o ≡ Some others)
rest_of first other None others e = absurd cc
rest_of first other (Some fields) others e = (cc, cc)

walks : (inner : Reader) (Inner : Message → List ℕ → Tree → Type 0) (agree : Agree inner Inner) (message : Message) (parts : Parts) (fields : List WireField) (before tree : Tree) → fields_in parts ≡ Some fields → Add Inner message before fields tree → lacks message tree ≡ None → walk inner message before parts ≡ Ok tree
unfolding walk
walks inner Inner agree message whole [] before tree e a n =
    let l : lacks message before ≡ None = ap (lacks message) (sym a) ∙ n in rw l (ap (λ (x : Tree). Ok x) (sym a))
walks inner Inner agree message whole (f ∷ fields) before tree e a n = absurd cc
walks inner Inner agree message (broken fault) fields before tree e a n = absurd cc
walks inner Inner agree message (field place next first others) [] before tree e a n =
    let s = some_of (fields_in others) (λ (fields : List WireField). first ∷ fields) [] e in absurd (no_cons first s.0 s.2)
  where
    no_cons : (first : WireField) (fields : List WireField) → first ∷ fields ≡ [] → ⊥
    no_cons first fields e = cc
walks inner Inner agree message (field place next first others) (f ∷ fields) before tree e a n =
    let r = rest_of first f (fields_in others) fields e in
    let one : step inner message before next first ≡ Ok a.0 = ap (step inner message before next) r.0 ∙ added inner Inner agree (kind message f.number) before next f.number f.content a.0 a.1 in
    rw one (walks inner Inner agree message others fields a.0 tree r.1 a.2 n)

-- ---- whole messages

agree_with : (inner : Reader) (Inner : Message → List ℕ → Tree → Type 0) → Agree inner Inner → Agree (λ message place bytes. walk inner message empty (parts_of place bytes)) (IsTreeWith Inner)
agree_with inner Inner agree = record {
  reads = λ message place bytes tree e.
      let w = walked inner Inner agree message (parts_of place bytes) empty tree e in
      record { fields = w.fields; parted = are_fields place bytes w.fields w.in_parts; added = w.add; nothing_lacks = w.nothing };
  is_read = λ message place bytes tree t.
      walks inner Inner agree message (parts_of place bytes) t.fields empty tree (fields_are place bytes t.fields t.parted) t.added t.nothing_lacks;
}

agree_nothing : Agree (λ _ _ _. Ok empty) (λ message bytes tree. tree ≡ empty)
agree_nothing = record {
  reads = λ message place bytes tree e. stays empty tree e;
  is_read = λ message place bytes tree e. as_before empty tree e;
}

pub agrees : (levels : ℕ) → Agree (read levels) (IsTree levels)
unfolding read IsTree
agrees zero = agree_with (λ _ _ _. Ok empty) (λ message bytes tree. tree ≡ empty) agree_nothing
agrees (suc levels) = agree_with (read levels) (IsTree levels) (agrees levels)

-- ---- the law

pub has_meaning : (bytes : List ℕ) → fault_of bytes ≡ None → (update : Update) × IsMessage bytes update
has_meaning bytes e =
    let r = no_fault (read 4 feed_message 0 bytes) e in
    (update_of r.0, record { tree = r.0; is_tree = (agrees 4).reads feed_message 0 bytes r.0 r.1; said = refl })

tree_is_read : (bytes : List ℕ) (update : Update) (m : IsMessage bytes update) → read 4 feed_message 0 bytes ≡ Ok m.tree
tree_is_read bytes update m = (agrees 4).is_read feed_message 0 bytes m.tree m.is_tree

pub same_meaning : (bytes : List ℕ) (a b : Update) → IsMessage bytes a → IsMessage bytes b → a ≡ b
same_meaning bytes a b m n =
    let trees : m.tree ≡ n.tree = ok_is m.tree n.tree (sym (tree_is_read bytes a m) ∙ tree_is_read bytes b n) in
    m.said ∙ ap update_of trees ∙ sym n.said

pub never_both : (bytes : List ℕ) (a : Update) → IsMessage bytes a → fault_of bytes ≡ None
never_both bytes a m = ap (fault_in {X = Tree}) (tree_is_read bytes a m)

pub read_is_message : (bytes : List ℕ) (tree : Tree) → read 4 feed_message 0 bytes ≡ Ok tree → IsMessage bytes (update_of tree)
read_is_message bytes tree e = record { tree = tree; is_tree = (agrees 4).reads feed_message 0 bytes tree e; said = refl }

-- ---- what was read

abbrev given : Update → Result Update RtFault
given update = Ok update

abbrev refused : RtFault → Result Update RtFault
refused fault = Err fault

-- the whole of a list
pub all_bytes : (bytes : List ℕ) → slice_range bytes 0 (length bytes) ≡ bytes
all_bytes bytes = between_from_start bytes (length bytes) ∙ take_all (length bytes) bytes (omega arith)

pub read_message_is : (bytes : List ℕ) (r : Result Update RtFault) → Answers ShowsUpdate r (read 4 feed_message 0 bytes) → IfOk r (IsMessage bytes)
read_message_is bytes (Err e) a = tt
read_message_is bytes (Ok update) a = shown bytes update (read 4 feed_message 0 bytes) refl a
  where
    shown : (bytes : List ℕ) (update : Update) (read_so : Result Tree RtFault) → read 4 feed_message 0 bytes ≡ read_so → Answers ShowsUpdate (Ok update) read_so → IsMessage bytes update
    shown bytes update (Ok tree) e a = subst (λ (u : Update). IsMessage bytes u) (sym a) (read_is_message bytes tree e)
    shown bytes update (Err fault) e a = absurd a

pub fault_is : (bytes : List ℕ) (r : Result Update RtFault) → Answers ShowsUpdate r (read 4 feed_message 0 bytes) → IfErr r (λ fault. (fault ≡ faults.NoMemory) ⊎ (fault_of bytes ≡ Some fault))
fault_is bytes (Ok update) a = tt
fault_is bytes (Err e) a = refused_so e (read 4 feed_message 0 bytes) a
  where
    refused_so : (e : RtFault) (read_so : Result Tree RtFault) → Answers ShowsUpdate (Err e) read_so → (e ≡ faults.NoMemory) ⊎ (fault_in read_so ≡ Some e)
    refused_so e (Ok tree) a = inl a
    refused_so e (Err fault) a = elim a [ inl no_memory ↦ inl no_memory | inr is ↦ inr (ap (λ (f : RtFault). Some f) (sym is)) ]

pub only_message_is : (bytes : List ℕ) (r : Result Update RtFault) (update : Update) → Answers ShowsUpdate r (read 4 feed_message 0 bytes) → IsMessage bytes update → (r ≡ Ok update) ⊎ (r ≡ Err faults.NoMemory)
only_message_is bytes r update a m =
    given_so r (subst (λ (x : Result Tree RtFault). Answers ShowsUpdate r x) (tree_is_read bytes update m) a)
  where
    given_so : (r : Result Update RtFault) → Answers ShowsUpdate r (Ok m.tree) → (r ≡ Ok update) ⊎ (r ≡ Err faults.NoMemory)
    given_so (Ok u) a = inl (ap (λ (x : Update). given x) (a ∙ sym m.said))
    given_so (Err e) a = inr (ap (λ (x : RtFault). refused x) a)
