-- How records that are read are stored in one list of fields.
use Rattle.std.proofs.Common.{Bor, ◌≡◌, ◌∙◌, ℕ, zero, suc, ◌+◌, ◌-◌, ◌<◌, ◌≤◌, List, [], ◌∷◌, ◌++◌, true, false, Option, Some, None, length, map, take, drop, get_or, refl, sym, ap, subst, arith}
use Rattle.std.specs.Prelude.{unwrap_or}
use Rattle.std.proofs.lemmas.List.{drop-append-le, drop_at, get_or-drop, get_or-take, length-take-le, length-append, length-drop, map-append, take-append-le, take_all}
use Rattle.csv.proofs.ReadFacts.{reached-more, rows-end}
use Rattle.csv.proofs.RecordFacts.{field-bounds, last-append, rising-end, rising-first, rising-more}
use Rattle.csv.specs.Machine.{Read, ends_at_end, next_record}
use Rattle.csv.specs.Reading.{NextIs, Reached, ReadRecord, ReadsNext, default_config, pending_of, reader_state, source_of, strip_bom}
use Rattle.csv.specs.Records.{Rising, Row, fields_of, last_end, partial_of, prev}
use Rattle.csv.specs.declared.parser.State.{State}
use Rattle.csv.specs.declared.parser.State.TheVariants as st
use Rattle.csv.specs.declared.reader.Reader.{Reader}
use Rattle.gtfs_rows.specs.Reading.{IsPlain}
use Rattle.gtfs_rows.specs.Sheet.{AreTrimmedRecordsOf}
use Rattle.gtfs_rows.specs.Spaces.{without_spaces}
use Rattle.gtfs_rows.specs.Store.{cut_records}
use Rattle.gtfs_rows.proofs.ReadLemmas.{next_idle, rest_shorter}

-- the bytes that a reader has left
abbrev pub left_of : Reader (Bor (List ℕ)) → Option (List ℕ)
left_of reader = source_of (λ (s : Bor (List ℕ)). Some s.now) reader

-- how many bytes a reader has left
abbrev pub unread : Reader (Bor (List ℕ)) → ℕ
unread reader = length (unwrap_or (left_of reader) [])

-- the records that end at these places are all that the fields hold
pub record IsStore (ends : List ℕ) (fields : List (List ℕ)) (records : List (List (List ℕ))) : Type 0 where
  pub rising : Rising 0 ends (length fields)
  pub whole : last_end 0 ends ≡ length fields
  pub cut : cut_records 0 ends fields ≡ records

-- the reader is after the records that the store holds
pub record IsReading (bytes : List ℕ) (reader : Reader (Bor (List ℕ))) (ends : List ℕ) (fields : Row) : Type 0 where
  pub plain : IsPlain reader
  pub idle : ends_at_end (reader_state reader) ≡ false
  pub left : List ℕ
  pub source : left_of reader ≡ Some left
  pub read : List (List (List ℕ))
  pub reached : Reached default_config st.StartRecord (strip_bom bytes) read (reader_state reader) left
  pub store : IsStore ends (fields_of fields) (map (map without_spaces) read)
  pub closed : partial_of fields ≡ []

one_read : (o : Option Read) (f : List (List ℕ)) (s : State) (z : List ℕ) → NextIs o true f s z
    → (p : Read) × (o ≡ Some p) × (f ≡ p.0) × (s ≡ p.1) × (z ≡ p.2)
one_read None f s z n = cc n
one_read (Some p) f s z n = (p, refl, n.1, n.2, n.3)

one_from : (s : State) (y : List ℕ) (after : Option (List ℕ)) (f : List (List ℕ)) (s2 : State) → ReadsNext default_config s (Some y) after true f s2
    → (p : Read) × (next_record default_config s [] [] y ≡ Some p) × (f ≡ p.0) × (s2 ≡ p.1) × (after ≡ Some p.2)
one_from s y None f s2 r = absurd r
one_from s y (Some z) f s2 r =
    let (p, next, fields, state, rest) = one_read (next_record default_config s [] [] y) f s2 z r in
    (p, next, fields, state, ap Some rest)

-- a record that was read is the next one of what the reader had left
pub read_next_is : (a b : Reader (Bor (List ℕ))) (f : List (List ℕ)) (y : List ℕ) → IsPlain a → left_of a ≡ Some y → ReadRecord (λ (s : Bor (List ℕ)). Some s.now) a b true f
    → (p : Read) × (next_record default_config (reader_state a) [] [] y ≡ Some p) × (f ≡ p.0) × (reader_state b ≡ p.1) × (left_of b ≡ Some p.2)
read_next_is a b f y plain source r =
    let reads = rw (plain.default, source) at r.0 in
    let (p, next, fields, state, rest) = one_from (reader_state a) y (pending_of (Some b.rdr.now) b) f b.state reads in
    (p, next, fields, state, rw r.1 rest)

-- one more record after the others
cut-push : (start : ℕ) (ends : List ℕ) (fields row : List (List ℕ)) (n : ℕ) → Rising start ends (length fields) → last_end start ends ≡ length fields
    → n ≡ length fields + length row
    → cut_records start (ends ++ (n ∷ [])) (fields ++ row) ≡ cut_records start ends fields ++ (row ∷ [])
unfolding cut_records Rising last_end
cut-push start [] fields row n rising whole size =
    let long : length row ≤ n - start = omega arith in
    rw (drop_at fields row start (sym whole), take_all (n - start) row long) refl
cut-push start (end ∷ ends) fields row n rising whole size =
    let low : end ≤ length fields = rising-first end ends (length fields) rising.1 in
    let first : start ≤ length fields = omega arith in
    let rest = length-drop start fields in
    let within : end - start ≤ length (drop start fields) = omega arith in
    rw (drop-append-le start fields row first, take-append-le (end - start) (drop start fields) row within, cut-push end ends fields row n rising.1 whole size) refl

pub store_push : (ends : List ℕ) (fields row : List (List ℕ)) (records : List (List (List ℕ))) (n : ℕ) → IsStore ends fields records → n ≡ length (fields ++ row)
    → IsStore (ends ++ (n ∷ [])) (fields ++ row) (records ++ (row ∷ []))
store_push ends fields row records n store size =
    let long = length-append fields row in
    let sum : n ≡ length fields + length row = size ∙ long in
    let more : length fields ≤ length (fields ++ row) = omega arith in
    record {
      rising = rw size (rising-end 0 ends (length (fields ++ row)) (rising-more 0 ends (length fields) (length (fields ++ row)) store.rising more));
      whole = last-append 0 ends n ∙ size;
      cut = cut-push 0 ends fields row n store.rising store.whole sum ∙ ap (λ (r : List (List (List ℕ))). r ++ (row ∷ [])) store.cut;
    }

pub store_none : IsStore [] [] []
unfolding cut_records Rising last_end
store_none = record { rising = omega arith; whole = refl; cut = refl }

-- one more record read and stored
pub reading_more : (bytes : List ℕ) (a b : Reader (Bor (List ℕ))) (ends ends2 : List ℕ) (fields fields2 : Row) (f : List (List ℕ)) (n : ℕ)
    → IsReading bytes a ends fields → ReadRecord (λ (s : Bor (List ℕ)). Some s.now) a b true f → IsPlain b
    → fields_of fields2 ≡ fields_of fields ++ map without_spaces f → partial_of fields2 ≡ [] → n ≡ length (fields_of fields2) → ends2 ≡ ends ++ (n ∷ [])
    → IsReading bytes b ends2 fields2
reading_more bytes a b ends ends2 fields fields2 f n was read plain more closed size ended =
    let (p, next, is, state, left) = read_next_is a b f was.left was.plain was.source read in
    let rows : map (map without_spaces) (was.read ++ (p.0 ∷ [])) ≡ map (map without_spaces) was.read ++ (map without_spaces f ∷ []) =
    map-append (map without_spaces) was.read (p.0 ∷ []) ∙ ap (λ (r : List (List ℕ)). map (map without_spaces) was.read ++ (map without_spaces r ∷ [])) (sym is) in
    let Ends : State → Type 0 = λ x. Reached default_config st.StartRecord (strip_bom bytes) (was.read ++ (p.0 ∷ [])) x p.2 in
    record {
      plain = plain;
      idle = ap ends_at_end state ∙ next_idle (reader_state a) [] [] was.left p next;
      left = p.2;
      source = left;
      read = was.read ++ (p.0 ∷ []);
      reached = subst Ends (sym state) (reached-more default_config st.StartRecord (reader_state a) (strip_bom bytes) was.left was.read p was.reached next);
      store = rw (ended, more, rows) (store_push ends (fields_of fields) (map without_spaces f) (map (map without_spaces) was.read) n was.store (rw (← more) size));
      closed = closed;
    }

pub reading_shorter : (bytes : List ℕ) (a b : Reader (Bor (List ℕ))) (ends : List ℕ) (fields : Row) (f : List (List ℕ))
    → IsReading bytes a ends fields → ReadRecord (λ (s : Bor (List ℕ)). Some s.now) a b true f → unread b < unread a
reading_shorter bytes a b ends fields f was read =
    let (p, next, is, state, left) = read_next_is a b f was.left was.plain was.source read in
    rw (left, was.source) (rest_shorter (reader_state a) was.left p was.idle next)

-- no further record: the store holds them all
pub reading_done : (bytes : List ℕ) (a b : Reader (Bor (List ℕ))) (ends : List ℕ) (fields : Row) (f : List (List ℕ))
    → IsReading bytes a ends fields → ReadRecord (λ (s : Bor (List ℕ)). Some s.now) a b false f
    → AreTrimmedRecordsOf bytes (cut_records 0 ends (fields_of fields))
reading_done bytes a b ends fields f was read =
    (was.read, (reader_state a, was.left, was.reached, rows-end (λ (s : Bor (List ℕ)). Some s.now) a b f default_config was.left was.plain.default was.source read), was.store.cut)

pub reading_start : (bytes : List ℕ) (a : Reader (Bor (List ℕ))) (fields : Row) → IsPlain a → reader_state a ≡ st.StartRecord → left_of a ≡ Some (strip_bom bytes)
    → fields_of fields ≡ [] → partial_of fields ≡ [] → IsReading bytes a [] fields
unfolding Reached
reading_start bytes a fields plain start source empty closed = record {
  plain = plain;
  idle = ap ends_at_end start;
  left = strip_bom bytes;
  source = source;
  read = [];
  reached = (sym start, refl);
  store = rw empty store_none;
  closed = closed;
}

pub length-cut_records : (start : ℕ) (ends : List ℕ) (fields : List (List ℕ)) → length (cut_records start ends fields) ≡ length ends
unfolding cut_records
length-cut_records start [] fields = refl
length-cut_records start (end ∷ ends) fields = ap suc (length-cut_records end ends fields)

-- the record at a place is the fields between its start and its end
get_or-cut_records : (start : ℕ) (ends : List ℕ) (fields : List (List ℕ)) (i : ℕ) → i < length ends
    → get_or (cut_records start ends fields) i [] ≡ take (get_or ends i 0 - prev start ends i) (drop (prev start ends i) fields)
unfolding cut_records prev
get_or-cut_records start [] fields i h = absurd (omega arith)
get_or-cut_records start (end ∷ ends) fields zero h = refl
get_or-cut_records start (end ∷ ends) fields (suc i) h = get_or-cut_records end ends fields i (omega arith)

pub length-record : (ends : List ℕ) (fields : List (List ℕ)) (i : ℕ) → Rising 0 ends (length fields) → i < length ends
    → length (get_or (cut_records 0 ends fields) i []) ≡ get_or ends i 0 - prev 0 ends i
length-record ends fields i rising h =
    let bounds = field-bounds 0 ends (length fields) i rising h in
    let rest = length-drop (prev 0 ends i) fields in
    let within : get_or ends i 0 - prev 0 ends i ≤ length (drop (prev 0 ends i) fields) = omega arith in
    rw (get_or-cut_records 0 ends fields i h) (length-take-le (get_or ends i 0 - prev 0 ends i) (drop (prev 0 ends i) fields) within)

pub get_or-record : (ends : List ℕ) (fields : List (List ℕ)) (i j : ℕ) → Rising 0 ends (length fields) → i < length ends
    → j < length (get_or (cut_records 0 ends fields) i [])
    → get_or (get_or (cut_records 0 ends fields) i []) j [] ≡ get_or fields (prev 0 ends i + j) []
get_or-record ends fields i j rising h k =
    let size = length-record ends fields i rising h in
    let within : j < get_or ends i 0 - prev 0 ends i = omega arith in
    rw (get_or-cut_records 0 ends fields i h, get_or-take (get_or ends i 0 - prev 0 ends i) (drop (prev 0 ends i) fields) j [] within) (get_or-drop (prev 0 ends i) fields j [])

-- a field of a record is among the fields
pub field_within : (ends : List ℕ) (fields : List (List ℕ)) (i j : ℕ) → Rising 0 ends (length fields) → i < length ends
    → j < length (get_or (cut_records 0 ends fields) i [])
    → (prev 0 ends i + j < length fields) × (prev 0 ends i + j < get_or ends i 0)
field_within ends fields i j rising h k =
    let size = length-record ends fields i rising h in
    let bounds = field-bounds 0 ends (length fields) i rising h in
    (omega arith, omega arith)

pub record_there : (ends : List ℕ) (fields : List (List ℕ)) (records : List (List (List ℕ))) (i : ℕ) → cut_records 0 ends fields ≡ records → i < length records → i < length ends
record_there ends fields records i cut h =
    let size = length-cut_records 0 ends fields in
    let same = ap length cut in
    omega arith
