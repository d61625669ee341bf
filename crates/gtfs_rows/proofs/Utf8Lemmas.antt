-- The fields of a text of UTF-8 are UTF-8: the bytes that part them are whole characters.
use Rattle.std.proofs.Common.{◌≡◌, ◌≢◌, ◌∙◌, ℕ, zero, suc, ◌<◌, ◌≤◌, ◌⊎◌, Bool, true, false, List, [], ◌∷◌, ◌++◌, Some, None, cond, ap, arith, get_or, inl, inr, length, map, refl, reverse, sym, subst, append_assoc}
use Rattle.std.specs.Prelude.{◌==◌, ◌&&◌}
use Rattle.std.specs.Str.{IsUtf8}
use Rattle.std.proofs.lemmas.Bool.{cases_lt, eqb-true, ne_eqb}
use Rattle.std.proofs.lemmas.List.{append-nil, get_or_push, length_push, reverse-append, reverse-reverse, take_at}
use Rattle.std.proofs.lemmas.Str.{IsCharBoundary-before_ascii, IsUtf8-append, IsUtf8-encode, IsUtf8-from_ascii, IsUtf8-nil, IsUtf8-past_char, IsUtf8-take, encode_ascii, inside_one}
use lib.Utf8.{encode, encodes, scalar, scalars}
use Rattle.csv.proofs.RecordFacts.{text-more}
use Rattle.csv.specs.Machine.{Read, ends_at_end, field_after, fields_after, is_end, next_record, step}
use Rattle.csv.specs.Reading.{Reached, default_config, strip_bom}
use Rattle.csv.specs.Records.{AllText}
use Rattle.csv.specs.declared.parser.Action.{Action}
use Rattle.csv.specs.declared.parser.Action.TheVariants as act
use Rattle.csv.specs.declared.parser.State.{State}
use Rattle.csv.specs.declared.parser.State.TheVariants as st
use Rattle.gtfs_rows.specs.Sheet.{AreTrimmedRecordsOf}
use Rattle.gtfs_rows.specs.Store.{AreTexts}
use Rattle.gtfs_rows.specs.Spaces.{space, without_first_spaces, without_spaces}

-- each of the bytes is part of a longer character
abbrev AllHigh : List ℕ → Type 0
AllHigh bytes = (k : ℕ) → k < length bytes → 128 ≤ get_or bytes k 0

high_encode : (c : ℕ) → 128 ≤ c → AllHigh (encode c)
high_encode c h k inside = elim (cases_lt (get_or (encode c) k 0) 128) [
  | inl low ↦
      let same : c ≡ get_or (encode c) k 0 = inside_one c [] (encode c) k (sym (append-nil (encode c))) inside low in
      absurd (omega arith)
  | inr high ↦ high
]

no_byte : (b n : ℕ) → n < b → (b == n) ≡ false
no_byte b n h = ne_eqb b n (λ e. omega arith)

-- such a byte joins the field at hand, but in a comment
joins : (s : State) (b : ℕ) → s ≢ st.InComment → 128 ≤ b → (s2 : State) × (step default_config s b ≡ (s2, act.Copy)) × (s2 ≢ st.InComment)
joins st.StartRecord b n h =
    (st.InField, rw (no_byte b 13 (omega arith), no_byte b 10 (omega arith), no_byte b 34 (omega arith), no_byte b 44 (omega arith)) refl, λ e. cc e)
joins st.StartField b n h =
    (st.InField, rw (no_byte b 13 (omega arith), no_byte b 10 (omega arith), no_byte b 34 (omega arith), no_byte b 44 (omega arith)) refl, λ e. cc e)
joins st.InField b n h = (st.InField, rw (no_byte b 13 (omega arith), no_byte b 10 (omega arith), no_byte b 44 (omega arith)) refl, λ e. cc e)
joins st.InQuoted b n h = (st.InQuoted, rw (no_byte b 34 (omega arith)) refl, λ e. cc e)
joins st.AfterQuote b n h =
    (st.InField, rw (no_byte b 13 (omega arith), no_byte b 10 (omega arith), no_byte b 34 (omega arith), no_byte b 44 (omega arith)) refl, λ e. cc e)
joins st.InEscape b n h = (st.InQuoted, refl, λ e. cc e)
joins st.InComment b n h = absurd (n refl)
joins st.AfterCr b n h =
    (st.InField, rw (no_byte b 13 (omega arith), no_byte b 10 (omega arith), no_byte b 34 (omega arith), no_byte b 44 (omega arith)) refl, λ e. cc e)

high_run : (x : List ℕ) (s : State) (fields : List (List ℕ)) (field tail : List ℕ) → s ≢ st.InComment → AllHigh x
    → (s2 : State) × (next_record default_config s fields field (x ++ tail) ≡ next_record default_config s2 fields (field ++ x) tail)
unfolding next_record
high_run [] s fields field tail n h = (s, rw (append-nil field) refl)
high_run (b ∷ x) s fields field tail n h =
    let (s1, e, open_after) = joins s b n (h 0 (omega arith)) in
    let (s2, more) = high_run x s1 fields (field ++ (b ∷ [])) tail open_after (λ k inside. h (suc k) (omega arith)) in
    (s2, rw e (more ∙ ap (λ (f : List ℕ). next_record default_config s2 fields f tail) (append_assoc field (b ∷ []) x)))

comment_run : (x : List ℕ) (fields : List (List ℕ)) (field tail : List ℕ) → AllHigh x
    → next_record default_config st.InComment fields field (x ++ tail) ≡ next_record default_config st.InComment fields field tail
unfolding next_record
comment_run [] fields field tail h = refl
comment_run (b ∷ x) fields field tail h =
    let high : 128 ≤ b = h 0 (omega arith) in
    rw (no_byte b 10 (omega arith)) (comment_run x fields field tail (λ k inside. h (suc k) (omega arith)))

in_comment : (s : State) → (s ≡ st.InComment) ⊎ (s ≢ st.InComment)
in_comment st.StartRecord = inr (λ e. cc e)
in_comment st.StartField = inr (λ e. cc e)
in_comment st.InField = inr (λ e. cc e)
in_comment st.InQuoted = inr (λ e. cc e)
in_comment st.AfterQuote = inr (λ e. cc e)
in_comment st.InEscape = inr (λ e. cc e)
in_comment st.InComment = inl refl
in_comment st.AfterCr = inr (λ e. cc e)

one_ascii : (c : ℕ) → c < 128 → (i : ℕ) → get_or (c ∷ []) i 0 < 128
one_ascii c h zero = h
one_ascii c h (suc i) = omega arith

fields_texts : (a : Action) (fields : List (List ℕ)) (field : List ℕ) → AllText fields → IsUtf8 field → AllText (fields_after a fields field)
fields_texts act.Skip fields field texts text = texts
fields_texts act.Copy fields field texts text = texts
fields_texts act.EndField fields field texts text = text-more fields field texts text
fields_texts act.EndRecord fields field texts text = text-more fields field texts text

field_text : (a : Action) (c : ℕ) (field : List ℕ) → c < 128 → IsUtf8 field → IsUtf8 (field_after a c field)
field_text act.Skip c field low text = text
field_text act.Copy c field low text = IsUtf8-append field (c ∷ []) text (IsUtf8-from_ascii (c ∷ []) (one_ascii c low))
field_text act.EndField c field low text = IsUtf8-nil
field_text act.EndRecord c field low text = IsUtf8-nil

-- the fields of a record are text, and so is what it leaves
abbrev IsTextRead : Read → Type 0
IsTextRead p = AllText p.0 × IsUtf8 p.2

low_step : (s : State) (fields : List (List ℕ)) (field : List ℕ) (c : ℕ) (tail : List ℕ) (p : Read) → c < 128 → AllText fields → IsUtf8 field → IsUtf8 tail
    → next_record default_config s fields field (c ∷ tail) ≡ Some p
    → ((s2 : State) (fields2 : List (List ℕ)) (field2 : List ℕ) → AllText fields2 → IsUtf8 field2 → next_record default_config s2 fields2 field2 tail ≡ Some p → IsTextRead p)
    → IsTextRead p
unfolding next_record
low_step s fields field c tail p low texts text rest h later = by (is_end (step default_config s c).1) refl
  where
    by : (b : Bool) → is_end (step default_config s c).1 ≡ b → IsTextRead p
    by true e =
        let one : Some (fields_after (step default_config s c).1 fields field, (step default_config s c).0, tail) ≡ Some p = rw e at h in
        let same : (fields_after (step default_config s c).1 fields field, (step default_config s c).0, tail) ≡ p = cc in
        subst IsTextRead same (fields_texts (step default_config s c).1 fields field texts text, rest)
    by false e =
        later (step default_config s c).0 (fields_after (step default_config s c).1 fields field) (field_after (step default_config s c).1 c field)
        (fields_texts (step default_config s c).1 fields field texts text)
        (field_text (step default_config s c).1 c field low text)
        (rw e at h)

both : (a b : Bool) → (a && b) ≡ true → (a ≡ true) × (b ≡ true)
both true b h = (refl, h)
both false b h = cc h

texts_next : (cs : List ℕ) (s : State) (fields : List (List ℕ)) (field : List ℕ) (p : Read) → scalars cs ≡ true → AllText fields → IsUtf8 field
    → next_record default_config s fields field (encodes cs) ≡ Some p → IsTextRead p
unfolding next_record
texts_next [] s fields field p ok texts text h = at_end (ends_at_end s) refl
  where
    at_end : (b : Bool) → ends_at_end s ≡ b → IsTextRead p
    at_end true e =
        let one : Some (fields ++ (field ∷ []), st.StartRecord, []) ≡ Some p = rw e at h in
        let same : (fields ++ (field ∷ []), st.StartRecord, []) ≡ p = cc in
        subst IsTextRead same (text-more fields field texts text, IsUtf8-nil)
    at_end false e = let no : None ≡ Some p = rw e at h in cc
texts_next (c ∷ cs) s fields field p ok texts text h =
    let (good, others) = both (scalar c) (scalars cs) ok in
    elim (cases_lt c 128) [
      | inl low ↦
          let at : next_record default_config s fields field (c ∷ encodes cs) ≡ Some p =
          ap (λ (x : List ℕ). next_record default_config s fields field (x ++ encodes cs)) (sym (encode_ascii c low)) ∙ h in
          low_step s fields field c (encodes cs) p low texts text (cs, (others, refl)) at
          (λ s2 fields2 field2 texts2 text2 more. texts_next cs s2 fields2 field2 p others texts2 text2 more)
      | inr high ↦ elim (in_comment s) [
        | inl same ↦
            let run = comment_run (encode c) fields field (encodes cs) (high_encode c high) in
            texts_next cs st.InComment fields field p others texts text (sym run ∙ rw same at h)
        | inr open_state ↦
            let (s2, run) = high_run (encode c) s fields field (encodes cs) open_state (high_encode c high) in
            texts_next cs s2 fields (field ++ encode c) p others texts (IsUtf8-append field (encode c) text (IsUtf8-encode c good)) (sym run ∙ h)
      ]
    ]

-- each field of each record is text
abbrev AllTexts : List (List (List ℕ)) → Type 0
AllTexts [] = Unit {0}
AllTexts (r ∷ rs) = AllText r × AllTexts rs

texts_next_of : (s : State) (text : List ℕ) (p : Read) → IsUtf8 text → next_record default_config s [] [] text ≡ Some p → IsTextRead p
unfolding AllText
texts_next_of s text p (cs, (ok, is)) h = texts_next cs s [] [] p ok tt IsUtf8-nil (rw is h)

texts_reached : (rows : List (List (List ℕ))) (s : State) (text : List ℕ) (s2 : State) (rest : List ℕ) → IsUtf8 text → Reached default_config s text rows s2 rest → AllTexts rows
unfolding Reached
texts_reached [] s text s2 rest is h = tt
texts_reached (r ∷ rs) s text s2 rest is (p, next, row, more) =
    let read : IsTextRead p = texts_next_of s text p is next in
    (subst AllText (sym row) read.0, texts_reached rs p.1 p.2 s2 rest read.1 more)

all_three : (a b c : Bool) → (a && b && c) ≡ true → (a ≡ true) × (b ≡ true) × (c ≡ true)
all_three true true c h = (refl, refl, h)
all_three true false c h = cc h
all_three false b c h = cc h

-- a text without its byte-order mark is text
text_stripped : (text : List ℕ) → IsUtf8 text → IsUtf8 (strip_bom text)
unfolding strip_bom encode
text_stripped [] is = is
text_stripped (a ∷ []) is = is
text_stripped (a ∷ b ∷ []) is = is
text_stripped (a ∷ b ∷ c ∷ rest) is = by ((a == 0xEF) && (b == 0xBB) && (c == 0xBF)) refl
  where
    by : (mark : Bool) → ((a == 0xEF) && (b == 0xBB) && (c == 0xBF)) ≡ mark → IsUtf8 (cond mark rest (a ∷ b ∷ c ∷ rest))
    by true e =
        let (first, second, third) = all_three (a == 0xEF) (b == 0xBB) (c == 0xBF) e in
        let marked : a ∷ b ∷ c ∷ rest ≡ encode 65279 ++ rest = rw (eqb-true a 239 first, eqb-true b 187 second, eqb-true c 191 third) refl in
        IsUtf8-past_char (a ∷ b ∷ c ∷ rest) rest 65279 is marked
    by false e = is

-- a text without the spaces at its ends is text
text_past_first : (text : List ℕ) → IsUtf8 text → IsUtf8 (without_first_spaces text)
unfolding without_first_spaces encode
text_past_first [] is = is
text_past_first (b ∷ rest) is = by (b == space) refl (text_past_first rest)
  where
    by : (is_space : Bool) → (b == space) ≡ is_space → (IsUtf8 rest → IsUtf8 (without_first_spaces rest))
        → IsUtf8 (cond is_space (without_first_spaces rest) (b ∷ rest))
    by true e later =
        let space_first : b ∷ rest ≡ encode 32 ++ rest = rw (eqb-true b 32 e) refl in
        later (IsUtf8-past_char (b ∷ rest) rest 32 is space_first)
    by false e later = is

text_before_last : (back : List ℕ) → IsUtf8 (reverse back) → IsUtf8 (reverse (without_first_spaces back))
unfolding without_first_spaces
text_before_last [] is = is
text_before_last (b ∷ rest) is = by (b == space) refl (text_before_last rest)
  where
    by : (is_space : Bool) → (b == space) ≡ is_space → (IsUtf8 (reverse rest) → IsUtf8 (reverse (without_first_spaces rest)))
        → IsUtf8 (reverse (cond is_space (without_first_spaces rest) (b ∷ rest)))
    by true e later =
        let Text : List ℕ → Type 0 = λ x. IsUtf8 x in
        let whole : IsUtf8 (reverse rest ++ (b ∷ [])) = subst Text (reverse-append (b ∷ []) rest) is in
        let size = length_push (reverse rest) b in
        let last : get_or (reverse rest ++ (b ∷ [])) (length (reverse rest)) 0 ≡ b = get_or_push (reverse rest) b 0 (length (reverse rest)) refl in
        let is_b : b ≡ 32 = eqb-true b 32 e in
        let boundary = IsCharBoundary-before_ascii (reverse rest ++ (b ∷ [])) (length (reverse rest)) (omega arith) (omega arith) in
        let front = IsUtf8-take (reverse rest ++ (b ∷ [])) (length (reverse rest)) whole boundary in
        later (subst Text (take_at (reverse rest) (b ∷ []) (length (reverse rest)) refl) front)
    by false e later = is

pub text_trimmed : (text : List ℕ) → IsUtf8 text → IsUtf8 (without_spaces text)
text_trimmed text is =
    text_before_last (reverse (without_first_spaces text)) (rw (reverse-reverse (without_first_spaces text)) (text_past_first text is))

fields_trimmed : (fields : List (List ℕ)) → AllText fields → AllText (map without_spaces fields)
unfolding AllText
fields_trimmed [] texts = tt
fields_trimmed (f ∷ fs) texts = (text_trimmed f texts.0, fields_trimmed fs texts.1)

rows_trimmed : (rows : List (List (List ℕ))) → AllTexts rows → AllTexts (map (map without_spaces) rows)
rows_trimmed [] texts = tt
rows_trimmed (r ∷ rs) texts = (fields_trimmed r texts.0, rows_trimmed rs texts.1)

text_at : (fields : List (List ℕ)) (i : ℕ) → AllText fields → IsUtf8 (get_or fields i [])
unfolding AllText
text_at [] i texts = IsUtf8-nil
text_at (f ∷ fs) zero texts = texts.0
text_at (f ∷ fs) (suc i) texts = text_at fs i texts.1

texts_at : (rows : List (List (List ℕ))) (place column : ℕ) → AllTexts rows → IsUtf8 (get_or (get_or rows place []) column [])
texts_at [] place column texts = IsUtf8-nil
texts_at (r ∷ rs) zero column texts = text_at r column texts.0
texts_at (r ∷ rs) (suc place) column texts = texts_at rs place column texts.1

-- each field of the records of a text is text, also without the spaces at its ends
pub texts_of : (bytes : List ℕ) (records : List (List (List ℕ))) → IsUtf8 bytes → AreTrimmedRecordsOf bytes records → AreTexts records
texts_of bytes records utf8 (read, (s2, rest, reached, done), same) place column =
    let texts : AllTexts records = rw same (rows_trimmed read (texts_reached read st.StartRecord (strip_bom bytes) s2 rest (text_stripped bytes utf8) reached)) in
    texts_at records place column texts
