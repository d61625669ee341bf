-- Each record read leaves less of a text.
use Rattle.std.proofs.Common.{◌≡◌, ◌∙◌, ℕ, suc, ◌-◌, ◌<◌, ◌≤◌, List, [], ◌∷◌, ◌++◌, Bool, true, false, Some, None, cond, length, refl, sym, ap, arith}
use Rattle.std.specs.Prelude.{◌==◌, ◌&&◌, ◌||◌}
use Rattle.csv.specs.Machine.{Read, ends_at_end, field_after, fields_after, in_field, is_end, is_byte, next_record, start_field, start_record, step}
use Rattle.csv.specs.Reading.{default_config}
use Rattle.csv.specs.declared.parser.Action.{Action}
use Rattle.csv.specs.declared.parser.Action.TheVariants as act
use Rattle.csv.specs.declared.parser.State.{State}
use Rattle.csv.specs.declared.parser.State.TheVariants as st

-- where a byte ends a record, no record is begun after it
abbrev IsIdle : State × Action → Type 0
IsIdle next = is_end next.1 ≡ true → ends_at_end next.0 ≡ false

either_idle : (b : Bool) (x y : State × Action) → IsIdle x → IsIdle y → IsIdle (cond b x y)
either_idle true x y h k = h
either_idle false x y h k = k

in_idle : (parts ends returns : Bool) → IsIdle (cond parts (st.StartField, act.EndField) (cond ends (cond returns st.AfterCr st.StartRecord, act.EndRecord) (st.InField, act.Copy)))
in_idle true ends returns h = cc
in_idle false true true h = refl
in_idle false true false h = refl
in_idle false false returns h = cc

field_idle : (c : ℕ) → IsIdle (in_field default_config c)
field_idle c = in_idle (c == 44) ((c == 13) || (c == 10)) (c == 13)

start_field_idle : (c : ℕ) → IsIdle (start_field default_config c)
start_field_idle c = either_idle (true && (c == 34)) (st.InQuoted, act.Skip) (in_field default_config c) (λ h. cc) (field_idle c)

start_idle : (c : ℕ) → IsIdle (start_record default_config c)
start_idle c =
    either_idle ((c == 13) || (c == 10)) (st.StartRecord, act.Skip)
    (cond (is_byte None c) (st.InComment, act.Skip) (start_field default_config c))
    (λ h. cc)
    (start_field_idle c)

quoted_idle : (ends : Bool) → IsIdle (cond ends (st.AfterQuote, act.Skip) (st.InQuoted, act.Copy))
quoted_idle true h = cc
quoted_idle false h = cc

comment_idle : (ends : Bool) → IsIdle (cond ends (st.StartRecord, act.Skip) (st.InComment, act.Skip))
comment_idle true h = cc
comment_idle false h = cc

step_idle : (s : State) (c : ℕ) → IsIdle (step default_config s c)
step_idle st.StartRecord c = start_idle c
step_idle st.StartField c = start_field_idle c
step_idle st.InField c = field_idle c
step_idle st.InQuoted c = quoted_idle (true && (c == 34))
step_idle st.InEscape c = λ h. cc
step_idle st.AfterQuote c = either_idle (true && true && (c == 34)) (st.InQuoted, act.Copy) (in_field default_config c) (λ h. cc) (field_idle c)
step_idle st.InComment c = comment_idle (c == 10)
step_idle st.AfterCr c = either_idle (c == 10) (st.StartRecord, act.Skip) (start_record default_config c) (λ h. cc) (start_idle c)

-- after a record no record is begun
pub next_idle : (s : State) (fields : List (List ℕ)) (field text : List ℕ) (p : Read)
    → next_record default_config s fields field text ≡ Some p → ends_at_end p.1 ≡ false
unfolding next_record
next_idle s fields field [] p h = at_end (ends_at_end s) refl
  where
    at_end : (b : Bool) → ends_at_end s ≡ b → ends_at_end p.1 ≡ false
    at_end true e =
        let one : Some (fields ++ (field ∷ []), st.StartRecord, []) ≡ Some p = rw e at h in
        let same : (fields ++ (field ∷ []), st.StartRecord, []) ≡ p = cc in
        ap (λ (x : Read). ends_at_end x.1) (sym same)
    at_end false e = let no : None ≡ Some p = rw e at h in cc
next_idle s fields field (c ∷ text) p h =
    by (is_end (step default_config s c).1) refl
    (λ more. next_idle (step default_config s c).0 (fields_after (step default_config s c).1 fields field) (field_after (step default_config s c).1 c field) text p more)
  where
    by : (b : Bool) → is_end (step default_config s c).1 ≡ b
        → (next_record default_config (step default_config s c).0 (fields_after (step default_config s c).1 fields field) (field_after (step default_config s c).1 c field) text ≡ Some p → ends_at_end p.1 ≡ false)
        → ends_at_end p.1 ≡ false
    by true e later =
        let one : Some (fields_after (step default_config s c).1 fields field, (step default_config s c).0, text) ≡ Some p = rw e at h in
        let same : (fields_after (step default_config s c).1 fields field, (step default_config s c).0, text) ≡ p = cc in
        ap (λ (x : Read). ends_at_end x.1) (sym same) ∙ step_idle s c e
    by false e later = later (rw e at h)

-- what a record leaves of a text is no longer than the text
rest_within : (s : State) (fields : List (List ℕ)) (field text : List ℕ) (p : Read)
    → next_record default_config s fields field text ≡ Some p → length p.2 ≤ length text - 1
unfolding next_record
rest_within s fields field [] p h = at_end (ends_at_end s) refl
  where
    at_end : (b : Bool) → ends_at_end s ≡ b → length p.2 ≤ 0
    at_end true e =
        let one : Some (fields ++ (field ∷ []), st.StartRecord, []) ≡ Some p = rw e at h in
        let same : (fields ++ (field ∷ []), st.StartRecord, []) ≡ p = cc in
        let rest : [] ≡ p.2 = ap (λ (x : Read). x.2) same in
        let size : 0 ≡ length p.2 = ap length rest in
        omega arith
    at_end false e = let no : None ≡ Some p = rw e at h in cc
rest_within s fields field (c ∷ text) p h =
    by (is_end (step default_config s c).1) refl
    (λ more. rest_within (step default_config s c).0 (fields_after (step default_config s c).1 fields field) (field_after (step default_config s c).1 c field) text p more)
  where
    by : (b : Bool) → is_end (step default_config s c).1 ≡ b
        → (next_record default_config (step default_config s c).0 (fields_after (step default_config s c).1 fields field) (field_after (step default_config s c).1 c field) text ≡ Some p → length p.2 ≤ length text - 1)
        → length p.2 ≤ suc (length text) - 1
    by true e later =
        let one : Some (fields_after (step default_config s c).1 fields field, (step default_config s c).0, text) ≡ Some p = rw e at h in
        let same : (fields_after (step default_config s c).1 fields field, (step default_config s c).0, text) ≡ p = cc in
        let rest : text ≡ p.2 = ap (λ (x : Read). x.2) same in
        let size : length text ≡ length p.2 = ap length rest in
        omega arith
    by false e later = let within : length p.2 ≤ length text - 1 = later (rw e at h) in omega arith

-- where no record is begun, a record takes at least a byte
pub rest_shorter : (s : State) (text : List ℕ) (p : Read) → ends_at_end s ≡ false
    → next_record default_config s [] [] text ≡ Some p → length p.2 < length text
unfolding next_record
rest_shorter s [] p idle h = let no : None ≡ Some p = rw idle at h in cc
rest_shorter s (c ∷ text) p idle h = let within : length p.2 ≤ suc (length text) - 1 = rest_within s [] [] (c ∷ text) p h in omega arith
