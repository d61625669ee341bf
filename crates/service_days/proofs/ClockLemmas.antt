-- Rules and tables that say the same have clocks that show the same.
use Rattle.std.proofs.Common.{◌≡◌, ℕ, ℤ, zero, suc, pos, ◌+◌, ◌-◌, Bool, true, false, cond, List, [], ◌∷◌, length, map, get_or, Option, Some, None, refl, sym, ap, subst, ◌∙◌}
use Rattle.std.specs.Prelude.{◌==◌, if◌then◌else◌, int_le, int_lt, option_map, vec_len}
use Rattle.std.specs.List.{prefix_len}
use Rattle.std.proofs.Props.{props}
use Rattle.std.proofs.lemmas.List.{length-map}
use Rattle.jiff_core.specs.DateTime.{civil_nanos, civil_seconds}
use Rattle.jiff_core.specs.Timestamp.{IsOffsetSeconds}
use Rattle.jiff_core.specs.declared.civil.datetime.DateTime.{DateTime}
use Rattle.jiff_core.specs.declared.offset.Offset.{Offset}
use Rattle.jiff_tz.specs.PosixRule as Rule
use Rattle.jiff_tz.specs.PosixRule.{ambiguous_at_by, ambiguous_by, dst_at_by, in_window, match_some, rule_nanos, utc_window}
use Rattle.jiff_tz.specs.PosixText.{dst_view, tz_view}
use Rattle.jiff_tz.specs.Tzif as Table
use Rattle.jiff_tz.specs.Tzif.{ambiguous_after, count_at, civil_count_at, floor_second, is_inside, no_transition, offsets_in, rule_after, transition_at, type_after, tzif_view}
use Rattle.jiff_tz.specs.TzifText as Text
use Rattle.jiff_tz.specs.TzifText.{TransitionText, TypeText, transition_text, type_view}
use Rattle.jiff_tz.specs.Year.{year_of_nanos}
use Rattle.jiff_tz.specs.declared.ambiguous.AmbiguousOffset.{AmbiguousOffset}
use Rattle.jiff_tz.specs.declared.ambiguous.AmbiguousOffset.TheVariants.{Unambiguous, Gap, Fold}
use Rattle.jiff_tz.specs.declared.posix.DayTime.{DayTime}
use Rattle.jiff_tz.specs.declared.posix.Dst.{Dst}
use Rattle.jiff_tz.specs.declared.posix.TimeZone.{TimeZone}
use Rattle.jiff_tz.specs.declared.tzif.Tzif.{Tzif}
use Rattle.jiff_tz.specs.declared.tzif.transition.LocalTimeType.{LocalTimeType}
use Rattle.jiff_tz.specs.declared.tzif.transition.Transition.{Transition}
use Rattle.service_days.proofs.RuleLemmas.{same_day_time, window_same}

abbrev offset : (s : ℤ) → IsOffsetSeconds s → Offset
offset s p = record { seconds = s; in_range = p }

offset_prop : (s : ℤ) → IsProp (IsOffsetSeconds s)
offset_prop s = hlevel props

same_offset : (a b : Offset) → a.seconds ≡ b.seconds → a ≡ b
same_offset a b e =
    subst (λ (v : ℤ). (q : IsOffsetSeconds v) → offset a.seconds a.in_range ≡ offset v q) e
    (λ q. ap (offset a.seconds) (offset_prop a.seconds a.in_range q)) b.in_range

choice : (d e : Dst) (s t : Offset) → d.offset ≡ e.offset → s ≡ t → (inside : Bool) → match_some (if inside then Some d else None) s (λ (d : Dst). d.offset) ≡ match_some (if inside then Some e else None) t (λ (d : Dst). d.offset)
choice d e s t ahead std true = ahead
choice d e s t ahead std false = std

by_dst : (n : ℤ) (s t : Offset) (o p : Option Dst) → s ≡ t → option_map dst_view o ≡ option_map dst_view p → match_some (dst_at_by s o n) s (λ (d : Dst). d.offset) ≡ match_some (dst_at_by t p n) t (λ (d : Dst). d.offset)
by_dst n s t None None std f = std
by_dst n s t None (Some d) std f = cc
by_dst n s t (Some d) None std f = cc
by_dst n s t (Some d) (Some e) std f =
    let view : dst_view d ≡ dst_view e = cc in
    let same = window_same d e (year_of_nanos n) s t view (ap (λ (v : Offset). v.seconds) std) in
    rw same (choice d e s t (same_offset d.offset e.offset (ap (λ v. v.seconds) view)) std (in_window (utc_window e (year_of_nanos n) t) n))

pub rule_offset : (a b : TimeZone) (n : ℤ) → tz_view a ≡ tz_view b → Rule.offset_at a n ≡ Rule.offset_at b n
rule_offset a b n e =
    by_dst n a.std_offset b.std_offset a.dst b.dst (same_offset a.std_offset b.std_offset (ap (λ v. v.std_seconds) e)) (ap (λ v. v.dst) e)

shown_by : (s t : Offset) (o p : Option Dst) (shown : DateTime) → s ≡ t → option_map dst_view o ≡ option_map dst_view p → ambiguous_at_by s o shown ≡ ambiguous_at_by t p shown
shown_by s t None None shown std f = ap Unambiguous std
shown_by s t None (Some d) shown std f = cc
shown_by s t (Some d) None shown std f = cc
shown_by s t (Some d) (Some e) shown std f =
    let view : dst_view d ≡ dst_view e = cc in
    let y : ℤ = shown.date.year in
    let start = same_day_time d.rule.start e.rule.start (ap (λ v. v.start) view) in
    let end = same_day_time d.rule.end e.rule.end (ap (λ v. v.finish) view) in
    let ahead = same_offset d.offset e.offset (ap (λ v. v.seconds) view) in
    ap (λ (v : Offset). ambiguous_by v d.offset (rule_nanos y d.rule.start (pos 0), rule_nanos y d.rule.end (pos 0)) (civil_nanos shown)) std
    ∙ ap (λ (v : Offset). ambiguous_by t v (rule_nanos y d.rule.start (pos 0), rule_nanos y d.rule.end (pos 0)) (civil_nanos shown)) ahead
    ∙ ap (λ (v : DayTime). ambiguous_by t e.offset (rule_nanos y v (pos 0), rule_nanos y d.rule.end (pos 0)) (civil_nanos shown)) start
    ∙ ap (λ (v : DayTime). ambiguous_by t e.offset (rule_nanos y e.rule.start (pos 0), rule_nanos y v (pos 0)) (civil_nanos shown)) end

pub rule_shown : (a b : TimeZone) (shown : DateTime) → tz_view a ≡ tz_view b → Rule.ambiguous_at a shown ≡ Rule.ambiguous_at b shown
rule_shown a b shown e =
    shown_by a.std_offset b.std_offset a.dst b.dst shown (same_offset a.std_offset b.std_offset (ap (λ v. v.std_seconds) e)) (ap (λ v. v.dst) e)

prefix_map : {X Y : Type 0} (f : X → Y) (p : Y → Bool) (xs : List X) → prefix_len (λ x. p (f x)) xs ≡ prefix_len p (map f xs)
prefix_map f p [] = refl
prefix_map f p (x ∷ xs) = ap (λ (n : ℕ). cond (p (f x)) (1 + n) 0) (prefix_map f p xs)

get_map : {X Y : Type 0} (f : X → Y) (xs : List X) (i : ℕ) (d : X) → f (get_or xs i d) ≡ get_or (map f xs) i (f d)
get_map f [] i d = refl
get_map f (x ∷ xs) zero d = refl
get_map f (x ∷ xs) (suc i) d = get_map f xs i d

either_rule : (test : Bool) (o p : Option TimeZone) → option_map tz_view o ≡ option_map tz_view p → option_map tz_view (if test then o else None) ≡ option_map tz_view (if test then p else None)
either_rule true o p e = e
either_rule false o p e = refl

either_type : (test : Bool) (x x' y y' : LocalTimeType) → type_view x ≡ type_view x' → type_view y ≡ type_view y' → type_view (if test then x else y) ≡ type_view (if test then x' else y')
either_type true x x' y y' e f = e
either_type false x x' y y' e f = f

by_rule : (o p : Option TimeZone) (s t : Offset) (n : ℤ) → option_map tz_view o ≡ option_map tz_view p → s ≡ t → match_some o s (λ (r : TimeZone). Rule.offset_at r n) ≡ match_some p t (λ (r : TimeZone). Rule.offset_at r n)
by_rule None None s t n e same = same
by_rule None (Some b) s t n e same = cc
by_rule (Some a) None s t n e same = cc
by_rule (Some a) (Some b) s t n e same = let view : tz_view a ≡ tz_view b = cc in rule_offset a b n view

shown_by_rule : (o p : Option TimeZone) (s t : Offset) (shown : DateTime) → option_map tz_view o ≡ option_map tz_view p → s ≡ t → match_some o (Unambiguous s) (λ (r : TimeZone). Rule.ambiguous_at r shown) ≡ match_some p (Unambiguous t) (λ (r : TimeZone). Rule.ambiguous_at r shown)
shown_by_rule None None s t shown e same = ap Unambiguous same
shown_by_rule None (Some b) s t shown e same = cc
shown_by_rule (Some a) None s t shown e same = cc
shown_by_rule (Some a) (Some b) s t shown e same = let view : tz_view a ≡ tz_view b = cc in rule_shown a b shown view

module _ (a b : Tzif) (e : tzif_view a ≡ tzif_view b) where
  rows : map transition_text a.transitions.items ≡ map transition_text b.transitions.items
  rows = ap (λ v. v.transitions) e

  first : type_view a.first ≡ type_view b.first
  first = ap (λ v. v.first) e

  rules : option_map tz_view a.posix_tz ≡ option_map tz_view b.posix_tz
  rules = ap (λ v. v.rule) e

  long : length a.transitions.items ≡ length b.transitions.items
  long =
      sym (length-map a.transitions.items transition_text) ∙ ap (λ (v : List TransitionText). length v) rows
      ∙ length-map b.transitions.items transition_text

  long_same : vec_len a.transitions ≡ vec_len b.transitions
  long_same = a.transitions.ok.0 ∙ long ∙ sym b.transitions.ok.0

  count_same : (second : ℤ) → count_at a second ≡ count_at b second
  count_same second =
      prefix_map transition_text (λ (r : TransitionText). int_le r.second second) a.transitions.items
      ∙ ap (prefix_len (λ (r : TransitionText). int_le r.second second)) rows
      ∙ sym (prefix_map transition_text (λ (r : TransitionText). int_le r.second second) b.transitions.items)

  shown_count_same : (second : ℤ) → civil_count_at a second ≡ civil_count_at b second
  shown_count_same second =
      prefix_map transition_text (λ (r : TransitionText). int_le (Text.civil_start r) second) a.transitions.items
      ∙ ap (prefix_len (λ (r : TransitionText). int_le (Text.civil_start r) second)) rows
      ∙ sym (prefix_map transition_text (λ (r : TransitionText). int_le (Text.civil_start r) second) b.transitions.items)

  no_row_same : transition_text (no_transition a) ≡ transition_text (no_transition b)
  no_row_same = ap (λ (v : TypeText). record { second = pos 0; before = v.seconds; after = v }) first

  row_same : (i : ℕ) → transition_text (transition_at a i) ≡ transition_text (transition_at b i)
  row_same i =
      get_map transition_text a.transitions.items i (no_transition a)
      ∙ ap (λ (v : List TransitionText). get_or v i (transition_text (no_transition a))) rows
      ∙ ap (λ (v : TransitionText). get_or (map transition_text b.transitions.items) i v) no_row_same
      ∙ sym (get_map transition_text b.transitions.items i (no_transition b))

  type_same : (k : ℕ) → type_view (type_after a k) ≡ type_view (type_after b k)
  type_same k =
      either_type (k == 0) a.first b.first (transition_at a (k - 1)).after (transition_at b (k - 1)).after first
      (ap (λ (v : TransitionText). v.after) (row_same (k - 1)))

  type_offset : (k : ℕ) → (type_after a k).offset ≡ (type_after b k).offset
  type_offset k = same_offset (type_after a k).offset (type_after b k).offset (ap (λ (v : TypeText). v.seconds) (type_same k))

  rule_same : (k : ℕ) → option_map tz_view (rule_after a k) ≡ option_map tz_view (rule_after b k)
  rule_same k =
      either_rule (k == vec_len a.transitions) a.posix_tz b.posix_tz rules
      ∙ ap (λ (n : ℕ). option_map tz_view (if k == n then b.posix_tz else None)) long_same

  pub table_offset : (n : ℤ) → Table.offset_at a n ≡ Table.offset_at b n
  table_offset n =
      let k : ℕ = count_at b (floor_second n) in
      ap (λ (k : ℕ). match_some (rule_after a k) (type_after a k).offset (λ (r : TimeZone). Rule.offset_at r n)) (count_same (floor_second n))
      ∙ by_rule (rule_after a k) (rule_after b k) (type_after a k).offset (type_after b k).offset n (rule_same k) (type_offset k)

  inside_same : (k : ℕ) (second : ℤ) → is_inside a k second ≡ is_inside b k second
  inside_same k second =
      ap (λ (v : TransitionText). if k == 0 then false else int_lt second (Text.civil_end v)) (row_same (k - 1))

  offsets_same : (i : ℕ) → offsets_in (transition_at a i) ≡ offsets_in (transition_at b i)
  offsets_same i =
      let r : Transition = transition_at a i in
      let s : Transition = transition_at b i in
      let before : r.before ≡ s.before = same_offset r.before s.before (ap (λ (v : TransitionText). v.before) (row_same i)) in
      let after : r.after.offset ≡ s.after.offset = same_offset r.after.offset s.after.offset (ap (λ (v : TransitionText). v.after.seconds) (row_same i)) in
      ap (λ (v : Offset). if int_lt v.seconds r.after.offset.seconds then Gap v r.after.offset else Fold v r.after.offset) before
      ∙ ap (λ (v : Offset). if int_lt s.before.seconds v.seconds then Gap s.before v else Fold s.before v) after

  abbrev either : Bool → AmbiguousOffset → AmbiguousOffset → AmbiguousOffset
  either inside x y = if inside then x else y

  at_count : (k : ℕ) (second : ℤ) (shown : DateTime) → either (is_inside a k second) (offsets_in (transition_at a (k - 1))) (ambiguous_after a k shown) ≡ either (is_inside b k second) (offsets_in (transition_at b (k - 1))) (ambiguous_after b k shown)
  at_count k second shown =
      ap (λ (v : Bool). either v (offsets_in (transition_at a (k - 1))) (ambiguous_after a k shown)) (inside_same k second)
      ∙ ap (λ (v : AmbiguousOffset). either (is_inside b k second) v (ambiguous_after a k shown)) (offsets_same (k - 1))
      ∙ ap (either (is_inside b k second) (offsets_in (transition_at b (k - 1))))
      (shown_by_rule (rule_after a k) (rule_after b k) (type_after a k).offset (type_after b k).offset shown (rule_same k) (type_offset k))

  pub table_shown : (shown : DateTime) → Table.ambiguous_at a shown ≡ Table.ambiguous_at b shown
  table_shown shown =
      let second : ℤ = civil_seconds shown in
      ap (λ (k : ℕ). either (is_inside a k second) (offsets_in (transition_at a (k - 1))) (ambiguous_after a k shown)) (shown_count_same second)
      ∙ at_count (civil_count_at b second) second shown
