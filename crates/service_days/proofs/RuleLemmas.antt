-- Rules that say the same agree with the same tables.
use Rattle.std.proofs.Common.{◌≡◌, ℤ, ◌-◌, Bool, true, false, List, length, get_or, Option, Some, None, IfSome, Result, Ok, ◌⊎◌, inl, inr, refl, sym, ap, subst, ◌∙◌}
use Rattle.std.specs.Prelude.{if◌then◌else◌, option_map, IsErr, is_err}
use Rattle.std.proofs.Props.{props}
use Rattle.jiff_core.specs.Timestamp.{nanos_of_seconds}
use Rattle.jiff_core.specs.Calendar.{IsWithin}
use Rattle.jiff_core.specs.declared.error.TzifFault.{TzifFault}
use Rattle.jiff_core.specs.declared.offset.Offset.{Offset}
use Rattle.jiff_tz.specs.Abbreviation.{abbreviation_text}
use Rattle.jiff_tz.specs.PosixDay.{is_rule_day}
use Rattle.jiff_tz.specs.PosixRule.{dst_at_by, dst_info, in_window, info_at, match_some, std_info, utc_window}
use Rattle.jiff_tz.specs.PosixText.{day_time_view, dst_view, tz_view}
use Rattle.jiff_tz.specs.Tzif.{HasBadRule, RuleAgrees, tzif_view}
use Rattle.jiff_tz.specs.TzifAgree.{FooterAgrees, RowAgrees}
use Rattle.jiff_tz.specs.TzifReader.{TzifText}
use Rattle.jiff_tz.specs.TzifText.{TransitionText, no_row}
use Rattle.jiff_tz.specs.Year.{year_of_nanos}
use Rattle.jiff_tz.specs.declared.info.OffsetInfo.{OffsetInfo}
use Rattle.jiff_tz.specs.declared.posix.Day.{Day}
use Rattle.jiff_tz.specs.declared.posix.DayTime.{DayTime}
use Rattle.jiff_tz.specs.declared.posix.Dst.{Dst}
use Rattle.jiff_tz.specs.declared.posix.TimeZone.{TimeZone}
use Rattle.jiff_tz.specs.declared.tzif.Tzif.{Tzif}
use Rattle.std.specs.Prelude.{IsTrue}

abbrev day_time : (date : Day) (time : ℤ) → IsTrue (is_rule_day date) → IsWithin 604_799 time → DayTime
day_time date time p q = record { date = date; time = time; date_in = p; time_in = q }

within_prop : (time : ℤ) → IsProp (IsWithin 604_799 time)
within_prop time = hlevel props

date_prop : (date : Day) → IsProp (IsTrue (is_rule_day date))
date_prop date = hlevel props

same_time : (date : Day) (s t : ℤ) (p p' : IsTrue (is_rule_day date)) (q : IsWithin 604_799 s) (r : IsWithin 604_799 t) → s ≡ t → day_time date s p q ≡ day_time date t p' r
same_time date s t p p' q r e =
    subst (λ (v : ℤ). (r : IsWithin 604_799 v) → day_time date s p q ≡ day_time date v p' r) e
    (λ r. ap (λ v. day_time date s v q) (date_prop date p p') ∙ ap (day_time date s p') (within_prop s q r)) r

-- a day of a rule is its date and its time
pub same_day_time : (a b : DayTime) → day_time_view a ≡ day_time_view b → a ≡ b
same_day_time a b e =
    subst (λ (v : Day). (p : IsTrue (is_rule_day v)) → day_time a.date a.time a.date_in a.time_in ≡ day_time v b.time p b.time_in) (ap (λ v. v.0) e)
    (λ p. same_time a.date a.time b.time a.date_in p a.time_in b.time_in (ap (λ v. v.1) e)) b.date_in

pub window_same : (d e : Dst) (y : ℤ) (s t : Offset) → dst_view d ≡ dst_view e → s.seconds ≡ t.seconds → utc_window d y s ≡ utc_window e y t
unfolding utc_window
window_same d e y s t view std =
    let start = same_day_time d.rule.start e.rule.start (ap (λ v. v.start) view) in
    let end = same_day_time d.rule.end e.rule.end (ap (λ v. v.finish) view) in
    let ahead : d.offset.seconds ≡ e.offset.seconds = ap (λ v. v.seconds) view in
    rw (start, end, ahead, std) refl

-- two offsets that show one offset, flag and abbreviation
record ShowsSame (a b : OffsetInfo) : Type 0 where
  seconds : a.offset.seconds ≡ b.offset.seconds
  dst : a.dst ≡ b.dst
  name : abbreviation_text a.abbreviation ≡ abbreviation_text b.abbreviation

module _ (a b : TimeZone) (std : a.std_offset.seconds ≡ b.std_offset.seconds) (name : abbreviation_text a.std_abbrev ≡ abbreviation_text b.std_abbrev) where
  chosen_same : (d e : Dst) → dst_view d ≡ dst_view e → (inside : Bool) → ShowsSame (match_some (if inside then Some d else None) (std_info a) dst_info) (match_some (if inside then Some e else None) (std_info b) dst_info)
  chosen_same d e view true = record { seconds = ap (λ v. v.seconds) view; dst = refl; name = ap (λ v. v.name) view }
  chosen_same d e view false = record { seconds = std; dst = refl; name = name }

  by_dst : (n : ℤ) (o p : Option Dst) → option_map dst_view o ≡ option_map dst_view p → ShowsSame (match_some (dst_at_by a.std_offset o n) (std_info a) dst_info) (match_some (dst_at_by b.std_offset p n) (std_info b) dst_info)
  by_dst n None None e = record { seconds = std; dst = refl; name = name }
  by_dst n None (Some d) e = cc
  by_dst n (Some d) None e = cc
  by_dst n (Some d) (Some e) f =
      let view : dst_view d ≡ dst_view e = cc in
      let same = window_same d e (year_of_nanos n) a.std_offset b.std_offset view std in
      rw same (chosen_same d e view (in_window (utc_window e (year_of_nanos n) b.std_offset) n))

info_same : (a b : TimeZone) (n : ℤ) → tz_view a ≡ tz_view b → ShowsSame (info_at a n) (info_at b n)
info_same a b n e =
    by_dst a b (ap (λ v. v.std_seconds) e) (ap (λ v. v.std_name) e) n a.dst b.dst (ap (λ v. v.dst) e)

row_agrees : (a b : TimeZone) (row : TransitionText) → tz_view a ≡ tz_view b → RowAgrees a row → RowAgrees b row
row_agrees a b row e (seconds, dst, name) =
    let same = info_same a b (nanos_of_seconds row.second) e in
    (sym same.seconds ∙ seconds, sym same.dst ∙ dst, sym same.name ∙ name)

rule_agrees : (rows : List TransitionText) (o : Option TimeZone) (b : TimeZone) → option_map tz_view o ≡ Some (tz_view b) → IfSome o (λ tz. FooterAgrees rows tz) → FooterAgrees rows b
rule_agrees rows None b e h = cc
rule_agrees rows (Some a) b e h = λ some.
    let same : tz_view a ≡ tz_view b = cc in
    row_agrees a b (get_or rows (length rows - 1) no_row) same (h some)

-- a file whose rule agrees with its table is not bad
pub good_file : (table : Tzif) (r : Result TzifText TzifFault) → r ≡ Ok (tzif_view table) → RuleAgrees table → IsErr r ⊎ HasBadRule r → ⊥
good_file table r read agrees (inl err) = let no : is_err r ≡ false = ap is_err read in cc
good_file table r read agrees (inr bad) =
    let text : bad.text ≡ tzif_view table = cc (read, bad.read) in
    let rule = sym (ap (λ v. v.rule) text) ∙ bad.is_rule in
    bad.disagrees (subst (λ (v : List TransitionText). FooterAgrees v bad.rule) (sym (ap (λ v. v.transitions) text)) (rule_agrees _ table.posix_tz bad.rule rule agrees))
