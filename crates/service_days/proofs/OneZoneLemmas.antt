-- The zones that a word says show the same.
use Rattle.std.proofs.Common.{◌≡◌, ℕ, ℤ, pos, ◌+ℤ◌, ◌-ℤ◌, List, [], ◌∷◌, Bool, true, false, Option, Some, None, refl, ap, subst, nat_eq, arith}
use Rattle.std.proofs.lemmas.Bool.Decides.{nat_tests}
use Rattle.std.specs.Prelude.{◌&&◌, IsSome, IsSomeAnd, codes, if◌then◌else◌}
use Rattle.std.specs.Int.{int_div_euclid}
use Rattle.jiff_core.specs.DateTime.{civil_seconds}
use Rattle.jiff_core.specs.Timestamp.{nanos_of_seconds}
use Rattle.jiff_core.specs.declared.civil.datetime.DateTime.{DateTime}
use Rattle.jiff_core.specs.declared.offset.Offset.{Offset}
use Rattle.jiff_tz.specs.Ambiguous.{compatible_offset}
use Rattle.jiff_tz.specs.PosixReader.{read_whole}
use Rattle.jiff_tz.specs.PosixText.{tz_view}
use Rattle.jiff_tz.specs.Tzif.{tzif_view}
use Rattle.jiff_tz.specs.declared.ambiguous.AmbiguousOffset.{AmbiguousOffset}
use Rattle.jiff_tz.specs.declared.posix.TimeZone.{TimeZone}
use Rattle.jiff_tz.specs.declared.tzif.Tzif.{Tzif}
use Rattle.lc_time.specs.Calendar.{day_of}
use Rattle.lc_time.specs.Date.{civil_date}
use Rattle.lc_time.specs.Zone.{moment_at, noon_of, offset_at, offset_shown}
use Rattle.lc_time.specs.declared.zone.Zone.{Zone}
use Rattle.lc_time.specs.declared.zone.Zone.TheVariants.{Utc, Posix, File}
use Rattle.service_days.specs.Laws.{OneZone, ShowSame}
use Rattle.service_days.specs.ZoneWord.{IsTableOf, file_named, rule_named}
use Rattle.service_days.proofs.ClockLemmas.{rule_offset, rule_shown, table_offset, table_shown}

-- two clocks with one offset at each second, and where the clock shows a date and time
record AreOneClock (a b : Zone) : Type 0 where
  at : (second : ℤ) → offset_at a second ≡ offset_at b second
  shown : (dt : DateTime) → offset_shown a dt ≡ offset_shown b dt

show_same : (a b : Zone) → AreOneClock a b → ShowSame a b
show_same a b one = record {
  anchors = λ date. ap (λ (v : ℤ). moment_at ((civil_seconds (noon_of date) -ℤ v) -ℤ pos 43_200)) (one.shown (noon_of date));
  dates = λ moment. ap (λ (v : ℤ). let day = day_of (int_div_euclid (pos moment +ℤ v) (pos 86_400)) in civil_date day.year day.month day.day) (one.at (pos moment));
}

one_utc : AreOneClock Utc Utc
one_utc = record { at = λ second. refl; shown = λ dt. refl }

one_rule : (a b : TimeZone) → tz_view a ≡ tz_view b → AreOneClock (Posix a) (Posix b)
unfolding offset_at offset_shown
one_rule a b e = record {
  at = λ second. ap (λ (v : Offset). v.seconds) (rule_offset a b (nanos_of_seconds second) e);
  shown = λ dt. ap (λ (v : AmbiguousOffset). (compatible_offset v).seconds) (rule_shown a b dt e);
}

one_table : (a b : Tzif) → tzif_view a ≡ tzif_view b → AreOneClock (File a) (File b)
unfolding offset_at offset_shown
one_table a b e = record {
  at = λ second. ap (λ (v : Offset). v.seconds) (table_offset a b e (nanos_of_seconds second));
  shown = λ dt. ap (λ (v : AmbiguousOffset). (compatible_offset v).seconds) (table_shown a b e dt);
}

-- a word has one of the three forms
no_rule : (word : List ℕ) → word ≡ codes "utc" → IsSome (rule_named word) → ⊥
no_rule word e some = let f : IsSome (rule_named (codes "utc")) = subst (λ (v : List ℕ). IsSome (rule_named v)) e some in cc

no_file : (word : List ℕ) → word ≡ codes "utc" → IsSome (file_named word) → ⊥
no_file word e some = let f : IsSome (file_named (codes "utc")) = subst (λ (v : List ℕ). IsSome (file_named v)) e some in cc

some_from : {X : Type 0} (o : Option X) (P : X → Type 0) → IsSomeAnd o P → IsSome o
some_from None P h = absurd h
some_from (Some x) P h = refl

one_value : (o : Option (List ℕ)) (a b : TimeZone) → IsSomeAnd o (λ text. read_whole text ≡ Some (tz_view a)) → IsSomeAnd o (λ text. read_whole text ≡ Some (tz_view b)) → tz_view a ≡ tz_view b
one_value None a b h k = absurd h
one_value (Some text) a b h k = cc

one_file : (o : Option (List ℕ)) (a b : Tzif) → IsSomeAnd o (IsTableOf a) → IsSomeAnd o (IsTableOf b) → tzif_view a ≡ tzif_view b
one_file None a b h k = absurd h
one_file (Some bytes) a b h k = let e = h.read in let f = k.read in cc

begins : (first rest : Bool) (behind : List ℕ) → IsSome (if first && rest then Some behind else None) → first ≡ true
begins true rest behind h = refl
begins false rest behind h = cc

two_starts : (x : ℕ) → nat_eq x 112 ≡ true → nat_eq x 102 ≡ true → ⊥
two_starts x h k = grind (arith, nat_tests)

-- no word has a rule and names a file
not_both : (word : List ℕ) → IsSome (rule_named word) → IsSome (file_named word) → ⊥
not_both [] h k = cc
not_both (x ∷ xs) h k = two_starts x (begins (nat_eq x 112) _ _ h) (begins (nat_eq x 102) _ _ k)

pub one_zone : OneZone
one_zone word file Utc Utc h k = show_same Utc Utc one_utc
one_zone word file Utc (Posix b) h k = absurd (no_rule word h (some_from (rule_named word) _ k))
one_zone word file Utc (File b) h k = absurd (no_file word h k.0)
one_zone word file (Posix a) Utc h k = absurd (no_rule word k (some_from (rule_named word) _ h))
one_zone word file (Posix a) (Posix b) h k = show_same (Posix a) (Posix b) (one_rule a b (one_value (rule_named word) a b h k))
one_zone word file (Posix a) (File b) h k = absurd (not_both word (some_from (rule_named word) _ h) k.0)
one_zone word file (File a) Utc h k = absurd (no_file word k h.0)
one_zone word file (File a) (Posix b) h k = absurd (not_both word (some_from (rule_named word) _ k) h.0)
one_zone word file (File a) (File b) h k = show_same (File a) (File b) (one_table a b (one_file file a b h.1 k.1))
