-- What a text says, computed, is what it is the text of.
use Rattle.std.proofs.Common.{◌≡◌, ◌∙◌, ℕ, ◌+◌, ◌-◌, ◌*◌, ◌/◌, ◌%◌, ◌<◌, ◌≤◌, inl, inr, Bool, true, false, cond, List, [], ◌∷◌, ◌++◌, length, take, drop, Option, Some, None, ap, refl, sym, arith}
use Rattle.std.specs.Prelude.{nat_le, nat_lt, ◌==◌, ◌&&◌, IfSome, slice_range, unwrap_or}
use Rattle.std.specs.List.{list_all}
use Rattle.std.specs.Char.{is_ascii_digit, digit_value}
use Rattle.std.specs.Str.Parse.{digits_value}
use Rattle.std.proofs.lemmas.Bool.{true≢false, leb-true, ltb-true, eqb-true, eq-eqb, le-leb, lt-ltb, and_parts, and_from, cases_Bool}
use Rattle.std.proofs.lemmas.Str.{digit_value_digit}
use Rattle.lc_model.specs.Calendar.{days_in_month}
use Rattle.lc_model.specs.declared.date.ServiceDate.{ServiceDate}
use Rattle.lc_time.specs.Clock.{clock_text_of, SaysGtfsTime, are_clock_digits, clock_said, gtfs_time_said}
use Rattle.lc_time.specs.Date.{date_text_of, where_passed, civil_date, is_eight_digits, date_said}
use Rattle.lc_time.specs.Digits.{two_digits, four_digits, number_of}
use Rattle.lc_time.specs.Laws.{DateSaid, TimeSaid}
use Rattle.lc_time.proofs.DateLemmas.{fits, same_date}

-- ---- digits

record Digit (c : ℕ) : Type 0 where
  from : 48 ≤ c
  to : c ≤ 57
  value : digit_value c ≡ c - 48

digit : (c : ℕ) → 48 ≤ c → c ≤ 57 → Digit c
digit c from to =
    let v = digit_value_digit c (from, to) in
    record { from = from; to = to; value = omega (arith, v, from) }

digit_of : (c : ℕ) → is_ascii_digit c ≡ true → Digit c
digit_of c t = let p = and_parts (nat_le 48 c) (nat_le c 57) t in digit c (leb-true 48 c p.0) (leb-true c 57 p.1)

is_digit : (c : ℕ) → Digit c → is_ascii_digit c ≡ true
is_digit c d = and_from (nat_le 48 c) (nat_le c 57) (le-leb 48 c d.from) (le-leb c 57 d.to)

first : (c : ℕ) (cs : List ℕ) → list_all is_ascii_digit (c ∷ cs) ≡ true → Digit c × (list_all is_ascii_digit cs ≡ true)
first c cs t = let p = and_parts (is_ascii_digit c) (list_all is_ascii_digit cs) t in (digit_of c p.0, p.1)

and_first : (c : ℕ) (cs : List ℕ) → Digit c → list_all is_ascii_digit cs ≡ true → list_all is_ascii_digit (c ∷ cs) ≡ true
and_first c cs d t = and_from (is_ascii_digit c) (list_all is_ascii_digit cs) (is_digit c d) t

tens : (n : ℕ) → n < 100 → Digit (48 + n / 10)
tens n lt = digit (48 + n / 10) (omega arith) (omega (arith, lt))

ones : (n : ℕ) → Digit (48 + n % 10)
ones n = digit (48 + n % 10) (omega arith) (omega arith)

value_two : (a b : ℕ) → Digit a → Digit b → digits_value 10 (a ∷ b ∷ []) ≡ (a - 48) * 10 + (b - 48)
value_two a b p q = omega (arith, p.value, q.value)

value_four : (a b c d : ℕ) → Digit a → Digit b → Digit c → Digit d → digits_value 10 (a ∷ b ∷ c ∷ d ∷ []) ≡ digits_value 10 (a ∷ b ∷ []) * 100 + digits_value 10 (c ∷ d ∷ [])
value_four a b c d p q r s = omega (arith, p.value, q.value, r.value, s.value)

-- two digits, read and written again
two_back : (a b : ℕ) → Digit a → Digit b → two_digits (digits_value 10 (a ∷ b ∷ [])) ≡ a ∷ b ∷ []
two_back a b p q =
    let v = value_two a b p q in
    let x : 48 + digits_value 10 (a ∷ b ∷ []) / 10 ≡ a = omega (arith, v, p.from, q.from, q.to) in
    let y : 48 + digits_value 10 (a ∷ b ∷ []) % 10 ≡ b = omega (arith, v, p.from, q.from, q.to) in
    rw (x, y) refl

two_below : (a b : ℕ) → Digit a → Digit b → digits_value 10 (a ∷ b ∷ []) < 100
two_below a b p q = omega (arith, value_two a b p q, p.from, p.to, q.from, q.to)

four_back : (a b c d : ℕ) → Digit a → Digit b → Digit c → Digit d → four_digits (digits_value 10 (a ∷ b ∷ c ∷ d ∷ [])) ≡ a ∷ b ∷ c ∷ d ∷ []
four_back a b c d p q r s =
    let v = value_four a b c d p q r s in
    let small = two_below c d r s in
    let x : digits_value 10 (a ∷ b ∷ c ∷ d ∷ []) / 100 ≡ digits_value 10 (a ∷ b ∷ []) = omega (arith, v, small) in
    let y : digits_value 10 (a ∷ b ∷ c ∷ d ∷ []) % 100 ≡ digits_value 10 (c ∷ d ∷ []) = omega (arith, v, small) in
    ap (λ (n : ℕ). two_digits n ++ two_digits (digits_value 10 (a ∷ b ∷ c ∷ d ∷ []) % 100)) x
    ∙ ap (λ (n : ℕ). two_digits (digits_value 10 (a ∷ b ∷ [])) ++ two_digits n) y
    ∙ ap (λ (t : List ℕ). t ++ two_digits (digits_value 10 (c ∷ d ∷ []))) (two_back a b p q)
    ∙ ap (λ (t : List ℕ). a ∷ b ∷ t) (two_back c d r s)

-- a number, written and read again
two_value : (n : ℕ) → n < 100 → digits_value 10 (two_digits n) ≡ n
two_value n lt =
    let v = value_two (48 + n / 10) (48 + n % 10) (tens n lt) (ones n) in
    omega (arith, v)

four_value : (n : ℕ) → n < 10_000 → digits_value 10 (four_digits n) ≡ n
four_value n lt =
    let high : n / 100 < 100 = omega (arith, lt) in
    let low : n % 100 < 100 = omega arith in
    let v = value_four _ _ _ _ (tens (n / 100) high) (ones (n / 100)) (tens (n % 100) low) (ones (n % 100)) in
    omega (arith, v, two_value (n / 100) high, two_value (n % 100) low)

-- ---- tests

none≢some : {X : Type 0} (x : X) → None ≡ Some x → ⊥
none≢some x e = true≢false (ap (λ o. elim o [ None ↦ true | Some y ↦ false ]) e)

chosen : {X : Type 0} (test : Bool) (o : Option X) (x : X) → cond test o None ≡ Some x → (test ≡ true) × (o ≡ Some x)
chosen true o x e = (refl, e)
chosen false o x e = absurd (none≢some x e)

passed : {X : Type 0} (test : Bool) (gives : test ≡ true → Option X) (x : X) → where_passed test gives ≡ Some x → (yes : test ≡ true) × (gives yes ≡ Some x)
passed true gives x e = (refl, e)
passed false gives x e = absurd (none≢some x e)

gone : {X : Type 0} (test : Bool) (gives : test ≡ true → Option X) (o : Option X) → test ≡ true → ((yes : test ≡ true) → gives yes ≡ o) → where_passed test gives ≡ o
gone true gives o e all = all refl
gone false gives o e all = absurd (true≢false (sym e))

-- ---- dates

record Numbers (y m d : ℕ) (date : ServiceDate) : Type 0 where
  year : y ≡ date.year
  month : m ≡ date.month
  day : d ≡ date.day

some_numbers : (x date : ServiceDate) → Some x ≡ Some date → Numbers x.year x.month x.day date
some_numbers x date e = record {
  year = ap (λ o. elim o [ None ↦ 0 | Some v ↦ v.year ]) e;
  month = ap (λ o. elim o [ None ↦ 0 | Some v ↦ v.month ]) e;
  day = ap (λ o. elim o [ None ↦ 0 | Some v ↦ v.day ]) e;
}

civil_numbers : (y m d : ℕ) (date : ServiceDate) → civil_date y m d ≡ Some date → Numbers y m d date
civil_numbers y m d date e =
    let a = passed (nat_le 1 y) _ date e in
    let b = passed (nat_le y 9999) _ date a.1 in
    let c = passed (nat_le 1 m) _ date b.1 in
    let f = passed (nat_le m 12) _ date c.1 in
    let g = passed (nat_le 1 d) _ date f.1 in
    let h = passed (nat_le d (days_in_month y m)) _ date g.1 in
    some_numbers _ date h.1

pub civil_of : (date : ServiceDate) → civil_date date.year date.month date.day ≡ Some date
civil_of date =
    let c = date.civil in
    gone (nat_le 1 date.year) _ (Some date) (le-leb _ _ c.year_from) (λ year_from.
    gone (nat_le date.year 9999) _ (Some date) (le-leb _ _ c.year_to) (λ year_to.
    gone (nat_le 1 date.month) _ (Some date) (le-leb _ _ c.month_from) (λ month_from.
    gone (nat_le date.month 12) _ (Some date) (le-leb _ _ c.month_to) (λ month_to.
    gone (nat_le 1 date.day) _ (Some date) (le-leb _ _ c.day_from) (λ day_from.
    gone (nat_le date.day (days_in_month date.year date.month)) _ (Some date) (le-leb _ _ c.day_to) (λ day_to.
    ap Some (same_date _ date refl refl refl)))))))

date_of_eight : (a b c d e f g h : ℕ) (date : ServiceDate) → list_all is_ascii_digit (a ∷ b ∷ c ∷ d ∷ e ∷ f ∷ g ∷ h ∷ []) ≡ true
    → civil_date (digits_value 10 (a ∷ b ∷ c ∷ d ∷ [])) (digits_value 10 (e ∷ f ∷ [])) (digits_value 10 (g ∷ h ∷ [])) ≡ Some date
    → a ∷ b ∷ c ∷ d ∷ e ∷ f ∷ g ∷ h ∷ [] ≡ date_text_of date.year date.month date.day
date_of_eight a b c d e f g h date digits is =
    let p0 = first a (b ∷ c ∷ d ∷ e ∷ f ∷ g ∷ h ∷ []) digits in
    let p1 = first b (c ∷ d ∷ e ∷ f ∷ g ∷ h ∷ []) p0.1 in
    let p2 = first c (d ∷ e ∷ f ∷ g ∷ h ∷ []) p1.1 in
    let p3 = first d (e ∷ f ∷ g ∷ h ∷ []) p2.1 in
    let p4 = first e (f ∷ g ∷ h ∷ []) p3.1 in
    let p5 = first f (g ∷ h ∷ []) p4.1 in
    let p6 = first g (h ∷ []) p5.1 in
    let p7 = first h [] p6.1 in
    let n = civil_numbers _ _ _ date is in
    let year : four_digits date.year ≡ a ∷ b ∷ c ∷ d ∷ [] = ap four_digits (sym n.year) ∙ four_back a b c d p0.0 p1.0 p2.0 p3.0 in
    let month : two_digits date.month ≡ e ∷ f ∷ [] = ap two_digits (sym n.month) ∙ two_back e f p4.0 p5.0 in
    let day : two_digits date.day ≡ g ∷ h ∷ [] = ap two_digits (sym n.day) ∙ two_back g h p6.0 p7.0 in
    sym (ap (λ (t : List ℕ). t ++ two_digits date.month ++ two_digits date.day) year
    ∙ ap (λ (t : List ℕ). (a ∷ b ∷ c ∷ d ∷ []) ++ t ++ two_digits date.day) month
    ∙ ap (λ (t : List ℕ). (a ∷ b ∷ c ∷ d ∷ []) ++ (e ∷ f ∷ []) ++ t) day)

by_length : (text : List ℕ) (date : ServiceDate) → length text ≡ 8 → list_all is_ascii_digit text ≡ true
    → civil_date (digits_value 10 (take 4 text)) (digits_value 10 (slice_range text 4 6)) (digits_value 10 (drop 6 text)) ≡ Some date
    → text ≡ date_text_of date.year date.month date.day
by_length (a ∷ b ∷ c ∷ d ∷ e ∷ f ∷ g ∷ h ∷ []) date size digits is = date_of_eight a b c d e f g h date digits is
by_length _ date size digits is = absurd (omega (arith, size))

-- a date that a text says is written there
date_written : (text : List ℕ) (date : ServiceDate) → date_said text ≡ Some date → text ≡ date_text_of date.year date.month date.day
date_written text date e =
    let c = chosen (is_eight_digits text) _ date e in
    let p = and_parts (length text == 8) (list_all is_ascii_digit text) c.0 in
    by_length text date (eqb-true (length text) 8 p.0) p.1 c.1

two_more : (n : ℕ) (cs : List ℕ) → n < 100 → list_all is_ascii_digit cs ≡ true → list_all is_ascii_digit (two_digits n ++ cs) ≡ true
two_more n cs lt t = and_first (48 + n / 10) ((48 + n % 10) ∷ cs) (tens n lt) (and_first (48 + n % 10) cs (ones n) t)

eight_digits : (y m d : ℕ) → y < 10_000 → m < 100 → d < 100 → list_all is_ascii_digit (date_text_of y m d) ≡ true
eight_digits y m d yl ml dl =
    two_more (y / 100) (two_digits (y % 100) ++ two_digits m ++ two_digits d) (omega (arith, yl))
    (two_more (y % 100) (two_digits m ++ two_digits d) (omega arith)
    (two_more m (two_digits d) ml (two_more d [] dl refl)))

said_of : (date : ServiceDate) → date_said (date_text_of date.year date.month date.day) ≡ Some date
said_of date =
    let f = fits date in
    rw (eight_digits date.year date.month date.day f.year_fits f.month_fits f.day_fits, four_value date.year f.year_fits, two_value date.month f.month_fits, two_value date.day f.day_fits) (civil_of date)

-- and one that is written there is said
date_read : (text : List ℕ) (date : ServiceDate) → text ≡ date_text_of date.year date.month date.day → date_said text ≡ Some date
date_read text date e = ap date_said e ∙ said_of date

pub dates_said : DateSaid
dates_said text date = (date_written text date, date_read text date)

-- ---- times of day

clock_parts : (h m s : ℕ) → m < 60 → s < 60 → ((h * 3600 + m * 60 + s) / 3600 ≡ h) × ((h * 3600 + m * 60 + s) / 60 % 60 ≡ m) × ((h * 3600 + m * 60 + s) % 60 ≡ s)
clock_parts h m s ml sl = (omega (arith, ml, sl), omega (arith, ml, sl), omega (arith, ml, sl))

record Clock (text : List ℕ) (seconds : ℕ) : Type 0 where
  small : seconds < 360_000
  written : text ≡ clock_text_of seconds

some_number : (x y : ℕ) → Some x ≡ Some y → x ≡ y
some_number x y e = ap (λ o. unwrap_or o 0) e

clock_of_eight : (a b c d e f g h s : ℕ) → (c == 58) ≡ true → (f == 58) ≡ true → are_clock_digits a b d e g h ≡ true
    → number_of a b * 3600 + number_of d e * 60 + number_of g h ≡ s → Clock (a ∷ b ∷ c ∷ d ∷ e ∷ f ∷ g ∷ h ∷ []) s
clock_of_eight a b c d e f g h s colon colon' test is =
    let t = and_parts (list_all is_ascii_digit (a ∷ b ∷ d ∷ e ∷ g ∷ h ∷ [])) (nat_lt (number_of d e) 60 && nat_lt (number_of g h) 60) test in
    let u = and_parts (nat_lt (number_of d e) 60) (nat_lt (number_of g h) 60) t.1 in
    let ml = ltb-true (number_of d e) 60 u.0 in
    let sl = ltb-true (number_of g h) 60 u.1 in
    let p0 = first a (b ∷ d ∷ e ∷ g ∷ h ∷ []) t.0 in
    let p1 = first b (d ∷ e ∷ g ∷ h ∷ []) p0.1 in
    let p2 = first d (e ∷ g ∷ h ∷ []) p1.1 in
    let p3 = first e (g ∷ h ∷ []) p2.1 in
    let p4 = first g (h ∷ []) p3.1 in
    let p5 = first h [] p4.1 in
    let hl = two_below a b p0.0 p1.0 in
    let parts = clock_parts (number_of a b) (number_of d e) (number_of g h) ml sl in
    let hours : two_digits (s / 3600) ≡ a ∷ b ∷ [] = ap (λ (n : ℕ). two_digits (n / 3600)) (sym is) ∙ ap two_digits parts.0 ∙ two_back a b p0.0 p1.0 in
    let minutes : two_digits (s / 60 % 60) ≡ d ∷ e ∷ [] = ap (λ (n : ℕ). two_digits (n / 60 % 60)) (sym is) ∙ ap two_digits parts.1 ∙ two_back d e p2.0 p3.0 in
    let seconds : two_digits (s % 60) ≡ g ∷ h ∷ [] = ap (λ (n : ℕ). two_digits (n % 60)) (sym is) ∙ ap two_digits parts.2 ∙ two_back g h p4.0 p5.0 in
    record {
      small = omega (arith, is, hl, ml, sl);
      written = sym (ap (λ (t : List ℕ). t ++ (58 ∷ []) ++ two_digits (s / 60 % 60) ++ (58 ∷ []) ++ two_digits (s % 60)) hours
          ∙ ap (λ (t : List ℕ). (a ∷ b ∷ 58 ∷ []) ++ t ++ (58 ∷ []) ++ two_digits (s % 60)) minutes
          ∙ ap (λ (t : List ℕ). (a ∷ b ∷ 58 ∷ d ∷ e ∷ 58 ∷ []) ++ t) seconds
          ∙ ap (λ (x : ℕ). a ∷ b ∷ x ∷ d ∷ e ∷ 58 ∷ g ∷ h ∷ []) (sym (eqb-true c 58 colon))
          ∙ ap (λ (x : ℕ). a ∷ b ∷ c ∷ d ∷ e ∷ x ∷ g ∷ h ∷ []) (sym (eqb-true f 58 colon')));
    }

clock_written : (text : List ℕ) (s : ℕ) → clock_said text ≡ Some s → Clock text s
clock_written (a ∷ b ∷ c ∷ d ∷ e ∷ f ∷ g ∷ h ∷ []) s is =
    let t = chosen (((c == 58) && (f == 58)) && are_clock_digits a b d e g h) (Some (number_of a b * 3600 + number_of d e * 60 + number_of g h)) s is in
    let u = and_parts ((c == 58) && (f == 58)) (are_clock_digits a b d e g h) t.0 in
    let v = and_parts (c == 58) (f == 58) u.0 in
    clock_of_eight a b c d e f g h s v.0 v.1 u.1 (some_number _ s t.1)
clock_written _ s is = absurd (none≢some s is)

-- what a clock's text says is below 100 hours, and written there
pub clock_in_range : (text : List ℕ) (said : Option ℕ) → said ≡ clock_said text → IfSome said (λ s. s < 360_000)
clock_in_range text (Some s) e = (clock_written text s (sym e)).small
clock_in_range text None e = tt

pub clock_is_text : (text : List ℕ) (said : Option ℕ) → said ≡ clock_said text → IfSome said (λ s. text ≡ clock_text_of s)
clock_is_text text (Some s) e = (clock_written text s (sym e)).written
clock_is_text text None e = tt

-- each number of a clock is of two digits
pub clock_pairs : (a b d e g h : ℕ) → are_clock_digits a b d e g h ≡ true
    → (list_all is_ascii_digit (a ∷ b ∷ []) ≡ true) × (list_all is_ascii_digit (d ∷ e ∷ []) ≡ true) × (list_all is_ascii_digit (g ∷ h ∷ []) ≡ true)
clock_pairs a b d e g h test =
    let t = and_parts (list_all is_ascii_digit (a ∷ b ∷ d ∷ e ∷ g ∷ h ∷ [])) (nat_lt (number_of d e) 60 && nat_lt (number_of g h) 60) test in
    let p0 = first a (b ∷ d ∷ e ∷ g ∷ h ∷ []) t.0 in
    let p1 = first b (d ∷ e ∷ g ∷ h ∷ []) p0.1 in
    let p2 = first d (e ∷ g ∷ h ∷ []) p1.1 in
    let p3 = first e (g ∷ h ∷ []) p2.1 in
    (and_first a (b ∷ []) p0.0 (and_first b [] p1.0 refl), and_first d (e ∷ []) p2.0 (and_first e [] p3.0 refl), p3.1)

six_digits : (h m s : ℕ) → h < 100 → m < 60 → s < 60
    → are_clock_digits (48 + h / 10) (48 + h % 10) (48 + m / 10) (48 + m % 10) (48 + s / 10) (48 + s % 10) ≡ true
six_digits h m s hl ml sl =
    let mv = two_value m (omega (arith, ml)) in
    let sv = two_value s (omega (arith, sl)) in
    and_from _ _ (two_more h (two_digits m ++ two_digits s) hl (two_more m (two_digits s) (omega (arith, ml)) (two_more s [] (omega (arith, sl)) refl)))
    (and_from _ _ (lt-ltb (digits_value 10 (two_digits m)) 60 (omega (arith, mv, ml))) (lt-ltb (digits_value 10 (two_digits s)) 60 (omega (arith, sv, sl))))

clock_of : (s : ℕ) → s < 360_000 → clock_said (clock_text_of s) ≡ Some s
clock_of s lt =
    let h : s / 3600 < 100 = omega (arith, lt) in
    let hv = two_value (s / 3600) h in
    let mv = two_value (s / 60 % 60) (omega arith) in
    let sv = two_value (s % 60) (omega arith) in
    let sum : digits_value 10 (two_digits (s / 3600)) * 3600 + digits_value 10 (two_digits (s / 60 % 60)) * 60 + digits_value 10 (two_digits (s % 60)) ≡ s = omega (arith, hv, mv, sv) in
    rw (six_digits (s / 3600) (s / 60 % 60) (s % 60) h (omega arith) (omega arith)) (ap Some sum)

-- seconds that a text says are written there
time_written : (text : List ℕ) (seconds : ℕ) → gtfs_time_said text ≡ Some seconds → SaysGtfsTime text seconds
time_written text seconds e = elim (cases_Bool (length text == 7)) [
  | inl seven ↦
      let c = clock_written (48 ∷ text) seconds (sym (ap (λ (b : Bool). clock_said (cond b (48 ∷ text) text)) seven) ∙ e) in
      record { in_range = c.small; written = inr c.written }
  | inr other ↦
      let c = clock_written text seconds (sym (ap (λ (b : Bool). clock_said (cond b (48 ∷ text) text)) other) ∙ e) in
      record { in_range = c.small; written = inl c.written }
]

-- and those that are written there are said
time_read : (text : List ℕ) (seconds : ℕ) → SaysGtfsTime text seconds → gtfs_time_said text ≡ Some seconds
time_read text seconds says = elim says.written [
  | inl e ↦ ap gtfs_time_said e ∙ clock_of seconds says.in_range
  | inr e ↦
      let size : length (48 ∷ text) ≡ 8 = ap length e in
      let seven : (length text == 7) ≡ true = eq-eqb (length text) 7 (omega (arith, size)) in
      ap (λ (b : Bool). clock_said (cond b (48 ∷ text) text)) seven ∙ ap clock_said e ∙ clock_of seconds says.in_range
]

pub times_said : TimeSaid
times_said text seconds = (time_written text seconds, time_read text seconds)
