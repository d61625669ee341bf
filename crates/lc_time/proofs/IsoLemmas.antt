-- The parts of a text that says a moment.
use Rattle.std.proofs.Common.{◌≡◌, ℕ, ◌<◌, ◌≤◌, ◌/◌, ◌%◌, List, ◌∷◌, ◌++◌, length, take, drop, get_or, codes, Option, Some, None, IfSome, subst, inr, refl, sym, ap, ◌∙◌, ◌⊎◌, rules, arith}
use Rattle.std.proofs.lemmas.List.{take-append-drop, drop-drop, take_all}
use Rattle.std.proofs.Common.{◌-◌, length-drop, drop-cons}
use Rattle.lc_time.specs.Calendar.{day_at}
use Rattle.lc_time.specs.Clock.{clock_text_of}
use Rattle.lc_time.specs.Iso.{day_text_of, iso_text_of, SaysMoment, IsFraction}

thousandths : IsFraction (codes ".000Z")
thousandths = record {
  tenths = 48;
  hundredths = 48;
  thousandths = 48;
  tenths_digit = search rules;
  hundredths_digit = search rules;
  thousandths_digit = search rules;
  written = refl;
}

-- the text of a moment says the moment
pub says_text : (m : ℕ) → m < 253_402_128_000 → SaysMoment (iso_text_of m) m
says_text m bound = record { rest = codes ".000Z"; in_range = bound; written = refl; ended = inr thousandths }

-- a text around its eleventh byte
joined : (text : List ℕ) → 19 ≤ length text → get_or text 10 0 ≡ 84 → text ≡ take 10 text ++ (84 ∷ (take 8 (drop 11 text) ++ drop 19 text))
joined text long mark =
    let cut : drop 10 text ≡ 84 ∷ drop 11 text = drop-cons text 10 0 (omega arith) ∙ ap (λ (b : ℕ). b ∷ drop 11 text) mark in
    let clock : drop 11 text ≡ take 8 (drop 11 text) ++ drop 19 text = sym (take-append-drop 8 (drop 11 text)) ∙ ap (λ (e : List ℕ). take 8 (drop 11 text) ++ e) (drop-drop 8 11 text) in
    sym (take-append-drop 10 text) ∙ ap (λ (r : List ℕ). take 10 text ++ r) (cut ∙ ap (λ (r : List ℕ). 84 ∷ r) clock)

-- a slice to the end is the rest
pub to_end : (text : List ℕ) → take (length text - 19) (drop 19 text) ≡ drop 19 text
to_end text = take_all _ _ (omega (arith, length-drop {A = ℕ}))

-- what the parts of the text say, the text says
pub said_at : (r days seconds : Option ℕ) (text : List ℕ) → IfSome r (λ m. m < 253_402_128_000) → IfSome r (λ m. (days ≡ Some (m / 86_400)) × (seconds ≡ Some (m % 86_400))) → IfSome days (λ d. take 10 text ≡ day_text_of (day_at d)) → IfSome seconds (λ s. take 8 (drop 11 text) ≡ clock_text_of s) → 19 ≤ length text → get_or text 10 0 ≡ 84 → (drop 19 text ≡ codes "Z") ⊎ IsFraction (drop 19 text) → IfSome r (SaysMoment text)
said_at None days seconds text bound parts day clock long mark ended = tt
said_at (Some m) days seconds text bound parts day clock long mark ended =
    let day' : take 10 text ≡ day_text_of (day_at (m / 86_400)) = subst (λ (d : Option ℕ). IfSome d (λ d. take 10 text ≡ day_text_of (day_at d))) parts.0 day in
    let clock' : take 8 (drop 11 text) ≡ clock_text_of (m % 86_400) = subst (λ (s : Option ℕ). IfSome s (λ s. take 8 (drop 11 text) ≡ clock_text_of s)) parts.1 clock in
    record {
      rest = drop 19 text;
      in_range = bound;
      written = joined text long mark ∙ ap (λ (d : List ℕ). d ++ (84 ∷ (take 8 (drop 11 text) ++ drop 19 text))) day' ∙ ap (λ (k : List ℕ). day_text_of (day_at (m / 86_400)) ++ (84 ∷ (k ++ drop 19 text))) clock';
      ended = ended;
    }

-- the day of a text that says the moment
pub day_said : (text : List ℕ) (m : ℕ) → SaysMoment text m → take 10 text ≡ day_text_of (day_at (m / 86_400))
day_said text m says = ap (take 10) says.written

-- and its time of day
pub clock_said : (text : List ℕ) (m : ℕ) → SaysMoment text m → take 8 (drop 11 text) ≡ clock_text_of (m % 86_400)
clock_said text m says = ap (λ (t : List ℕ). take 8 (drop 11 t)) says.written
