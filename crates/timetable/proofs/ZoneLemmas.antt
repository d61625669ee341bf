-- What comes after a front in a text.
use Rattle.std.proofs.Common.{◌≡◌, ◌∙◌, ℕ, List, ◌++◌, length, take, take-append-drop, drop, Bool, true, false, cond, Option, Some, None, ap, sym, refl}
use Rattle.std.specs.Prelude.{MatchOption}
use Rattle.std.specs.Option.{option_copied}
use Rattle.std.specs.Str.{bytes_eq}
use Rattle.std.specs.Str.Pattern.{FindsTextPrefix, StripsPrefix}
use Rattle.std.proofs.lemmas.Slice.Eq.{bytes_eq-Decides}
use lib.Seq.{take-append_seam}
use Rattle.service_days.specs.ZoneWord.{behind}
use denote.Ref.{Bor}

parted : (same : Bool) (rest : List ℕ) → same ≡ true → Some rest ≡ cond same (Some rest) None
parted true rest e = refl
parted false rest e = cc

not_parted : (same : Bool) (rest : List ℕ) → (same ≡ true → ⊥) → None ≡ cond same (Some rest) None
not_parted true rest e = absurd (e refl)
not_parted false rest e = refl

-- what is left of a text without a front is what comes after it
pub stripped : (front text : List ℕ) (found : Option (Bor (List ℕ)))
    → MatchOption found (FindsTextPrefix front text None) (λ rest. StripsPrefix (FindsTextPrefix front) text rest.now)
    → option_copied found ≡ behind front text
stripped front text None lacks =
    not_parted (bytes_eq (take (length front) text) front) (drop (length front) text)
    (λ same. lacks (drop (length front) text) (sym (take-append-drop (length front) text) ∙ ap (λ t. t ++ drop (length front) text) ((bytes_eq-Decides (take (length front) text) front).0 same)))
stripped front text (Some rest) (n, is, left, long) =
    let here : rest.now ≡ drop (length front) text = left ∙ ap (λ k. drop k text) is.0 in
    ap Some here ∙ parted (bytes_eq (take (length front) text) front) (drop (length front) text)
    ((bytes_eq-Decides (take (length front) text) front).1 (ap (take (length front)) is.1 ∙ take-append_seam front (drop n text)))
