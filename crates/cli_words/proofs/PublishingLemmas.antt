-- Arguments say one way to publish.
use Rattle.std.proofs.Common.{◌≡◌, ◌∙◌, ℕ, ◌≤◌, List, ◌++◌, get_or, codes, ap, arith, sym}
use Rattle.std.proofs.Props.{props}
use Rattle.std.proofs.lemmas.List.{append_cancel_left}
use Rattle.clap.specs.Simple.{App}
use Rattle.connection_uri.specs.Base.{BaseParts, base_of}
use Rattle.fragmenter.specs.declared.by_count.ByCount.{ByCount}
use Rattle.fragmenter.specs.declared.by_span.BySpan.{BySpan}
use Rattle.fragmenter.specs.declared.cutting.Cutting.{Cutting}
use Rattle.fragmenter.specs.declared.cutting.Cutting.TheVariants as ways
use Rattle.lc_time.proofs.OneTextLemmas.{one_moment}
use Rattle.cli_words.specs.Options.{bounded_said}
use Rattle.cli_words.specs.Publishing.{SaysBase, SaysBehind, SaysCutting, SaysPublishingOr}
use Rattle.cli_words.specs.declared.command.Publishing.{Publishing}
use Rattle.cli_words.proofs.MadeLemmas.{same_made}
use Rattle.cli_words.proofs.WordsLemmas.{same_number}

-- after a front comes one number
one_behind : (front : List ℕ) (low high : ℕ) (text : List ℕ) (a b : ℕ) → SaysBehind front low high text a → SaysBehind front low high text b → a ≡ b
one_behind front low high text a b p q =
    let digits = append_cancel_left front p.digits q.digits (sym p.written ∙ q.written) in
    same_number a b (sym p.said ∙ ap (bounded_said low high) digits ∙ q.said)

-- a number from 1 to a bound
abbrev UpTo : ℕ → ℕ → Type 0
UpTo most n = (1 ≤ n) × (n ≤ most)

up_to_prop : (most n : ℕ) → IsProp (UpTo most n)
up_to_prop most n = hlevel props

abbrev span_of : (seconds : ℕ) → UpTo 86_400 seconds → BySpan
span_of seconds is = record { seconds = seconds; at_least = is.0; at_most = is.1 }

same_span : (a b : BySpan) → a.seconds ≡ b.seconds → a ≡ b
same_span a b same =
    same_made (UpTo 86_400) (up_to_prop 86_400) span_of a.seconds b.seconds (a.at_least, a.at_most) (b.at_least, b.at_most) same

abbrev count_of : (count : ℕ) → UpTo 1_000_000 count → ByCount
count_of count is = record { count = count; at_least = is.0; at_most = is.1 }

same_count : (a b : ByCount) → a.count ≡ b.count → a ≡ b
same_count a b same =
    same_made (UpTo 1_000_000) (up_to_prop 1_000_000) count_of a.count b.count (a.at_least, a.at_most) (b.at_least, b.at_most) same

-- texts that begin with other letters are others
not_whole_span : (rest : List ℕ) → codes "whole" ≡ codes "span:" ++ rest → ⊥
not_whole_span rest e = let first : 119 ≡ 115 = ap (λ (text : List ℕ). get_or text 0 0) e in absurd (omega (arith, first))

not_whole_count : (rest : List ℕ) → codes "whole" ≡ codes "count:" ++ rest → ⊥
not_whole_count rest e = let first : 119 ≡ 99 = ap (λ (text : List ℕ). get_or text 0 0) e in absurd (omega (arith, first))

not_span_count : (rest rest' : List ℕ) → codes "span:" ++ rest ≡ codes "count:" ++ rest' → ⊥
not_span_count rest rest' e = let first : 115 ≡ 99 = ap (λ (text : List ℕ). get_or text 0 0) e in absurd (omega (arith, first))

pub one_cutting : (text : List ℕ) (a b : Cutting) → SaysCutting text a → SaysCutting text b → a ≡ b
one_cutting text (ways.Span a) (ways.Span b) p q = ap (λ (way : BySpan). ways.Span way) (same_span a b (one_behind _ _ _ text a.seconds b.seconds p q))
one_cutting text (ways.Span a) (ways.Count b) p q = absurd (not_span_count p.digits q.digits (sym p.written ∙ q.written))
one_cutting text (ways.Span a) ways.Whole p q = absurd (not_whole_span p.digits (sym q ∙ p.written))
one_cutting text (ways.Count a) (ways.Span b) p q = absurd (not_span_count q.digits p.digits (sym q.written ∙ p.written))
one_cutting text (ways.Count a) (ways.Count b) p q = ap (λ (way : ByCount). ways.Count way) (same_count a b (one_behind _ _ _ text a.count b.count p q))
one_cutting text (ways.Count a) ways.Whole p q = absurd (not_whole_count p.digits (sym q ∙ p.written))
one_cutting text ways.Whole (ways.Span b) p q = absurd (not_whole_span q.digits (sym p ∙ q.written))
one_cutting text ways.Whole (ways.Count b) p q = absurd (not_whole_count q.digits (sym p ∙ q.written))
one_cutting text ways.Whole ways.Whole p q = λ i. ways.Whole

pub one_base_said : (text : List ℕ) (a b : BaseParts) → SaysBase text a → SaysBase text b → a ≡ b
one_base_said text a b p q =
    let read = sym p.reads.parsed ∙ q.reads.parsed in
    let one : p.url ≡ q.url = cc in
    p.is ∙ ap base_of one ∙ sym q.is

pub one_publishing : (default_base : List ℕ) (a : App) (words : List (List ℕ)) (x y : Publishing) → SaysPublishingOr default_base a words x → SaysPublishingOr default_base a words y → x ≡ y
one_publishing default_base a words x y p q =
    let base = one_base_said _ x.base y.base p.base_said q.base_said in
    let moment = one_moment _ x.base_moment y.base_moment p.moment_said q.moment_said in
    let cutting = one_cutting _ x.cutting y.cutting p.cutting_said q.cutting_said in
    λ i. record { base = base i; base_moment = moment i; cutting = cutting i }
