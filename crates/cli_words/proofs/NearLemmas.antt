-- Arguments near those of a line.
use Rattle.std.proofs.Common.{◌≡◌, ◌≢◌, List, [], ◌∷◌, ◌++◌, codes, All, arith, refl, subst, sym}
use Rattle.std.proofs.lemmas.List.Elements.{All-tail}
use Rattle.clap.specs.Walk.{Text}
use Rattle.cli_words.specs.Grammar as g
use Rattle.cli_words.specs.Grammar.{IsDashWord, IsOptionWord, IsPlainWord, Reads, Value}
use Rattle.cli_words.specs.Laws.{DashWordsAreOptions}
use Rattle.cli_words.proofs.GrammarReadsLemmas.{lines_are_words}

heads : (a b : Text) (xs ys : List Text) → a ∷ xs ≡ b ∷ ys → a ≡ b
heads a b xs ys e = cc

tails : (a b : Text) (xs ys : List Text) → a ∷ xs ≡ b ∷ ys → xs ≡ ys
tails a b xs ys e = cc

empty : (front : List Text) (word : Text) (back : List Text) → [] ≡ front ++ word ∷ back → ⊥
empty [] word back e = absurd (cc e)
empty (x ∷ xs) word back e = absurd (cc e)

no_plain : (word : Text) → IsPlainWord word → IsDashWord word → ⊥
no_plain [] is dash = let e = dash.1 in absurd (cc e)
no_plain (x ∷ xs) is dash = let e = dash.1 in is (cc e)

abbrev NoDashes : List Text → Type 0
NoDashes front = All (λ word. word ≢ codes "--") front

first : (x : Text) (xs : List Text) → NoDashes (x ∷ xs) → x ≢ codes "--"
first x xs all = all 0 x (omega arith)

near : {options flags places words : List Text} {values : List Value} → Reads options flags places words values → (front : List Text) (word : Text) (back : List Text)
    → words ≡ front ++ word ∷ back → NoDashes front → IsDashWord word → IsOptionWord options flags word
near g.ended front word back e no_dashes dash = absurd (empty front word back e)
near (g.trailing {words} r) [] word back e no_dashes dash = absurd (dash.2 (sym (heads (codes "--") word words back e)))
near (g.trailing {words} r) (x ∷ xs) word back e no_dashes dash = absurd (first x xs no_dashes (sym (heads (codes "--") x words (xs ++ word ∷ back) e)))
near (g.plain {word = w} {words} is r) [] word back e no_dashes dash = absurd (no_plain word (subst IsPlainWord (heads w word words back e) is) dash)
near (g.plain {word = w} {words} is r) (x ∷ xs) word back e no_dashes dash =
    near r xs word back (tails w x words (xs ++ word ∷ back) e) (All-tail (λ word. word ≢ codes "--") x xs no_dashes) dash
near {options} {flags} (g.apart {name} {value} {words} among is r) [] word back e no_dashes dash =
    subst (IsOptionWord options flags) (heads (codes "--" ++ name) word (value ∷ words) back e) (g.alone among)
near (g.apart {name} {value} {words} among is r) (x ∷ []) word back e no_dashes dash =
    let e' = tails (codes "--" ++ name) x (value ∷ words) (word ∷ back) e in
    absurd (no_plain word (subst IsPlainWord (heads value word words back e') is) dash)
near (g.apart {name} {value} {words} among is r) (x ∷ y ∷ ys) word back e no_dashes dash =
    let e' = tails (codes "--" ++ name) x (value ∷ words) (y ∷ ys ++ word ∷ back) e in
    let rest = All-tail (λ word. word ≢ codes "--") x (y ∷ ys) no_dashes in
    near r ys word back (tails value y words (ys ++ word ∷ back) e') (All-tail (λ word. word ≢ codes "--") y ys rest) dash
near {options} {flags} (g.joined {name} {value} {words} among r) [] word back e no_dashes dash =
    subst (IsOptionWord options flags) (heads (codes "--" ++ name ++ codes "=" ++ value) word words back e) (g.with_value name value among)
near (g.joined {name} {value} {words} among r) (x ∷ xs) word back e no_dashes dash =
    near r xs word back (tails (codes "--" ++ name ++ codes "=" ++ value) x words (xs ++ word ∷ back) e) (All-tail (λ word. word ≢ codes "--") x xs no_dashes) dash
near {options} {flags} (g.flag {name} {words} among r) [] word back e no_dashes dash =
    subst (IsOptionWord options flags) (heads (codes "--" ++ name) word words back e) (g.switch among)
near (g.flag {name} {words} among r) (x ∷ xs) word back e no_dashes dash =
    near r xs word back (tails (codes "--" ++ name) x words (xs ++ word ∷ back) e) (All-tail (λ word. word ≢ codes "--") x xs no_dashes) dash

pub dash_words : DashWordsAreOptions
dash_words name places options flags table front word back no_dashes dash utf8 is =
    near (lines_are_words name places options flags table (front ++ word ∷ back) utf8 is).1.reads front word back refl no_dashes dash
