-- A line grows by its plain arguments, by its options and by its flags.
use Rattle.std.proofs.Common.{◌≡◌, ◌∙◌, ℕ, ◌+◌, ◌<◌, List, [], ◌∷◌, ◌++◌, ap, ap₂, inl, inr, refl, subst, sym, map, take, length, get_or, arith, All, String, append_assoc}
use Rattle.std.proofs.lemmas.List.{get_or-map, length-map, take_more}
use Rattle.std.specs.String.{string_bytes}
use Rattle.std.specs.declared.alloc.Global.{Global}
use Rattle.std.specs.Borrow.{Bor}
use Rattle.clap.specs.Simple.{App, on_top, with_rule}
use Rattle.clap.specs.Walk.{Rule, Text}
use Rattle.clap.specs.Faults.{fault_of}
use Rattle.clap.specs.Kinds.{HasKind, IsAmong}
use Rattle.clap.specs.Values.{kind_of}
use Rattle.clap.specs.declared.error.Error.{Error}
use Rattle.clap.specs.declared.error.kind.ErrorKind.TheVariants.{OutOfMemory}
use Rattle.cli_words.specs.Line.{Takes, flagged, line, named, placed, texts_of}

-- a map goes over the parts of a list
pub map_parts : {X Y : Type 0} (f : X → Y) (xs ys : List X) → map f (xs ++ ys) ≡ map f xs ++ map f ys
map_parts f [] ys = refl
map_parts f (x ∷ xs) ys = ap (λ rest. f x ∷ rest) (map_parts f xs ys)

nothing_more : {X : Type 0} (xs : List X) → xs ++ [] ≡ xs
nothing_more [] = refl
nothing_more (x ∷ xs) = ap (λ rest. x ∷ rest) (nothing_more xs)

pub one_more_place : (name : Text) (places : List Text) (place : Text) → with_rule (line name places [] []) (placed place) ≡ line name (places ++ place ∷ []) [] []
unfolding line
one_more_place name places place =
    let rules : map placed places ++ [] ++ [] ++ placed place ∷ [] ≡ map placed (places ++ place ∷ []) ++ [] ++ [] =
    ap (λ front. front ++ placed place ∷ []) (nothing_more (map placed places ++ []) ∙ nothing_more (map placed places))
    ∙ sym (map_parts placed places (place ∷ [])) ∙ sym (nothing_more _) ∙ sym (nothing_more _) in
    ap (λ rules. on_top (λ s. record s { rules = rules }) (line name places [] [])) rules

pub one_more_option : (name : Text) (places options : List Text) (option : Text) → with_rule (line name places options []) (named option) ≡ line name places (options ++ option ∷ []) []
unfolding line
one_more_option name places options option =
    let rules : map placed places ++ map named options ++ [] ++ named option ∷ [] ≡ map placed places ++ map named (options ++ option ∷ []) ++ [] =
    ap (λ front. front ++ named option ∷ []) (nothing_more (map placed places ++ map named options))
    ∙ append_assoc (map placed places) (map named options) _ ∙ ap (λ back. map placed places ++ back) (sym (map_parts named options (option ∷ [])))
    ∙ sym (nothing_more _) in
    ap (λ rules. on_top (λ s. record s { rules = rules }) (line name places options [])) rules

pub one_more_flag : (name : Text) (places options flags : List Text) (flag : Text) → with_rule (line name places options flags) (flagged flag) ≡ line name places options (flags ++ flag ∷ [])
unfolding line
one_more_flag name places options flags flag =
    let front : List Rule = map placed places ++ map named options in
    let rules : front ++ map flagged flags ++ flagged flag ∷ [] ≡ front ++ map flagged (flags ++ flag ∷ []) =
    append_assoc front (map flagged flags) _ ∙ ap (λ back. front ++ back) (sym (map_parts flagged flags (flag ∷ []))) in
    ap (λ rules. on_top (λ s. record s { rules = rules }) (line name places options flags)) rules

-- the texts of one reference more
one_more : (xs : List (Bor Text)) (i : ℕ) (d : Bor Text) → i < length xs → map (λ s. s.now) (take i xs) ++ (get_or xs i d).now ∷ [] ≡ map (λ s. s.now) (take (i + 1) xs)
one_more xs i d lt = sym (ap (map (λ s. s.now)) (take_more xs i d lt) ∙ map_parts (λ s. s.now) (take i xs) (get_or xs i d ∷ []))

-- a line with the plain arguments before a place, and that argument more
pub next_place : (name : Text) (xs : List (Bor Text)) (i : ℕ) (d : Bor Text) (old new : App) (rule : Rule) → i < length xs → old ≡ line name (map (λ s. s.now) (take i xs)) [] [] → rule ≡ placed (get_or xs i d).now → new ≡ with_rule old rule → new ≡ line name (map (λ s. s.now) (take (i + 1) xs)) [] []
next_place name xs i d old new rule lt was is grows =
    grows ∙ ap₂ with_rule was is ∙ one_more_place name _ _ ∙ ap (λ places. line name places [] []) (one_more xs i d lt)

pub next_option : (name : Text) (places : List Text) (xs : List (Bor Text)) (i : ℕ) (d : Bor Text) (old new : App) (rule : Rule) → i < length xs → old ≡ line name places (map (λ s. s.now) (take i xs)) [] → rule ≡ named (get_or xs i d).now → new ≡ with_rule old rule → new ≡ line name places (map (λ s. s.now) (take (i + 1) xs)) []
next_option name places xs i d old new rule lt was is grows =
    grows ∙ ap₂ with_rule was is ∙ one_more_option name places _ _ ∙ ap (λ options. line name places options []) (one_more xs i d lt)

pub next_flag : (name : Text) (places options : List Text) (xs : List (Bor Text)) (i : ℕ) (d : Bor Text) (old new : App) (rule : Rule) → i < length xs → old ≡ line name places options (map (λ s. s.now) (take i xs)) → rule ≡ flagged (get_or xs i d).now → new ≡ with_rule old rule → new ≡ line name places options (map (λ s. s.now) (take (i + 1) xs))
next_flag name places options xs i d old new rule lt was is grows =
    grows ∙ ap₂ with_rule was is ∙ one_more_flag name places options _ _ ∙ ap (λ flags. line name places options flags) (one_more xs i d lt)

-- what `clap` refuses for another cause than memory, it does not take
pub refused : (a : App) (words : List Text) (e : Error) → (kind_of e ≡ OutOfMemory → ⊥) → HasKind (fault_of a words) e → Takes a words → ⊥
unfolding Takes
refused a words e other (inl memory) taken = other memory
refused a words e other (inr among) taken = subst (IsAmong (kind_of e)) taken among

-- what holds of the texts of arguments holds of the arguments
pub of_words : (P : List ℕ → Type 0) (words : List (String Global)) → All P (texts_of words) → All (λ word. P (string_bytes word)) words
of_words P words all k d lt =
    let inside : k < length (texts_of words) = omega (arith, length-map words string_bytes) in
    subst P (get_or-map string_bytes words k d (string_bytes d) lt) (all k (string_bytes d) inside)
