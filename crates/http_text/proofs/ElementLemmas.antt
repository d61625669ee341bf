-- The elements of a list are what comes before its first comma, and those of what comes after it.
use Rattle.std.proofs.Common.{◌≡◌, ℕ, ◌+◌, ◌-◌, ◌<◌, ◌≤◌, Bool, true, false, cond, List, [], ◌∷◌, ◌++◌, length, get_or, take, drop, refl, sym, ap, ◌∙◌, arith, add-one, append_assoc, append-nil, length-drop, drop-cons}
use Rattle.std.proofs.lemmas.Bool.{cond-true, cond-false}
use Rattle.std.proofs.lemmas.List.{take_more, take_all, drop_all}
use Rattle.http_text.specs.declared.connection.Quoting.{Quoting}
use Rattle.http_text.specs.declared.connection.Quoting.TheVariants.{Outside}
use Rattle.http_text.specs.Elements.{elements, is_part, quoting_after, onto_first}

-- these bytes begin the first element
abbrev pub with_front : List ℕ → List (List ℕ) → List (List ℕ)
with_front front [] = front ∷ []
with_front front (element ∷ others) = (front ++ element) ∷ others

at_comma : (q : Quoting) (b : ℕ) (bs : List ℕ) → is_part q b ≡ true → elements q (b ∷ bs) ≡ [] ∷ elements Outside bs
unfolding elements
at_comma q b bs is = cond-true _ _ _ is

past : (q : Quoting) (b : ℕ) (bs : List ℕ) → is_part q b ≡ false → elements q (b ∷ bs) ≡ onto_first b (elements (quoting_after q b) bs)
unfolding elements
past q b bs is = cond-false _ _ _ is

at_end : (q : Quoting) → elements q [] ≡ [] ∷ []
unfolding elements
at_end q = refl

onto_front : (front : List ℕ) (b : ℕ) (ms : List (List ℕ)) → with_front front (onto_first b ms) ≡ with_front (front ++ b ∷ []) ms
onto_front front b [] = refl
onto_front front b (m ∷ ms) = ap (λ (x : List ℕ). x ∷ ms) (sym (append_assoc front (b ∷ []) m))

onto_some : (b : ℕ) (ms : List (List ℕ)) → 0 < length (onto_first b ms)
onto_some b [] = omega arith
onto_some b (m ∷ ms) = omega arith

either_some : (t : Bool) (b : ℕ) (xs ys : List (List ℕ)) → 0 < length (cond t ([] ∷ xs) (onto_first b ys))
either_some true b xs ys = omega arith
either_some false b xs ys = onto_some b ys

some : (q : Quoting) (list : List ℕ) → 0 < length (elements q list)
unfolding elements
some q [] = omega arith
some q (b ∷ bs) = either_some (is_part q b) b (elements Outside bs) (elements (quoting_after q b) bs)

with_none : (ms : List (List ℕ)) → 0 < length ms → with_front [] ms ≡ ms
with_none [] h = absurd (omega arith)
with_none (m ∷ ms) h = refl

pub begins : (list : List ℕ) → with_front [] (elements Outside list) ≡ elements Outside list
begins list = with_none (elements Outside list) (some Outside list)

-- what is left is from this byte on
here : (list : List ℕ) (at : ℕ) → at < length list → drop at list ≡ get_or list at 0 ∷ drop (at + 1) list
here list at lt = rw (add-one, drop-cons list at 0) refl

pub goes_on : (list : List ℕ) (at : ℕ) (q : Quoting) (total : List (List ℕ)) → at < length list → is_part q (get_or list at 0) ≡ false → with_front (take at list) (elements q (drop at list)) ≡ total → with_front (take (at + 1) list) (elements (quoting_after q (get_or list at 0)) (drop (at + 1) list)) ≡ total
goes_on list at q total lt is so_far =
    let b = get_or list at 0 in
    let step = past q b (drop (at + 1) list) is in
    let one : with_front (take at list) (elements q (drop at list)) ≡ with_front (take at list ++ b ∷ []) (elements (quoting_after q b) (drop (at + 1) list)) =
    ap (λ (x : List ℕ). with_front (take at list) (elements q x)) (here list at lt) ∙ ap (with_front (take at list)) step ∙ onto_front (take at list) b (elements (quoting_after q b) (drop (at + 1) list)) in
    ap (λ (x : List ℕ). with_front x (elements (quoting_after q b) (drop (at + 1) list))) (take_more list at 0 lt) ∙ sym one ∙ so_far

pub parted : (list : List ℕ) (at : ℕ) (q : Quoting) (total : List (List ℕ)) → at < length list → is_part q (get_or list at 0) ≡ true → with_front (take at list) (elements q (drop at list)) ≡ total → total ≡ take at list ∷ elements Outside (take (length list - (at + 1)) (drop (at + 1) list))
parted list at q total lt is so_far =
    let b = get_or list at 0 in
    let rest : List ℕ = drop (at + 1) list in
    let end : take (length list - (at + 1)) rest ≡ rest = take_all (length list - (at + 1)) rest (omega (arith, length-drop {A = ℕ})) in
    sym so_far ∙ ap (λ (x : List ℕ). with_front (take at list) (elements q x)) (here list at lt)
    ∙ ap (with_front (take at list)) (at_comma q b rest is)
    ∙ ap (λ (x : List ℕ). x ∷ elements Outside rest) (append-nil (take at list))
    ∙ ap (λ (x : List ℕ). take at list ∷ elements Outside x) (sym end)

pub ended : (list : List ℕ) (at : ℕ) (q : Quoting) (total : List (List ℕ)) → length list ≤ at → with_front (take at list) (elements q (drop at list)) ≡ total → total ≡ list ∷ []
ended list at q total le so_far =
    sym so_far ∙ ap (λ (x : List ℕ). with_front (take at list) (elements q x)) (drop_all at list le)
    ∙ ap (with_front (take at list)) (at_end q)
    ∙ ap (λ (x : List ℕ). x ∷ []) (append-nil (take at list) ∙ take_all at list le)
