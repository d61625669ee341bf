-- How far pieces were read.
use Rattle.std.proofs.Common.{◌≡◌, ◌≢◌, ◌∙◌, ℕ, ◌+◌, ◌<◌, ◌≤◌, ◌==◌, zero, suc, Bool, if◌then◌else◌, List, [], ◌∷◌, ◌++◌, length, take, drop, get_or, min, refl, sym, ap, subst, arith, append_assoc, append-nil, take_all, take-append-drop, take-add, drop-drop, length-drop, eq-eqb, ne_eqb}
use Rattle.std.specs.List.{concat, slice_index_or}
use Rattle.lc_io.specs.MemWire.{MemWireState, ReadsPiece, TakesPiece, left_of, read_of}
use Rattle.lc_io.specs.Pieces.{NoneIsEmpty}

-- none of the later ones is empty either
pub none_empty-rest : (piece : List ℕ) (rest : List (List ℕ)) → NoneIsEmpty (piece ∷ rest) → (k : ℕ) (d : List ℕ) → k < length rest → slice_index_or rest k d ≢ []
none_empty-rest piece rest all k d within = all (suc k) d (omega arith)

-- one more that is not empty
pub none_empty-more : (piece : List ℕ) (rest : List (List ℕ)) → piece ≢ [] → NoneIsEmpty rest → (k : ℕ) (d : List ℕ) → k < length (piece ∷ rest) → slice_index_or (piece ∷ rest) k d ≢ []
none_empty-more piece rest first all zero d within = first
none_empty-more piece rest first all (suc k) d within = all k d (omega arith)

-- a connection that was read so far
abbrev pub wire_at : List (List ℕ) → ℕ → ℕ → List ℕ → Bool → Bool → MemWireState
wire_at pieces whole part sent failed read_failed = record { to_come = left_of pieces whole part; read = read_of pieces whole part; sent = sent; failed = failed; read_failed = read_failed }

-- what a read of a whole piece adds
read_whole : (pieces : List (List ℕ)) (whole part : ℕ) (rest : List ℕ) (more : List (List ℕ)) → left_of pieces whole part ≡ rest ∷ more
    → read_of pieces (suc whole) 0 ≡ read_of pieces whole part ++ rest
read_whole [] zero part rest more e = absurd (cc)
read_whole [] (suc whole) part rest more e = absurd (cc)
read_whole (piece ∷ pieces) zero part rest more e =
    let is : drop part piece ≡ rest = cc in
    append-nil (piece ++ []) ∙ (append-nil piece ∙ (sym (take-append-drop part piece) ∙ ap (λ (l : List ℕ). take part piece ++ l) is))
read_whole (piece ∷ pieces) (suc whole) part rest more e =
    let next = concat (take (suc whole) pieces) in
    let after = take 0 (get_or pieces (suc whole) []) in
    let before = concat (take whole pieces) in
    let partly = take part (get_or pieces whole []) in
    let later : next ++ after ≡ (before ++ partly) ++ rest = read_whole pieces whole part rest more e in
    append_assoc piece next after
    ∙ (ap (λ (l : List ℕ). piece ++ l) later
    ∙ (sym (append_assoc piece (before ++ partly) rest)
    ∙ ap (λ (l : List ℕ). l ++ rest) (sym (append_assoc piece before partly))))

-- what a read of a part of a piece adds
read_part : (pieces : List (List ℕ)) (whole part count : ℕ) (rest : List ℕ) (more : List (List ℕ)) → left_of pieces whole part ≡ rest ∷ more
    → read_of pieces whole (part + count) ≡ read_of pieces whole part ++ take count rest
read_part [] zero part count rest more e = absurd (cc)
read_part [] (suc whole) part count rest more e = absurd (cc)
read_part (piece ∷ pieces) zero part count rest more e =
    let is : drop part piece ≡ rest = cc in
    take-add part count piece ∙ ap (λ (l : List ℕ). take part piece ++ take count l) is
read_part (piece ∷ pieces) (suc whole) part count rest more e =
    let before = concat (take whole pieces) in
    let partly = take part (get_or pieces whole []) in
    let further = take (part + count) (get_or pieces whole []) in
    let later : before ++ further ≡ (before ++ partly) ++ take count rest = read_part pieces whole part count rest more e in
    append_assoc piece before further
    ∙ (ap (λ (l : List ℕ). piece ++ l) later
    ∙ (sym (append_assoc piece (before ++ partly) (take count rest))
    ∙ ap (λ (l : List ℕ). l ++ take count rest) (sym (append_assoc piece before partly))))

-- what a read of a part of a piece leaves
left_part : (pieces : List (List ℕ)) (whole part count : ℕ) (rest : List ℕ) (more : List (List ℕ)) → left_of pieces whole part ≡ rest ∷ more
    → left_of pieces whole (part + count) ≡ drop count rest ∷ more
left_part [] zero part count rest more e = absurd (cc)
left_part [] (suc whole) part count rest more e = absurd (cc)
left_part (piece ∷ pieces) zero part count rest more e =
    let is : drop part piece ≡ rest = cc in
    let others : pieces ≡ more = cc in
    ap (λ (l : List ℕ). l ∷ pieces) (sym (drop-drop count part piece) ∙ ap (drop count) is) ∙ ap (λ (l : List (List ℕ)). drop count rest ∷ l) others
left_part (piece ∷ pieces) (suc whole) part count rest more e = left_part pieces whole part count rest more e

-- the front of a buffer that a front was copied to
pub take_front : (n : ℕ) (xs ys : List ℕ) → n ≤ length xs → take n (take n xs ++ ys) ≡ take n xs
take_front zero xs ys within = refl
take_front (suc n) [] ys within = absurd (omega arith)
take_front (suc n) (x ∷ xs) ys within = ap (λ (l : List ℕ). x ∷ l) (take_front n xs ys (omega arith))

-- a list of some length is not empty
not_empty : (xs : List ℕ) → 0 < length xs → xs ≢ []
not_empty xs some is = absurd (omega (arith, ap length is))

some_there : (xs : List ℕ) → xs ≢ [] → 0 < length xs
some_there [] not = absurd (not refl)
some_there (x ∷ xs) not = omega arith

-- what a read does where the first piece to come is this one
pub reads_first : (rest : List ℕ) (more to_come_before to_come_after : List (List ℕ)) (read sent : List ℕ) (failed read_failed : Bool) (old new : List ℕ) (count : ℕ)
    → NoneIsEmpty to_come_before → to_come_before ≡ rest ∷ more → count ≡ min (length rest) (length old) → new ≡ take count rest ++ drop count old
    → length new ≡ length old
    → to_come_after ≡ (if count == length rest then more else drop count rest ∷ more)
    → ReadsPiece (record { to_come = to_come_before; read = read; sent = sent; failed = failed; read_failed = read_failed })
    (record { to_come = to_come_after; read = read ++ take count rest; sent = sent; failed = failed; read_failed = read_failed }) old new count
reads_first rest more before after read sent failed read_failed old new count none_empty is count_is new_is same_length after_is =
    let T : List (List ℕ) → Type 0 = λ l. TakesPiece l after old new count in
    let front : take count new ≡ take count rest = ap (take count) new_is ∙ take_front count rest (drop count old) (omega arith) in
    let N : List (List ℕ) → Type 0 = NoneIsEmpty in
    let all : NoneIsEmpty (rest ∷ more) = subst N is none_empty in
    let some : 0 < length rest = some_there rest (all 0 [] (omega arith)) in
    record {
      taken = subst T (sym is) (count_is, new_is, after_is);
      moved = ap (λ (l : List ℕ). record { to_come = after; read = read ++ l; sent = sent; failed = failed; read_failed = read_failed }) (sym front);
      ended = λ room none. absurd (omega arith);
    }

-- the first piece was read whole
pub reads_whole : (seen pieces : List (List ℕ)) (whole part : ℕ) (rest sent : List ℕ) (failed read_failed : Bool) (old new : List ℕ) (count : ℕ)
    → seen ≡ pieces → NoneIsEmpty (left_of pieces whole part) → left_of seen whole part ≡ rest ∷ left_of seen (whole + 1) 0
    → count ≡ min (length rest) (length old) → new ≡ take count rest ++ drop count old → length new ≡ length old → count ≡ length rest
    → ReadsPiece (wire_at pieces whole part sent failed read_failed) (wire_at pieces (whole + 1) 0 sent failed read_failed) old new count × NoneIsEmpty (left_of pieces (whole + 1) 0)
reads_whole seen pieces whole part rest sent failed read_failed old new count same none_empty e count_is new_is same_length all =
    let E : List (List ℕ) → Type 0 = λ l. left_of l whole part ≡ rest ∷ left_of l (whole + 1) 0 in
    let is : left_of pieces whole part ≡ rest ∷ left_of pieces (whole + 1) 0 = subst E same e in
    let more = left_of pieces (whole + 1) 0 in
    let N : List (List ℕ) → Type 0 = NoneIsEmpty in
    let R : List ℕ → Type 0 = λ l. ReadsPiece (wire_at pieces whole part sent failed read_failed) (record { to_come = more; read = l; sent = sent; failed = failed; read_failed = read_failed }) old new count in
    let next : suc whole ≡ whole + 1 = omega arith in
    let first : read_of pieces whole part ++ take count rest ≡ read_of pieces (whole + 1) 0 =
    ap (λ (l : List ℕ). read_of pieces whole part ++ l) (take_all count rest (omega arith)) ∙ (sym (read_whole pieces whole part rest more is) ∙ ap (λ (n : ℕ). read_of pieces n 0) next) in (
      subst R first (reads_first rest more (left_of pieces whole part) more (read_of pieces whole part) sent failed read_failed old new count none_empty is count_is new_is same_length
          (ap (λ (b : Bool). if b then more else drop count rest ∷ more) (sym (eq-eqb count (length rest) all)))),
      none_empty-rest rest more (subst N is none_empty),
    )

-- a part of the first piece was read
pub reads_part : (seen pieces : List (List ℕ)) (whole part : ℕ) (rest sent : List ℕ) (failed read_failed : Bool) (old new : List ℕ) (count : ℕ)
    → seen ≡ pieces → NoneIsEmpty (left_of pieces whole part) → left_of seen whole part ≡ rest ∷ left_of seen (whole + 1) 0
    → count ≡ min (length rest) (length old) → new ≡ take count rest ++ drop count old → length new ≡ length old → count ≢ length rest
    → ReadsPiece (wire_at pieces whole part sent failed read_failed) (wire_at pieces whole (part + count) sent failed read_failed) old new count × NoneIsEmpty (left_of pieces whole (part + count))
reads_part seen pieces whole part rest sent failed read_failed old new count same none_empty e count_is new_is same_length not_all =
    let E : List (List ℕ) → Type 0 = λ l. left_of l whole part ≡ rest ∷ left_of l (whole + 1) 0 in
    let is : left_of pieces whole part ≡ rest ∷ left_of pieces (whole + 1) 0 = subst E same e in
    let more = left_of pieces (whole + 1) 0 in
    let N : List (List ℕ) → Type 0 = NoneIsEmpty in
    let left : left_of pieces whole (part + count) ≡ drop count rest ∷ more = left_part pieces whole part count rest more is in
    let some : 0 < length (drop count rest) = omega (arith, length-drop count rest) in
    let R : List ℕ → Type 0 = λ l. ReadsPiece (wire_at pieces whole part sent failed read_failed) (record { to_come = left_of pieces whole (part + count); read = l; sent = sent; failed = failed; read_failed = read_failed }) old new count in (
      subst R (sym (read_part pieces whole part count rest more is))
          (reads_first rest more (left_of pieces whole part) (left_of pieces whole (part + count)) (read_of pieces whole part) sent failed read_failed old new count none_empty is count_is new_is same_length
          (left ∙ ap (λ (b : Bool). if b then more else drop count rest ∷ more) (sym (ne_eqb count (length rest) not_all)))),
      subst N (sym left) (none_empty-more (drop count rest) more (not_empty (drop count rest) some) (none_empty-rest rest more (subst N is none_empty))),
    )
