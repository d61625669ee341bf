-- What a door in memory records, once its current connection is another one.
use Rattle.std.proofs.Common.{◌≡◌, ◌∙◌, ℕ, ◌==◌, Bool, true, false, if◌then◌else◌, List, [], ◌∷◌, ◌++◌, length, take, drop, Option, None, Some, option_map, refl, sym, ap, subst, arith, append_assoc, take_all, take-append-drop, eqb-true}
use Rattle.std.specs.List.{concat}
use Rattle.lc_io.specs.Door.{GoesOn, OnCurrent, Takes, Wire}
use Rattle.lc_io.specs.MemWire.{MemWireState, ReadsPiece, TakesPiece, wire_of}
use Rattle.lc_io.specs.MemWires.{MemWiresState, recorded_of}
use Rattle.lc_io.proofs.PieceLemmas.{take_front}

-- what was taken of the pieces is the front of all their bytes
concat_taken : (before after : List (List ℕ)) (old new : List ℕ) (count : ℕ) → TakesPiece before after old new count → concat before ≡ take count new ++ concat after
concat_taken [] after old new count (none, same, is) = sym (ap (λ (n : ℕ). take n new ++ concat after) none ∙ ap concat is)
concat_taken (piece ∷ rest) after old new count (count_is, new_is, is) =
    let front : take count new ≡ take count piece = ap (take count) new_is ∙ take_front count piece (drop count old) (omega arith) in
    let Goal : List (List ℕ) → Type 0 = λ l. piece ++ concat rest ≡ take count piece ++ concat l in
    let cases : (b : Bool) → (count == length piece) ≡ b → piece ++ concat rest ≡ take count piece ++ concat (if b then rest else drop count piece ∷ rest) =
    elim [
      | true ↦ λ e. ap (λ (l : List ℕ). l ++ concat rest) (sym (take_all count piece (omega (arith, eqb-true count (length piece) e))))
      | false ↦ λ e. ap (λ (l : List ℕ). l ++ concat rest) (sym (take-append-drop count piece)) ∙ append_assoc (take count piece) (drop count piece) (concat rest)
    ] in
    subst Goal (sym is) (cases (count == length piece) refl) ∙ ap (λ (l : List ℕ). l ++ concat after) (sym front)

-- a read in memory is one of the bytes
takes_bytes : (old new : List ℕ) (count : ℕ) (before after : MemWireState) → length new ≡ length old → ReadsPiece before after old new count
    → Takes new count (wire_of before) (wire_of after)
takes_bytes old new count before after same_length reads =
    let came : concat before.to_come ≡ take count new ++ concat after.to_come = concat_taken before.to_come after.to_come old new count reads.taken in
    record {
      came = came;
      moved = ap wire_of reads.moved;
      ended = λ room none. let nothing : before.to_come ≡ [] = reads.ended (omega arith) none in sym (sym (ap concat nothing) ∙ (came ∙ ap (λ (n : ℕ). take n new ++ concat after.to_come) none));
    }

goes_on : (P : MemWireState → MemWireState → Type 0) (Q : Wire → Wire → Type 0) → ((b a : MemWireState) → P b a → Q (wire_of b) (wire_of a))
    → (before after : Option MemWireState) → GoesOn P before after → GoesOn Q (option_map wire_of before) (option_map wire_of after)
goes_on P Q each None after step = ap (option_map wire_of) step
goes_on P Q each (Some b) None step = step
goes_on P Q each (Some b) (Some a) step = each b a step

-- a step of the current connection in memory is one of what is recorded
steps_recorded : (P : MemWireState → MemWireState → Type 0) (Q : Wire → Wire → Type 0) → ((b a : MemWireState) → P b a → Q (wire_of b) (wire_of a))
    → (before after : MemWiresState) → after ≡ record before { current = after.current } → GoesOn P before.current after.current
    → OnCurrent Q (recorded_of before) (recorded_of after)
steps_recorded P Q each before after others current = record { others = ap recorded_of others; current = goes_on P Q each before.current after.current current }

-- what is read in memory is recorded
pub reads_recorded : (old new : List ℕ) (count : ℕ) (before after : MemWiresState) → length new ≡ length old → after ≡ record before { current = after.current }
    → GoesOn (λ b a. ReadsPiece b a old new count) before.current after.current → OnCurrent (Takes new count) (recorded_of before) (recorded_of after)
reads_recorded old new count before after same_length others current =
    steps_recorded (λ b a. ReadsPiece b a old new count) (Takes new count) (λ b a. takes_bytes old new count b a same_length) before after others current
