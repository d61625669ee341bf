-- Calls that a comparison finds equal are the same.
use Rattle.std.proofs.Common.{◌≡◌, List, [], ◌∷◌, Bool, true, false, eqb, refl, ap₂}
use Rattle.std.specs.Prelude.{◌&&◌}
use Rattle.std.specs.Ordering.{int_eq}
use Rattle.std.proofs.lemmas.Bool.{and_parts, eqb-true}
use Rattle.std.proofs.lemmas.Bool.Decides.{Decides-int_eq}
use Rattle.std.proofs.lemmas.Slice.Eq.{bytes_eq-Decides}
use mathlib.Core.Bool.{beq}
use lib.Pointwise.{pointwise}
use Rattle.lc_model.specs.Change.{is_same_id}
use Rattle.lc_model.specs.contracts.call.CallPartialEq.TheImpl.{eq-value}
use Rattle.lc_model.specs.declared.call.Call.{Call}

abbrev pub is_call : Call → Call → Bool
is_call = eq-value.it

same_bools : (a b : Bool) → beq a b ≡ true → a ≡ b
same_bools true true e = refl
same_bools true false e = absurd (let f : false ≡ true = e in cc)
same_bools false true e = absurd (let f : false ≡ true = e in cc)
same_bools false false e = refl

same_call : (x y : Call) → is_call x y ≡ true → x ≡ y
same_call x y e =
    let delays = int_eq x.arr_delay y.arr_delay && int_eq x.dep_delay y.dep_delay in
    let flags = beq x.board y.board && (beq x.alight y.alight && delays) in
    let stop = and_parts (is_same_id x.stop y.stop) (eqb x.seq y.seq && (eqb x.arr y.arr && (eqb x.dep y.dep && flags))) e in
    let seq = and_parts (eqb x.seq y.seq) (eqb x.arr y.arr && (eqb x.dep y.dep && flags)) stop.1 in
    let arr = and_parts (eqb x.arr y.arr) (eqb x.dep y.dep && flags) seq.1 in
    let dep = and_parts (eqb x.dep y.dep) flags arr.1 in
    let board = and_parts (beq x.board y.board) (beq x.alight y.alight && delays) dep.1 in
    let alight = and_parts (beq x.alight y.alight) delays board.1 in
    let late = and_parts (int_eq x.arr_delay y.arr_delay) (int_eq x.dep_delay y.dep_delay) alight.1 in
    let p_stop = (bytes_eq-Decides x.stop y.stop).0 stop.0 in
    let p_seq = eqb-true x.seq y.seq seq.0 in
    let p_arr = eqb-true x.arr y.arr arr.0 in
    let p_dep = eqb-true x.dep y.dep dep.0 in
    let p_board = same_bools x.board y.board board.0 in
    let p_alight = same_bools x.alight y.alight alight.0 in
    let p_late = (Decides-int_eq x.arr_delay y.arr_delay).0 late.0 in
    let q_late = (Decides-int_eq x.dep_delay y.dep_delay).0 late.1 in
    λ i. record { stop = p_stop i; seq = p_seq i; arr = p_arr i; dep = p_dep i; board = p_board i; alight = p_alight i; arr_delay = p_late i; dep_delay = q_late i }

pub same_calls : (a b : List Call) → pointwise is_call a b ≡ true → a ≡ b
same_calls [] [] e = refl
same_calls [] (y ∷ b) e = absurd (let f : false ≡ true = e in cc)
same_calls (x ∷ a) [] e = absurd (let f : false ≡ true = e in cc)
same_calls (x ∷ a) (y ∷ b) e =
    let parts = and_parts (is_call x y) (pointwise is_call a b) e in
    ap₂ (λ c cs. c ∷ cs) (same_call x y parts.0) (same_calls a b parts.1)
