use Rattle.std.proofs.Common.{◌≡◌, Some, subst, sym}
use Rattle.lc_time.specs.Iso.{SaysMoment}
use Rattle.lc_time.proofs.IsoLemmas.{says_text}
use Rattle.journey_text.proofs.answer_reading.times_of.Goals as goal

pub returns-in_err-dep : goal.returns-in_err-dep
returns-in_err-dep c = λ ride sound are.
    let d : c.read_iso.result ≡ Some ride.dep = c.read_iso.ensures.exact ride.dep (subst (λ text. SaysMoment text ride.dep) (sym are.dep) (says_text ride.dep sound.dep)) in
    let none = c.in_err-dep.was in
    absurd (cc)

pub returns-in_err-arr : goal.returns-in_err-arr
returns-in_err-arr c = λ ride sound are.
    let e : c.read_iso-2.result ≡ Some ride.arr = c.read_iso-2.ensures.exact ride.arr (subst (λ text. SaysMoment text ride.arr) (sym are.arr) (says_text ride.arr sound.arr)) in
    let none = c.in_err-arr.was in
    absurd (cc)

pub returns : goal.returns
returns c = λ ride sound are.
    let a : c.read_decimal.result ≡ Some ride.first_seq = c.read_decimal.ensures.exact ride.first_seq sound.first_seq are.first_seq in
    let b : c.read_decimal-2.result ≡ Some ride.last_seq = c.read_decimal-2.ensures.exact ride.last_seq sound.last_seq are.last_seq in
    let d : c.read_iso.result ≡ Some ride.dep = c.read_iso.ensures.exact ride.dep (subst (λ text. SaysMoment text ride.dep) (sym are.dep) (says_text ride.dep sound.dep)) in
    let e : c.read_iso-2.result ≡ Some ride.arr = c.read_iso-2.ensures.exact ride.arr (subst (λ text. SaysMoment text ride.arr) (sym are.arr) (says_text ride.arr sound.arr)) in
    let f = c.in_ok-first_seq.was in
    let g = c.in_ok-last_seq.was in
    let h = c.in_ok-dep.was in
    let i = c.in_ok-arr.was in
    record { first_seq = cc; last_seq = cc; dep = cc; arr = cc }
