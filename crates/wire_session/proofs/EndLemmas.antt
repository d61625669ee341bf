-- An end stays, and there are no more replies than a connection may get.
use Rattle.std.proofs.Common.{◌≡◌, ◌≢◌, ℕ, zero, suc, ◌+◌, ◌≤◌, Bool, true, false, List, [], ◌∷◌, ◌++◌, length, drop, refl, sym, ap, subst, ◌∙◌, arith, length-append}
use Rattle.std.proofs.lemmas.List.{take_all}
use Rattle.http_text.specs.declared.taken.Taken.{Taken}
use Rattle.http_text.specs.declared.taken.Taken.TheVariants.{Whole, NotYet, Refused}
use Rattle.http_text.specs.Request.{IsWhole}
use Rattle.http_text.specs.Taken.{Takes}
use Rattle.http_text.proofs.StayLemmas.{same_bytes, stays}
use Rattle.http_text.proofs.TakenLemmas.{is_taken, one_answer, whole_is}
use Rattle.lc_world.specs.Sides.Side.{Side}
use Rattle.wire_session.specs.SessionOut.{IsAnswered, IsSaidAfter, IsSaidBy, IsSaidFirst, Said, Says, silent}
use Rattle.wire_session.proofs.OneSaidLemmas.{one_said}
use Rattle.wire_session.proofs.WalkLemmas.{refused_is_some, rest_grows, whole_is_some}

-- ---- an end stays

abbrev EndStays : (Side → List ℕ → Said → Type 0) → List ℕ → Type 0
EndStays Goes more = (side : Side) (bytes : List ℕ) (said : Said) → Goes side bytes said → said.ended ≡ true → Goes side (bytes ++ more) said

after_stays : (Goes : Side → List ℕ → Said → Type 0) (more : List ℕ) → EndStays Goes more → (closes : Bool) (side : Side) (rest : List ℕ) (said : Said)
    → IsSaidAfter Goes closes side rest said → said.ended ≡ true → IsSaidAfter Goes closes side (rest ++ more) said
after_stays Goes more stay true side rest said is ended = is
after_stays Goes more stay false side rest said is ended = stay side rest said is ended

first_stays : (Goes : Side → List ℕ → Said → Type 0) (more : List ℕ) → EndStays Goes more → (side : Side) (count : ℕ) (bytes : List ℕ) (said : Said)
    → Takes bytes (Whole count) → IsSaidFirst Goes side count bytes said → said.ended ≡ true → IsSaidFirst Goes side count (bytes ++ more) said
first_stays Goes more stay side count bytes said whole first ended =
    let after_ended : first.after.ended ≡ true = ap (λ (s : Said). s.ended) (sym first.is) ∙ ended in
    record {
      reply = first.reply;
      next = first.next;
      closes = first.closes;
      answered = subst (λ (x : List ℕ). IsAnswered side x first.reply first.next first.closes) (sym (same_bytes bytes more count whole)) first.answered;
      after = first.after;
      after_is =
          subst (λ (x : List ℕ). IsSaidAfter Goes first.closes first.next x first.after) (sym (rest_grows bytes more count whole))
          (after_stays Goes more stay first.closes first.next (drop count bytes) first.after first.after_is after_ended);
      is = first.is;
    }

open_has_no_end : (side : Side) (said : Said) → said ≡ silent side false → said.ended ≡ true → ⊥
open_has_no_end side said is ended = let e : false ≡ true = ap (λ (s : Said). s.ended) (sym is) ∙ ended in cc

by_stays : (Goes : Side → List ℕ → Said → Type 0) (more : List ℕ) → EndStays Goes more → (taken : Taken) (side : Side) (bytes : List ℕ) (said : Said)
    → Takes bytes taken → IsSaidBy Goes taken side bytes said → said.ended ≡ true → Takes (bytes ++ more) taken × IsSaidBy Goes taken side (bytes ++ more) said
by_stays Goes more stay (Whole count) side bytes said takes is ended =
    (stays bytes more (Whole count) takes (whole_is_some count), first_stays Goes more stay side count bytes said takes is ended)
by_stays Goes more stay NotYet side bytes said takes is ended = absurd (open_has_no_end side said is ended)
by_stays Goes more stay (Refused status) side bytes said takes is ended = (stays bytes more (Refused status) takes (refused_is_some status), is)

pub end_stays : (most : ℕ) (more : List ℕ) (side : Side) (bytes : List ℕ) (said : Said) → Says most side bytes said → said.ended ≡ true
    → Says most side (bytes ++ more) said
unfolding Says
end_stays zero more side bytes said says ended = says
end_stays (suc most) more side bytes said (taken, takes, is) ended =
    let both = by_stays (Says most) more (end_stays most more) taken side bytes said takes is ended in
    (taken, both.0, both.1)

-- ---- at most so many

abbrev AtMost : (Side → List ℕ → Said → Type 0) → ℕ → Type 0
AtMost Goes most = (side : Side) (bytes : List ℕ) (said : Said) → Goes side bytes said → length said.replies ≤ most

after_most : (Goes : Side → List ℕ → Said → Type 0) (most : ℕ) → AtMost Goes most → (closes : Bool) (side : Side) (rest : List ℕ) (said : Said)
    → IsSaidAfter Goes closes side rest said → length said.replies ≤ most
after_most Goes most few true side rest said is =
    let none : length said.replies ≡ 0 = ap (λ (s : Said). length s.replies) is in
    omega (arith, none)
after_most Goes most few false side rest said is = few side rest said is

by_most : (Goes : Side → List ℕ → Said → Type 0) (most : ℕ) → AtMost Goes most → (taken : Taken) (side : Side) (bytes : List ℕ) (said : Said)
    → IsSaidBy Goes taken side bytes said → length said.replies ≤ suc most
by_most Goes most few (Whole count) side bytes said first =
    let rest = after_most Goes most few first.closes first.next (drop count bytes) first.after first.after_is in
    let all : length said.replies ≡ suc (length first.after.replies) = ap (λ (s : Said). length s.replies) first.is in
    omega (arith, rest, all)
by_most Goes most few NotYet side bytes said is =
    let none : length said.replies ≡ 0 = ap (λ (s : Said). length s.replies) is in
    omega (arith, none)
by_most Goes most few (Refused status) side bytes said is =
    let one : length said.replies ≡ 1 = ap (λ (s : Said). length s.replies) is in
    omega (arith, one)

pub at_most : (most : ℕ) (side : Side) (bytes : List ℕ) (said : Said) → Says most side bytes said → length said.replies ≤ most
unfolding Says
at_most zero side bytes said says =
    let none : length said.replies ≡ 0 = ap (λ (s : Said). length s.replies) says in
    omega (arith, none)
at_most (suc most) side bytes said (taken, takes, is) = by_most (Says most) most (at_most most) taken side bytes said is

-- ---- near values

pub none_twice : (most : ℕ) (side : Side) (bytes : List ℕ) (said : Said) (reply : List ℕ) → Says most side bytes said
    → Says most side bytes (record said { replies = said.replies ++ reply ∷ [] }) → ⊥
none_twice most side bytes said reply first second =
    let twice : Said = record said { replies = said.replies ++ reply ∷ [] } in
    let same : length said.replies ≡ length (said.replies ++ reply ∷ []) = ap (λ (s : Said). length s.replies) (one_said most side bytes said twice first second) in
    let more : length (said.replies ++ reply ∷ []) ≡ length said.replies + 1 = length-append said.replies (reply ∷ []) in
    omega (arith, same, more)

some_lost : (lost : List ℕ) → lost ≢ [] → 1 ≤ length lost
some_lost [] some = absurd (some refl)
some_lost (byte ∷ lost) some = omega arith

-- what is taken of fewer bytes than a whole request has is nothing
cut_is_open : (bytes lost : List ℕ) (taken : Taken) → IsWhole (bytes ++ lost) → lost ≢ [] → Takes bytes taken → taken ≡ NotYet
cut_is_open bytes lost NotYet whole some takes = refl
cut_is_open bytes lost (Whole count) whole some takes =
    let all = is_taken (bytes ++ lost) (length (bytes ++ lost)) (omega arith) (subst IsWhole (sym (take_all (length (bytes ++ lost)) (bytes ++ lost) (omega arith))) whole) in
    let same = one_answer (bytes ++ lost) (Whole count) (Whole (length (bytes ++ lost))) (stays bytes lost (Whole count) takes (whole_is_some count)) all in
    let here = (whole_is bytes count takes).0 in
    let longer = length-append bytes lost in
    let one = some_lost lost some in
    let is : count ≡ length (bytes ++ lost) = cc in
    absurd (omega (arith, is, here, longer, one))
cut_is_open bytes lost (Refused status) whole some takes =
    let all = is_taken (bytes ++ lost) (length (bytes ++ lost)) (omega arith) (subst IsWhole (sym (take_all (length (bytes ++ lost)) (bytes ++ lost) (omega arith))) whole) in
    let same = one_answer (bytes ++ lost) (Refused status) (Whole (length (bytes ++ lost))) (stays bytes lost (Refused status) takes (refused_is_some status)) all in
    absurd (cc)

pub none_too_early : (most : ℕ) (side : Side) (bytes lost : List ℕ) (said : Said) → IsWhole (bytes ++ lost) → lost ≢ [] → Says most side bytes said
    → said.replies ≡ []
unfolding Says
none_too_early zero side bytes lost said whole some says = ap (λ (s : Said). s.replies) says
none_too_early (suc most) side bytes lost said whole some (taken, takes, is) =
    let open_still : taken ≡ NotYet = cut_is_open bytes lost taken whole some takes in
    let silence : IsSaidBy (Says most) NotYet side bytes said = subst (λ (t : Taken). IsSaidBy (Says most) t side bytes said) open_still is in
    ap (λ (s : Said). s.replies) silence
