-- Servings over doors where the same bytes waited answer the same.
use Rattle.std.proofs.Common.{◌≡◌, ◌∙◌, ℕ, zero, suc, ◌+◌, ◌≤◌, ◌⊎◌, Bool, true, false, List, [], ◌∷◌, ◌++◌, map, length, length-append, cond, Option, Some, inl, inr, IfSome, refl, sym, ap, ap₂, subst, append-nil, arith}
use Rattle.std.specs.List.{concat}
use Rattle.std.proofs.lemmas.List.Sums.{sum_by-cons}
use Rattle.lc_io.specs.Door.{DoorRecorded, Wire}
use Rattle.lc_io.specs.Counts.{Rose, RoseBy}
use Rattle.lc_model.specs.Versions.History.{Entry}
use Rattle.lc_world.specs.Sides.Side.{Side}
use Rattle.wire_session.specs.Laws.{EndsStay}
use Rattle.wire_session.specs.SessionOut.{SessionOut}
use Rattle.cli_serve.specs.Lines.{line_of, listening_line, served_line}
use Rattle.cli_serve.specs.Recorded.{AreRecorded, AreWiresOf, IsWireOf, NoneWaits, bytes_of, opened_at}
use Rattle.cli_serve.specs.SameBytes.{AreOneSide, NotOneMore, NotOneTaker, NotOtherBase, OneOverBytes, OneSession, SayOne}
use Rattle.cli_serve.specs.Serve.{opening_of}
use Rattle.cli_serve.specs.Visit.{AreVisits, IsServed, NoneLost, Visit, faults_of, requests_of}
use Rattle.cli_serve.specs.Written.{Wrote}
use Rattle.cli_serve.proofs.LawLemmas.{kept, none_lost_first, none_lost_rest, recorded_at}

-- what is said on a visit without a fault is what is said to all bytes of its connection
said_to_all : EndsStay → (side next : Side) (visit : Visit) (wire : Wire) (served : IsServed side visit next) → IsWireOf visit wire → visit.failed ≡ false → visit.lost ≡ false
    → SessionOut side (bytes_of wire) served.said
said_to_all stay side next visit wire served is well here = by (is.heard well here) where
  by : (wire.to_come ≡ []) ⊎ (visit.ended ≡ true) → SessionOut side (bytes_of wire) served.said
  by (inl none) =
      let all : bytes_of wire ≡ visit.read = ap (λ (l : List ℕ). wire.read ++ l) none ∙ (append-nil wire.read ∙ is.read_is) in
      subst (λ (l : List ℕ). SessionOut side l served.said) (sym all) served.said_is
  by (inr ended) =
      subst (λ (l : List ℕ). SessionOut side (l ++ wire.to_come) served.said) (sym is.read_is)
      (stay side visit.read wire.to_come served.said served.said_is (sym served.ended_is ∙ ended))

-- two visits on which the same bytes came
record VisitsAlike (a b : Visit) (next other : Side) : Type 0 where
  sent : a.sent ≡ b.sent
  requests : a.requests ≡ b.requests
  sides : AreOneSide next other

visits_alike : EndsStay → OneSession → (first second next other : Side) (a b : Visit) (v w : Wire) → AreOneSide first second → IsWireOf a v → IsWireOf b w → bytes_of v ≡ bytes_of w
    → a.failed ≡ false → b.failed ≡ false → a.lost ≡ false → b.lost ≡ false → IsServed first a next → IsServed second b other → VisitsAlike a b next other
visits_alike stay one first second next other a b v w sides is its bytes well fine here there p q =
    let x : SessionOut first (bytes_of v) p.said = said_to_all stay first next a v p is well here in
    let y : SessionOut second (bytes_of v) q.said = subst (λ (l : List ℕ). SessionOut second l q.said) (sym bytes) (said_to_all stay second other b w q its fine there) in
    let same : SayOne p.said q.said = one first second (bytes_of v) p.said q.said sides x y in
    record {
      sent = p.all_sent well ∙ (ap concat same.replies ∙ sym (q.all_sent fine));
      requests = p.requests_are ∙ (ap length same.replies ∙ sym q.requests_are);
      sides = subst (λ (s : Side). AreOneSide s other) (sym p.next_is) (subst (λ (s : Side). AreOneSide p.said.side s) (sym q.next_is) same.sides);
    }

-- no visit failed where none is counted
well_by : (failed : Bool) (more : ℕ) → cond failed 1 0 + more ≡ 0 → failed ≡ false
well_by true more none = absurd (omega arith)
well_by false more none = refl

rest_by : (failed : Bool) (more : ℕ) → cond failed 1 0 + more ≡ 0 → more ≡ 0
rest_by true more none = absurd (omega arith)
rest_by false more none = omega arith

none_counted_first : (visit : Visit) (visits : List Visit) → faults_of (visit ∷ visits) ≡ 0 → cond visit.failed 1 0 + faults_of visits ≡ 0
none_counted_first visit visits none = sym (sum_by-cons (λ (v : Visit). cond v.failed 1 0) visit visits) ∙ none

-- a count that did not increase has counted nothing
none_counted : (many before after : ℕ) → RoseBy many before after → (Rose before after → ⊥) → many ≡ 0
none_counted zero before after rose none = refl
none_counted (suc many) before after rose none = absurd (none (omega arith))

-- what was sent and counted on visits
record AnswersAlike (visits others : List Visit) (wires more : List Wire) : Type 0 where
  sent : map (λ (wire : Wire). wire.sent) wires ≡ map (λ (wire : Wire). wire.sent) more
  many : length visits ≡ length others
  requests : requests_of visits ≡ requests_of others

one_by_one : EndsStay → OneSession → (visits : List Visit) (wires : List Wire) (others : List Visit) (more : List Wire) (first second last end : Side) → AreOneSide first second
    → AreWiresOf visits wires → AreWiresOf others more → map bytes_of wires ≡ map bytes_of more → NoneLost visits → NoneLost others → faults_of visits ≡ 0 → faults_of others ≡ 0
    → AreVisits first visits last → AreVisits second others end → AnswersAlike visits others wires more
one_by_one stay one [] [] [] [] first second last end sides wa wb bytes la lb fa fb va vb = record { sent = refl; many = refl; requests = refl }
one_by_one stay one [] [] [] (m ∷ more) first second last end sides wa wb bytes la lb fa fb va vb = absurd wb
one_by_one stay one [] [] (o ∷ others) [] first second last end sides wa wb bytes la lb fa fb va vb = absurd wb
one_by_one stay one [] [] (o ∷ others) (m ∷ more) first second last end sides wa wb bytes la lb fa fb va vb = absurd (cc)
one_by_one stay one [] (w ∷ wires) others more first second last end sides wa wb bytes la lb fa fb va vb = absurd wa
one_by_one stay one (v ∷ visits) [] others more first second last end sides wa wb bytes la lb fa fb va vb = absurd wa
one_by_one stay one (v ∷ visits) (w ∷ wires) [] [] first second last end sides wa wb bytes la lb fa fb va vb = absurd (cc)
one_by_one stay one (v ∷ visits) (w ∷ wires) [] (m ∷ more) first second last end sides wa wb bytes la lb fa fb va vb = absurd wb
one_by_one stay one (v ∷ visits) (w ∷ wires) (o ∷ others) [] first second last end sides wa wb bytes la lb fa fb va vb = absurd wb
one_by_one stay one (v ∷ visits) (w ∷ wires) (o ∷ others) (m ∷ more) first second last end sides wa wb bytes la lb fa fb va vb =
    let head : bytes_of w ≡ bytes_of m = cc in
    let tail : map bytes_of wires ≡ map bytes_of more = cc in
    let here : v.lost ≡ false = none_lost_first v visits la in
    let there : o.lost ≡ false = none_lost_first o others lb in
    let visit : VisitsAlike v o va.0 vb.0 =
    visits_alike stay one first second va.0 vb.0 v o w m sides wa.0 wb.0 head (well_by v.failed (faults_of visits) (none_counted_first v visits fa)) (well_by o.failed (faults_of others) (none_counted_first o others fb)) here there
    (kept v first va.0 here va.1) (kept o second vb.0 there vb.1) in
    let rest : AnswersAlike visits others wires more =
    one_by_one stay one visits wires others more va.0 vb.0 last end visit.sides wa.1 wb.1 tail (none_lost_rest v visits la) (none_lost_rest o others lb)
    (rest_by v.failed (faults_of visits) (none_counted_first v visits fa)) (rest_by o.failed (faults_of others) (none_counted_first o others fb)) va.2 vb.2 in
    record {
      sent = ap₂ (λ (sent : List ℕ) (l : List (List ℕ)). sent ∷ l) (wa.0.sent_is ∙ (visit.sent ∙ sym wb.0.sent_is)) rest.sent;
      many = ap (λ (n : ℕ). suc n) rest.many;
      requests =
          sum_by-cons (λ (w : Visit). w.requests) v visits
          ∙ (ap₂ (λ (a b : ℕ). a + b) visit.requests rest.requests ∙ sym (sum_by-cons (λ (w : Visit). w.requests) o others));
    }

-- the first connections that waited, up to a number, are the same ones
same_front : (most : ℕ) (wires more : List Wire) (rest left : List (List ℕ)) → map bytes_of wires ++ rest ≡ map bytes_of more ++ left → length wires ≤ most → length more ≤ most
    → (length wires ≡ most) ⊎ (rest ≡ []) → (length more ≡ most) ⊎ (left ≡ []) → map bytes_of wires ≡ map bytes_of more
same_front most [] [] rest left same few less all both = refl
same_front most [] (m ∷ more) rest left same few less (inl all) both = absurd (let none : 0 ≡ most = all in let some : suc (length more) ≤ most = less in omega arith)
same_front most [] (m ∷ more) rest left same few less (inr none) both = absurd (cc)
same_front most (w ∷ wires) [] rest left same few less all (inl both) = absurd (let none : 0 ≡ most = both in let some : suc (length wires) ≤ most = few in omega arith)
same_front most (w ∷ wires) [] rest left same few less all (inr none) = absurd (cc)
same_front zero (w ∷ wires) (m ∷ more) rest left same few less all both = absurd (let some : suc (length wires) ≤ 0 = few in omega arith)
same_front (suc most) (w ∷ wires) (m ∷ more) rest left same few less all both =
    let head : bytes_of w ≡ bytes_of m = cc in
    let tail : map bytes_of wires ++ rest ≡ map bytes_of more ++ left = cc in
    ap₂ (λ (bytes : List ℕ) (l : List (List ℕ)). bytes ∷ l) head
    (same_front most wires more rest left tail (omega arith) (omega arith) (less_one (length wires) rest all) (less_one (length more) left both)) where
      less_one : (count : ℕ) (others : List (List ℕ)) → (suc count ≡ suc most) ⊎ (others ≡ []) → (count ≡ most) ⊎ (others ≡ [])
      less_one count others (inl is) = inl (cc)
      less_one count others (inr none) = inr none

as_many : (visits : List Visit) (wires : List Wire) → AreWiresOf visits wires → length wires ≡ length visits
as_many [] [] are = refl
as_many [] (w ∷ wires) are = absurd are
as_many (v ∷ visits) [] are = absurd are
as_many (v ∷ visits) (w ∷ wires) are = ap (λ (n : ℕ). suc n) (as_many visits wires are.1)

-- as many connections as were asked for, or none waits any more
all_came : (count most : ℕ) (many : ℕ) (recorded : Option DoorRecorded) (has : DoorRecorded) → many ≡ count → recorded ≡ Some has → (count ≡ most) ⊎ NoneWaits recorded
    → (many ≡ most) ⊎ (has.waiting ≡ [])
all_came count most many recorded has same is (inl all) = inl (same ∙ all)
all_came count most many recorded has same is (inr none) = inr (subst (λ (r : Option DoorRecorded). IfSome r (λ (t : DoorRecorded). t.waiting ≡ [])) is none)

pub one_over_bytes : EndsStay → OneSession → OneOverBytes
one_over_bytes stay one asked other before after from to had has held holds ask x y waited p q =
    let r : AreRecorded p.visits (opened_at asked.port had) has =
    recorded_at p.visits asked.port before.door.recorded after.door.recorded had has x.before_is x.after_is p.served.visited.recorded in
    let s : AreRecorded q.visits (opened_at other.port held) holds =
    recorded_at q.visits other.port from.door.recorded to.door.recorded held holds y.before_is y.after_is q.served.visited.recorded in
    let first_many : length r.wires ≡ length p.visits = as_many p.visits r.wires r.wires_are in
    let second_many : length s.wires ≡ length q.visits = as_many q.visits s.wires s.wires_are in
    let first_few : length p.visits ≤ asked.connections = p.served.visited.at_most in
    let second_few : length q.visits ≤ other.connections = q.served.visited.at_most in
    let connections : asked.connections ≡ other.connections = ask.connections in
    let second_all : (length s.wires ≡ other.connections) ⊎ (holds.waiting ≡ []) =
    all_came (length q.visits) other.connections (length s.wires) to.door.recorded holds second_many y.after_is q.served.all in
    let bytes : map bytes_of r.wires ≡ map bytes_of s.wires =
    same_front asked.connections r.wires s.wires has.waiting holds.waiting (sym r.waited ∙ (waited ∙ s.waited)) (omega arith) (omega arith)
    (all_came (length p.visits) asked.connections (length r.wires) after.door.recorded has first_many x.after_is p.served.all)
    (subst (λ (n : ℕ). (length s.wires ≡ n) ⊎ (holds.waiting ≡ [])) (sym connections) second_all) in
    let no_fault : faults_of p.visits ≡ 0 = none_counted (faults_of p.visits) before.door.broken after.door.broken p.served.visited.broken x.no_fault in
    let none_too : faults_of q.visits ≡ 0 = none_counted (faults_of q.visits) from.door.broken to.door.broken q.served.visited.broken y.no_fault in
    let alike : AnswersAlike p.visits q.visits r.wires s.wires =
    one_by_one stay one p.visits r.wires q.visits s.wires asked.first other.first p.served.visited.last q.served.visited.last ask.sides r.wires_are s.wires_are bytes p.served.none_lost
    q.served.none_lost no_fault none_too p.served.visited.visits_are q.served.visited.visits_are in
    let faults : faults_of p.visits ≡ faults_of q.visits = no_fault ∙ sym none_too in
    let text : opening_of asked ++ line_of p.visits ≡ opening_of other ++ line_of q.visits =
    λ i. (ask.opening i ++ listening_line (ask.port i)) ++ served_line (alike.many i) (alike.requests i) (faults i) in
    record {
      wires = r.wires;
      others = s.wires;
      came_first = r.came_more;
      came_second = s.came_more;
      sent = alike.sent;
      text = opening_of asked ++ line_of p.visits;
      wrote_first = p.wrote;
      wrote_second = subst (Wrote from.sink to.sink) (sym text) q.wrote;
    }

-- sides that are one have one history
longer : (history : List Entry) (entry : Entry) → history ++ entry ∷ [] ≡ history → ⊥
longer history entry is = omega (arith, ap length is, length-append history (entry ∷ []))

pub not_one_more : NotOneMore
not_one_more side update bytes one = longer side.history _ (ap (λ (s : Side). s.history) one.is)

both_ways : (a b : Bool) → a ≡ true → b ≡ false → a ≡ b → ⊥
both_ways a b one two same = absurd (cc)

pub not_one_taker : NotOneTaker
not_one_taker a b takes none one = both_ways a.accepts_updates b.accepts_updates takes none (ap (λ (s : Side). s.accepts_updates) one.is)

pub not_other_base : NotOtherBase
not_other_base a b other one = other (ap (λ (s : Side). s.base_moment) one.is)
