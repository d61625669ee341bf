-- What comes of serving is one, and near values are refused.
use Rattle.std.proofs.Common.{◌≡◌, ◌≢◌, ◌∙◌, ℕ, suc, ◌+◌, ◌⊎◌, Bool, true, false, List, [], ◌∷◌, ◌++◌, length, length-append, Option, None, Some, inl, inr, refl, sym, ap, subst, append_assoc, append-nil, arith}
use Rattle.std.specs.List.{concat}
use Rattle.std.proofs.lemmas.List.{append_cancel_left}
use Rattle.lc_io.specs.Door.{DoorRecorded, DoorSeen, GoesOn, Wire}
use Rattle.lc_world.specs.Sides.Side.{Side}
use Rattle.wire_session.specs.Laws.{OneOutput}
use Rattle.wire_session.specs.SessionOut.{Said, SessionOut}
use Rattle.cli_serve.specs.Serve.{Asked, IsServedWhole, Outside, WasVisited}
use Rattle.cli_serve.specs.Recorded.{AreRecorded, AreWiresOf, IsWireOf, came, opened_at}
use Rattle.cli_serve.specs.Visit.{AreVisits, IsServed, IsVisit, NoneLost, Visit}

-- a visit on which memory did not run out was served
pub kept : (visit : Visit) (side next : Side) → visit.lost ≡ false → IsVisit visit.lost side visit next → IsServed side visit next
kept visit side next is visits = subst (λ (b : Bool). IsVisit b side visit next) is visits

same_visit : (a b : Visit) → a.read ≡ b.read → a.sent ≡ b.sent → a.requests ≡ b.requests → a.ended ≡ b.ended → a.failed ≡ b.failed
    → a.read_failed ≡ b.read_failed → a.lost ≡ b.lost → a ≡ b
same_visit a b read sent requests ended failed read_failed lost =
    let Same : Visit → Type 0 = λ v. v ≡ b in
    rw (read, sent, requests, ended, failed, read_failed, lost) refl

-- visits from one side with equal bytes read and sent are one, and lead to one side
one_served : OneOutput → (side next other : Side) (a b : Visit) → a.read ≡ b.read → a.sent ≡ b.sent → a.failed ≡ b.failed → a.read_failed ≡ b.read_failed → a.lost ≡ b.lost
    → IsServed side a next → IsServed side b other → (a ≡ b) × (next ≡ other)
one_served one side next other a b read sent failed read_failed lost p q =
    let said : SessionOut side b.read p.said = subst (λ (l : List ℕ). SessionOut side l p.said) read p.said_is in
    let same : p.said ≡ q.said = one side b.read p.said q.said said q.said_is in (
      same_visit a b read sent
          (p.requests_are ∙ (ap (λ (s : Said). length s.replies) same ∙ sym q.requests_are))
          (p.ended_is ∙ (ap (λ (s : Said). s.ended) same ∙ sym q.ended_is)) failed read_failed lost,
      p.next_is ∙ (ap (λ (s : Said). s.side) same ∙ sym q.next_is),
    )

pub none_lost_first : (visit : Visit) (visits : List Visit) → NoneLost (visit ∷ visits) → visit.lost ≡ false
none_lost_first visit visits none = none 0 visit (omega arith)

pub none_lost_rest : (visit : Visit) (visits : List Visit) → NoneLost (visit ∷ visits) → NoneLost visits
none_lost_rest visit visits none = λ k d h. none (suc k) d (omega arith)

-- the connections and the first side say what the visits are
one_list : OneOutput → (visits other : List Visit) (wires : List Wire) (first last end : Side) → AreWiresOf visits wires → AreWiresOf other wires → NoneLost visits → NoneLost other
    → AreVisits first visits last → AreVisits first other end → visits ≡ other
one_list one [] [] wires first last end wa wb la lb va vb = refl
one_list one [] (o ∷ other) [] first last end wa wb la lb va vb = absurd wb
one_list one [] (o ∷ other) (w ∷ wires) first last end wa wb la lb va vb = absurd wa
one_list one (v ∷ visits) [] [] first last end wa wb la lb va vb = absurd wa
one_list one (v ∷ visits) [] (w ∷ wires) first last end wa wb la lb va vb = absurd wb
one_list one (v ∷ visits) (o ∷ other) [] first last end wa wb la lb va vb = absurd wa
one_list one (v ∷ visits) (o ∷ other) (w ∷ wires) first last end wa wb la lb va vb =
    let v_kept : v.lost ≡ false = none_lost_first v visits la in
    let o_kept : o.lost ≡ false = none_lost_first o other lb in
    let both : (v ≡ o) × (va.0 ≡ vb.0) =
    one_served one first va.0 vb.0 v o (sym wa.0.read_is ∙ wb.0.read_is) (sym wa.0.sent_is ∙ wb.0.sent_is) (sym wa.0.failed_is ∙ wb.0.failed_is)
    (sym wa.0.read_failed_is ∙ wb.0.read_failed_is) (v_kept ∙ sym o_kept)
    (kept v first va.0 v_kept va.1) (kept o first vb.0 o_kept vb.1) in
    let From : Side → Type 0 = λ s. AreVisits s other end in
    let rest : visits ≡ other =
    one_list one visits other wires va.0 last end wa.1 wb.1 (none_lost_rest v visits la) (none_lost_rest o other lb) va.2 (subst From (sym both.1) vb.2) in
    ap (λ (x : Visit). x ∷ visits) both.0 ∙ ap (λ (l : List Visit). o ∷ l) rest

pub recorded_at : (visits : List Visit) (port : ℕ) (a b : Option DoorRecorded) (x y : DoorRecorded) → a ≡ Some x → b ≡ Some y → GoesOn (λ s t. AreRecorded visits (opened_at port s) t) a b
    → AreRecorded visits (opened_at port x) y
recorded_at visits port None b x y is now recorded = absurd (cc)
recorded_at visits port (Some s) None x y is now recorded = absurd recorded
recorded_at visits port (Some s) (Some t) x y is now recorded =
    let before : s ≡ x = cc in
    let after : t ≡ y = cc in
    subst (λ (d : DoorRecorded). AreRecorded visits (opened_at port x) d) after (subst (λ (d : DoorRecorded). AreRecorded visits (opened_at port d) t) before recorded)

-- what a door has recorded says what the visits were, if memory ran out on none of them
pub one_visiting : OneOutput → (asked : Asked) (before after : DoorSeen) (recorded_before recorded_after : DoorRecorded) → before.recorded ≡ Some recorded_before
    → after.recorded ≡ Some recorded_after → (visits others : List Visit) → WasVisited asked visits before after → WasVisited asked others before after → NoneLost visits → NoneLost others
    → visits ≡ others
one_visiting one asked before after recorded_before recorded_after is now visits others a b a_kept b_kept =
    let p : AreRecorded visits (opened_at asked.port recorded_before) recorded_after =
    recorded_at visits asked.port before.recorded after.recorded recorded_before recorded_after is now a.recorded in
    let q : AreRecorded others (opened_at asked.port recorded_before) recorded_after =
    recorded_at others asked.port before.recorded after.recorded recorded_before recorded_after is now b.recorded in
    let wires : p.wires ≡ q.wires = append_cancel_left (came recorded_before) p.wires q.wires (sym p.came_more ∙ q.came_more) in
    one_list one visits others q.wires asked.first a.last b.last
    (subst (λ (w : List Wire). AreWiresOf visits w) wires p.wires_are) q.wires_are a_kept b_kept a.visits_are b.visits_are

-- those of a serving that is Ok too
pub one_serving : OneOutput → (asked : Asked) (before after : Outside) (recorded_before recorded_after : DoorRecorded) → before.door.recorded ≡ Some recorded_before
    → after.door.recorded ≡ Some recorded_after → (a b : IsServedWhole asked before after) → a.visits ≡ b.visits
one_serving one asked before after recorded_before recorded_after is now a b =
    one_visiting one asked before.door after.door recorded_before recorded_after is now a.visits b.visits
    a.served.visited b.served.visited a.served.none_lost b.served.none_lost

all_sent : (side next : Side) (visit : Visit) (served : IsServed side visit next) → (visit.failed ≡ false) ⊎ (visit.read_failed ≡ true) → visit.sent ≡ concat served.said.replies
all_sent side next visit served (inl well) = served.all_sent well
all_sent side next visit served (inr read) = served.in_turn read

pub one_visit : OneOutput → (side next : Side) (visit : Visit) (said : Said) → SessionOut side visit.read said → visit.lost ≡ false → (visit.failed ≡ false) ⊎ (visit.read_failed ≡ true)
    → IsVisit visit.lost side visit next → (visit.sent ≡ concat said.replies) × (next ≡ said.side)
one_visit one side next visit said says is well visits =
    let served : IsServed side visit next = kept visit side next is visits in
    let same : served.said ≡ said = one side visit.read served.said said served.said_is says in
    (all_sent side next visit served well ∙ ap (λ (s : Said). concat s.replies) same, served.next_is ∙ ap (λ (s : Said). s.side) same)

left_by : OneOutput → (side next : Side) (visit : Visit) (said : Said) → SessionOut side visit.read said → visit.lost ≡ false
    → IsVisit visit.lost side visit next → next ≡ said.side
left_by one side next visit said says is visits =
    let served : IsServed side visit next = kept visit side next is visits in
    served.next_is ∙ ap (λ (s : Said). s.side) (one side visit.read served.said said served.said_is says)

pub none_forgotten : OneOutput → (first last : Side) (one two : Visit) (said after : Said) → SessionOut first one.read said → SessionOut said.side two.read after
    → one.lost ≡ false → two.lost ≡ false → two.failed ≡ false → two.sent ≢ concat after.replies → ¬ AreVisits first (one ∷ two ∷ []) last
none_forgotten law first last one two said after says then one_kept two_kept well other visits =
    let left : visits.0 ≡ said.side = left_by law first visits.0 one said says one_kept visits.1 in
    let From : Side → Type 0 = λ s. IsVisit two.lost s two visits.2.0 in
    other (one_visit law said.side visits.2.0 two after then two_kept (inl well) (subst From left visits.2.1)).0

more_is_other : (sent : List ℕ) (byte : ℕ) (rest : List ℕ) → sent ≢ sent ++ byte ∷ rest
more_is_other sent byte rest same =
    let long : length (sent ++ byte ∷ rest) ≡ length sent + length (byte ∷ rest) = length-append sent (byte ∷ rest) in
    let same_long : length sent ≡ length (sent ++ byte ∷ rest) = ap length same in
    absurd (omega arith)

pub none_unsent : OneOutput → (side next : Side) (visit : Visit) (said : Said) (byte : ℕ) (rest : List ℕ) → SessionOut side visit.read said → visit.lost ≡ false → visit.failed ≡ false
    → concat said.replies ≡ visit.sent ++ byte ∷ rest → ¬ IsVisit visit.lost side visit next
none_unsent one side next visit said byte rest says is well more visits =
    more_is_other visit.sent byte rest ((one_visit one side next visit said says is (inl well) visits).0 ∙ more)

pub none_held_back : OneOutput → (side next : Side) (visit : Visit) (said : Said) (byte : ℕ) (rest : List ℕ) → SessionOut side visit.read said → visit.lost ≡ false → visit.read_failed ≡ true
    → concat said.replies ≡ visit.sent ++ byte ∷ rest → ¬ IsVisit visit.lost side visit next
none_held_back one side next visit said byte rest says is read more visits =
    more_is_other visit.sent byte rest ((one_visit one side next visit said says is (inr read) visits).0 ∙ more)

pub none_unread : (visit : Visit) (wire : Wire) (byte : ℕ) (rest : List ℕ) → visit.lost ≡ false → visit.failed ≡ false → visit.ended ≡ false
    → wire.to_come ≡ byte ∷ rest → ¬ IsWireOf visit wire
none_unread visit wire byte rest is well goes_on more wire_is =
    elim (wire_is.heard well is) [ inl none ↦ absurd (cc) | inr ended ↦ absurd (cc) ]

no_front : (front rest : List ℕ) → front ++ rest ≡ [] → front ≡ []
no_front [] rest is = refl
no_front (x ∷ front) rest is = absurd (cc)

pub none_twice : OneOutput → (side next : Side) (visit : Visit) (said : Said) (reply : List ℕ) → SessionOut side visit.read said → visit.lost ≡ false → reply ≢ []
    → visit.sent ≡ concat said.replies ++ reply → ¬ IsVisit visit.lost side visit next
none_twice one side next visit said reply says is some twice visits =
    let served : IsServed side visit next = kept visit side next is visits in
    let same : served.said ≡ said = one side visit.read served.said said served.said_is says in
    let text : List ℕ = concat said.replies in
    let front : text ≡ visit.sent ++ served.sent_is.rest = sym (ap (λ (s : Said). concat s.replies) same) ∙ served.sent_is.is in
    let again : text ≡ text ++ (reply ++ served.sent_is.rest) = front ∙ (ap (λ (l : List ℕ). l ++ served.sent_is.rest) twice ∙ append_assoc text reply served.sent_is.rest) in
    let nothing : reply ++ served.sent_is.rest ≡ [] = sym (append_cancel_left text [] (reply ++ served.sent_is.rest) (append-nil text ∙ again)) in
    some (no_front reply served.sent_is.rest nothing)
