-- What a door records of one visit more.
use Rattle.std.proofs.Common.{◌≡◌, ◌∙◌, ℕ, ◌||◌, Bool, true, false, List, [], ◌∷◌, ◌++◌, map, Option, None, Some, refl, sym, ap, subst, append_assoc, append-nil, inl, inr, IfSome}
use Rattle.std.specs.Option.{option_to_list}
use Rattle.lc_io.specs.Door.{Closes, DoorRecorded, GoesOn, OnCurrent, Opens, Wire, hung_up}
use Rattle.lc_io.specs.Door as door
use Rattle.lc_io.specs.Serving.{Exchanges}
use Rattle.cli_serve.specs.Recorded.{AreRecorded, AreWiresOf, IsWireOf, bytes_of, came}
use Rattle.cli_serve.specs.Visit.{Visit}
use Rattle.cli_serve.specs.Visiting.{IsOver, WasHeard}

pub goes_then : {X : Type 0} (P Q R : X → X → Type 0) → ((a b c : X) → P a b → Q b c → R a c) → (a b c : Option X) → GoesOn P a b → GoesOn Q b c → GoesOn R a c
goes_then P Q R step None None c p q = q
goes_then P Q R step None (Some b) c p q = absurd (cc)
goes_then P Q R step (Some a) None c p q = absurd p
goes_then P Q R step (Some a) (Some b) None p q = q
goes_then P Q R step (Some a) (Some b) (Some c) p q = step a b c p q

-- no visit was made
pub none_recorded : (a : DoorRecorded) → AreRecorded [] a a
none_recorded a = record { wires = []; wires_are = tt; came_more = sym (append-nil (came a)); waited = refl; port_is = refl }

came_over : (recorded : DoorRecorded) → came (hung_up recorded) ≡ came recorded
came_over recorded = append-nil (came recorded)

-- nobody more came
pub over_recorded : (visits : List Visit) (a b c : DoorRecorded) → AreRecorded visits a b → c ≡ hung_up b → AreRecorded visits a c
over_recorded visits a b c recorded is = record {
  wires = recorded.wires;
  wires_are = recorded.wires_are;
  came_more = ap came is ∙ (came_over b ∙ recorded.came_more);
  waited = recorded.waited ∙ ap (λ (t : DoorRecorded). map bytes_of recorded.wires ++ t.waiting) (sym is);
  port_is = ap (λ (t : DoorRecorded). t.port) is ∙ recorded.port_is;
}

wires_more : (visits : List Visit) (wires : List Wire) (visit : Visit) (wire : Wire) → AreWiresOf visits wires → IsWireOf visit wire
    → AreWiresOf (visits ++ visit ∷ []) (wires ++ wire ∷ [])
wires_more [] [] visit wire are is = (is, tt)
wires_more [] (w ∷ wires) visit wire are is = absurd are
wires_more (v ∷ visits) [] visit wire are is = absurd are
wires_more (v ∷ visits) (w ∷ wires) visit wire are is = (are.0, wires_more visits wires visit wire are.1 is)

map_more : (wires : List Wire) (wire : Wire) (rest : List (List ℕ)) → map bytes_of (wires ++ wire ∷ []) ++ rest ≡ map bytes_of wires ++ (bytes_of wire ∷ rest)
map_more [] wire rest = refl
map_more (w ∷ wires) wire rest = ap (λ (l : List (List ℕ)). bytes_of w ∷ l) (map_more wires wire rest)

-- the connection at the end of a visit
record AtEnd (visit : Visit) (bytes : List ℕ) (at_end : DoorRecorded) : Type 0 where
  wire : Wire
  current_is : at_end.current ≡ Some wire
  wire_is : IsWireOf visit wire
  bytes_are : bytes ≡ bytes_of wire

no_fault : (failed : Bool) → (failed || false) ≡ failed
no_fault true = refl
no_fault false = refl

wire_at : (visit : Visit) (bytes : List ℕ) (at_end : DoorRecorded) (wire : Wire) → at_end.current ≡ Some wire
    → Exchanges visit.read visit.sent visit.failed visit.read_failed (door.fresh bytes) wire → WasHeard visit (Some at_end) → AtEnd visit bytes at_end
wire_at visit bytes at_end wire current exchanged was_heard = record {
  wire = wire;
  current_is = current;
  wire_is = record {
    read_is = exchanged.read_more;
    sent_is = exchanged.sent_more;
    failed_is = exchanged.failed_too ∙ no_fault visit.failed;
    read_failed_is = exchanged.read_failed_too ∙ no_fault visit.read_failed;
    heard = λ well kept. elim (was_heard well kept) [ inl none ↦ inl (subst (λ (o : Option Wire). IfSome o (λ (w : Wire). w.to_come ≡ [])) current none) | inr ended ↦ inr ended ];
  };
  bytes_are = exchanged.came ∙ ap (λ (l : List ℕ). l ++ wire.to_come) (sym exchanged.read_more);
}

found : (visit : Visit) (bytes : List ℕ) (at_end : DoorRecorded) (before after : Option Wire) → before ≡ Some (door.fresh bytes) → at_end.current ≡ after
    → GoesOn (Exchanges visit.read visit.sent visit.failed visit.read_failed) before after → WasHeard visit (Some at_end) → AtEnd visit bytes at_end
found visit bytes at_end None after is current exchanged heard = absurd (cc)
found visit bytes at_end (Some wire) None is current exchanged heard = absurd exchanged
found visit bytes at_end (Some wire) (Some later) is current exchanged heard =
    let same : wire ≡ door.fresh bytes = cc in
    wire_at visit bytes at_end later current (subst (λ (w : Wire). Exchanges visit.read visit.sent visit.failed visit.read_failed w later) same exchanged) heard

-- one more came, and its visit is over
pub recorded_one_more : (visits : List Visit) (visit : Visit) (a b c d : DoorRecorded) → AreRecorded visits a b → Opens b c → IsOver visit c d → AreRecorded (visits ++ visit ∷ []) a d
recorded_one_more visits visit a b c d recorded opens over =
    let e : DoorRecorded = over.at_end in
    let others : e ≡ record c { current = e.current } = over.exchanged.others in
    let found_wire : AtEnd visit opens.bytes e = found visit opens.bytes e c.current e.current (ap (λ (t : DoorRecorded). t.current) opens.opened) refl over.exchanged.current over.heard in
    let wire : Wire = found_wire.wire in
    let past : e.past ≡ came b = ap (λ (t : DoorRecorded). t.past) others ∙ ap (λ (t : DoorRecorded). t.past) opens.opened in
    let more : came e ≡ came b ++ wire ∷ [] =
    ap (λ (l : List Wire). l ++ option_to_list e.current) past ∙ ap (λ (o : Option Wire). came b ++ option_to_list o) found_wire.current_is in
    let waits : d.waiting ≡ c.waiting = ap (λ (t : DoorRecorded). t.waiting) over.over ∙ ap (λ (t : DoorRecorded). t.waiting) others in
    record {
      wires = recorded.wires ++ wire ∷ [];
      wires_are = wires_more visits recorded.wires visit wire recorded.wires_are found_wire.wire_is;
      came_more = ap came over.over ∙ (came_over e ∙ (more ∙ (ap (λ (l : List Wire). l ++ wire ∷ []) recorded.came_more ∙ append_assoc (came a) recorded.wires (wire ∷ []))));
      waited = recorded.waited ∙ (ap (λ (l : List (List ℕ)). map bytes_of recorded.wires ++ l) (opens.next ∙ (ap (λ (l : List ℕ). l ∷ c.waiting) found_wire.bytes_are
          ∙ ap (λ (l : List (List ℕ)). bytes_of wire ∷ l) (sym waits))) ∙ sym (map_more recorded.wires wire d.waiting));
      port_is = ap (λ (t : DoorRecorded). t.port) over.over ∙ (ap (λ (t : DoorRecorded). t.port) others ∙ (ap (λ (t : DoorRecorded). t.port) opens.opened ∙ recorded.port_is));
    }
