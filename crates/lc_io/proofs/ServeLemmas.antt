-- Parts of serving, one after the other.
use Rattle.std.proofs.Common.{◌≡◌, ◌∙◌, ℕ, ◌||◌, Bool, true, false, List, [], ◌++◌, take, Option, None, Some, Ok, Err, refl, sym, ap, subst, append_assoc, append-nil}
use Rattle.lc_io.specs.Door.{DoorSeen, DoorRecorded, GoesOn, OnCurrent, Reads, Takes, Wire, Writes}
use Rattle.lc_io.specs.Serving.{Agrees, BreaksOff, Carries, Exchanges, Halts, SendsFront, Serves, TalksFailed}
use Rattle.lc_io.specs.Talk.{Said, TalkSeen}
use Rattle.lc_io.specs.declared.door.DoorFail.{DoorFail}
use Rattle.lc_io.specs.declared.door.DoorFail.TheVariants.{Failed, NoMemory}

goes_then : {X : Type 0} (P Q R : X → X → Type 0) → ((a b c : X) → P a b → Q b c → R a c) → (a b c : Option X) → GoesOn P a b → GoesOn Q b c → GoesOn R a c
goes_then P Q R step None None c p q = q
goes_then P Q R step None (Some b) c p q = absurd (cc)
goes_then P Q R step (Some a) None c p q = absurd p
goes_then P Q R step (Some a) (Some b) None p q = q
goes_then P Q R step (Some a) (Some b) (Some c) p q = step a b c p q

goes_as : {X : Type 0} (P Q : X → X → Type 0) → ((a b : X) → P a b → Q a b) → (a b : Option X) → GoesOn P a b → GoesOn Q a b
goes_as P Q step None b p = p
goes_as P Q step (Some a) None p = p
goes_as P Q step (Some a) (Some b) p = step a b p

goes_nowhere : {X : Type 0} (P : X → X → Type 0) → ((a : X) → P a a) → (a : Option X) → GoesOn P a a
goes_nowhere P step None = refl
goes_nowhere P step (Some a) = step a

on_then : (P Q R : Wire → Wire → Type 0) → ((a b c : Wire) → P a b → Q b c → R a c) → (a b c : DoorRecorded) → OnCurrent P a b → OnCurrent Q b c → OnCurrent R a c
on_then P Q R step a b c p q = record {
  others = q.others ∙ ap (λ (t : DoorRecorded). record t { current = c.current }) p.others;
  current = goes_then P Q R step a.current b.current c.current p.current q.current;
}

on_as : (P Q : Wire → Wire → Type 0) → ((a b : Wire) → P a b → Q a b) → (a b : DoorRecorded) → OnCurrent P a b → OnCurrent Q a b
on_as P Q step a b p = record { others = p.others; current = goes_as P Q step a.current b.current p.current }

-- a step of a recorded connection is an exchange of bytes
pub recorded_as : (P : Wire → Wire → Type 0) (read sent : List ℕ) (failed read_failed : Bool) → ((a b : Wire) → P a b → Exchanges read sent failed read_failed a b)
    → (a b : Option DoorRecorded) → GoesOn (OnCurrent P) a b → GoesOn (OnCurrent (Exchanges read sent failed read_failed)) a b
recorded_as P read sent failed read_failed step a b p =
    goes_as (OnCurrent P) (OnCurrent (Exchanges read sent failed read_failed)) (on_as P (Exchanges read sent failed read_failed) step) a b p

no_exchange : (a : Wire) → Exchanges [] [] false false a a
no_exchange a = record { came = refl; read_more = sym (append-nil a.read); sent_more = sym (append-nil a.sent); failed_too = refl; read_failed_too = refl }

-- nothing was exchanged
pub recorded_same : (a : Option DoorRecorded) → GoesOn (OnCurrent (Exchanges [] [] false false)) a a
recorded_same a = goes_nowhere (OnCurrent (Exchanges [] [] false false))
    (λ (t : DoorRecorded). record { others = refl; current = goes_nowhere (Exchanges [] [] false false) no_exchange t.current }) a

-- bytes were read
pub taken : (piece : List ℕ) (count : ℕ) (read : List ℕ) → read ≡ take count piece → (a b : Wire) → Takes piece count a b → Exchanges read [] false false a b
taken piece count read is a b takes =
    let Goal : List ℕ → Type 0 = λ l. Exchanges l [] false false a b in
    subst Goal (sym is) (record {
      came = takes.came;
      read_more = ap (λ (w : Wire). w.read) takes.moved;
      sent_more = ap (λ (w : Wire). w.sent) takes.moved ∙ sym (append-nil a.sent);
      failed_too = ap (λ (w : Wire). w.failed) takes.moved;
      read_failed_too = ap (λ (w : Wire). w.read_failed) takes.moved;
    })

-- bytes were sent
pub written : (bytes : List ℕ) (a b : Wire) → b ≡ record a { sent = a.sent ++ bytes } → Exchanges [] bytes false false a b
written bytes a b is = record {
  came = sym (ap (λ (w : Wire). w.to_come) is);
  read_more = ap (λ (w : Wire). w.read) is ∙ sym (append-nil a.read);
  sent_more = ap (λ (w : Wire). w.sent) is;
  failed_too = ap (λ (w : Wire). w.failed) is;
  read_failed_too = ap (λ (w : Wire). w.read_failed) is;
}

-- a write failed
pub write_failed : (a b : Wire) → b ≡ record a { failed = true } → Exchanges [] [] true false a b
write_failed a b is = record {
  came = sym (ap (λ (w : Wire). w.to_come) is);
  read_more = ap (λ (w : Wire). w.read) is ∙ sym (append-nil a.read);
  sent_more = ap (λ (w : Wire). w.sent) is ∙ sym (append-nil a.sent);
  failed_too = ap (λ (w : Wire). w.failed) is;
  read_failed_too = ap (λ (w : Wire). w.read_failed) is;
}

-- a read failed
pub read_failed_now : (a b : Wire) → b ≡ record a { failed = true; read_failed = true } → Exchanges [] [] true true a b
read_failed_now a b is = record {
  came = sym (ap (λ (w : Wire). w.to_come) is);
  read_more = ap (λ (w : Wire). w.read) is ∙ sym (append-nil a.read);
  sent_more = ap (λ (w : Wire). w.sent) is ∙ sym (append-nil a.sent);
  failed_too = ap (λ (w : Wire). w.failed) is;
  read_failed_too = ap (λ (w : Wire). w.read_failed) is;
}

-- there was no memory to read or to write
pub unchanged : (a b : Wire) → b ≡ a → Exchanges [] [] false false a b
unchanged a b is = let Goal : Wire → Type 0 = λ w. Exchanges [] [] false false a w in subst Goal (sym is) (no_exchange a)

exchanges_then : (r s t u : List ℕ) (failed read_failed : Bool) (a b c : Wire) → Exchanges r s false false a b → Exchanges t u failed read_failed b c
    → Exchanges (r ++ t) (s ++ u) failed read_failed a c
exchanges_then r s t u failed read_failed a b c p q = record {
  came = p.came ∙ (ap (λ (l : List ℕ). r ++ l) q.came ∙ sym (append_assoc r t c.to_come));
  read_more = q.read_more ∙ (ap (λ (l : List ℕ). l ++ t) p.read_more ∙ append_assoc a.read r t);
  sent_more = q.sent_more ∙ (ap (λ (l : List ℕ). l ++ u) p.sent_more ∙ append_assoc a.sent s u);
  failed_too = q.failed_too ∙ ap (λ (w : Bool). failed || w) p.failed_too;
  read_failed_too = q.read_failed_too ∙ ap (λ (w : Bool). read_failed || w) p.read_failed_too;
}

recorded_then : (r s t u : List ℕ) (failed read_failed : Bool) (a b c : Option DoorRecorded) → GoesOn (OnCurrent (Exchanges r s false false)) a b
    → GoesOn (OnCurrent (Exchanges t u failed read_failed)) b c → GoesOn (OnCurrent (Exchanges (r ++ t) (s ++ u) failed read_failed)) a c
recorded_then r s t u failed read_failed a b c p q =
    goes_then (OnCurrent (Exchanges r s false false)) (OnCurrent (Exchanges t u failed read_failed)) (OnCurrent (Exchanges (r ++ t) (s ++ u) failed read_failed))
    (on_then (Exchanges r s false false) (Exchanges t u failed read_failed) (Exchanges (r ++ t) (s ++ u) failed read_failed) (exchanges_then r s t u failed read_failed)) a b c p q

carries_then : {T Start : Type 0} (stands : T → Start → List ℕ → List ℕ → Type 0) (a b c : T) (r s t u : List ℕ) → Carries stands a b r s → Carries stands b c t u
    → Carries stands a c (r ++ t) (s ++ u)
carries_then {T} {Start} stands a b c r s t u p q = λ (start : Start) (was_fed was_sent : List ℕ) (st : stands a start was_fed was_sent).
    let Fed : List ℕ → Type 0 = λ l. stands c start l ((was_sent ++ s) ++ u) in
    let Sent : List ℕ → Type 0 = λ l. stands c start (was_fed ++ (r ++ t)) l in
    subst Sent (append_assoc was_sent s u) (subst Fed (append_assoc was_fed r t) (q start (was_fed ++ r) (was_sent ++ s) (p start was_fed was_sent st)))

-- the talk is as it was
pub carries_none : {T Start : Type 0} (stands : T → Start → List ℕ → List ℕ → Type 0) (a : T) → Carries stands a a [] []
carries_none {T} {Start} stands a = λ (start : Start) (was_fed was_sent : List ℕ) (st : stands a start was_fed was_sent).
    let Fed : List ℕ → Type 0 = λ l. stands a start l was_sent in
    let Sent : List ℕ → Type 0 = λ l. stands a start (was_fed ++ []) l in
    subst Sent (sym (append-nil was_sent)) (subst Fed (sym (append-nil was_fed)) st)

-- the talk was fed, and has sent nothing
pub carries_fed : {T Start : Type 0} (stands : T → Start → List ℕ → List ℕ → Type 0) (a b : T) (piece : List ℕ)
    → ((start : Start) (fed sent : List ℕ) → stands a start fed sent → stands b start (fed ++ piece) sent) → Carries stands a b piece []
carries_fed {T} {Start} stands a b piece feeds = λ (start : Start) (was_fed was_sent : List ℕ) (st : stands a start was_fed was_sent).
    let Sent : List ℕ → Type 0 = λ l. stands b start (was_fed ++ piece) l in
    subst Sent (sym (append-nil was_sent)) (feeds start was_fed was_sent st)

-- the talk has sent, and was fed nothing
pub carries_sent : {T Start : Type 0} (stands : T → Start → List ℕ → List ℕ → Type 0) (a b : T) (bytes : List ℕ)
    → ((start : Start) (fed sent : List ℕ) → stands a start fed sent → stands b start fed (sent ++ bytes)) → Carries stands a b [] bytes
carries_sent {T} {Start} stands a b bytes sends = λ (start : Start) (was_fed was_sent : List ℕ) (st : stands a start was_fed was_sent).
    let Fed : List ℕ → Type 0 = λ l. stands b start l (was_sent ++ bytes) in
    subst Fed (sym (append-nil was_fed)) (sends start was_fed was_sent st)

-- nothing has happened
pub agrees_none : {T Start : Type 0} (stands : T → Start → List ℕ → List ℕ → Type 0) (a : T) (recorded : Option DoorRecorded) → Agrees stands false false a a recorded recorded
agrees_none stands a recorded = record { fed = []; sent = []; talk = carries_none stands a; door = recorded_same recorded }

-- the talk is as it was, and the door is as far as nothing was exchanged
pub agrees_still : {T Start : Type 0} (stands : T → Start → List ℕ → List ℕ → Type 0) (failed read_failed : Bool) (a : T) (before after : Option DoorRecorded)
    → GoesOn (OnCurrent (Exchanges [] [] failed read_failed)) before after → Agrees stands failed read_failed a a before after
agrees_still stands failed read_failed a before after door = record { fed = []; sent = []; talk = carries_none stands a; door = door }

-- one part after the other
pub agrees_then : {T Start : Type 0} (stands : T → Start → List ℕ → List ℕ → Type 0) (failed read_failed : Bool) (a b c : T) (d e f : Option DoorRecorded)
    → Agrees stands false false a b d e → Agrees stands failed read_failed b c e f → Agrees stands failed read_failed a c d f
agrees_then stands failed read_failed a b c d e f p q = record {
  fed = p.fed ++ q.fed;
  sent = p.sent ++ q.sent;
  talk = carries_then stands a b c p.fed p.sent q.fed q.sent p.talk q.talk;
  door = recorded_then p.fed p.sent q.fed q.sent failed read_failed d e f p.door q.door;
}

-- the law of what a talk says
abbrev pub SaysWhatStands : {T Start : Type 0} → (T → TalkSeen) → (Start → List ℕ → Said → Type 0) → (T → Start → List ℕ → List ℕ → Type 0) → Type 0
SaysWhatStands {T} {Start} seen says stands = (talk : T) (start : Start) (fed sent : List ℕ) → stands talk start fed sent
    → says start fed (record { output = sent ++ (seen talk).pending; requests = (seen talk).requests; ended = (seen talk).ended })

-- memory runs out after one part
pub agrees_halts : {T Start : Type 0} (seen : T → TalkSeen) (stands : T → Start → List ℕ → List ℕ → Type 0) (says : Start → List ℕ → Said → Type 0)
    → SaysWhatStands seen says stands → (a b : T) (d e : Option DoorRecorded) → Agrees stands false false a b d e → Halts stands says a d e
agrees_halts {T} {Start} seen stands says law a b d e p = record {
  read = p.fed;
  sent = p.sent;
  door = p.door;
  front = λ (start : Start) (was_fed was_sent : List ℕ) (st : stands a start was_fed was_sent). record {
    heard = was_fed ++ p.fed;
    said = record { output = (was_sent ++ p.sent) ++ (seen b).pending; requests = (seen b).requests; ended = (seen b).ended };
    heard_is = record { rest = []; is = sym (append-nil (was_fed ++ p.fed)) };
    is_said = law b start (was_fed ++ p.fed) (was_sent ++ p.sent) (p.talk start was_fed was_sent st);
    sent_is = record { rest = (seen b).pending; is = refl };
  };
}

-- memory runs out while bytes that were read are fed
pub fed_halts : {T Start : Type 0} (seen : T → TalkSeen) (stands : T → Start → List ℕ → List ℕ → Type 0) (says : Start → List ℕ → Said → Type 0)
    → SaysWhatStands seen says stands → (a : T) (bytes : List ℕ) (d e : Option DoorRecorded) → GoesOn (OnCurrent (Exchanges bytes [] false false)) d e → Halts stands says a d e
fed_halts {T} {Start} seen stands says law a bytes d e door = record {
  read = bytes;
  sent = [];
  door = door;
  front = λ (start : Start) (was_fed was_sent : List ℕ) (st : stands a start was_fed was_sent). record {
    heard = was_fed;
    said = record { output = was_sent ++ (seen a).pending; requests = (seen a).requests; ended = (seen a).ended };
    heard_is = record { rest = bytes; is = refl };
    is_said = law a start was_fed was_sent st;
    sent_is = record { rest = (seen a).pending; is = ap (λ (l : List ℕ). l ++ (seen a).pending) (sym (append-nil was_sent)) };
  };
}

-- memory runs out in a later part
pub halts_then : {T Start : Type 0} (stands : T → Start → List ℕ → List ℕ → Type 0) (says : Start → List ℕ → Said → Type 0) (a b : T) (d e f : Option DoorRecorded)
    → Agrees stands false false a b d e → Halts stands says b e f → Halts stands says a d f
halts_then {T} {Start} stands says a b d e f p q = record {
  read = p.fed ++ q.read;
  sent = p.sent ++ q.sent;
  door = recorded_then p.fed p.sent q.read q.sent false false d e f p.door q.door;
  front = λ (start : Start) (was_fed was_sent : List ℕ) (st : stands a start was_fed was_sent).
      let Fed : List ℕ → Type 0 = λ l. SendsFront (says start) l ((was_sent ++ p.sent) ++ q.sent) in
      let Sent : List ℕ → Type 0 = λ l. SendsFront (says start) (was_fed ++ (p.fed ++ q.read)) l in
      subst Sent (append_assoc was_sent p.sent q.sent) (subst Fed (append_assoc was_fed p.fed q.read)
      (q.front start (was_fed ++ p.fed) (was_sent ++ p.sent) (p.talk start was_fed was_sent st)));
}

serves_as : {T Start : Type 0} (seen : T → TalkSeen) (stands : T → Start → List ℕ → List ℕ → Type 0) (says : Start → List ℕ → Said → Type 0)
    → SaysWhatStands seen says stands → (failed read_failed : Bool) (a b : T) (d e : Option DoorRecorded) → Agrees stands failed read_failed a b d e
    → (read_failed ≡ true → (seen b).pending ≡ []) → Serves stands says failed a b (seen b) d e
serves_as {T} {Start} seen stands says law failed read_failed a b d e p in_turn = record {
  fed = p.fed;
  sent = p.sent;
  read_failed = read_failed;
  talk = p.talk;
  door = p.door;
  in_turn = in_turn;
  output = λ (start : Start) (st : stands a start [] []). law b start p.fed p.sent (p.talk start [] [] st);
}

-- what the talk says for all that was read
pub agrees_serves : {T Start : Type 0} (seen : T → TalkSeen) (stands : T → Start → List ℕ → List ℕ → Type 0) (says : Start → List ℕ → Said → Type 0)
    → SaysWhatStands seen says stands → (a b : T) (d e : Option DoorRecorded) → Agrees stands false false a b d e → Serves stands says false a b (seen b) d e
agrees_serves seen stands says law a b d e p = serves_as seen stands says law false false a b d e p (λ read. absurd (cc))

-- what it says where a call failed
pub breaks_off_serves : {T Start : Type 0} (seen : T → TalkSeen) (stands : T → Start → List ℕ → List ℕ → Type 0) (says : Start → List ℕ → Said → Type 0)
    → SaysWhatStands seen says stands → (a b : T) (d e : Option DoorRecorded) → BreaksOff stands a b (seen b) d e → Serves stands says true a b (seen b) d e
breaks_off_serves seen stands says law a b d e p = serves_as seen stands says law true p.read_failed a b d e p.agrees p.in_turn

-- pending bytes were sent
pub sends : {T Start : Type 0} (stands : T → Start → List ℕ → List ℕ → Type 0) (a b : T) (piece pending : List ℕ) (count : ℕ) (d e : Option DoorRecorded) → piece ≡ pending
    → ((start : Start) (fed sent : List ℕ) → stands a start fed sent → stands b start fed (sent ++ take count pending))
    → GoesOn (OnCurrent (Writes piece (Ok count))) d e → Agrees stands false false a b d e
sends stands a b piece pending count d e is talk door = record {
  fed = [];
  sent = take count pending;
  talk = carries_sent stands a b (take count pending) talk;
  door = recorded_as (Writes piece (Ok count)) [] (take count pending) false false
      (λ x y w. written (take count pending) x y (w ∙ ap (λ (l : List ℕ). record x { sent = x.sent ++ take count l }) is)) d e door;
}

-- bytes were read and fed
pub feeds : {T Start : Type 0} (stands : T → Start → List ℕ → List ℕ → Type 0) (a b : T) (piece : List ℕ) (count : ℕ) (d e : Option DoorRecorded)
    → ((start : Start) (fed sent : List ℕ) → stands a start fed sent → stands b start (fed ++ take count piece) sent)
    → GoesOn (OnCurrent (Reads piece (Ok count))) d e → Agrees stands false false a b d e
feeds stands a b piece count d e talk door = record {
  fed = take count piece;
  sent = [];
  talk = carries_fed stands a b (take count piece) talk;
  door = recorded_as (Reads piece (Ok count)) (take count piece) [] false false (taken piece count (take count piece) refl) d e door;
}

-- a read failed, while nothing was pending
pub read_fails : {T Start : Type 0} (seen : T → TalkSeen) (stands : T → Start → List ℕ → List ℕ → Type 0) (says : Start → List ℕ → Said → Type 0)
    → SaysWhatStands seen says stands → (fail : DoorFail) (a : T) (piece : List ℕ) (d e : Option DoorRecorded) → (seen a).pending ≡ []
    → GoesOn (OnCurrent (Reads piece (Err fail))) d e → TalksFailed stands says fail a a (seen a) d e
read_fails seen stands says law Failed a piece d e none door = record {
  read_failed = true;
  agrees = agrees_still stands true true a d e (recorded_as (Reads piece (Err Failed)) [] [] true true read_failed_now d e door);
  in_turn = λ read. none;
}
read_fails seen stands says law NoMemory a piece d e none door =
    agrees_halts seen stands says law a a d e (agrees_still stands false false a d e (recorded_as (Reads piece (Err NoMemory)) [] [] false false unchanged d e door))

-- a write failed
pub write_fails : {T Start : Type 0} (seen : T → TalkSeen) (stands : T → Start → List ℕ → List ℕ → Type 0) (says : Start → List ℕ → Said → Type 0)
    → SaysWhatStands seen says stands → (fail : DoorFail) (a : T) (piece : List ℕ) (d e : Option DoorRecorded)
    → GoesOn (OnCurrent (Writes piece (Err fail))) d e → TalksFailed stands says fail a a (seen a) d e
write_fails seen stands says law Failed a piece d e door = record {
  read_failed = false;
  agrees = agrees_still stands true false a d e (recorded_as (Writes piece (Err Failed)) [] [] true false write_failed d e door);
  in_turn = λ read. absurd (cc);
}
write_fails seen stands says law NoMemory a piece d e door =
    agrees_halts seen stands says law a a d e (agrees_still stands false false a d e (recorded_as (Writes piece (Err NoMemory)) [] [] false false unchanged d e door))

-- a later part failed
pub fails_then : {T Start : Type 0} (stands : T → Start → List ℕ → List ℕ → Type 0) (says : Start → List ℕ → Said → Type 0) (fail : DoorFail) (a b c : T) (seen_after : TalkSeen)
    (d e f : Option DoorRecorded) → Agrees stands false false a b d e → TalksFailed stands says fail b c seen_after e f → TalksFailed stands says fail a c seen_after d f
fails_then stands says Failed a b c seen_after d e f p q = record {
  read_failed = q.read_failed;
  agrees = agrees_then stands true q.read_failed a b c d e f p q.agrees;
  in_turn = q.in_turn;
}
fails_then stands says NoMemory a b c seen_after d e f p q = halts_then stands says a b d e f p q

-- nothing but what is pending has changed
pub pending_then : (x y z : TalkSeen) (pending : List ℕ) → y ≡ record x { pending = y.pending } → z ≡ record y { pending = pending } → z ≡ record x { pending = z.pending }
pending_then x y z pending p q =
    q ∙ (ap (λ (t : TalkSeen). record t { pending = pending }) p ∙ ap (λ (l : List ℕ). record x { pending = l }) (sym (ap (λ (t : TalkSeen). t.pending) q)))

-- nothing but what is recorded and the count of broken connections has changed
pub others_then : (x y z : DoorSeen) → y ≡ record x { recorded = y.recorded; broken = y.broken } → z ≡ record y { recorded = z.recorded; broken = z.broken } → z ≡ record x { recorded = z.recorded; broken = z.broken }
others_then x y z p q = q ∙ ap (λ (s : DoorSeen). record s { recorded = z.recorded; broken = z.broken }) p
