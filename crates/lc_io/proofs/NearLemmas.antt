-- Near values, refused.
use Rattle.std.proofs.Common.{◌≡◌, ◌⊎◌, ◌∙◌, ℕ, ◌<◌, ◌≤◌, ◌||◌, Bool, false, true, List, [], ◌∷◌, ◌++◌, length, take, Option, None, Some, inl, inr, refl, sym, ap, subst, arith, length-append, length-take}
use Rattle.lc_io.specs.Door.{DoorRecorded, GoesOn, Opens, Takes, Wire, fresh}
use Rattle.lc_io.specs.EchoTalk.{EchoTalkState, Echoes, HasEchoed, echo_seen}
use Rattle.lc_io.specs.Serving.{Exchanges, IsServed, NothingToCome, Serves}
use Rattle.lc_io.specs.Talk.{Said, TalkSeen}

some_is_none : (byte : ℕ) (rest list : List ℕ) → list ≡ byte ∷ rest → list ≡ [] → ⊥
some_is_none byte rest list some none = absurd (cc)

pub none_unread : (piece : List ℕ) (before after : Wire) (byte : ℕ) (rest : List ℕ) → 0 < length piece → before.to_come ≡ byte ∷ rest → Takes piece 0 before after → ⊥
none_unread piece before after byte rest room some takes = some_is_none byte rest before.to_come some (takes.came ∙ takes.ended room (λ i. 0))

pub none_skipped : (before after : DoorRecorded) (first second : List ℕ) → before.waiting ≡ first ∷ second ∷ [] → after.waiting ≡ [] → Opens before after → ⊥
none_skipped before after first second two none opens =
    let both : first ∷ second ∷ [] ≡ opens.bytes ∷ [] = sym two ∙ (opens.next ∙ ap (λ (l : List (List ℕ)). opens.bytes ∷ l) none) in
    absurd (cc)

pub none_cut_off : (talk : TalkSeen) (recorded : DoorRecorded) (wire : Wire) (byte : ℕ) (rest : List ℕ) → talk.ended ≡ false → recorded.current ≡ Some wire → wire.to_come ≡ byte ∷ rest
    → IsServed talk (Some recorded) → ⊥
none_cut_off talk recorded wire byte rest goes_on current some served =
    let cases : NothingToCome (Some recorded) ⊎ (talk.ended ≡ true) → ⊥ =
    elim [
      | inl nothing ↦ some_is_none byte rest wire.to_come some (rw current at nothing)
      | inr ended ↦ absurd (cc)
    ] in
    cases served.ended

-- what comes after the same front is the same
pub same_rest : (front a b : List ℕ) → front ++ a ≡ front ++ b → a ≡ b
same_rest [] a b e = e
same_rest (x ∷ front) a b e = same_rest front a b (cc)

pub one_read : (piece : List ℕ) (count : ℕ) (before a b : Wire) → Takes piece count before a → Takes piece count before b → a ≡ b
one_read piece count before a b p q =
    let same : a.to_come ≡ b.to_come = same_rest (take count piece) a.to_come b.to_come (sym p.came ∙ q.came) in
    p.moved ∙ (ap (λ (l : List ℕ). record before { to_come = l; read = before.read ++ take count piece }) same ∙ sym q.moved)

pub one_next : (before a b : DoorRecorded) → Opens before a → Opens before b → a ≡ b
one_next before a b p q =
    let both : p.bytes ∷ a.waiting ≡ q.bytes ∷ b.waiting = sym p.next ∙ q.next in
    let bytes : p.bytes ≡ q.bytes = cc in
    let waiting : a.waiting ≡ b.waiting = cc in
    p.opened ∙ (rw (bytes, waiting) (sym q.opened))

same_flag : (a b before : Bool) → before ≡ false → (a || before) ≡ (b || before) → a ≡ b
same_flag true true before none same = refl
same_flag true false before none same = absurd (cc)
same_flag false true before none same = absurd (cc)
same_flag false false before none same = refl

pub one_exchange : (read sent other_read other_sent : List ℕ) (failed other_failed read_failed other_read_failed : Bool) (before after : Wire) → Exchanges read sent failed read_failed before after
    → Exchanges other_read other_sent other_failed other_read_failed before after
    → (read ≡ other_read) × (sent ≡ other_sent) × (before.read_failed ≡ false → read_failed ≡ other_read_failed)
one_exchange read sent other_read other_sent failed other_failed read_failed other_read_failed before after p q = (
  same_rest before.read read other_read (sym p.read_more ∙ q.read_more),
  same_rest before.sent sent other_sent (sym p.sent_more ∙ q.sent_more),
  λ none. same_flag read_failed other_read_failed before.read_failed none (sym p.read_failed_too ∙ q.read_failed_too),
)

-- a step of a connection that is recorded before and after it
step_of : (P : Wire → Wire → Type 0) (a b : Option Wire) (before after : Wire) → a ≡ Some before → b ≡ Some after → GoesOn P a b → P before after
step_of P None b before after was is step = absurd (cc)
step_of P (Some a) None before after was is step = absurd step
step_of P (Some a) (Some b) before after was is step =
    let first : a ≡ before = cc in
    let last : b ≡ after = cc in
    subst (λ (w : Wire). P before w) last (subst (λ (w : Wire). P w b) first step)

pub none_held_back : (failed : Bool) (limit : ℕ) (talk after : EchoTalkState) (bytes : List ℕ) (recorded_before recorded_after : DoorRecorded) (wire : Wire) (byte : ℕ) (rest : List ℕ)
    → HasEchoed talk limit [] [] → length wire.read ≤ limit → recorded_before.current ≡ Some (fresh bytes) → recorded_after.current ≡ Some wire
    → wire.read_failed ≡ true → wire.read ≡ wire.sent ++ byte ∷ rest
    → Serves HasEchoed Echoes failed talk after (echo_seen after) (Some recorded_before) (Some recorded_after) → ⊥
none_held_back failed limit talk after bytes recorded_before recorded_after wire byte rest starts few was is read more serves =
    let exchanged : Exchanges serves.fed serves.sent failed serves.read_failed (fresh bytes) wire =
    step_of (Exchanges serves.fed serves.sent failed serves.read_failed) recorded_before.current recorded_after.current (fresh bytes) wire was is serves.door.current in
    let none : after.pending ≡ [] = serves.in_turn (same_flag serves.read_failed true false refl (sym exchanged.read_failed_too ∙ read)) in
    let given : serves.sent ++ after.pending ≡ take limit serves.fed = ap (λ (s : Said). s.output) (serves.output limit starts).is in
    let long : length (take limit serves.fed) ≡ length serves.fed = omega (arith, length-take limit serves.fed, ap length exchanged.read_more) in
    absurd (omega (
      arith,
      ap length given,
      length-append serves.sent after.pending,
      ap length none,
      long,
      ap length exchanged.read_more,
      ap length exchanged.sent_more,
      ap length more,
      length-append wire.sent (byte ∷ rest),
    ))
