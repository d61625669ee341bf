-- What was played so far, and one event more.
use Rattle.std.proofs.Common.{◌≡◌, ◌∙◌, ◌+◌, ◌<◌, ℕ, suc, List, [], ◌∷◌, ◌++◌, add-one, ap, append_assoc, arith, drop, length, length-append, refl, subst, sym, take}
use Rattle.std.proofs.Math.Seq.{drop-cons}
use Rattle.std.proofs.lemmas.List.{append-nil, length-set, take-append-drop}
use Rattle.std.specs.List.{slice_index_or}
use Rattle.convoy.specs.State.{ConvoyState}
use Rattle.convoy.specs.Finish.{IsStep}
use Rattle.convoy.specs.declared.member.Member.{Member}
use Rattle.convoy.specs.declared.turn.Turn.{Turn}
use Rattle.lc_world.specs.Link.{LinkSeen}
use Rattle.cli_replay.specs.ReplayLaws.Events.{TurnsAreOfClients, questions_in}
use Rattle.cli_replay.specs.ReplayLaws.Played.{IsGiven, Plays}
use Rattle.cli_replay.specs.declared.replay_laws.event.Event.{Event}
use Rattle.cli_replay.specs.declared.replay_laws.event.Event.TheVariants as events
use Rattle.cli_replay.specs.declared.replay_laws.message.Message.{Message}
use Rattle.cli_replay.specs.Turns.{MayHappen}

-- what was played, and then something more
pub plays_on : {X : Type 0} (seen : X → LinkSeen) (done more : List Event) (old mid new : ConvoyState) (before link after : X) (lines rest : List ℕ)
    → Plays seen done old mid before link lines → Plays seen more mid new link after rest → Plays seen (done ++ more) old new before after (lines ++ rest)
plays_on seen [] more old mid new before link after lines rest (same, still, none) plays =
    subst (λ (c : ConvoyState). Plays seen more c new before after (lines ++ rest)) same
    (subst (λ l. Plays seen more mid new l after (lines ++ rest)) still
    (subst (λ (n : List ℕ). Plays seen more mid new link after (n ++ rest)) (sym none) plays))
plays_on seen (events.Ask query ∷ done) more old mid new before link after lines rest (between, adds, tail) plays =
    (between, adds, plays_on seen done more between mid new before link after lines rest tail plays)
plays_on seen (events.Message message ∷ done) more old mid new before link after lines rest (at, line, others, given, tail, are) plays =
    (at, line, others ++ rest, given, plays_on seen done more old mid new at link after others rest tail plays, ap (λ (l : List ℕ). l ++ rest) are ∙ append_assoc line others rest)
plays_on seen (events.Turn client ∷ done) more old mid new before link after lines rest (between, at, turn, step, tail) plays =
    (between, at, turn, step, plays_on seen done more between mid new at link after lines rest tail plays)

-- there is one client for each question
pub clients : {X : Type 0} (seen : X → LinkSeen) (done : List Event) (old new : ConvoyState) (before after : X) (lines : List ℕ) → Plays seen done old new before after lines
    → length new.members ≡ length old.members + length (questions_in done)
clients seen [] old new before after lines (same, still, none) = subst (λ (c : ConvoyState). length c.members ≡ length old.members + 0) (sym same) (omega arith)
clients seen (events.Ask query ∷ done) old new before after lines (between, adds, tail) =
    let rest = clients seen done between new before after lines tail in
    let more : length between.members ≡ length old.members + 1 = ap (λ (c : ConvoyState). length c.members) adds.is ∙ length-append old.members (adds.member ∷ []) in
    omega arith
clients seen (events.Message message ∷ done) old new before after lines (at, line, others, given, tail, are) = clients seen done old new at after others tail
clients seen (events.Turn client ∷ done) old new before after lines (between, at, turn, step, tail) =
    let rest = clients seen done between new at after lines tail in
    let same : length between.members ≡ length old.members = ap (λ (members : List Member). length members) step.turned.members ∙ length-set old.members _ step.turned.is in
    omega arith

-- the place of an item in a list
pub parts : {A : Type 0} (all done : List A) (item : A) → done ≡ take (length done) all → length done < length all → item ≡ slice_index_or all (length done) item
    → all ≡ done ++ item ∷ drop (length done + 1) all
parts {A} all done item are within is =
    sym (take-append-drop (length done) all) ∙ ap (λ (front : List A). front ++ drop (length done) all) (sym are)
    ∙ ap (λ (back : List A). done ++ back) (rw add-one (drop-cons all (length done) item within ∙ ap (λ (x : A). x ∷ drop (suc (length done)) all) (sym is)))

-- the next event may happen, where the turns are those of clients
pub may_happen : (all done behind : List Event) (event : Event) (count : ℕ) → TurnsAreOfClients all → all ≡ done ++ event ∷ behind → count ≡ length (questions_in done) → MayHappen count event
may_happen all done behind (events.Ask query) count turns are is = tt
may_happen all done behind (events.Message message) count turns are is = tt
may_happen all done behind (events.Turn client) count turns are is = subst (λ (n : ℕ). MayHappen n (events.Turn client)) (sym is) (turns done behind client are)

-- a turn alone was played
pub one_turn : {X : Type 0} (seen : X → LinkSeen) (event : Event) (client : ℕ) (old new : ConvoyState) (before after : X) (turn : Turn) (lines : List ℕ) → event ≡ events.Turn client
    → IsStep seen client old new before after turn → lines ≡ [] → Plays seen (event ∷ []) old new before after lines
one_turn seen event client old new before after turn lines is step none =
    subst (λ (e : Event). Plays seen (e ∷ []) old new before after lines) (sym is) (new, after, turn, step, (refl, refl, none))

-- a message alone was heard
pub one_message : {X : Type 0} (seen : X → LinkSeen) (event : Event) (message : Message) (convoy : ConvoyState) (before after : X) (line : List ℕ) → event ≡ events.Message message
    → IsGiven (seen before) (seen after) message.file line → Plays seen (event ∷ []) convoy convoy before after line
one_message seen event message convoy before after line is given =
    subst (λ (e : Event). Plays seen (e ∷ []) convoy convoy before after line) (sym is) (after, line, [], given, (refl, refl, refl), sym (append-nil line))
