-- Event sequences that grow: what is said of one, where one more thing was done, and of turns, where there are more of them.
use Rattle.std.proofs.Common.{◌≡◌, ℕ, ◌+◌, ◌-◌, ◌<◌, ◌≤◌, Bool, true, false, List, [], ◌∷◌, ◌++◌, length, map, Option, Some, None, refl, ap, ap₂, sym, subst, ◌∙◌, arith}
use Rattle.std.specs.Prelude.{◌==◌, if◌then◌else◌}
use Rattle.std.specs.List.{slice_get}
use Rattle.std.specs.Option.{option_map}
use Rattle.std.proofs.lemmas.Bool.{eq-eqb, eqb-true, false≢true}
use Rattle.std.proofs.lemmas.Grind.{flat_map-append}
use Rattle.std.proofs.lemmas.List.{append-nil, append_assoc, length-append, map-append}
use Rattle.std.proofs.lemmas.List.Elements.{All-append, All-nil}
use Rattle.csa_scan.proofs.ListPlacesLemmas.{item_within, slice_get-append}
use Rattle.cli_words.specs.declared.command.Publishing.{Publishing}
use Rattle.connection_uri.specs.Base.{BaseParts}
use Rattle.convoy.specs.Agreement.Names.{AskByNames, Round, failures_in, names_after, names_behind}
use Rattle.convoy.specs.Agreement.OneClient.{version_of}
use Rattle.convoy.specs.Agreement.Requests.{TellsRequests, request_of}
use Rattle.lc_model.specs.declared.page.PageName.{PageName}
use Rattle.lc_model.specs.declared.query.Query.{Query}
use Rattle.lc_world.specs.declared.entry.Entry.{Entry}
use Rattle.page_client.specs.declared.want.Want.{Want}
use Rattle.journey_text.specs.Script.{IsClient}
use Rattle.timetable.specs.declared.timetable.Timetable.{Timetable}
use Rattle.version_store.specs.Store.{Stored}
use Rattle.cli_ask.specs.Admission.{IsBehind}
use Rattle.cli_ask.specs.Publishing.{side_with, store_of}
use Rattle.cli_replay.specs.ReplayLaws.Events.{TurnsAreOfClients, before_turn_of, questions_in, turns_in}
use Rattle.cli_replay.specs.ReplayLaws.Turns.{asked_in, failed_in, given_in, requests_by, requests_in, rounds_of}
use Rattle.cli_replay.specs.ReplayLaws.Versions.{HasHeard, IsMeant}
use Rattle.cli_replay.specs.declared.replay_laws.event.Event.{Event}
use Rattle.cli_replay.specs.declared.replay_laws.event.Event.TheVariants as events
use Rattle.cli_replay.specs.declared.replay_laws.message.Message.{Message}

-- the questions and the turns of an event sequence and then of another

pub questions_in-append : (done more : List Event) → questions_in (done ++ more) ≡ questions_in done ++ questions_in more
questions_in-append [] more = refl
questions_in-append (events.Ask query ∷ done) more = ap (λ (l : List Query). query ∷ l) (questions_in-append done more)
questions_in-append (events.Message message ∷ done) more = questions_in-append done more
questions_in-append (events.Turn client ∷ done) more = questions_in-append done more

pub turns_in-append : (done more : List Event) → turns_in (done ++ more) ≡ turns_in done ++ turns_in more
turns_in-append [] more = refl
turns_in-append (events.Ask query ∷ done) more = turns_in-append done more
turns_in-append (events.Message message ∷ done) more = turns_in-append done more
turns_in-append (events.Turn client ∷ done) more = ap (λ (l : List ℕ). client ∷ l) (turns_in-append done more)

pub questions_behind_message : (done : List Event) (message : Message) → questions_in (done ++ events.Message message ∷ []) ≡ questions_in done
questions_behind_message done message = questions_in-append done (events.Message message ∷ []) ∙ append-nil (questions_in done)

pub questions_behind_turn : (done : List Event) (client : ℕ) → questions_in (done ++ events.Turn client ∷ []) ≡ questions_in done
questions_behind_turn done client = questions_in-append done (events.Turn client ∷ []) ∙ append-nil (questions_in done)

pub turns_behind_ask : (done : List Event) (query : Query) → turns_in (done ++ events.Ask query ∷ []) ≡ turns_in done
turns_behind_ask done query = turns_in-append done (events.Ask query ∷ []) ∙ append-nil (turns_in done)

pub turns_behind_message : (done : List Event) (message : Message) → turns_in (done ++ events.Message message ∷ []) ≡ turns_in done
turns_behind_message done message = turns_in-append done (events.Message message ∷ []) ∙ append-nil (turns_in done)

-- what was heard in an event sequence and then in another

pub heard_then : (done more : List Event) (old between new : Stored) (lines rest : List ℕ) → HasHeard done old between lines → HasHeard more between new rest → HasHeard (done ++ more) old new (lines ++ rest)
heard_then [] more old between new lines rest first next =
    subst (λ (store : Stored). HasHeard more store new (lines ++ rest)) first.0 (subst (λ (l : List ℕ). HasHeard more between new (l ++ rest)) (sym first.1) next)
heard_then (events.Ask query ∷ done) more old between new lines rest first next = heard_then done more old between new lines rest first next
heard_then (events.Message message ∷ done) more old between new lines rest (mid, line, behind, is, later, all) next =
    (mid, line, behind ++ rest, is, heard_then done more mid between new behind rest later next, ap (λ (l : List ℕ). l ++ rest) all ∙ append_assoc line behind rest)
heard_then (events.Turn client ∷ done) more old between new lines rest first next = heard_then done more old between new lines rest first next

pub heard_behind_ask : (done : List Event) (query : Query) (old new : Stored) (lines : List ℕ) → HasHeard done old new lines → HasHeard (done ++ events.Ask query ∷ []) old new lines
heard_behind_ask done query old new lines heard =
    subst (HasHeard (done ++ events.Ask query ∷ []) old new) (append-nil lines) (heard_then done (events.Ask query ∷ []) old new new lines [] heard (refl, refl))

pub heard_behind_turn : (done : List Event) (client : ℕ) (old new : Stored) (lines : List ℕ) → HasHeard done old new lines → HasHeard (done ++ events.Turn client ∷ []) old new lines
heard_behind_turn done client old new lines heard =
    subst (HasHeard (done ++ events.Turn client ∷ []) old new) (append-nil lines) (heard_then done (events.Turn client ∷ []) old new new lines [] heard (refl, refl))

pub heard_behind_message : (done : List Event) (message : Message) (old between new : Stored) (lines line : List ℕ) → HasHeard done old between lines → IsBehind (Some message.file) between new line →
    HasHeard (done ++ events.Message message ∷ []) old new (lines ++ line)
heard_behind_message done message old between new lines line heard behind =
    heard_then done (events.Message message ∷ []) old between new lines line heard (new, line, [], behind, (refl, refl), sym (append-nil line))

-- whether the client has a turn among these
abbrev pub has_turn : ℕ → List ℕ → Bool
has_turn client [] = false
has_turn client (other ∷ more) = if other == client then true else has_turn client more

-- what comes before the first turn of a client that has one, whatever comes after
pub before_its_turn : (client : ℕ) (done more : List Event) → has_turn client (turns_in done) ≡ true → before_turn_of client (done ++ more) ≡ before_turn_of client done
before_its_turn client [] more turned = absurd (false≢true turned)
before_its_turn client (events.Ask query ∷ done) more turned = ap (λ (l : List Event). events.Ask query ∷ l) (before_its_turn client done more turned)
before_its_turn client (events.Message message ∷ done) more turned = ap (λ (l : List Event). events.Message message ∷ l) (before_its_turn client done more turned)
before_its_turn client (events.Turn other ∷ done) more turned =
    (elim (other == client) as (λ b.
    (if b then true else has_turn client (turns_in done)) ≡ true →
    (if b then [] else events.Turn other ∷ before_turn_of client (done ++ more)) ≡ (if b then [] else events.Turn other ∷ before_turn_of client done)) [
      | true ↦ λ e. refl
      | false ↦ λ e. ap (λ (l : List Event). events.Turn other ∷ l) (before_its_turn client done more e)
    ]) turned

-- and of one that has none so far
pub before_no_turn : (client : ℕ) (done more : List Event) → has_turn client (turns_in done) ≡ false → before_turn_of client (done ++ more) ≡ done ++ before_turn_of client more
before_no_turn client [] more none = refl
before_no_turn client (events.Ask query ∷ done) more none = ap (λ (l : List Event). events.Ask query ∷ l) (before_no_turn client done more none)
before_no_turn client (events.Message message ∷ done) more none = ap (λ (l : List Event). events.Message message ∷ l) (before_no_turn client done more none)
before_no_turn client (events.Turn other ∷ done) more none =
    (elim (other == client) as (λ b.
    (if b then true else has_turn client (turns_in done)) ≡ false →
    (if b then [] else events.Turn other ∷ before_turn_of client (done ++ more)) ≡ events.Turn other ∷ (done ++ before_turn_of client more)) [
      | true ↦ λ e. absurd (false≢true (sym e))
      | false ↦ λ e. ap (λ (l : List Event). events.Turn other ∷ l) (before_no_turn client done more e)
    ]) none

-- that is all that was done
pub before_none : (client : ℕ) (done : List Event) → has_turn client (turns_in done) ≡ false → before_turn_of client done ≡ done
before_none client done none =
    sym (ap (before_turn_of client) (append-nil done)) ∙ before_no_turn client done [] none ∙ append-nil done

-- also before its first turn
pub before_first_turn : (client : ℕ) (done : List Event) → has_turn client (turns_in done) ≡ false → before_turn_of client (done ++ events.Turn client ∷ []) ≡ done
before_first_turn client done none =
    before_no_turn client done (events.Turn client ∷ []) none
    ∙ ap (λ (b : Bool). done ++ (if b then [] else events.Turn client ∷ [])) (eq-eqb client client refl) ∙ append-nil done

-- the turns of a client in a row of turns and then in another

pub rounds_of-append : (client : ℕ) (order more : List ℕ) (rounds rest : List Round) → length rounds ≡ length order →
    rounds_of client (order ++ more) (rounds ++ rest) ≡ rounds_of client order rounds ++ rounds_of client more rest
rounds_of-append client [] more [] rest one_each = refl
rounds_of-append client [] more (round ∷ rounds) rest one_each = absurd (omega (arith, one_each))
rounds_of-append client (other ∷ order) more [] rest one_each = absurd (omega (arith, one_each))
rounds_of-append client (other ∷ order) more (round ∷ rounds) rest one_each =
    let again = rounds_of-append client order more rounds rest (omega (arith, one_each)) in
    elim (other == client) as (λ b.
    (if b then round ∷ rounds_of client (order ++ more) (rounds ++ rest) else rounds_of client (order ++ more) (rounds ++ rest))
    ≡ (if b then round ∷ rounds_of client order rounds else rounds_of client order rounds) ++ rounds_of client more rest) [
      | true ↦ ap (λ (l : List Round). round ∷ l) again
      | false ↦ again
    ]

-- a turn more
pub rounds_of-more : (client other : ℕ) (order : List ℕ) (rounds : List Round) (round : Round) → length rounds ≡ length order →
    rounds_of client (order ++ other ∷ []) (rounds ++ round ∷ []) ≡ rounds_of client order rounds ++ (if other == client then round ∷ [] else [])
rounds_of-more client other order rounds round one_each = rounds_of-append client order (other ∷ []) rounds (round ∷ []) one_each

-- one of its own
pub rounds_of-own : (client : ℕ) (order : List ℕ) (rounds : List Round) (round : Round) → length rounds ≡ length order →
    rounds_of client (order ++ client ∷ []) (rounds ++ round ∷ []) ≡ rounds_of client order rounds ++ round ∷ []
rounds_of-own client order rounds round one_each =
    rounds_of-more client client order rounds round one_each ∙ ap (λ (b : Bool). rounds_of client order rounds ++ (if b then round ∷ [] else [])) (eq-eqb client client refl)

not_one : (a b : ℕ) → (a ≡ b → ⊥) → (a == b) ≡ false
not_one a b other = by_test (a == b) refl where
  by_test : (is : Bool) → (a == b) ≡ is → (a == b) ≡ false
  by_test true e = absurd (other (eqb-true a b e))
  by_test false e = e

-- one of another client
pub rounds_of-other : (client other : ℕ) (order : List ℕ) (rounds : List Round) (round : Round) → (other ≡ client → ⊥) → length rounds ≡ length order →
    rounds_of client (order ++ other ∷ []) (rounds ++ round ∷ []) ≡ rounds_of client order rounds
rounds_of-other client other order rounds round not one_each =
    rounds_of-more client other order rounds round one_each ∙ ap (λ (b : Bool). rounds_of client order rounds ++ (if b then round ∷ [] else [])) (not_one other client not)
    ∙ append-nil (rounds_of client order rounds)

-- a client that has no turn
pub rounds_of-none : (client : ℕ) (order : List ℕ) (rounds : List Round) → has_turn client order ≡ false → rounds_of client order rounds ≡ []
rounds_of-none client [] rounds none = refl
rounds_of-none client (other ∷ order) [] none = refl
rounds_of-none client (other ∷ order) (round ∷ rounds) none =
    (elim (other == client) as (λ b.
    (if b then true else has_turn client order) ≡ false → (if b then round ∷ rounds_of client order rounds else rounds_of client order rounds) ≡ []) [
      | true ↦ λ e. absurd (false≢true (sym e))
      | false ↦ λ e. rounds_of-none client order rounds e
    ]) none

-- it received nothing
pub given_none : (client : ℕ) (order : List ℕ) (rounds : List Round) → has_turn client order ≡ false → given_in (rounds_of client order rounds) ≡ []
given_none client order rounds none = ap given_in (rounds_of-none client order rounds none)

-- turns, one after the other: what was received, failed and asked, and the requests of all

pub given_in-append : (rounds rest : List Round) → given_in (rounds ++ rest) ≡ given_in rounds ++ given_in rest
given_in-append rounds rest = flat_map-append (λ (round : Round). round.given) rounds rest

pub failed_in-append : (rounds rest : List Round) → failed_in (rounds ++ rest) ≡ failed_in rounds ++ failed_in rest
failed_in-append rounds rest = flat_map-append (λ (round : Round). round.failed) rounds rest

pub asked_in-append : (rounds rest : List Round) → asked_in (rounds ++ rest) ≡ asked_in rounds ++ asked_in rest
asked_in-append rounds rest = flat_map-append (λ (round : Round). round.asked) rounds rest

pub requests_in-append : (base : BaseParts) (questions : List Query) (order more : List ℕ) (rounds rest : List Round) → length rounds ≡ length order →
    requests_in base questions (order ++ more) (rounds ++ rest) ≡ requests_in base questions order rounds ++ requests_in base questions more rest
requests_in-append base questions [] more [] rest one_each = refl
requests_in-append base questions [] more (round ∷ rounds) rest one_each = absurd (omega (arith, one_each))
requests_in-append base questions (client ∷ order) more [] rest one_each = absurd (omega (arith, one_each))
requests_in-append base questions (client ∷ order) more (round ∷ rounds) rest one_each =
    let own = requests_by base (slice_get questions (client - 1)) round in
    ap (λ (l : List (List ℕ)). requests_by base (slice_get questions (client - 1)) round ++ l) (requests_in-append base questions order more rounds rest (omega (arith, one_each)))
    ∙ sym (append_assoc own (requests_in base questions order rounds) (requests_in base questions more rest))

-- a turn more of the client of a question
pub requests_in-more : (base : BaseParts) (questions : List Query) (order : List ℕ) (client : ℕ) (query : Query) (rounds : List Round) (round : Round) → length rounds ≡ length order →
    slice_get questions (client - 1) ≡ Some query →
    requests_in base questions (order ++ client ∷ []) (rounds ++ round ∷ []) ≡ requests_in base questions order rounds ++ map (request_of base query) round.asked
requests_in-more base questions order client query rounds round one_each has =
    requests_in-append base questions order (client ∷ []) rounds (round ∷ []) one_each
    ∙ ap (λ (l : List (List ℕ)). requests_in base questions order rounds ++ l)
    (append-nil (requests_by base (slice_get questions (client - 1)) round) ∙ ap (λ (q : Option Query). requests_by base q round) has)

pub names_behind-append : (capacity : ℕ) (names : List PageName) (rounds rest : List Round) →
    names_behind capacity names (rounds ++ rest) ≡ names_behind capacity (names_behind capacity names rounds) rest
names_behind-append capacity names [] rest = refl
names_behind-append capacity names (round ∷ rounds) rest = names_behind-append capacity (names_after capacity names round.given) rounds rest

pub ask_by_names-append : (capacity : ℕ) (names : List PageName) (rounds rest : List Round) → AskByNames capacity names rounds →
    AskByNames capacity (names_behind capacity names rounds) rest → AskByNames capacity names (rounds ++ rest)
ask_by_names-append capacity names [] rest all next = next
ask_by_names-append capacity names (round ∷ rounds) rest all next = (all.0, ask_by_names-append capacity (names_after capacity names round.given) rounds rest all.1 next)

pub failures_in-append : (rounds rest : List Round) → failures_in (rounds ++ rest) ≡ failures_in rounds + failures_in rest
failures_in-append [] rest = omega arith
failures_in-append (round ∷ rounds) rest = omega (arith, failures_in-append rounds rest)

-- requests that are recorded, one after the other

nothing_recorded : (recorded : Option (List Entry)) → recorded ≡ option_map (λ (entries : List Entry). entries ++ []) recorded
nothing_recorded None = refl
nothing_recorded (Some entries) = ap Some (sym (append-nil entries))

pub tells_none : (recorded : Option (List Entry)) (authority : List ℕ) → TellsRequests recorded recorded authority []
tells_none recorded authority = record { entries = []; are = refl; authorities = All-nil (λ (entry : Entry). entry.authority ≡ authority); is = nothing_recorded recorded }

recorded_then : (recorded : Option (List Entry)) (first second : List Entry) →
    option_map (λ (entries : List Entry). entries ++ second) (option_map (λ (entries : List Entry). entries ++ first) recorded) ≡ option_map (λ (entries : List Entry). entries ++ (first ++ second)) recorded
recorded_then None first second = refl
recorded_then (Some entries) first second = ap Some (append_assoc entries first second)

pub requests_then : (a b c : Option (List Entry)) (authority : List ℕ) (first second : List (List ℕ)) → TellsRequests a b authority first → TellsRequests b c authority second →
    TellsRequests a c authority (first ++ second)
requests_then a b c authority first second one two = record {
  entries = one.entries ++ two.entries;
  are = map-append (λ (entry : Entry). entry.request) one.entries two.entries ∙ ap₂ (λ (x y : List (List ℕ)). x ++ y) one.are two.are;
  authorities = All-append (λ (entry : Entry). entry.authority ≡ authority) one.entries two.entries one.authorities two.authorities;
  is = two.is ∙ ap (option_map (λ (entries : List Entry). entries ++ two.entries)) one.is ∙ recorded_then a one.entries two.entries;
}

-- turns of clients that have asked

-- each is one of so many clients
abbrev pub AreClients : ℕ → List ℕ → Type 0
AreClients count [] = Unit {0}
AreClients count (client ∷ more) = IsClient count client × AreClients count more

-- an event sequence whose turns are of clients begins with turns of clients
pub turns_in_front : (front rest : List Event) → TurnsAreOfClients (front ++ rest) → TurnsAreOfClients front
turns_in_front front rest turns before behind client is =
    turns before (behind ++ rest) client (ap (λ (l : List Event). l ++ rest) is ∙ append_assoc before (events.Turn client ∷ behind) rest)

client_of_more : (count more client : ℕ) → IsClient count client → IsClient (count + more) client
client_of_more count more client is = record { from_one = is.from_one; at_most = further count more client is.at_most } where
  further : (count more client : ℕ) → client ≤ count → client ≤ count + more
  further count more client le = omega arith

count_of_questions : (front rest : List Event) → length (questions_in (front ++ rest)) ≡ length (questions_in front) + length (questions_in rest)
count_of_questions front rest = ap length (questions_in-append front rest) ∙ length-append (questions_in front) (questions_in rest)

turns_behind : (all front rest : List Event) → TurnsAreOfClients all → all ≡ front ++ rest → AreClients (length (questions_in all)) (turns_in rest)
turns_behind all front [] turns is = tt
turns_behind all front (events.Ask query ∷ rest) turns is =
    turns_behind all (front ++ events.Ask query ∷ []) rest turns (is ∙ sym (append_assoc front (events.Ask query ∷ []) rest))
turns_behind all front (events.Message message ∷ rest) turns is =
    turns_behind all (front ++ events.Message message ∷ []) rest turns (is ∙ sym (append_assoc front (events.Message message ∷ []) rest))
turns_behind all front (events.Turn client ∷ rest) turns is = (
  subst (λ (n : ℕ). IsClient n client) (sym (ap (λ (l : List Event). length (questions_in l)) is ∙ count_of_questions front (events.Turn client ∷ rest)))
      (client_of_more (length (questions_in front)) (length (questions_in (events.Turn client ∷ rest))) client (turns front rest client is)),
  turns_behind all (front ++ events.Turn client ∷ []) rest turns (is ∙ sym (append_assoc front (events.Turn client ∷ []) rest)),
)

pub turns_of_clients : (done : List Event) → TurnsAreOfClients done → AreClients (length (questions_in done)) (turns_in done)
turns_of_clients done turns = turns_behind done [] done turns refl

-- a client that comes later has no turn yet
pub no_turn_yet : (count : ℕ) (order : List ℕ) (client : ℕ) → AreClients count order → count < client → has_turn client order ≡ false
no_turn_yet count [] client are later = refl
no_turn_yet count (other ∷ order) client are later =
    ap (λ (b : Bool). if b then true else has_turn client order) (not_one other client (not_later other count client are.0.at_most later)) ∙ no_turn_yet count order client are.1 later where
      not_later : (other count client : ℕ) → other ≤ count → count < client → other ≡ client → ⊥
      not_later other count client le lt same = omega arith

-- an item of a list is there when that has grown
pub slice_get-more : {X : Type 0} (xs ys : List X) (place : ℕ) → place < length xs → slice_get (xs ++ ys) place ≡ slice_get xs place
slice_get-more xs ys place within =
    let item = item_within xs place within in
    slice_get-append xs ys place item.0 item.1 ∙ sym item.1

before_one : (client count : ℕ) → 1 ≤ client → client ≤ count → client - 1 < count
before_one client count from_one at_most = omega arith

-- the requests of turns are the same where further questions are asked
pub requests_of_more : (base : BaseParts) (questions more : List Query) (order : List ℕ) (rounds : List Round) → AreClients (length questions) order →
    requests_in base (questions ++ more) order rounds ≡ requests_in base questions order rounds
requests_of_more base questions more [] rounds are = refl
requests_of_more base questions more (client ∷ order) [] are = refl
requests_of_more base questions more (client ∷ order) (round ∷ rounds) are =
    ap₂ (λ (q : Option Query) (l : List (List ℕ)). requests_by base q round ++ l)
    (slice_get-more questions more (client - 1) (before_one client (length questions) are.0.from_one are.0.at_most))
    (requests_of_more base questions more order rounds are.1)

-- which version is meant

module _ (made : Timetable) (publishing : Publishing) (done : List Event) (client : ℕ) (query : Query) (given : List Want) (version : Option ℕ) where
  -- that of a client that has had its first turn stays, whatever is done
  pub meant_still : (more : List Event) → has_turn client (turns_in done) ≡ true → IsMeant made publishing done client query given version → IsMeant made publishing (done ++ more) client query given version
  meant_still more turned meant = record {
    store = meant.store;
    lines = meant.lines;
    heard = subst (λ (course : List Event). HasHeard course (store_of made publishing.base_moment) meant.store meant.lines) (sym (before_its_turn client done more turned)) meant.heard;
    is = meant.is;
  }

  -- that of a client that has its first turn now is the one by all that was heard
  pub meant_first : (store : Stored) (lines : List ℕ) → has_turn client (turns_in done) ≡ false → HasHeard done (store_of made publishing.base_moment) store lines →
      version ≡ version_of (side_with made publishing store) query given → IsMeant made publishing (done ++ events.Turn client ∷ []) client query given version
  meant_first store lines none heard is = record {
    store = store;
    lines = lines;
    heard = subst (λ (course : List Event). HasHeard course (store_of made publishing.base_moment) store lines) (sym (before_first_turn client done none)) heard;
    is = is;
  }

  none_by : (store other : Stored) → given ≡ [] → version ≡ version_of (side_with made publishing store) query given → version ≡ version_of (side_with made publishing other) query given
  none_by store other none is =
      is ∙ ap (version_of (side_with made publishing store) query) none ∙ sym (ap (version_of (side_with made publishing other) query) none)

  -- whoever had no turn yet received nothing
  pub meant_without : (more : List Event) (store : Stored) (lines : List ℕ) → has_turn client (turns_in (done ++ more)) ≡ false → given ≡ [] →
      HasHeard (done ++ more) (store_of made publishing.base_moment) store lines → IsMeant made publishing done client query given version → IsMeant made publishing (done ++ more) client query given version
  meant_without more store lines none nothing heard meant = record {
    store = store;
    lines = lines;
    heard = subst (λ (course : List Event). HasHeard course (store_of made publishing.base_moment) store lines) (sym (before_none client (done ++ more) none)) heard;
    is = none_by meant.store store nothing meant.is;
  }

  -- a version stays where something was done that is no turn
  pub meant_on : (more : List Event) (store : Stored) (lines : List ℕ) → turns_in (done ++ more) ≡ turns_in done → (has_turn client (turns_in done) ≡ false → given ≡ []) →
      HasHeard (done ++ more) (store_of made publishing.base_moment) store lines → IsMeant made publishing done client query given version → IsMeant made publishing (done ++ more) client query given version
  meant_on more store lines same nothing heard meant = by_turn (has_turn client (turns_in done)) refl where
    by_turn : (turned : Bool) → has_turn client (turns_in done) ≡ turned → IsMeant made publishing (done ++ more) client query given version
    by_turn true is = meant_still more is meant
    by_turn false is = meant_without more store lines (ap (has_turn client) same ∙ is) (nothing is) heard meant

  -- also where it was a turn of another client
  pub meant_behind_other : (other : ℕ) (store : Stored) (lines : List ℕ) → (other ≡ client → ⊥) → (has_turn client (turns_in done) ≡ false → given ≡ []) →
      HasHeard done (store_of made publishing.base_moment) store lines → IsMeant made publishing done client query given version →
      IsMeant made publishing (done ++ events.Turn other ∷ []) client query given version
  meant_behind_other other store lines not nothing heard meant = by_turn (has_turn client (turns_in done)) refl where
    by_turn : (turned : Bool) → has_turn client (turns_in done) ≡ turned → IsMeant made publishing (done ++ events.Turn other ∷ []) client query given version
    by_turn true is = meant_still (events.Turn other ∷ []) is meant
    by_turn false is = record {
      store = store;
      lines = lines;
      heard = subst (λ (course : List Event). HasHeard course (store_of made publishing.base_moment) store lines) (sym before) (heard_behind_turn done other (store_of made publishing.base_moment) store lines heard);
      is = none_by meant.store store (nothing is) meant.is;
    } where
      before : before_turn_of client (done ++ events.Turn other ∷ []) ≡ done ++ events.Turn other ∷ []
      before =
          before_no_turn client done (events.Turn other ∷ []) is
          ∙ ap (λ (b : Bool). done ++ (if b then [] else events.Turn other ∷ [])) (not_one other client not)
