use Rattle.std.proofs.Common.{◌≡◌, ◌∙◌, ◌∷◌, [], List, ap, arith, length, map-id, refl, rules, subst, sym}
use Rattle.std.proofs.lemmas.Iterator.Adapters.{YieldsList-from_vec}
use Rattle.std.proofs.lemmas.Iterator.Consumers.{YieldsList-end, YieldsList-so_far, YieldsList-turn}
use Rattle.convoy.specs.declared.member.Member.{Member}
use Rattle.lc_world.proofs.GoneOnLemmas.{gets_then, no_gets}
use Rattle.cli_replay.specs.ReplayLaws.Events.{questions_in}
use Rattle.cli_replay.specs.ReplayLaws.Played.{Plays}
use Rattle.cli_replay.specs.declared.replay_laws.event.Event.{Event}
use Rattle.cli_replay.proofs.PlayedLemmas.{clients, may_happen, parts, plays_on}
use Rattle.cli_replay.proofs.PlanningLemmas.HappenLemmas.{no_message_at}
use Rattle.cli_replay.proofs.planning.events.happen.Goals as goal

pub happen_one-requires : goal.happen_one-requires
happen_one-requires g c =
    let yields = YieldsList-from_vec {s = c.into_iter-event-iterator.result} c.args.events.items (search rules) (search rules) in
    let so_far = YieldsList-so_far yields c.events.yielded c.events.event-iterator c.events.yielded_by in
    let turn = YieldsList-turn yields c.events.yielded c.events.event-iterator c.events.yielded_by c.next.result c.next.new.self c.in-Some.event c.in-Some.is c.next.ensures.steps in
    let none : length c.args.convoy.now.members ≡ 0 = ap (λ (members : List Member). length members) c.requires.none_yet in
    let more = clients g.L.Link.seen c.events.yielded c.args.convoy.now c.events.convoy c.args.link.now c.events.link [] c.events.invariant.plays in
    let count : length c.events.convoy.members ≡ length (questions_in c.events.yielded) = omega arith in
    let whole = parts {A = Event} c.args.events.items c.events.yielded c.in-Some.event (sym (map-id c.events.yielded) ∙ so_far) turn.0 turn.1 in
    record {
      may_happen = may_happen c.args.events.items c.events.yielded _ c.in-Some.event (length c.events.convoy.members) c.requires.turns whole count;
      no_message = no_message_at c.args.events.items c.events.yielded _ c.in-Some.event c.requires.no_messages whole;
    }

pub events-init : goal.events-init
events-init g c = record { plays = (refl, refl, refl); left = no_gets _ }

pub events-preserved : goal.events-preserved
events-preserved g c = record {
  plays =
      plays_on g.L.Link.seen c.events.yielded (c.in-Some.event ∷ []) c.args.convoy.now c.events.convoy c.happen_one.new.convoy c.args.link.now c.events.link c.happen_one.new.link [] []
      c.events.invariant.plays c.in_ok-happen_one.ensures.plays;
  left = gets_then _ _ _ c.events.invariant.left c.happen_one.ensures.left;
}

pub returns-in_err-happen_one-clause-left : goal.returns-in_err-happen_one-clause-left
returns-in_err-happen_one-clause-left g c = gets_then _ _ _ c.events.invariant.left c.happen_one.ensures.left

pub returns-clause-plays : goal.returns-clause-plays
returns-clause-plays g c =
    let yields = YieldsList-from_vec {s = c.into_iter-event-iterator.result} c.args.events.items (search rules) (search rules) in
    let end = YieldsList-end yields c.events.yielded c.events.event-iterator c.events.yielded_by c.next.result c.next.new.self c.in-None.is c.next.ensures.steps in
    subst (λ (all : List Event). Plays g.L.Link.seen all c.args.convoy.now c.events.convoy c.args.link.now c.events.link []) (sym (map-id c.events.yielded) ∙ end.0) c.events.invariant.plays
