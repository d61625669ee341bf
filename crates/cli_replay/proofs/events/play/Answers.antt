use Rattle.std.proofs.Common.{◌≡◌, ◌∙◌, ◌++◌, ◌∷◌, ℕ, [], List, ap, arith, length, map-id, refl, rules, subst, sym}
use Rattle.std.proofs.lemmas.Iterator.Adapters.{YieldsList-from_vec}
use Rattle.std.proofs.lemmas.Iterator.Consumers.{YieldsList-end, YieldsList-so_far, YieldsList-turn}
use Rattle.convoy.specs.declared.member.Member.{Member}
use Rattle.lc_world.proofs.GoneOnLemmas.{no_passes, passes_then}
use Rattle.cli_replay.specs.ReplayLaws.Events.{questions_in}
use Rattle.cli_replay.specs.ReplayLaws.Played.{Plays}
use Rattle.cli_replay.specs.declared.replay_laws.event.Event.{Event}
use Rattle.cli_replay.specs.Home.{home_seen}
use Rattle.cli_replay.proofs.PlayedLemmas.{clients, may_happen, parts, plays_on}
use Rattle.cli_replay.proofs.events.play.Goals as goal

pub play_one-requires : goal.play_one-requires
play_one-requires g c =
    let yields = YieldsList-from_vec {s = c.into_iter-event-iterator.result} c.args.events.items (search rules) (search rules) in
    let so_far = YieldsList-so_far yields c.events.yielded c.events.event-iterator c.events.yielded_by in
    let turn = YieldsList-turn yields c.events.yielded c.events.event-iterator c.events.yielded_by c.next.result c.next.new.self c.in-Some.event c.in-Some.is c.next.ensures.steps in
    let none : length c.args.convoy.now.members ≡ 0 = ap (λ (members : List Member). length members) c.requires.none_yet in
    let more = clients (home_seen g.L.Link.seen) c.events.yielded c.args.convoy.now c.events.convoy c.args.home.now c.events.home c.events.heard.lines.items c.events.invariant.plays in
    let count : length c.events.convoy.members ≡ length (questions_in c.events.yielded) = omega arith in
    may_happen c.args.events.items c.events.yielded _ c.in-Some.event (length c.events.convoy.members) c.requires.turns
    (parts {A = Event} c.args.events.items c.events.yielded c.in-Some.event (sym (map-id c.events.yielded) ∙ so_far) turn.0 turn.1) count

pub events-init : goal.events-init
events-init g c = record {
  plays = (refl, refl, c.new-lines.ensures.items);
  admitted = omega arith;
  outer = no_passes _;
}

pub events-preserved : goal.events-preserved
events-preserved g c =
    let before = c.events.invariant.admitted in
    let one = c.in_ok-one.ensures.admitted in
    let more = c.in_ok-add.ensures.admitted in
    record {
      plays =
          subst (λ (l : List ℕ). Plays (home_seen g.L.Link.seen) (c.events.yielded ++ c.in-Some.event ∷ []) c.args.convoy.now c.play_one.new.convoy c.args.home.now c.play_one.new.home l) (sym c.in_ok-add.ensures.lines)
          (plays_on (home_seen g.L.Link.seen) c.events.yielded (c.in-Some.event ∷ []) c.args.convoy.now c.events.convoy c.play_one.new.convoy c.args.home.now c.events.home c.play_one.new.home
          c.events.heard.lines.items c.in_ok-one.one.lines.items c.events.invariant.plays c.in_ok-one.ensures.plays);
      admitted = omega (arith, before, one, more);
      outer = passes_then _ _ _ c.events.invariant.outer c.play_one.ensures.outer;
    }

pub returns-in_err-one-clause-outer : goal.returns-in_err-one-clause-outer
returns-in_err-one-clause-outer g c = passes_then _ _ _ c.events.invariant.outer c.play_one.ensures.outer

pub returns-in_err-add-clause-outer : goal.returns-in_err-add-clause-outer
returns-in_err-add-clause-outer g c = passes_then _ _ _ c.events.invariant.outer c.play_one.ensures.outer

pub returns-clause-plays : goal.returns-clause-plays
returns-clause-plays g c =
    let yields = YieldsList-from_vec {s = c.into_iter-event-iterator.result} c.args.events.items (search rules) (search rules) in
    let end = YieldsList-end yields c.events.yielded c.events.event-iterator c.events.yielded_by c.next.result c.next.new.self c.in-None.is c.next.ensures.steps in
    subst (λ (all : List Event). Plays (home_seen g.L.Link.seen) all c.args.convoy.now c.events.convoy c.args.home.now c.events.home c.events.heard.lines.items)
    (sym (map-id c.events.yielded) ∙ end.0) c.events.invariant.plays
