use Rattle.std.proofs.Common.{◌≡◌, ◌+◌, arith, subst, suc}
use Rattle.std.specs.BTreeMap.{get}
use Rattle.lc_model.specs.RunKey.{key_cmp}
use Rattle.version_store.specs.Index.Spans.{Indexed}
use Rattle.version_store.specs.Index.Updates.{IsUpdated}
use Rattle.version_store.proofs.IndexLemmas.UpdateLemmas.{kept_next, ready_ends, updated_after, updated_before}
use Rattle.version_store.proofs.index.index.Index.update.Goals as goal

pub invariant_of-self : goal.invariant_of-self
invariant_of-self c = c.prepare_all.ensures.carries.kept c.self.inside.newest c.self.invariant

pub end_all-requires : goal.end_all-requires
end_all-requires c =
    let newest = c.self.inside.newest in
    let spans = c.prepare_all.new.spans in
    let follows : newest + 1 ≡ suc newest = omega arith in
    kept_next newest (newest + 1) spans.states.items spans.places (get key_cmp spans.running) follows (c.prepare_all.ensures.carries.kept newest c.self.invariant)

pub invariant_of-self-2 : goal.invariant_of-self-2
invariant_of-self-2 c =
    let next = c.self.inside.newest + 1 in
    let t = c.prepare_all.new.spans in
    let u = c.end_all.new.spans in
    let begun = c.args.begun.items in
    let ready = ready_ends next c.args.ended.items t.states.items u.states.items t.places u.places (get key_cmp t.running) (get key_cmp u.running) c.end_all.ensures c.in_ok-ready.ready.items begun c.in_ok-ready.ensures.ready in
    (c.begin_all.ensures begun c.requires.in_order c.end_all.ensures.kept ready).kept

pub returns-clause-ok : goal.returns-clause-ok
returns-clause-ok c =
    let newest = c.self.inside.newest in
    let next = newest + 1 in
    let s = c.self.inside.spans in
    let t = c.prepare_all.new.spans in
    let u = c.end_all.new.spans in
    let w = c.begin_all.new.spans in
    let ended = c.args.ended.items in
    let begun = c.args.begun.items in
    let follows : newest + 1 ≡ suc newest = omega arith in
    let ready = ready_ends next ended t.states.items u.states.items t.places u.places (get key_cmp t.running) (get key_cmp u.running) c.end_all.ensures c.in_ok-ready.ready.items begun c.in_ok-ready.ensures.ready in
    let begins = c.begin_all.ensures begun c.requires.in_order c.end_all.ensures.kept ready in
    let now : Indexed = record { states = w.states.items; newest = next } in
    subst (λ (v : Indexed). IsUpdated ended begun v now) c.self.view_is
    (record {
      newest = follows;
      before =
          updated_before newest next ended begun s.states.items t.states.items u.states.items w.states.items s.places t.places u.places w.places (get key_cmp s.running)
          (get key_cmp t.running) (get key_cmp u.running) (get key_cmp w.running) follows c.self.invariant c.prepare_all.ensures.carries c.end_all.ensures begins;
      after =
          updated_after newest next ended begun s.states.items t.states.items u.states.items w.states.items s.places t.places u.places w.places (get key_cmp s.running)
          (get key_cmp t.running) (get key_cmp u.running) (get key_cmp w.running) follows c.self.invariant c.prepare_all.ensures.carries c.end_all.ensures begins;
    })
