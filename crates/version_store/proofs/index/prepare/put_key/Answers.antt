use Rattle.std.proofs.Common.{◌≡◌, false, None, rules, subst}
use Rattle.std.specs.Prelude.{is_some}
use Rattle.std.specs.BTreeMap.{get}
use Rattle.lc_model.specs.RunKey.{key_cmp}
use Rattle.lc_model.specs.declared.key.RunKey.{RunKey}
use Rattle.version_store.specs.Index.Prepared.{put_at}
use Rattle.version_store.proofs.IndexLemmas.PrepareLemmas.{key_alike, key_stays}
use Rattle.version_store.proofs.index.prepare.put_key.Goals as goal

pub returns-in_ok-insert-clause-alike : goal.returns-in_ok-insert-clause-alike
returns-in_ok-insert-clause-alike c =
    let old = get key_cmp c.args.running.now in
    let new = get key_cmp c.insert.new.self in
    let put = subst (λ (k : RunKey). (q : RunKey) → new q ≡ put_at k None old q) c.in_ok-copy.ensures c.in_ok-insert.ensures.updates.0 in
    let lacks : is_some (old c.args.key.now) ≡ false = search rules in
    key_alike c.args.key.now old new put lacks

pub returns-in_ok-insert-clause-stays : goal.returns-in_ok-insert-clause-stays
returns-in_ok-insert-clause-stays c =
    let old = get key_cmp c.args.running.now in
    let new = get key_cmp c.insert.new.self in
    let put = subst (λ (k : RunKey). (q : RunKey) → new q ≡ put_at k None old q) c.in_ok-copy.ensures c.in_ok-insert.ensures.updates.0 in
    let lacks : is_some (old c.args.key.now) ≡ false = search rules in
    key_stays c.args.key.now old new put lacks
