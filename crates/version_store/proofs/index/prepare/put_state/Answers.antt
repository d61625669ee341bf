use Rattle.std.proofs.Common.{[], ◌∷◌, ◌++◌, ◌∙◌, ap, inl, inr, subst, sym, ⊎_elim}
use Rattle.std.specs.List.{Contains}
use Rattle.std.proofs.lemmas.Result.{on_ok_weaker}
use Rattle.version_store.specs.Index.Gathered.{IsOf}
use Rattle.version_store.specs.declared.index.state.State.{State}
use Rattle.version_store.proofs.index.prepare.put_state.Goals as goal

pub returns-clause-puts : goal.returns-clause-puts
returns-clause-puts c =
    let more = c.in_ok-more.more.items in
    record {
      pushed = inr (c.in_ok-push.ensures.items ∙ ap (λ (s : State). c.args.states.now.items ++ s ∷ []) c.closed-state.ensures);
      stay = c.put_places.ensures.kept;
      only = λ p h.
          ⊎_elim (λ (o : Contains c.args.places.now p). inl o)
          (λ (m : Contains more p). inr (subst (λ (s : State). IsOf c.args.number s p) c.closed-state.ensures ((c.in_ok-more.ensures p).0 m))) (c.put_places.ensures.only p h);
    }

pub returns-clause-has : goal.returns-clause-has
returns-clause-has c =
    on_ok_weaker c.put_places.result
    (λ all p of. all p ((c.in_ok-more.ensures p).1 (subst (λ (s : State). IsOf c.args.number s p) (sym c.closed-state.ensures) of))) c.put_places.ensures.all
