use Rattle.std.proofs.Common.{◌≡◌, ◌∙◌, ap, refl, sym, subst, true, false, map, []}
use Rattle.std.proofs.lemmas.List.Elements.{All-map}
use Rattle.clap.specs.Words.{App, app_of, fault_of, found_of, is_simple_and_free, kind_of, matches_of}
use Rattle.clap.specs.Walk.{first_of}
use Rattle.clap.specs.declared.error.kind.ErrorKind.TheVariants.{OutOfMemory}
use Rattle.clap.proofs.WalkLemmas.{both, first_value-rows}
use Rattle.cli_words.specs.Line.{IsNoDash, Takes, line, texts_of, value_at}
use Rattle.cli_words.proofs.LineLemmas.{of_words, refused}
use Rattle.cli_words.proofs.line.read_line.Goals as goal

pub returns-in-Ok : goal.returns-in-Ok
unfolding Takes value_at
returns-in-Ok c =
    let same : app_of c.in_ok-command.command ≡ line c.args.name.now (map (λ s. s.now) c.args.places.now) (map (λ s. s.now) c.args.options.now) (map (λ s. s.now) c.args.flags.now) = c.in_ok-command.ensures in
    let ready = subst (λ (a : App). is_simple_and_free a ≡ true) (sym same) c.requires in
    let rows = (c.in-Ok.ensures.matches (both _ _ ready).0).0 in (
      record {
        taken = subst (λ (a : App). fault_of a (texts_of c.args.words.now) ≡ []) same (c.in-Ok.ensures.kinds ready);
        no_dash = All-map IsNoDash _ _ (c.if-not-has_no_dash.ensures.0 refl);
      },
      λ id. first_value-rows (found_of c.in-Ok.found) id ∙ ap (first_of id) rows
          ∙ ap (λ (a : App). first_of id (matches_of a (texts_of c.args.words.now))) same,
    )

pub returns : goal.returns
returns c =
    let same : app_of c.in_ok-command.command ≡ line c.args.name.now (map (λ s. s.now) c.args.places.now) (map (λ s. s.now) c.args.options.now) (map (λ s. s.now) c.args.flags.now) = c.in_ok-command.ensures in
    let ready = subst (λ (a : App). is_simple_and_free a ≡ true) (sym same) c.requires in
    let other : kind_of c.in-Err.error ≡ OutOfMemory → ⊥ = λ e.
    let bad : false ≡ true = rw (c.kind.ensures ∙ e) at c.if-eq.ensures in
    absurd (cc bad) in
    λ is. subst (λ (a : App). Takes a (texts_of c.args.words.now) → ⊥) same (refused _ _ c.in-Err.error other (c.in-Err.ensures.kinds ready)) is.taken

pub returns-then-not-has_no_dash : goal.returns-then-not-has_no_dash
returns-then-not-has_no_dash c = λ is. absurd (cc (c.if-not-has_no_dash.ensures.1 (of_words IsNoDash _ is.no_dash)))
