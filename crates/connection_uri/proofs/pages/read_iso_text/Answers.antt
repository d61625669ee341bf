use Rattle.std.proofs.Common.{◌≡◌, ℕ, List, Some, subst, sym}
use Rattle.lc_time.specs.Iso.{SaysMoment}
use Rattle.lc_time.proofs.IsoLemmas.{says_text}
use Rattle.connection_uri.proofs.pages.read_iso_text.Goals as goal

pub returns-in_err-moment-clause-exact : goal.returns-in_err-moment-clause-exact
returns-in_err-moment-clause-exact c = λ moment bound text.
    let read : c.read_iso.result ≡ Some moment = c.read_iso.ensures.exact moment (subst (λ (t : List ℕ). SaysMoment t moment) (sym text) (says_text moment bound)) in
    let was = c.in_err-moment.was in
    cc

pub returns-then-eq-clause-exact : goal.returns-then-eq-clause-exact
returns-then-eq-clause-exact c = λ moment bound text.
    let read : c.read_iso.result ≡ Some moment = c.read_iso.ensures.exact moment (subst (λ (t : List ℕ). SaysMoment t moment) (sym text) (says_text moment bound)) in
    let was = c.in_ok-moment.was in
    cc
