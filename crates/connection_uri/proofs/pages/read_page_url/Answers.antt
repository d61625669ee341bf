use Rattle.std.proofs.Common.{ap₂, sym, refl, ◌∙◌}
use Rattle.std.proofs.lemmas.Option.{IfSome_then}
use Rattle.lc_time.specs.Iso.{iso_text_of}
use Rattle.connection_uri.specs.Page.{page_parts_of}
use Rattle.connection_uri.proofs.PageLemmas.{page_url_is}
use Rattle.connection_uri.proofs.pages.read_page_url.Goals as goal

pub returns-in-Some-clause-said : goal.returns-in-Some-clause-said
returns-in-Some-clause-said c =
    IfSome_then c.page_of.result c.page_of.ensures.said (λ name said.
    c.in-Some.ensures.said ∙ ap₂ (page_parts_of c.args.base.now) said.0 said.1 ∙ sym (page_url_is c.args.base.now name))

pub returns-in-Some-clause-exact : goal.returns-in-Some-clause-exact
returns-in-Some-clause-exact c = λ name first second e.
    let parts = c.in-Some.ensures.exact (iso_text_of name.version) (iso_text_of name.departs) refl (e ∙ page_url_is c.args.base.now name) in
    c.page_of.ensures.exact name first second parts.0 parts.1

pub returns-in-None-clause-exact : goal.returns-in-None-clause-exact
returns-in-None-clause-exact c = λ name first second e.
    absurd (c.in-None.ensures.exact (iso_text_of name.version) (iso_text_of name.departs) refl (e ∙ page_url_is c.args.base.now name))
