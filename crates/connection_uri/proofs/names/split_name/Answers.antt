use Rattle.std.proofs.Common.{ℕ, List, ◌++◌, codes, decimal, ap, ◌∙◌}
use Rattle.std.proofs.lemmas.Option.{IfSome_then}
use Rattle.lc_time.specs.Date.{date_text_of}
use Rattle.connection_uri.specs.Encoding.{encoded}
use Rattle.connection_uri.specs.Name.{start_part_of}
use Rattle.connection_uri.proofs.ByteLemmas.{text_bytes}
use Rattle.connection_uri.proofs.NameLemmas.{name_is, parts_of, made_of, encoded_no_slash, date_no_slash, start_no_slash}
use Rattle.connection_uri.proofs.names.split_name.Goals as goal

pub returns-clause-said : goal.returns-clause-said
returns-clause-said c =
    IfSome_then c.split_parts.result c.split_parts.ensures.said (λ p said. c.in_ok-rest.ensures.said ∙ ap (λ (t : List ℕ). c.args.base.now.text ++ (codes "connections/" ++ t)) said)

pub returns-in_err-rest-clause-exact : goal.returns-in_err-rest-clause-exact
returns-in_err-rest-clause-exact c = λ key sequence text e.
    absurd (c.in_err-rest.ensures.exact (parts_of key sequence) (e ∙ name_is c.args.base.now key sequence))

pub returns-clause-exact : goal.returns-clause-exact
returns-clause-exact c = λ key sequence text e.
    let date = key.date in
    let rest = c.in_ok-rest.ensures.exact (parts_of key sequence) (e ∙ name_is c.args.base.now key sequence) in
    made_of key sequence c.split_parts.result
    (c.split_parts.ensures.exact (encoded key.trip) (date_text_of date.year date.month date.day) (start_part_of key.start) (decimal sequence)
    (encoded_no_slash key.trip (text_bytes key.trip text.1)) (date_no_slash date.year date.month date.day) (start_no_slash key.start) rest)
