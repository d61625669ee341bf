use Rattle.std.proofs.Common.{ℕ, List, ◌++◌, arith, ap, ◌∙◌}
use Rattle.std.proofs.lemmas.List.Elements.{All-from_get_or}
use Rattle.std.specs.String.{string_bytes}
use Rattle.connection_uri.proofs.ByteLemmas.{IsByte}
use Rattle.connection_uri.proofs.EncodingLemmas.{percent_encode_is}
use Rattle.connection_uri.proofs.encoding.append_encoded.Goals as goal

pub returns-clause-ok : goal.returns-clause-ok
returns-clause-ok c =
    let small = All-from_get_or IsByte c.args.bytes.now 0 (λ i within. omega (arith, c.type_inv.bytes i)) in
    c.in_ok-append_to.ensures.ok ∙ ap (λ (t : List ℕ). string_bytes c.args.text.now ++ t) (c.percent_encode.ensures.text ∙ percent_encode_is c.args.bytes.now small)
