use Rattle.std.proofs.Common.{ap, ◌∙◌}
use Rattle.connection_uri.specs.Encoding.{encoded}
use Rattle.connection_uri.proofs.ByteLemmas.{text_bytes}
use Rattle.connection_uri.proofs.EncodingLemmas.{percent_encode_is}
use Rattle.connection_uri.proofs.encoding.encoding_of.Goals as goal

pub returns : goal.returns
returns c =
    let bytes = c.bytes.result.now in
    c.in_ok-into_cow.ensures.value ∙ c.percent_encode.ensures.text ∙ percent_encode_is bytes (text_bytes bytes c.bytes.ensures.text.1) ∙ ap encoded c.bytes.ensures.value
