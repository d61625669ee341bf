use Rattle.std.proofs.Common.{◌≡◌, ap, sym, ◌∙◌, Some, subst}
use Rattle.std.proofs.lemmas.Result.{IfOk-weaker}
use Rattle.lc_model.specs.Text.{IsIdText}
use Rattle.lc_time.proofs.OptionLemmas.{some_at}
use Rattle.connection_uri.proofs.EncodingLemmas.{decoded_id}
use Rattle.connection_uri.proofs.encoding.written_id.Goals as goal

pub returns : goal.returns
returns c =
    IfOk-weaker c.new.result _ _ (λ read is id text e.
    let same : c.as_slice.result.now ≡ id = c.as_slice.ensures.value ∙ c.in_ok-bytes.ensures.value ∙ c.percent_decode.ensures.bytes ∙ decoded_id id c.args.text.now text e in
    some_at read _ _ is (subst IsIdText (sym same) text) ∙ ap Some same)
    c.new.ensures
