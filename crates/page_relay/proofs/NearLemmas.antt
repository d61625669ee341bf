-- Near values that the definitions of relays refuse.
use Rattle.std.proofs.Common.{◌≡◌, ◌∙◌, ◌∷◌, [], ap, arith, inl, inr, sym}
use Rattle.std.proofs.lemmas.List.Elements.{All-contains}
use Rattle.lc_model.proofs.ListLemmas.{Contains-cases, Contains-nil}
use Rattle.lc_world.specs.Sides.Asked.{is_head}
use Rattle.page_relay.specs.Fits.{IsReplyOf}
use Rattle.page_relay.specs.Kept.{Kept}
use Rattle.page_relay.specs.Near.{FoundIsItsOwn, NoOtherStatusIsKept, NoTimeGateFits, NoTimeGateIsKept, OthersAreNotFound}
use Rattle.page_relay.proofs.DocumentLemmas.{one_status}
use Rattle.page_relay.proofs.KeepableLemmas.{no_time_gate}
use Rattle.page_relay.proofs.MemoryLemmas.{found_is_own}
use Rattle.page_relay.proofs.StatusLemmas.{digit, document as document_digit, found as found_digit}

pub no_time_gate_fits : NoTimeGateFits
no_time_gate_fits side kept sent reply name departs there has fits =
    let is = All-contains (IsReplyOf side) kept (sent, reply) fits there in
    let found : digit reply ≡ 51 = ap digit has.text_is ∙ found_digit (is_head has.request.method) has.request.close side.base name departs in
    let document : digit reply ≡ 50 = ap digit is.has.text_is ∙ document_digit (is_head is.has.request.method) is.has.request.close side.base side.doc is.response is.document in
    let clash : 51 ≡ 50 = sym found ∙ document in
    omega (arith, clash)

pub no_time_gate_is_kept : NoTimeGateIsKept
no_time_gate_is_kept base bytes is path = no_time_gate base is.request.path path is.lasting

pub no_other_status_is_kept : NoOtherStatusIsKept
no_other_status_is_kept bytes reply is other lasting = other (one_status bytes reply lasting.reply is lasting.says ∙ lasting.status_is)

pub found_is_its_own : FoundIsItsOwn
found_is_its_own kept sent reply found = found_is_own kept sent reply found

pub others_are_not_found : OthersAreNotFound
others_are_not_found sent other held reply found = elim (Contains-cases (other, held) [] (sent, reply) (found_is_own ((other, held) ∷ []) sent reply found)) [
  | inl same ↦ sym (ap (λ (k : Kept). k.0) same)
  | inr none ↦ absurd (Contains-nil (sent, reply) none)
]
