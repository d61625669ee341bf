-- The first connection, and then the rest.
use Rattle.std.proofs.Common.{ℕ, List, ◌++◌, ◌-◌, All, ap, arith, drop, length, string_bytes, subst, sym, take, ◌∙◌}
use Rattle.std.proofs.lemmas.List.Elements.{All-cons}
use Rattle.lc_model.specs.declared.connection.Connection.{Connection}
use Rattle.page_json.specs.ConnectionWriting.{list_part, members_part, rest_part}
use Rattle.page_json.specs.Sound.{IsSoundConnection}
use Rattle.page_json.proofs.AppendLemmas.{split, three}
use Rattle.page_json.proofs.connection_writing.append_list.Goals as goal

pub returns-in_ok-append_rest-in-len1-up-clause-text : goal.returns-in_ok-append_rest-in-len1-up-clause-text
returns-in_ok-append_rest-in-len1-up-clause-text c =
    let fronts = c.args.fronts.now in
    let old = string_bytes c.args.out.now in
    let all = c.args.connections.now in
    let first = c.first-item.result in
    let rest = take (length all - 1) (drop 1 all) in
    let front = c.in_ok-push_str-in-len1-up.ensures.bytes ∙ ap (λ (s : List ℕ). old ++ s) c.as_str.ensures.value in
    three old _ _ _ fronts.names.first (members_part fronts first) (rest_part fronts rest) front c.in_ok-append_members-in-len1-up.ensures.text c.in_ok-append_rest-in-len1-up.ensures.text
    ∙ ap (λ (list : List Connection). old ++ list_part fronts list) (sym (split all first (omega arith) c.first-item.is))

pub returns-in_ok-append_rest-in-len1-up-clause-sound : goal.returns-in_ok-append_rest-in-len1-up-clause-sound
returns-in_ok-append_rest-in-len1-up-clause-sound c =
    let all = c.args.connections.now in
    let first = c.first-item.result in
    subst (All IsSoundConnection) (sym (split all first (omega arith) c.first-item.is))
    (All-cons IsSoundConnection first (take (length all - 1) (drop 1 all)) c.in_ok-append_members-in-len1-up.ensures.sound c.in_ok-append_rest-in-len1-up.ensures.sound)
