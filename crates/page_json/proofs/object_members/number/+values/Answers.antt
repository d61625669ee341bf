-- A part of a tree has fewer tokens.
use Rattle.std.proofs.Common.{◌<◌, List, length, arith, rules, subst}
use Rattle.std.specs.declared.alloc.Global.{Global}
use Rattle.json.specs.Tree.{items_tokens, json_tokens, members_tokens}
use Rattle.json.specs.Value.{items_view, members_view, value_view}
use Rattle.json.specs.declared.value.Value.{Value}
use Rattle.page_json.proofs.ObjectMembersLemmas.TreeLemmas.{Entry, item_is_smaller, member_is_smaller}
use Rattle.page_json.proofs.object_members.number.+values.Goals as goal

pub items_have_values-has_values-requires : goal.items_have_values-has_values-requires
items_have_values-has_values-requires t c =
    let xs = c.deref-item-items.result.now in
    let x = c.item-item.result in
    let smaller : length (json_tokens (value_view x)) < length (items_tokens (items_view c.args.items.now.items)) =
    subst (λ (ys : List (Value Global)). length (json_tokens (value_view x)) < length (items_tokens (items_view ys))) c.deref-item-items.ensures.value
    (item_is_smaller xs c.loop-item.item-index x (omega arith) c.item-item.is) in
    search rules

pub members_have_values-has_values-requires : goal.members_have_values-has_values-requires
members_have_values-has_values-requires t c =
    let xs = c.deref-member-items.result.now in
    let x = c.member-item.result in
    let smaller : length (json_tokens (value_view x.1)) < length (members_tokens (members_view c.args.members.now.items)) =
    subst (λ (ys : List Entry). length (json_tokens (value_view x.1)) < length (members_tokens (members_view ys))) c.deref-member-items.ensures.value
    (member_is_smaller xs c.loop-member.member-index x (omega arith) c.member-item.is) in
    search rules
