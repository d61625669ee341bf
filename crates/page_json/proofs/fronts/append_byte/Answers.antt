-- JSON escapes two visible bytes, and no other.
use Rattle.std.proofs.Common.{◌≡◌, ◌≢◌, ℕ, ◌<◌, List, ◌∷◌, [], ◌++◌, ap, arith, string_bytes, sym, ◌∙◌}
use Rattle.json.specs.Print.{escape_byte}
use Rattle.page_json.proofs.BaseLemmas.{escape_other, visible_small}
use Rattle.page_json.proofs.fronts.append_byte.Goals as goal

pub returns-in_ok-push_str-in-34 : goal.returns-in_ok-push_str-in-34
unfolding escape_byte
returns-in_ok-push_str-in-34 c = rw c.in-34.is c.in_ok-push_str-in-34.ensures.bytes

pub returns-in_ok-push_str-in-92 : goal.returns-in_ok-push_str-in-92
unfolding escape_byte
returns-in_ok-push_str-in-92 c = rw c.in-92.is c.in_ok-push_str-in-92.ensures.bytes

pub returns-in_ok-push-in_default : goal.returns-in_ok-push-in_default
returns-in_ok-push-in_default c =
    let quote : c.args.byte ≢ 34 = grind arith in
    let slash : c.args.byte ≢ 92 = grind arith in
    let same : escape_byte c.args.byte ≡ c.args.byte ∷ [] = escape_other c.args.byte c.requires quote slash in
    let small : c.from.result < 128 = omega (arith, visible_small c.args.byte c.requires, c.from.ensures) in
    let pushed = c.in_ok-push-in_default.ensures in
    pushed.bytes ∙ ap (λ (s : List ℕ). string_bytes c.args.out.now ++ s) (pushed.ascii small ∙ ap (λ (b : ℕ). b ∷ []) c.from.ensures ∙ sym same)
