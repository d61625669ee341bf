-- The text may be cut where it ended before.
use Rattle.std.proofs.Common.{ℕ, ◌≤◌, IsUtf8, arith, length, string_bytes, sym, subst, take}
use Rattle.std.proofs.lemmas.Str.{IsCharBoundary-from_take}
use Rattle.std.proofs.str.Laws.{IsUtf8-had}
use Rattle.connection_uri.proofs.names.append_run.Goals as goal

pub truncate-requires : goal.truncate-requires
truncate-requires c = λ within.
    let after = c.append_parts-appended.new.text in
    let text = string_bytes after in
    let inside : c.len-before.result ≤ length text = omega (arith, after.bytes.ok.0) in
    let before = subst IsUtf8 (sym c.append_parts-appended.ensures.front) (IsUtf8-had _ c.args.text.now.ok) in
    let front = subst (λ (n : ℕ). IsUtf8 (take n text)) (sym c.len-before.ensures) before in
    let boundary = IsCharBoundary-from_take text c.len-before.result (IsUtf8-had _ after.ok) inside front in
    (boundary.0, λ _. boundary.1)
