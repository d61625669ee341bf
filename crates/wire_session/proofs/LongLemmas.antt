-- A whole request has no body that is too long.
use Rattle.std.proofs.Common.{◌≡◌, ◌≢◌, ◌∙◌, ◌≤◌, ◌++◌, ℕ, Bool, true, false, List, Some, None, ap, arith, drop, length}
use Rattle.std.specs.Prelude.{nat_le, nat_lt, if◌then◌else◌}
use Rattle.std.proofs.Math.Seq.{drop-append_seam}
use Rattle.std.proofs.lemmas.Bool.Decides.{nat_tests}
use Rattle.http_text.specs.Fields.{texts_of}
use Rattle.http_text.specs.Request.{IsWholeRequest}
use Rattle.http_text.specs.declared.request.Request.{Request}
use Rattle.httparse.specs.Grammar.{print_request}
use Rattle.lc_world.specs.Sides.Response.{is_full, says_length, status_of_bytes}
use Rattle.lc_world.specs.Sides.Side.{newest_of}
use Rattle.wire_session.specs.Laws.{NoneTooLong}
use Rattle.wire_session.proofs.FrontLemmas.{body_fits}

-- the body of a whole request
body_short : (bytes : List ℕ) (request : Request) → IsWholeRequest bytes request → length (drop request.body_from bytes) ≤ 16_777_216
body_short bytes request (h, body, is, same) =
    let from : request.body_from ≡ length (print_request h) = ap (λ (r : Request). r.body_from) same in
    let all : bytes ≡ print_request h ++ body = is.reads.1 in
    let rest : drop request.body_from bytes ≡ body =
    ap (λ (n : ℕ). drop n bytes) from ∙ (ap (λ (l : List ℕ). drop (length (print_request h)) l) all ∙ drop-append_seam (print_request h) body) in
    let long : length (drop request.body_from bytes) ≡ length body = ap length rest in
    let body_is = is.body_is in
    let fits = body_fits h.minor h.target (texts_of h.fields) is.accepted in
    omega (arith, long, body_is, fits)

-- no other status is 413
by_message : (old full : Bool) → ◌≢◌ {A = ℕ} (if old then 409 else (if full then 507 else 204)) 413
by_message true full is = omega arith
by_message false true is = omega arith
by_message false false is = omega arith

by_length : (said long : Bool) (rest : ℕ) → long ≡ false → rest ≢ 413 → ◌≢◌ {A = ℕ} (if said then (if long then 413 else rest) else 411) 413
by_length false long rest short other is = omega arith
by_length true true rest short other is = absurd (cc)
by_length true false rest short other is = other is

not_long : (size : ℕ) → size ≤ 16_777_216 → nat_lt 16_777_216 size ≡ false
not_long size fits = grind (arith, nat_tests)

pub none_too_long : NoneTooLong
none_too_long side bytes request None whole =
    let body : List ℕ = drop request.body_from bytes in
    by_length (says_length request) (nat_lt 16_777_216 (length body)) 400 (not_long (length body) (body_short bytes request whole)) (λ is. omega arith)
none_too_long side bytes request (Some update) whole =
    let body : List ℕ = drop request.body_from bytes in
    by_length (says_length request) (nat_lt 16_777_216 (length body)) (status_of_bytes side (length body) (Some update)) (not_long (length body) (body_short bytes request whole))
    (by_message (nat_le update.moment (newest_of side)) (is_full side.history (length body)))
