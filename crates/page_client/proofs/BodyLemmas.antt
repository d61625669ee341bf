-- The body of a reply is within its bytes.
use Rattle.std.proofs.Common.{◌≡◌, ℕ, ◌+◌, ◌-◌, ◌≤◌, List, length, length-append, Bool, true, false, Some, None, refl, ap, arith}
use Rattle.std.specs.Prelude.{codes, nat_lt, if◌then◌else◌}
use Rattle.std.proofs.lemmas.Bool.Decides.{nat_tests}
use Rattle.httparse.specs.Grammar.{print_response}
use Rattle.http_text.specs.Fields.{FieldText, texts_of}
use Rattle.http_text.specs.Length.{is_wrong, length_of, said_or}
use Rattle.http_text.specs.Reply.{IsReply, behind, fault_of}
use Rattle.http_text.specs.Request.{front_of, has_field}
use Rattle.http_text.specs.declared.reply.Reply.{Reply}
use Rattle.http_text.specs.declared.reply_fault.ReplyFault.{ReplyFault}
use Rattle.http_text.proofs.HeadLemmas.{front_inside}

-- of four tests none is failed, so the last one is not
last_is_passed : (a b c d : Bool) (w x y z : ReplyFault) → (if a then Some w else (if b then Some x else (if c then Some y else (if d then Some z else None)))) ≡ None → d ≡ false
last_is_passed true b c d w x y z e = cc
last_is_passed false true c d w x y z e = cc
last_is_passed false false true d w x y z e = cc
last_is_passed false false false true w x y z e = cc
last_is_passed false false false false w x y z e = refl

-- where a head has no fault, as many bytes as it says follow
all_follow : (fields : List FieldText) (got : ℕ) → fault_of fields got ≡ None → said_or (length_of fields) got ≤ got
all_follow fields got faultless =
    let wanted = said_or (length_of fields) got in
    let e : nat_lt got wanted ≡ false =
    last_is_passed (nat_lt 100 (length fields)) (has_field (codes "transfer-encoding") fields) (is_wrong (length_of fields)) (nat_lt got wanted) _ _ _ _ faultless in
    grind (arith, nat_tests)

pub record IsWithin (bytes : List ℕ) (reply : Reply) : Type 0 where
  pub forward : reply.body_from ≤ reply.body_to
  pub inside : reply.body_to ≤ length bytes

pub body_within : (bytes : List ℕ) (reply : Reply) → IsReply bytes reply → IsWithin bytes reply
body_within bytes reply (h, (rest, (is_head, front)), faultless, says) =
    let len = length (print_response h) in
    let got = length bytes - len in
    let parts : length (front_of bytes) ≡ len + length rest = let e = ap length front in rw length-append at e in
    let inside : len ≤ length bytes = omega (arith, front_inside bytes, parts) in
    let said = all_follow (texts_of h.fields) (behind bytes h) faultless in
    record {
      forward = omega (arith, says.body_from_is, says.body_to_is);
      inside = omega (arith, says.body_from_is, says.body_to_is, said, inside);
    }
