-- Bytes that are one whole request: what is taken from their front is all of them.
use Rattle.std.proofs.Common.{◌≡◌, ℕ, ◌≤◌, List, take, length, sym, subst, arith}
use Rattle.std.proofs.Math.Seq.{take-length}
use Rattle.http_text.specs.Request.{IsWhole}
use Rattle.http_text.specs.declared.taken.Taken.{Taken}
use Rattle.http_text.specs.declared.taken.Taken.TheVariants.{Whole}

pub all_is_whole : (bytes : List ℕ) (taken : Taken) → ((n : ℕ) → taken ≡ Whole n → (n ≤ length bytes) × IsWhole (take n bytes))
    → taken ≡ Whole (length bytes) → IsWhole bytes
all_is_whole bytes taken whole is = subst IsWhole (take-length bytes) (whole (length bytes) is).1

pub whole_is_all : (bytes : List ℕ) (taken : Taken) → ((n : ℕ) → n ≤ length bytes → IsWhole (take n bytes) → taken ≡ Whole n)
    → IsWhole bytes → taken ≡ Whole (length bytes)
whole_is_all bytes taken every_whole whole = every_whole (length bytes) (omega arith) (subst IsWhole (sym (take-length bytes)) whole)
