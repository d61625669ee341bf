-- What is written piece by piece.
use Rattle.std.proofs.Common.{◌≡◌, ℕ, ◌+◌, ◌++◌, List, Option, Some, None, drop, take, refl, ap, append_assoc, ◌∙◌, sym}
use Rattle.std.proofs.Math.Seq.{take-add}
use Rattle.lc_io.specs.Sink.{written_after}

-- n more bytes after the first m are the first m + n
pub written_after-more : (written : Option (List ℕ)) (bytes : List ℕ) (m n : ℕ) → written_after (written_after written bytes m) (drop m bytes) n ≡ written_after written bytes (m + n)
written_after-more None bytes m n = refl
written_after-more (Some front) bytes m n =
    ap Some (append_assoc front (take m bytes) (take n (drop m bytes)) ∙ sym (ap (λ more. front ++ more) (take-add m n bytes)))
