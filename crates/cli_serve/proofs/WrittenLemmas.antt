-- One text written after another.
use Rattle.std.proofs.Common.{◌≡◌, ◌∙◌, ℕ, ◌+◌, List, ◌++◌, length, length-append, take, Option, None, Some, refl, sym, ap, append_assoc}
use Rattle.std.proofs.Math.Seq.{take-append-add, take-length}
use Rattle.lc_io.specs.Sink.{SinkSeen, written_after}
use Rattle.cli_serve.specs.Written.{Wrote, WroteFront, WroteThenFront}

both : (written : Option (List ℕ)) (first second : List ℕ) (n : ℕ)
    → written_after (written_after written first (length first)) second n ≡ written_after written (first ++ second) (length first + n)
both None first second n = refl
both (Some bytes) first second n =
    ap Some (ap (λ (l : List ℕ). (bytes ++ l) ++ take n second) (take-length first)
    ∙ (append_assoc bytes first (take n second) ∙ ap (λ (l : List ℕ). bytes ++ l) (sym (take-append-add first second n))))

-- a front of the second text
pub then_front : (before middle after : SinkSeen) (first second : List ℕ) → Wrote before middle first → WroteFront middle after second → WroteThenFront before after first second
then_front before middle after first second wrote front =
    (front.0, front.1, front.2 ∙ (ap (λ (w : Option (List ℕ)). written_after w second front.0) wrote ∙ both before.written first second front.0))

-- the whole second text
pub then_whole : (before middle after : SinkSeen) (first second : List ℕ) → Wrote before middle first → Wrote middle after second → Wrote before after (first ++ second)
then_whole before middle after first second wrote more =
    more ∙ (ap (λ (w : Option (List ℕ)). written_after w second (length second)) wrote
    ∙ (both before.written first second (length second) ∙ ap (λ (n : ℕ). written_after before.written (first ++ second) n) (sym (length-append first second))))
