-- A turn in which an exchange failed is the last one in which something was wanted.
use Rattle.std.proofs.Common.{◌≡◌, ◌⊎◌, inl, inr, List, [], ◌∷◌, ◌++◌, refl}
use Rattle.std.specs.List.{All}
use Rattle.std.proofs.lemmas.List.Elements.{All-nil, All-push}
use Rattle.convoy.specs.Agreement.Names.{Round}
use Rattle.page_client.specs.declared.want.Want.{Want}
use Rattle.cli_replay.specs.ReplayLaws.Turns.{EndByFailure, IsIdle, failed_in}

-- no list of wants begins or ends with one where there is nothing
pub front_nil : (xs ys : List Want) → xs ++ ys ≡ [] → xs ≡ []
front_nil [] ys is = refl
front_nil (x ∷ xs) ys is = absurd (cc)

back_nil : (xs ys : List Want) → xs ++ ys ≡ [] → ys ≡ []
back_nil [] ys is = is
back_nil (x ∷ xs) ys is = absurd (cc)

-- where nothing failed before, the next turn may fail
pub fails_last : (rounds : List Round) (last : Round) → failed_in rounds ≡ [] → EndByFailure (rounds ++ last ∷ [])
fails_last [] last none = (inr (All-nil IsIdle), tt)
fails_last (round ∷ rounds) last none =
    (inl (front_nil round.failed (failed_in rounds) none), fails_last rounds last (back_nil round.failed (failed_in rounds) none))

-- after any turns one may follow in which nothing was wanted
pub fails_idle : (rounds : List Round) (last : Round) → EndByFailure rounds → IsIdle last → EndByFailure (rounds ++ last ∷ [])
fails_idle [] last ends idle = (inr (All-nil IsIdle), tt)
fails_idle (round ∷ rounds) last ends idle = (still ends.0, fails_idle rounds last ends.1 idle) where
  still : (round.failed ≡ []) ⊎ All IsIdle rounds → (round.failed ≡ []) ⊎ All IsIdle (rounds ++ last ∷ [])
  still (inl none) = inl none
  still (inr all) = inr (All-push IsIdle rounds last all idle)
