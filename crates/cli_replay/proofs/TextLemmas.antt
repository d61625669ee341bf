-- The lines of clients, and of one more.
use Rattle.std.proofs.Common.{◌≡◌, ◌∙◌, ◌+◌, ◌<◌, ℕ, List, [], ◌∷◌, ◌++◌, ap, append_assoc, arith, length, sym, take}
use Rattle.std.proofs.lemmas.List.{append-nil, length-take-le, take_more}
use Rattle.std.specs.List.{slice_index_or}
use Rattle.cli_ask.specs.Block.{client_text_of}
use Rattle.cli_ask.specs.declared.end.ClientEnd.{ClientEnd}
use Rattle.cli_replay.specs.ReplayLaws.Replayed.{clients_text_of}

pub one_text_more : (k : ℕ) (ends : List ClientEnd) (end : ClientEnd) → clients_text_of k (ends ++ end ∷ []) ≡ clients_text_of k ends ++ client_text_of (k + length ends) end
one_text_more k [] end =
    let at : k ≡ k + 0 = omega arith in
    append-nil (client_text_of k end) ∙ ap (λ (n : ℕ). client_text_of n end) at
one_text_more k (first ∷ ends) end =
    let at : k + 1 + length ends ≡ k + length (first ∷ ends) = omega arith in
    ap (λ (rest : List ℕ). client_text_of k first ++ rest) (one_text_more (k + 1) ends end ∙ ap (λ (n : ℕ). clients_text_of (k + 1) ends ++ client_text_of n end) at)
    ∙ sym (append_assoc (client_text_of k first) (clients_text_of (k + 1) ends) (client_text_of (k + length (first ∷ ends)) end))

-- the lines of the clients up to one more
pub text_more : (ends : List ClientEnd) (place : ℕ) (end : ClientEnd) → place < length ends → end ≡ slice_index_or ends place end
    → clients_text_of 1 (take (place + 1) ends) ≡ clients_text_of 1 (take place ends) ++ client_text_of (place + 1) end
text_more ends place end within is =
    let counted : 1 + length (take place ends) ≡ place + 1 = let all = length-take-le place ends (omega arith) in omega arith in
    ap (clients_text_of 1) (take_more ends place end within ∙ ap (λ (e : ClientEnd). take place ends ++ e ∷ []) (sym is))
    ∙ one_text_more 1 (take place ends) end ∙ ap (λ (n : ℕ). clients_text_of 1 (take place ends) ++ client_text_of n end) counted
