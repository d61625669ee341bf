-- The laws of what is said: it is what was sent and is pending, it is one, and it is nothing for no bytes.
use Rattle.std.proofs.Common.{◌≡◌, ◌≢◌, ◌∙◌, ℕ, Bool, false, List, [], ◌++◌, length, refl, sym, ap}
use Rattle.std.specs.List.{concat}
use Rattle.lc_io.specs.Talk.{Said}
use Rattle.publisher.specs.Held.{side_of}
use Rattle.lc_world.specs.Sides.Side.{Side}
use Rattle.cli_serve.specs.Serving.{SaysOut, ServingState, StandsOut, serving_seen}
use Rattle.wire_session.specs.Phase.{is_ended}
use Rattle.wire_session.specs.SessionOut as session
use Rattle.wire_session.specs.Stands.{Held, IsOutput, MeansIn, Stands, fresh}
use Rattle.wire_session.specs.declared.phase.Phase.{Phase}
use Rattle.wire_session.specs.declared.phase.Phase.TheVariants.{Open, Ended, Spent}
use Rattle.wire_session.proofs.OneSaidLemmas.{one_said}
use Rattle.wire_session.proofs.StandLemmas.{at_start, stands_means}

out_of : (start : Side) (fed text : List ℕ) (count : ℕ) (side : Side) (ended : Bool) → IsOutput start fed text count side ended
    → SaysOut start fed (record { output = text; requests = count; ended = ended })
out_of start fed text count side ended is = record {
  answer = is.said;
  answer_is = is.says;
  output_is = is.text_is;
  requests_are = is.count_is;
  ended_is = sym is.ended_is;
}

said_in : (phase : Phase) (held : Held) (start : Side) (fed text : List ℕ) (side : Side) → phase ≢ Spent → MeansIn phase held start fed text side
    → IsOutput start fed text held.requests side (is_ended phase)
said_in Open held start fed text side enough means = means
said_in Ended held start fed text side enough means = means
said_in Spent held start fed text side enough means = absurd (enough refl)

-- whatever a talk stands for, the side that is left is its publisher's
pub left_by : {G : Type 0} (cuts_of : G → List ℕ → List ℕ) (serving : ServingState G) (start : Side) (fed sent : List ℕ) → StandsOut cuts_of serving start fed sent
    → IsOutput start fed (sent ++ serving.session.pending) serving.session.requests (side_of cuts_of serving.publisher) (is_ended serving.session.phase)
left_by cuts_of serving start fed sent stands =
    said_in serving.session.phase serving.session start fed (sent ++ serving.session.pending) (side_of cuts_of serving.publisher) stands.enough
    (stands_means serving.session start fed sent (side_of cuts_of serving.publisher) stands.stands)

-- what was sent, and what is pending, is what is said to the bytes
pub said_of : {G : Type 0} (cuts_of : G → List ℕ → List ℕ) (serving : ServingState G) (start : Side) (fed sent : List ℕ) → StandsOut cuts_of serving start fed sent
    → SaysOut start fed (record { output = sent ++ (serving_seen serving).pending; requests = (serving_seen serving).requests; ended = (serving_seen serving).ended })
said_of cuts_of serving start fed sent stands =
    out_of start fed (sent ++ serving.session.pending) serving.session.requests (side_of cuts_of serving.publisher) (is_ended serving.session.phase)
    (left_by cuts_of serving start fed sent stands)

same_said : (a b : List ℕ) (m n : ℕ) (p q : Bool) → a ≡ b → m ≡ n → p ≡ q → let left : Said = record { output = a; requests = m; ended = p } in left ≡ record { output = b; requests = n; ended = q }
same_said a b m n p q output requests ended =
    ap (λ (l : List ℕ). record { output = l; requests = m; ended = p }) output
    ∙ (ap (λ (k : ℕ). record { output = b; requests = k; ended = p }) requests
    ∙ ap (λ (e : Bool). record { output = b; requests = n; ended = e }) ended)

-- it is one
pub one_out : (start : Side) (fed : List ℕ) (a b : Said) → SaysOut start fed a → SaysOut start fed b → a ≡ b
one_out start fed a b p q =
    let same : p.answer ≡ q.answer = one_said 100 start fed p.answer q.answer p.answer_is q.answer_is in
    same_said a.output b.output a.requests b.requests a.ended b.ended
    (p.output_is ∙ (ap (λ (s : session.Said). concat s.replies) same ∙ sym q.output_is))
    (p.requests_are ∙ (ap (λ (s : session.Said). length s.replies) same ∙ sym q.requests_are))
    (p.ended_is ∙ (ap (λ (s : session.Said). s.ended) same ∙ sym q.ended_is))

pub fresh_stands : (side : Side) → Stands fresh side [] [] side
unfolding Stands
fresh_stands side = at_start side

-- to no bytes nothing is said
pub none_out : (start : Side) → SaysOut start [] (record { output = []; requests = 0; ended = false })
none_out start = out_of start [] [] 0 start false (stands_means fresh start [] [] start (fresh_stands start))

-- nothing is said to no bytes
pub nothing_said : (start : Side) (a : Said) → SaysOut start [] a → a ≡ record { output = []; requests = 0; ended = false }
nothing_said start a says = one_out start [] a (record { output = []; requests = 0; ended = false }) says (none_out start)
