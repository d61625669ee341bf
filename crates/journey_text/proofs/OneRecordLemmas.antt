-- A row says one record.
use Rattle.std.proofs.Common.{◌≡◌, ◌∙◌, ℕ, ◌≤◌, Bool, List, [], ◌∷◌, Option, Some, None, ap, subst, sym}
use Rattle.std.proofs.Props.{props}
use Rattle.lc_model.specs.declared.query.Query.{Query}
use Rattle.lc_model.specs.declared.query.TheConstants.{FIRST_LEAVE, LAST_LEAVE}
use Rattle.lc_time.proofs.OneTextLemmas.{one_moment}
use Rattle.journey_text.specs.Script.{IsOfKind, SaysAsk, SaysKnown, SaysRecord}
use Rattle.journey_text.specs.declared.script.Record.{Record}
use Rattle.journey_text.specs.declared.script.Record.TheVariants as records

one_known : (text : List ℕ) (a b : Option ℕ) → SaysKnown text a → SaysKnown text b → a ≡ b
one_known [] a b p q = p ∙ sym q
one_known (byte ∷ rest) None b p q = absurd p
one_known (byte ∷ rest) (Some a) None p q = absurd q
one_known (byte ∷ rest) (Some a) (Some b) p q = ap (λ (n : ℕ). Some n) (one_moment (byte ∷ rest) a b p q)

-- two numbers that are one value are one
same_number : (a b : ℕ) → Some a ≡ Some b → a ≡ b
same_number a b e = cc

-- a question may leave then
abbrev MayLeave : ℕ → Type 0
MayLeave leave = (FIRST_LEAVE ≤ leave) × (leave ≤ LAST_LEAVE)

may_leave_prop : (leave : ℕ) → IsProp (MayLeave leave)
may_leave_prop leave = hlevel props

abbrev query_of : (from to : List ℕ) (known : Option ℕ) (horizon leave : ℕ) → MayLeave leave → Query
query_of from to known horizon leave may = record { from = from; to = to; leave = leave; known = known; horizon = horizon; not_before = may.0; not_after = may.1 }

-- what is made of a moment and of facts that it has is one
same_made : (f : (leave : ℕ) → MayLeave leave → Query) (a b : ℕ) (p : MayLeave a) (q : MayLeave b) → a ≡ b → f a p ≡ f b q
same_made f a b p q e = subst (λ (v : ℕ). (q : MayLeave v) → f a p ≡ f v q) e (λ q. ap (f a) (may_leave_prop a p q)) q

same_query : (a b : Query) → a.from ≡ b.from → a.to ≡ b.to → a.known ≡ b.known → a.horizon ≡ b.horizon → a.leave ≡ b.leave → a ≡ b
same_query a b from to known horizon leave =
    same_made (query_of a.from a.to a.known a.horizon) a.leave b.leave (a.not_before, a.not_after) (b.not_before, b.not_after) leave
    ∙ (λ i. query_of (from i) (to i) (known i) (horizon i) b.leave (b.not_before, b.not_after))

one_ask : (row : List (List ℕ)) (a b : Query) → SaysAsk row a → SaysAsk row b → a ≡ b
one_ask row a b x y =
    let p = x.times in
    let q = y.times in
    same_query a b (x.from_is ∙ sym y.from_is) (x.to_is ∙ sym y.to_is)
    (one_known _ a.known b.known p.known_is q.known_is)
    (same_number a.horizon b.horizon (sym p.horizon_is ∙ q.horizon_is))
    (one_moment _ a.leave b.leave p.leave_is.says q.leave_is.says)

-- a row of one kind is of no other
one_kind : (row : List (List ℕ)) (a b : List ℕ) (least most least' most' : ℕ) → IsOfKind row a least most → IsOfKind row b least' most' → a ≡ b
one_kind row a b least most least' most' p q = sym p.begins ∙ q.begins

pub one_record : (updates : Bool) (clients : ℕ) (row : List (List ℕ)) (a b : Record) → SaysRecord updates clients row a → SaysRecord updates clients row b → a ≡ b
one_record updates clients row (records.Ask a) (records.Ask b) x y = ap (λ (query : Query). records.Ask query) (one_ask row a b x y)
one_record updates clients row (records.Update a) (records.Update b) x y = ap (λ (file : List ℕ). records.Update file) (x.file_is ∙ sym y.file_is)
one_record updates clients row (records.Turn a) (records.Turn b) x y = ap (λ (client : ℕ). records.Turn client) (same_number a b (sym x.client_is ∙ y.client_is))
one_record updates clients row (records.Ask a) (records.Update b) x y = absurd (cc (one_kind row _ _ 4 6 2 2 x.kind y.kind))
one_record updates clients row (records.Ask a) (records.Turn b) x y = absurd (cc (one_kind row _ _ 4 6 2 2 x.kind y.kind))
one_record updates clients row (records.Update a) (records.Ask b) x y = absurd (cc (one_kind row _ _ 2 2 4 6 x.kind y.kind))
one_record updates clients row (records.Update a) (records.Turn b) x y = absurd (cc (one_kind row _ _ 2 2 2 2 x.kind y.kind))
one_record updates clients row (records.Turn a) (records.Ask b) x y = absurd (cc (one_kind row _ _ 2 2 4 6 x.kind y.kind))
one_record updates clients row (records.Turn a) (records.Update b) x y = absurd (cc (one_kind row _ _ 2 2 2 2 x.kind y.kind))
