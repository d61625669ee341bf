-- What was received in a turn, and in turns one after the other, is what their rounds say.
use Rattle.std.proofs.Common.{◌≡◌, ◌∙◌, ◌⊎◌, ℕ, inl, inr, Bool, true, false, List, [], ◌∷◌, ◌++◌, ap, ap₂, append-nil, append_assoc, cond, refl, subst, sym}
use Rattle.std.specs.Prelude.{IsSome, None}
use Rattle.std.specs.List.{All}
use Rattle.std.proofs.lemmas.List.{map-append}
use Rattle.std.proofs.lemmas.List.Elements.{All-append, All-cons, All-nil, filter-append}
use Rattle.convoy.specs.Replies.Met.{Met, asked_in}
use Rattle.convoy.proofs.RepliesLemmas.ClientsLemmas.{GotNone, GotReply, MeetsIn, MeetsWant}
use Rattle.convoy.specs.Finish.{HasOutcome}
use Rattle.convoy.specs.declared.member.Member.{Member}
use Rattle.convoy.specs.declared.turn.Turn.{Turn}
use Rattle.convoy.specs.declared.turn.Turn.TheVariants.{Cached, Exchanged, Finished}
use Rattle.convoy.specs.Agreement.Names.{Round}
use Rattle.convoy.specs.Agreement.Rounds.{round_asked, round_at, round_then, round_with}
use Rattle.convoy.proofs.AgreementLemmas.RoundLemmas.{round_replied}
use Rattle.page_client.specs.Client.{shown}
use Rattle.page_client.specs.Shown.{want_of}
use Rattle.page_client.specs.declared.want.Want.{Want}
use Rattle.cli_replay.specs.ReplayLaws.History.{AreMetIn, IsMetIn, wants_of}

-- a reply was got, or none
abbrev pub HasReply : Met → Type 0
HasReply met = IsSome met.made.got

abbrev pub HasNone : Met → Type 0
HasNone met = met.made.got ≡ None

-- nothing was received
pub met_nothing : (client : ℕ) → IsMetIn client (round_with [] [] []) []
met_nothing client = record {
  own = All-nil (λ (met : Met). met.client ≡ client);
  replied = [];
  lost = [];
  are = refl;
  given = refl;
  got = All-nil HasReply;
  failed = refl;
  got_none = All-nil HasNone;
  asked = refl;
}

-- one want was received
module _ (k : ℕ) (was : Member) (asked : Bool) (more : List Met) (m : MeetsWant k was asked more) where
  abbrev want : Want
  want = want_of (shown was.client).phase

  abbrev Own : Met → Type 0
  Own met = met.client ≡ k

  asked_so : wants_of (asked_in (m.one ∷ [])) ≡ wants_of (cond asked (m.one ∷ []) [])
  asked_so = ap (λ (b : Bool). wants_of (cond b (m.one ∷ []) [])) m.asked_is

  one_want : want ∷ [] ≡ wants_of (m.one ∷ [])
  one_want = ap (λ (w : Want). w ∷ []) (sym m.want)

  asked_for : cond asked (want ∷ []) [] ≡ wants_of (asked_in (m.one ∷ []))
  asked_for = by_flag asked ∙ sym asked_so where
    by_flag : (b : Bool) → cond b (want ∷ []) [] ≡ wants_of (cond b (m.one ∷ []) [])
    by_flag true = one_want
    by_flag false = refl

  pub met_reply : (is : Member) → GotReply is m.one → IsMetIn k (round_with (want ∷ []) [] (cond asked (want ∷ []) [])) more
  met_reply is replied =
      let some : HasReply m.one = subst (λ o. IsSome o) (sym replied.got) refl in
      subst (IsMetIn k (round_with (want ∷ []) [] (cond asked (want ∷ []) []))) (sym m.is) (record {
        own = All-cons Own m.one [] m.client (All-nil Own);
        replied = m.one ∷ [];
        lost = [];
        are = refl;
        given = one_want;
        got = All-cons HasReply m.one [] some (All-nil HasReply);
        failed = refl;
        got_none = All-nil HasNone;
        asked = asked_for;
      })

  pub met_none : (is : Member) → GotNone is m.one → IsMetIn k (round_with [] (want ∷ []) (cond asked (want ∷ []) [])) more
  met_none is none =
      subst (IsMetIn k (round_with [] (want ∷ []) (cond asked (want ∷ []) []))) (sym m.is) (record {
        own = All-cons Own m.one [] m.client (All-nil Own);
        replied = [];
        lost = m.one ∷ [];
        are = refl;
        given = refl;
        got = All-nil HasReply;
        failed = one_want;
        got_none = All-cons HasNone m.one [] none.got (All-nil HasNone);
        asked = asked_for;
      })

-- what was received in a turn
pub met_in_turn : (turn : Turn) (k : ℕ) (was is : Member) (more : List Met) → MeetsIn turn k was is more → IsMetIn k (round_at turn (shown was.client) (shown is.client)) more
met_in_turn Finished k was is more none = subst (IsMetIn k (round_with [] [] [])) (sym none) (met_nothing k)
met_in_turn Cached k was is more (met, replied) = met_reply k was false more met is replied
met_in_turn Exchanged k was is more (met, inl replied) =
    subst (λ (round : Round). IsMetIn k round more) (sym (round_replied (want_of (shown was.client).phase) (shown is.client).outcome replied.no_fault)) (met_reply k was true more met is replied)
met_in_turn Exchanged k was is more (met, inr none) =
    subst (λ (round : Round). IsMetIn k round more) (sym (ap (round_asked (want_of (shown was.client).phase)) none.ended)) (met_none k was true more met is none)

-- nothing failed in it, or the client has ended
pub turn_over : (turn : Turn) (k : ℕ) (was is : Member) (more : List Met) → MeetsIn turn k was is more → ((round_at turn (shown was.client) (shown is.client)).failed ≡ []) ⊎ HasOutcome is
turn_over Finished k was is more none = inl refl
turn_over Cached k was is more met = inl refl
turn_over Exchanged k was is more (met, inl replied) =
    inl (ap (λ (round : Round). round.failed) (round_replied (want_of (shown was.client).phase) (shown is.client).outcome replied.no_fault))
turn_over Exchanged k was is more (met, inr none) = inr (subst (λ o. IsSome o) (sym none.ended) refl)

-- what is nothing has no wants
no_wants : (all : List Met) → [] ≡ wants_of all → all ≡ []
no_wants [] none = refl
no_wants (met ∷ all) none = absurd (cc)

wants_of_both : (first second : List Met) → wants_of (first ++ second) ≡ wants_of first ++ wants_of second
wants_of_both first second = map-append (λ (met : Met). met.made.want) first second

-- one part, and then another, where nothing failed in the first or nothing is in the second
module _ (k : ℕ) (a b : Round) (first second : List Met) (one : IsMetIn k a first) (two : IsMetIn k b second) where
  abbrev OwnOf : Met → Type 0
  OwnOf met = met.client ≡ k

  own_both : All (λ (met : Met). met.client ≡ k) (first ++ second)
  own_both = All-append OwnOf first second one.own two.own

  asked_both : a.asked ++ b.asked ≡ wants_of (asked_in (first ++ second))
  asked_both =
      ap₂ (λ (x y : List Want). x ++ y) one.asked two.asked ∙ sym (wants_of_both (asked_in first) (asked_in second))
      ∙ ap wants_of (sym (filter-append (λ (met : Met). met.asked) first second))

  none_lost : a.failed ≡ [] → IsMetIn k (round_then a b) (first ++ second)
  none_lost none =
      let no_loss : one.lost ≡ [] = no_wants one.lost (sym none ∙ one.failed) in
      let all_replied : first ≡ one.replied = one.are ∙ ap (λ (l : List Met). one.replied ++ l) no_loss ∙ append-nil one.replied in
      record {
        own = own_both;
        replied = one.replied ++ two.replied;
        lost = two.lost;
        are = ap₂ (λ (x y : List Met). x ++ y) all_replied two.are ∙ sym (append_assoc one.replied two.replied two.lost);
        given = ap₂ (λ (x y : List Want). x ++ y) one.given two.given ∙ sym (wants_of_both one.replied two.replied);
        got = All-append HasReply one.replied two.replied one.got two.got;
        failed = ap (λ (l : List Want). l ++ b.failed) none ∙ two.failed;
        got_none = two.got_none;
        asked = asked_both;
      }

  none_more : second ≡ [] → IsMetIn k (round_then a b) (first ++ second)
  none_more none =
      let nothing : two.replied ++ two.lost ≡ [] = sym two.are ∙ none in
      record {
        own = own_both;
        replied = one.replied ++ two.replied;
        lost = one.lost ++ two.lost;
        are = ap (λ (l : List Met). first ++ l) none ∙ append-nil first ∙ one.are
            ∙ sym (ap₂ (λ (x y : List Met). (one.replied ++ x) ++ (one.lost ++ y)) (no_front two.replied two.lost nothing) (no_back two.replied two.lost nothing)
            ∙ ap₂ (λ (x y : List Met). x ++ y) (append-nil one.replied) (append-nil one.lost));
        given = ap₂ (λ (x y : List Want). x ++ y) one.given two.given ∙ sym (wants_of_both one.replied two.replied);
        got = All-append HasReply one.replied two.replied one.got two.got;
        failed = ap₂ (λ (x y : List Want). x ++ y) one.failed two.failed ∙ sym (wants_of_both one.lost two.lost);
        got_none = All-append HasNone one.lost two.lost one.got_none two.got_none;
        asked = asked_both;
      } where
        no_front : (x y : List Met) → x ++ y ≡ [] → x ≡ []
        no_front [] y none = refl
        no_front (met ∷ x) y none = absurd (cc)

        no_back : (x y : List Met) → x ++ y ≡ [] → y ≡ []
        no_back [] y none = none
        no_back (met ∷ x) y none = absurd (cc)

  pub met_then : (a.failed ≡ []) ⊎ (second ≡ []) → IsMetIn k (round_then a b) (first ++ second)
  met_then (inl none) = none_lost none
  met_then (inr none) = none_more none

-- rounds of some clients, and then of others
pub met_in-append : (order next : List ℕ) (rounds behind : List Round) (met more : List Met) → AreMetIn order rounds met → AreMetIn next behind more → AreMetIn (order ++ next) (rounds ++ behind) (met ++ more)
met_in-append [] next [] behind met more none later = subst (AreMetIn next behind) (sym (ap (λ (l : List Met). l ++ more) none)) later
met_in-append [] next (round ∷ rounds) behind met more all later = absurd all
met_in-append (client ∷ order) next [] behind met more all later = absurd all
met_in-append (client ∷ order) next (round ∷ rounds) behind met more (part, rest, is, own, all) later =
    (part, rest ++ more, ap (λ (l : List Met). l ++ more) is ∙ append_assoc part rest more, own, met_in-append order next rounds behind rest more all later)
