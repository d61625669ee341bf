-- By the replies that it got a client of the fewest rides ends in one way.
use Rattle.std.proofs.Common.{◌≡◌, ◌∙◌, ℕ, List, [], ◌++◌, Option, Some, Ok, ap, ap₂, append-nil, arith, length, subst, sym}
use Rattle.change_rounds.specs.Fewest.{IsFewestChain}
use Rattle.connection_uri.specs.Base.{BaseParts}
use Rattle.lc_model.specs.declared.connection.Connection.{Connection}
use Rattle.lc_model.specs.declared.doc.StopsDoc.{StopsDoc}
use Rattle.lc_model.specs.declared.journey.Journey.{Journey}
use Rattle.lc_model.specs.declared.page.PageName.{PageName}
use Rattle.lc_model.specs.declared.query.Query.{Query}
use Rattle.lc_world.specs.Link.{LinkSeen}
use Rattle.page_client.proofs.OneReplyLemmas.{one_page_reply}
use Rattle.page_client.specs.Page.{IsPageReply}
use Rattle.page_client.specs.declared.outcome.Outcome.{Outcome}
use Rattle.page_client.specs.declared.outcome.Outcome.TheVariants as outcomes
use Rattle.page_client.specs.declared.want.Want.TheVariants as wants
use Rattle.page_json.specs.declared.page.Page.{Page}
use Rattle.convoy.specs.Replies.Course.{ReadsPages, connections_in}
use Rattle.convoy.specs.Replies.Ends.{EndsBy, HasAnswered}
use Rattle.convoy.specs.Replies.Made.{Made, reply_to}
use Rattle.convoy.proofs.RepliesLemmas.CourseLemmas.{stands_last}
use Rattle.convoy.proofs.RepliesLemmas.OneEndLemmas.{one_end}
use Rattle.rounds_client.specs.Ends.Asked.{HasFewestRead}
use Rattle.rounds_client.specs.Ends.ReplyLaws.{HaveAsManyRides, OneFewestByReplies}
use Rattle.rounds_client.proofs.EndsLemmas.ReadLemmas.{same_doc, same_pages}

-- what was read by equal exchanges is one
module _ (base : BaseParts) (query : Query) (version_a version_b : Option ℕ) (made_a made_b : List Made) (journey_a journey_b : Option Journey) (same : made_a ≡ made_b)
    (a : HasAnswered base query version_a made_a journey_a) (b : HasAnswered base query version_b made_b journey_b) where
  parts : (a.earlier ≡ b.earlier) × (reply_to (wants.Page a.name) a.reply ≡ reply_to (wants.Page b.name) b.reply)
  parts = stands_last a.earlier b.earlier (reply_to (wants.Page a.name) a.reply) (reply_to (wants.Page b.name) b.reply) (sym a.was_made ∙ same ∙ b.was_made)

  earlier : a.earlier ++ [] ≡ b.earlier
  earlier = append-nil a.earlier ∙ parts.0

  pub one_doc_read : a.came.doc ≡ b.came.doc
  one_doc_read = same_doc base query version_a version_b a.earlier b.earlier a.name b.name a.came b.came [] earlier

  pages : a.came.pages ≡ b.came.pages
  pages =
      same_pages base query version_a version_b a.earlier b.earlier a.name b.name a.came b.came [] a.came.pages earlier
      (subst (λ (l : List Made). ReadsPages base (Some a.came.first) l a.came.pages) (sym (append-nil a.came.for_pages)) a.came.reads)

  page : a.page ≡ b.page
  page =
      let want : wants.Page a.name ≡ wants.Page b.name = ap (λ (m : Made). m.want) parts.1 in
      let named : a.name ≡ b.name = cc in
      let got : Some a.reply ≡ Some b.reply = ap (λ (m : Made). m.got) parts.1 in
      let reply : a.reply ≡ b.reply = cc in
      let says : IsPageReply base b.name b.reply (Ok a.page) =
      subst (λ (r : List ℕ). IsPageReply base b.name r (Ok a.page)) reply (subst (λ (n : PageName). IsPageReply base n a.reply (Ok a.page)) named a.says) in
      let result : Ok a.page ≡ Ok b.page = one_page_reply base b.name b.reply (Ok a.page) (Ok b.page) says b.says in
      cc

  pub one_list_read : connections_in a.came.pages ++ a.page.list ≡ connections_in b.came.pages ++ b.page.list
  one_list_read = ap₂ (λ (l : List Page) (p : Page). connections_in l ++ p.list) pages page

-- two of the fewest rides
two_fewest : (query : Query) (doc : StopsDoc) (list : List Connection) (a b : Journey) → IsFewestChain query doc list (Some a) → IsFewestChain query doc list (Some b) → length a.rides ≡ length b.rides
two_fewest query doc list a b x y =
    let fewer = x.has_fewest b y.is_best in
    let fewer_too = y.has_fewest a x.is_best in
    omega (arith, fewer, fewer_too)

module _ (base : BaseParts) (query : Query) (before_a now_a before_b now_b : ℕ) (version_a version_b : Option ℕ) (made_a made_b : List Made) (same : made_a ≡ made_b) where
  -- journeys of the fewest rides of what was read have as many rides
  rides : (a b : Outcome) (read_a : EndsBy base query before_a now_a version_a made_a a) (read_b : EndsBy base query before_b now_b version_b made_b b)
      → HasFewestRead base query before_a now_a version_a made_a a read_a → HasFewestRead base query before_b now_b version_b made_b b read_b → HaveAsManyRides a b
  rides (outcomes.Found i) (outcomes.Found j) read_a read_b x y =
      let doc = one_doc_read base query version_a version_b made_a made_b (Some i) (Some j) same read_a read_b in
      let list = one_list_read base query version_a version_b made_a made_b (Some i) (Some j) same read_a read_b in
      let chain = subst (λ (l : List Connection). IsFewestChain query read_b.came.doc l (Some i)) list
      (subst (λ (d : StopsDoc). IsFewestChain query d (connections_in read_a.came.pages ++ read_a.page.list) (Some i)) doc x) in
      two_fewest query read_b.came.doc (connections_in read_b.came.pages ++ read_b.page.list) i j chain y
  rides (outcomes.Found i) outcomes.NoJourney read_a read_b x y = tt
  rides (outcomes.Found i) (outcomes.Refused g) read_a read_b x y = tt
  rides (outcomes.Found i) (outcomes.LinkFault m n) read_a read_b x y = tt
  rides (outcomes.Found i) (outcomes.PeerWrong r g) read_a read_b x y = tt
  rides outcomes.NoJourney b read_a read_b x y = tt
  rides (outcomes.Refused f) b read_a read_b x y = tt
  rides (outcomes.LinkFault k l) b read_a read_b x y = tt
  rides (outcomes.PeerWrong q f) b read_a read_b x y = tt

pub one_fewest_by_replies : {X Y : Type 0} (seen : X → LinkSeen) (saw : Y → LinkSeen) → OneFewestByReplies seen saw
one_fewest_by_replies seen saw base query before after other later version_a version_b exchanges_a exchanges_b a b x y same =
    let one = one_end base query (seen before).faults (seen after).faults (saw other).faults (saw later).faults version_a version_b x.asked.made y.asked.made a b same x.asked.ends y.asked.ends in
    record {
      version = one.version;
      exchanges = x.asked.counted ∙ ap (λ (l : List Made). length l) one.made ∙ sym y.asked.counted;
      outcome = one.outcome;
      rides =
          rides base query (seen before).faults (seen after).faults (saw other).faults (saw later).faults version_a version_b x.asked.made y.asked.made one.made a b x.asked.ends y.asked.ends x.fewest
          y.fewest;
    }
