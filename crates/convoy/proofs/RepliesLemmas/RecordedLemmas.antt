-- What a link records of replies that it does not hide is what was got.
use Rattle.std.proofs.Common.{◌≡◌, ℕ, inl, inr, List, [], ◌∷◌, ◌++◌, map, Option, Some, None, option_map, refl, ap, ap₂, sym, subst, ◌∙◌}
use Rattle.std.specs.Prelude.{◌⊎◌}
use Rattle.std.specs.List.{All}
use Rattle.std.proofs.lemmas.List.{append_cancel_left}
use Rattle.std.proofs.lemmas.List.Elements.{All-head, All-tail}
use Rattle.lc_model.specs.declared.query.Query.{Query}
use Rattle.connection_uri.specs.Base.{BaseParts}
use Rattle.lc_world.specs.Link.{LinkSeen, recorded_of}
use Rattle.lc_world.specs.declared.entry.Entry.{Entry}
use Rattle.lc_world.specs.declared.entry.RecordedReply.{RecordedReply}
use Rattle.lc_world.specs.declared.entry.RecordedReply.TheVariants.{Hidden}
use Rattle.convoy.specs.Replies.Laws.{GotIsRecorded, OneRecordedEnd, TellsReply, replies_of}
use Rattle.convoy.specs.Replies.Made.{AreEntriesOf, Made, TellsAll}
use Rattle.convoy.proofs.RepliesLemmas.OneEndLemmas.{one_end}

-- what is recorded and not hidden is what was got
not_hidden : (recorded got : RecordedReply) → (recorded ≡ Hidden → ⊥) → (recorded ≡ Hidden) ⊎ (recorded ≡ got) → recorded ≡ got
not_hidden recorded got tells (inl hidden) = absurd (tells hidden)
not_hidden recorded got tells (inr is) = is

pub got_is_recorded : GotIsRecorded
got_is_recorded base query [] [] are tell = refl
got_is_recorded base query [] (e ∷ entries) are tell = absurd are
got_is_recorded base query (m ∷ made) [] are tell = absurd are
got_is_recorded base query (m ∷ made) (e ∷ entries) are tell =
    ap₂ (λ (one : RecordedReply) (more : List RecordedReply). one ∷ more) (not_hidden e.reply (recorded_of m.got) (All-head TellsReply e entries tell) are.0.reply)
    (got_is_recorded base query made entries are.1 (All-tail TellsReply e entries tell))

-- equal records are of one thing only
one_got : (a b : Option (List ℕ)) → recorded_of a ≡ recorded_of b → a ≡ b
one_got None None same = refl
one_got None (Some reply) same = absurd (cc)
one_got (Some reply) None same = absurd (cc)
one_got (Some reply) (Some other) same = (let is : reply ≡ other = cc in ap Some is)

all_got : (a b : List (Option (List ℕ))) → map recorded_of a ≡ map recorded_of b → a ≡ b
all_got [] [] same = refl
all_got [] (y ∷ b) same = absurd (cc)
all_got (x ∷ a) [] same = absurd (cc)
all_got (x ∷ a) (y ∷ b) same =
    let first : recorded_of x ≡ recorded_of y = cc in
    let rest : map recorded_of a ≡ map recorded_of b = cc in
    ap₂ (λ (one : Option (List ℕ)) (more : List (Option (List ℕ))). one ∷ more) (one_got x y first) (all_got a b rest)

-- the entries after those before are these
entries_are : (before after : Option (List Entry)) (recorded entries own : List Entry) → before ≡ Some recorded → after ≡ Some (recorded ++ entries) →
    after ≡ option_map (λ (t : List Entry). t ++ own) before → own ≡ entries
entries_are before after recorded entries own was is all =
    let both : Some (recorded ++ own) ≡ Some (recorded ++ entries) = sym (ap (option_map (λ (t : List Entry). t ++ own)) was) ∙ sym all ∙ is in
    let lists : recorded ++ own ≡ recorded ++ entries = cc in
    append_cancel_left recorded own entries lists

-- what was got is recorded by the entries of the link
recorded_so : (base : BaseParts) (query : Query) (made : List Made) (before after : Option (List Entry)) (recorded entries : List Entry) → before ≡ Some recorded → after ≡ Some (recorded ++ entries) →
    All TellsReply entries → TellsAll base query made before after → map (λ (entry : Entry). entry.reply) entries ≡ map recorded_of (replies_of made)
recorded_so base query made before after recorded entries was is tell all =
    let own : all.entries ≡ entries = entries_are before after recorded entries all.entries was is all.is in
    got_is_recorded base query made entries (subst (AreEntriesOf base query made) own all.are) tell

pub one_recorded_end : {X : Type 0} (seen : X → LinkSeen) → OneRecordedEnd seen
one_recorded_end seen base query before after recorded entries version_a version_b exchanges_a exchanges_b a b was is tell asked_a asked_b =
    let so_a = recorded_so base query asked_a.made (seen before).recorded (seen after).recorded recorded entries was is tell asked_a.recorded in
    let so_b = recorded_so base query asked_b.made (seen before).recorded (seen after).recorded recorded entries was is tell asked_b.recorded in
    one_end base query (seen before).faults (seen after).faults (seen before).faults (seen after).faults version_a version_b asked_a.made asked_b.made a b
    (all_got (replies_of asked_a.made) (replies_of asked_b.made) (sym so_a ∙ so_b)) asked_a.ends asked_b.ends
