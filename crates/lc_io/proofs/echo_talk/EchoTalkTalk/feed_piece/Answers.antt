-- It gives back as many bytes as there is room for.
use Rattle.std.proofs.Common.{◌≡◌, ◌++◌, ◌+◌, ◌==◌, ◌||◌, false, length, sym, subst, arith, length-take}
use Rattle.lc_io.specs.EchoTalk.{EchoTalkState, HasEchoed}
use Rattle.lc_io.proofs.EchoLemmas.{all_given, echoes_more}
use Rattle.lc_io.proofs.echo_talk.EchoTalkTalk.feed_piece.Goals as goal

pub give-requires : goal.give-requires
give-requires c = omega (arith, c.room_for-count.ensures.room, c.room_for-count.ensures.within, length-take c.room_for-count.result c.args.piece.now)

pub returns-clause-fed : goal.returns-clause-fed
returns-clause-fed c = λ start fed sent has.
    let Goal : EchoTalkState → Type 0 = λ talk. HasEchoed talk start (fed ++ c.args.piece.now) sent in
    subst Goal (sym c.in_ok-give.ensures.ok) (echoes_more c.args.self.now start c.room_for-count.result fed sent c.args.piece.now has c.room_for-count.ensures.room)

pub returns-clause-count : goal.returns-clause-count
returns-clause-count c =
    let piece = c.args.piece.now in
    let Goal : EchoTalkState → Type 0 = λ talk. (talk.spent || (talk.requests == talk.limit)) ≡ false → talk.requests ≡ c.args.self.now.requests + length piece in
    subst Goal (sym c.in_ok-give.ensures.ok)
    (all_given c.args.self.now.spent c.args.self.now.limit c.args.self.now.requests c.room_for-count.result piece c.room_for-count.ensures.within c.room_for-count.ensures.room)
