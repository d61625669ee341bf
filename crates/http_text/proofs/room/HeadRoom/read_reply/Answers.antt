use Rattle.http_text.proofs.ReplyLemmas.{only_fault}
use Rattle.http_text.proofs.room.HeadRoom.read_reply.Goals as goal

pub returns-clause-only_fault : goal.returns-clause-only_fault
returns-clause-only_fault c = λ fault has. only_fault c.args.bytes.now c.reply_in.result fault c.reply_in.ensures.said c.reply_in.ensures.fault has
