use Rattle.http_text.proofs.AnswerLemmas.{answers, body_is}
use Rattle.http_text.proofs.answering.reply_text.Goals as goal

pub returns-clause-read : goal.returns-clause-read
returns-clause-read c = answers c.args.reply.now c.in_ok-text.text.items c.in_ok-text.ensures.text c.requires c.in_ok-text.ensures.in_range

pub returns-clause-body : goal.returns-clause-body
returns-clause-body c = body_is c.args.reply.now c.in_ok-text.text.items c.in_ok-text.ensures.text
