use Rattle.cli_drill.proofs.RowsLemmas.{first_files, more_files}
use Rattle.cli_drill.proofs.files.push_messages.Goals as goal

pub messages-init : goal.messages-init
messages-init c = first_files c.args.seed c.args.files.now.items

pub messages-preserved : goal.messages-preserved
messages-preserved c =
    more_files c.args.seed c.args.files.now.items c.messages.files.items c.push_message.new.files.items c.messages.message c.messages.invariant c.in_ok-push_message.ensures
