use Rattle.change_table.proofs.TableLemmas as law
use Rattle.change_table.proofs.table.one_list_of_changes.Goals as goal

pub returns : goal.returns
returns c = law.one_list_of_changes
