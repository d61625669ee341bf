use Rattle.version_store.proofs.NearLemmas as near
use Rattle.version_store.proofs.NoMemoryLemmas.{no_fault_is_memory}
use Rattle.version_store.proofs.laws.near_values.Goals as goal

pub returns-clause-older : goal.returns-clause-older
returns-clause-older c = near.none_older_is_taken

pub returns-clause-again : goal.returns-clause-again
returns-clause-again c = near.refused_again

pub returns-clause-memory : goal.returns-clause-memory
returns-clause-memory c = λ store bytes is. no_fault_is_memory bytes is.first

pub returns-clause-rows : goal.returns-clause-rows
returns-clause-rows c = near.one_list_between

pub returns-clause-more : goal.returns-clause-more
returns-clause-more c = near.none_more

pub returns-clause-span : goal.returns-clause-span
returns-clause-span c = near.each_is_in_the_span

pub returns-clause-deleted : goal.returns-clause-deleted
returns-clause-deleted c = near.deleted_is_gone

pub returns-clause-full : goal.returns-clause-full
returns-clause-full c = near.full_forgets

pub returns-clause-undated : goal.returns-clause-undated
returns-clause-undated c = near.undated_name_their_day

pub returns-clause-says : goal.returns-clause-says
returns-clause-says c = near.says_what_is
