use Rattle.convoy.proofs.ClientLawsLemmas.LinkLemmas as links
use Rattle.convoy.proofs.client_laws.laws.links_lead_on.Goals as goal

pub returns-clause-next : goal.returns-clause-next
returns-clause-next c = links.next_links_have_the_rest

pub returns-clause-previous : goal.returns-clause-previous
returns-clause-previous c = links.previous_links_have_the_front

pub returns-clause-next_ends : goal.returns-clause-next_ends
returns-clause-next_ends c = links.next_links_end

pub returns-clause-previous_ends : goal.returns-clause-previous_ends
returns-clause-previous_ends c = links.previous_links_end

pub returns-clause-begin : goal.returns-clause-begin
returns-clause-begin c = links.pages_begin_at_their_names
