use Rattle.page_client.proofs.BeginLemmas.{sent_on}
use Rattle.page_client.proofs.client.Client.go_to_stops.Goals as goal

pub invariant_of-self : goal.invariant_of-self
invariant_of-self c =
    let self = c.args.self.now in
    record { sound = sent_on self.query self.gate self.scan self.phase c.from_list.result c.args.first c.requires self.sound }
