use Rattle.cli_words.proofs.AddressLemmas.{addresses_are_bases, at_80}
use Rattle.cli_words.proofs.laws.default_address.Goals as goal

pub returns : goal.returns
returns c = record { bases = addresses_are_bases; at_80 = at_80 }
