-- The table is compared with the definition at each of the 256 bytes.
use Rattle.std.proofs.Common.{ℕ, arith, get_or, nat_eq, not, refl}
use Rattle.std.proofs.lemmas.Bool.{agree_below_at}
use Rattle.connection_uri.specs.Encoding.{is_unreserved}
use Rattle.page_json.specs.declared.id_writing.TheConstants.{UNRESERVED}
use Rattle.page_json.proofs.id_writing.is_unreserved.Goals as goal

pub returns : goal.returns
returns c = agree_below_at (λ (k : ℕ). not (nat_eq (get_or UNRESERVED k 0) 44)) is_unreserved 256 c.args.byte refl (omega arith)
