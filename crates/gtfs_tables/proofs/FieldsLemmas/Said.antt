-- What a text says is computed where a law ties the two.
use Rattle.std.proofs.Common.{◌≡◌, ◌↔◌, Bool, true, false, Option, Some, None, IfSome, ap, is_none, is_some, not, refl, sym}

pub said_is : {A : Type 0} (P : A → Type 0) (says r : Option A) → ((x : A) → (says ≡ Some x) ↔ P x) → IfSome r P → ((x : A) → P x → r ≡ Some x) → r ≡ says
said_is P says (Some x) law said exact = sym ((law x).1 said)
said_is P None None law said exact = refl
said_is P (Some y) None law said exact = exact y ((law y).0 refl)

-- what `is_none` says of an option is `is_none`
pub none_recorded : {A : Type 0} (o : Option A) (recorded : Bool) → is_some o ≡ not recorded → recorded ≡ is_none o
none_recorded o true e = sym (ap not e)
none_recorded o false e = sym (ap not e)
