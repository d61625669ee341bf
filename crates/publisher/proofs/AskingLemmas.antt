-- Paths under a base, and what is read of a request.
use Rattle.std.proofs.Common.{◌≡◌, ℕ, List, ◌++◌, Bool, true, false, Option, Some, None, refl}
use Rattle.std.specs.Prelude.{nat_eq, ◌&&◌, if◌then◌else◌, codes}
use Rattle.std.specs.Option.{IfSome}
use Rattle.std.specs.Cmp.Lexicographic.{same_text}
use lib.Pointwise.{pointwise}
use Rattle.connection_uri.specs.Base.{BaseParts}
use Rattle.lc_world.specs.Sides.Asked.{asked_by_posting, asked_by_reading, asked_of, is_under}
use Rattle.lc_world.specs.Sides.Response.{IsTheOne}
use Rattle.lc_world.specs.declared.sides.asked.Asked.TheVariants as kinds

-- a text without the front is none of those that have it
not_under_by : (same : Bool) (text other : List ℕ) → (text ≡ other → ⊥) → same ≡ pointwise nat_eq text other → false ≡ same
not_under_by true text other differ is = absurd (differ (same_text text other is))
not_under_by false text other differ is = refl

pub not_under : (text front tail : List ℕ) → (text ≡ front ++ tail → ⊥) → false ≡ pointwise nat_eq text (front ++ tail)
not_under text front tail differ = not_under_by (pointwise nat_eq text (front ++ tail)) text (front ++ tail) differ refl

-- a reader that is exact gives the one value
pub read_is_the_one : {X : Type 0} (IsSo : X → Type 0) (read : Option X) → IfSome read IsSo → ((x : X) → IsSo x → read ≡ Some x) → IsTheOne IsSo read
read_is_the_one IsSo None said exact = λ x is. let clash : None ≡ Some x = exact x is in cc
read_is_the_one IsSo (Some x) said exact = said

module _ (base : BaseParts) (accepts : Bool) (path method : List ℕ)
    (no_gate : is_under base (codes "connections") path ≡ false) (no_page : is_under base (codes "memento/connections") path ≡ false) where
  -- what is asked for at the stops document
  pub stops_asked : is_under base (codes "stops") path ≡ true → asked_by_reading method kinds.Stops ≡ asked_of base accepts path method
  stops_asked stops = rw (no_gate, no_page, stops) refl

  -- and where messages are taken
  pub update_asked : is_under base (codes "stops") path ≡ false → accepts ≡ true → is_under base (codes "updates") path ≡ true
      → asked_by_posting method kinds.Update ≡ asked_of base accepts path method
  update_asked no_stops taken updates = rw (no_gate, no_page, no_stops, taken, updates) refl

  -- and elsewhere
  pub nothing_there : is_under base (codes "stops") path ≡ false → is_under base (codes "updates") path ≡ false → kinds.Nothing ≡ asked_of base accepts path method
  nothing_there no_stops no_updates = rw (no_gate, no_page, no_stops, no_updates) (no_more accepts)
    where
      no_more : (taken : Bool) → kinds.Nothing ≡ (if taken && false then asked_by_posting method kinds.Update else kinds.Nothing)
      no_more true = refl
      no_more false = refl

  pub nothing_taken : is_under base (codes "stops") path ≡ false → accepts ≡ false → kinds.Nothing ≡ asked_of base accepts path method
  nothing_taken no_stops closed = rw (no_gate, no_page, no_stops, closed) refl
