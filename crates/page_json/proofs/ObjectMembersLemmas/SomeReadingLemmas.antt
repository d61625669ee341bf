-- Readings have a result.
use Rattle.std.proofs.Common.{◌≡◌, ℕ, List, [], ◌∷◌, Option, Some, None, Result, Ok, Err, refl}
use Rattle.std.specs.List.{All}
use Rattle.std.specs.Result.{IfOk}
use Rattle.std.proofs.lemmas.List.Elements.{All-nil, All-cons}
use Rattle.lc_time.specs.Iso.{SaysMoment}
use Rattle.lc_time.proofs.OneTextLemmas.{one_moment}
use Rattle.serde_json.specs.Data.{Data, Items, no_items, item}
use Rattle.serde_json.specs.Find.{as_str}
use Rattle.serde_json.specs.Read.{read}
use Rattle.page_json.specs.ObjectMembers.Disorder.{unless_disorder}
use Rattle.page_json.specs.ObjectMembers.Members.{formed, said_at, said_if, said_in, text_of}
use Rattle.page_json.specs.ObjectMembers.JsonReading.{json_in}
use Rattle.page_json.specs.ObjectMembers.Reading.{Reading, HasResult, after, each_in, exactly, what_is_said, ◌>>=◌}
use Rattle.page_json.specs.declared.object_members.fault.PageFault.{PageFault}
use Rattle.page_json.specs.declared.object_members.fault.PageFault.TheVariants.{BadMember, NotJson}
use Rattle.page_json.proofs.ObjectMembersLemmas.DecisionsLemmas.{utf8}
use Rattle.page_json.proofs.ObjectMembersLemmas.MomentDecidedLemmas.{SaysOrNot, moments}

-- the reading has a result, and what it gives is so
pub record HasSome {X : Type 0} (P : X → Type 0) (reading : Reading X) : Type 0 where
  pub result : Result X PageFault
  pub has : reading result
  pub is : IfOk result P

pub has_result : {X : Type 0} (P : X → Type 0) (reading : Reading X) → HasSome P reading → HasResult reading
has_result P reading some = (some.result, some.has)

-- anything
abbrev pub Any : {X : Type 0} → X → Type 0
Any {X} x = Unit {0}

any : {X : Type 0} (result : Result X PageFault) → IfOk result Any
any (Ok x) = tt
any (Err fault) = tt

pub some_exactly : {X : Type 0} (P : X → Type 0) (answer : Result X PageFault) → IfOk answer P → HasSome P (exactly answer)
some_exactly P answer is = record { result = answer; has = refl; is = is }

pub some_value : {X : Type 0} (answer : Result X PageFault) → HasSome Any (exactly answer)
some_value answer = some_exactly Any answer (any answer)

some_after : {A B : Type 0} (P : A → Type 0) (Q : B → Type 0) (first : Result A PageFault) (next : A → Reading B) → IfOk first P → ((x : A) → P x → HasSome Q (next x)) → HasSome Q (after first next)
some_after P Q (Ok x) next is some = some x is
some_after P Q (Err fault) next is some = some_exactly Q (Err fault) tt

pub some_then : {A B : Type 0} (P : A → Type 0) (Q : B → Type 0) (first : Reading A) (next : A → Reading B) → HasSome P first → ((x : A) → P x → HasSome Q (next x)) → HasSome Q (first >>= next)
some_then P Q first next some each =
    let then' = some_after P Q some.result next some.is each in
    record { result = then'.result; has = (some.result, some.has, then'.has); is = then'.is }

-- a fact holds, or else the fault is there
pub by_fact : {X : Type 0} (P : X → Type 0) (reading : Reading X) (x : X) (fault : PageFault) → Dec (P x) → (P x → reading (Ok x)) → ((P x → ⊥) → reading (Err fault)) → HasSome P reading
by_fact P reading x fault (yes fact) given none = record { result = Ok x; has = given fact; is = fact }
by_fact P reading x fault (no not) given none = record { result = Err fault; has = none not; is = tt }

-- a text says one thing, or it is known that it says none
pub record Tells {X : Type 0} (Says : List ℕ → X → Type 0) : Type 0 where
  pub one : (text : List ℕ) (x y : X) → Says text x → Says text y → x ≡ y
  pub some : SaysOrNot Says

some_said : {X : Type 0} (Says : List ℕ → X → Type 0) (key : List ℕ) → Tells Says → (text : List ℕ) → Any text → HasSome Any (what_is_said Says key text)
some_said Says key tells text _ = elim (tells.some text) [
  | yes said ↦ record { result = Ok said.0; has = (said.1, λ y other. tells.one text y said.0 other said.1); is = tt }
  | no none ↦ record { result = Err (BadMember key); has = (refl, λ y says. none (y, says)); is = tt }
]

pub some_said_at : {X : Type 0} (Says : List ℕ → X → Type 0) (key : List ℕ) (tree : Data) → Tells Says → HasSome Any (said_at Says key tree)
some_said_at Says key tree tells = some_after Any Any (text_of key tree) (what_is_said Says key) (any _) (some_said Says key tells)

pub some_said_if : {X : Type 0} (Says : List ℕ → X → Type 0) (key : List ℕ) (d : Option Data) → Tells Says → HasSome Any (said_if Says key d)
some_said_if Says key None tells = some_value (Ok None)
some_said_if Says key (Some d) tells =
    some_then Any Any (said_in Says key d) _ (some_after Any Any (formed key (as_str d)) (what_is_said Says key) (any _) (some_said Says key tells)) (λ x _. some_value (Ok (Some x)))

pub some_each : {X : Type 0} (P : X → Type 0) (inner : Data → Reading X) → ((d : Data) → HasSome P (inner d)) → (items : Items) → HasSome (All P) (each_in inner items)
unfolding each_in
some_each P inner some no_items = some_exactly (All P) (Ok []) (All-nil P)
some_each P inner some (item d ds) =
    some_then P (All P) (inner d) _ (some d) (λ x is. some_then (All P) (All P) (each_in inner ds) _ (some_each P inner some ds) (λ xs are. some_exactly (All P) (Ok (x ∷ xs)) (All-cons P x xs is are)))

-- what is not in order is not given
pub if_ordered : {X : Type 0} (P : X → Type 0) (place : Option ℕ) (x : X) → P x → IfOk (unless_disorder place x) P
if_ordered P None x is = is
if_ordered P (Some place) x is = tt

pub tell_moment : Tells SaysMoment
tell_moment = record { one = one_moment; some = moments }

pub some_json : (bytes : List ℕ) → HasSome Any (json_in bytes)
some_json bytes = of_read (read bytes) refl
  where
    of_read : (o : Option Data) → read bytes ≡ o → HasSome Any (json_in bytes)
    of_read None e = record { result = Err NotJson; has = (refl, λ _. e); is = tt }
    of_read (Some tree) e = elim (utf8 bytes) [
      | yes text ↦ record { result = Ok tree; has = (text, e); is = tt }
      | no not ↦ record { result = Err NotJson; has = (refl, λ text. absurd (not text)); is = tt }
    ]
