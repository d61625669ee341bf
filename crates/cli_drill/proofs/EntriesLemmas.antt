-- Entities that are written one after the other.
use Rattle.std.proofs.Common.{◌≡◌, ℕ, suc, ◌+◌, List, [], ◌∷◌, ◌++◌, length, refl, sym, ap, ◌∙◌, append_assoc, arith}
use Rattle.std.proofs.lemmas.List.{append-nil}
use Rattle.rt_protobuf.specs.Grammar.{WireField, text}
use Rattle.rt_protobuf.specs.Writing.{field_text, fields_text}
use Rattle.cli_drill.specs.Messages.{entities_fields, entity_fields, header_fields, late_at, late_of, message_of, moment_of}
use Rattle.cli_drill.specs.declared.messages.Late.{Late}
use Rattle.cli_drill.proofs.MessagesLemmas.{counted}

abbrev pub header_field : ℕ → WireField
header_field moment = record { number = 1; content = text (fields_text (header_fields moment)) }

abbrev pub entity_field : ℕ → Late → WireField
entity_field id late = record { number = 2; content = text (fields_text (entity_fields id late)) }

one_more : (id : ℕ) (all : List Late) (late : Late)
    → fields_text (entities_fields id (all ++ late ∷ [])) ≡ fields_text (entities_fields id all) ++ field_text (entity_field (id + length all) late)
one_more id [] late =
    let none : id + 0 ≡ id = omega arith in
    append-nil (field_text (entity_field id late)) ∙ sym (ap (λ (n : ℕ). field_text (entity_field n late)) none)
one_more id (first ∷ all) late =
    let next : suc id + length all ≡ id + length (first ∷ all) = omega arith in
    ap (λ (rest : List ℕ). field_text (entity_field id first) ++ rest) (one_more (suc id) all late ∙ ap (λ (n : ℕ). fields_text (entities_fields (suc id) all) ++ field_text (entity_field n late)) next)
    ∙ sym (append_assoc (field_text (entity_field id first)) (fields_text (entities_fields (suc id) all)) (field_text (entity_field (id + length (first ∷ all)) late)))

-- the bytes of the first entities, and of one more
pub next_entity : (seed message entity : ℕ)
    → fields_text (entities_fields 0 (late_of seed message (entity + 1))) ≡ fields_text (entities_fields 0 (late_of seed message entity)) ++ field_text (entity_field entity (late_at seed message entity))
unfolding late_of
next_entity seed message entity =
    let suc_is : entity + 1 ≡ suc entity = omega arith in
    let place : 0 + length (late_of seed message entity) ≡ entity = omega (arith, counted seed message entity) in
    ap (λ (n : ℕ). fields_text (entities_fields 0 (late_of seed message n))) suc_is
    ∙ one_more 0 (late_of seed message entity) (late_at seed message entity)
    ∙ ap (λ (n : ℕ). fields_text (entities_fields 0 (late_of seed message entity)) ++ field_text (entity_field n (late_at seed message entity))) place

-- the bytes of a message with no entity yet, and with one more
pub no_entity : (seed message : ℕ) (front bytes : List ℕ) → bytes ≡ front → bytes ≡ front ++ fields_text (entities_fields 0 (late_of seed message 0))
unfolding late_of
no_entity seed message front bytes e = e ∙ sym (append-nil front)

pub more_entities : (seed message entity : ℕ) (late : Late) (front old new : List ℕ) → old ≡ front ++ fields_text (entities_fields 0 (late_of seed message entity))
    → late ≡ late_at seed message entity → new ≡ old ++ field_text (entity_field entity late) → new ≡ front ++ fields_text (entities_fields 0 (late_of seed message (entity + 1)))
more_entities seed message entity late front old new before same e =
    e ∙ ap (λ (bytes : List ℕ). bytes ++ field_text (entity_field entity late)) before
    ∙ ap (λ (l : Late). (front ++ fields_text (entities_fields 0 (late_of seed message entity))) ++ field_text (entity_field entity l)) same
    ∙ append_assoc front (fields_text (entities_fields 0 (late_of seed message entity))) (field_text (entity_field entity (late_at seed message entity)))
    ∙ ap (λ (bytes : List ℕ). front ++ bytes) (sym (next_entity seed message entity))

-- the bytes of the whole message
pub whole_message : (seed message : ℕ) → field_text (header_field (moment_of message)) ++ fields_text (entities_fields 0 (late_of seed message 20)) ≡ message_of seed message
whole_message seed message = refl
