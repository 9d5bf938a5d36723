-- An object and an array as they are appended, from begin to end. For `append_object` and `append_array` of
-- `src/member.rt`.
use Rattle.std.proofs.Common.{◌≡◌, ℕ, List, [], ◌∷◌, ◌++◌, codes, Option, Some, None, sym, ap, subst, ◌∙◌, append_assoc}
use Rattle.std.proofs.lemmas.List.{append-nil}
use Rattle.pmb_json_text.specs.declared.item_order.ItemOrder.{ItemOrder}
use Rattle.pmb_json_text.specs.declared.item_order.ItemOrder.TheVariants.{First, Later}
use Rattle.pmb_json_text.specs.Json.{Json}
use Rattle.pmb_json_text.specs.Member.{array_of, array_text, items_text, members_text, named}
use Rattle.pmb_json_text.proofs.Pieces.{array_in_pieces, one_member}
use Rattle.pmb_meaning.specs.Field.{SaidField}
use Rattle.pmb_meaning.specs.Names.{RegisterNames}
use Rattle.pmb_meaning.specs.Object.{field_members, says_members, says_object}

-- the key and a brace, the fields, a brace
object_in_pieces : (names : RegisterNames) (fields : List SaidField)
    → members_text Later (says_members names (Some fields))
    ≡ codes ",\"says\":{" ++ (members_text First (field_members names fields) ++ codes "}")
unfolding members_text
object_in_pieces names fields = one_member Later (codes "says") (says_object names fields)

-- no fields are no member
pub nothing_appended : (names : RegisterNames) (found : Option (List SaidField)) (old : List ℕ) → None ≡ found
    → old ≡ old ++ members_text Later (says_members names found)
unfolding members_text
nothing_appended names found old is =
    subst (λ (o : Option (List SaidField)). old ≡ old ++ members_text Later (says_members names o)) is
    (sym (append-nil old))

-- nothing is no member and no value
pub no_member : (old : List ℕ) → old ≡ old ++ members_text First []
unfolding members_text
no_member old = sym (append-nil old)

pub no_item : (old : List ℕ) → old ≡ old ++ items_text First []
unfolding items_text
no_item old = sym (append-nil old)

-- three pieces, one after the other
three_pieces : (old first second third : List ℕ) {a b new : List ℕ} → a ≡ old ++ first → b ≡ a ++ second
    → new ≡ b ++ third → new ≡ old ++ (first ++ (second ++ third))
three_pieces old first second third {a} {b} {new} begun inside ended =
    ended ∙ ap (λ (t : List ℕ). t ++ third) (inside ∙ ap (λ (t : List ℕ). t ++ second) begun)
    ∙ append_assoc (old ++ first) second third ∙ append_assoc old first (second ++ third)

pub object_appended : (names : RegisterNames) (fields : List SaidField) (old : List ℕ) {a b new : List ℕ}
    → a ≡ old ++ codes ",\"says\":{"
    → b ≡ a ++ members_text First (field_members names fields) → new ≡ b ++ codes "}"
    → new ≡ old ++ members_text Later (says_members names (Some fields))
object_appended names fields old begun inside ended =
    three_pieces old (codes ",\"says\":{") (members_text First (field_members names fields)) (codes "}") begun inside
    ended
    ∙ ap (λ (t : List ℕ). old ++ t) (sym (object_in_pieces names fields))

pub array_appended : (place : ItemOrder) (key : List ℕ) (values : List Json) (old : List ℕ) {a b new : List ℕ}
    → a ≡ old ++ array_text place key → b ≡ a ++ items_text First values → new ≡ b ++ codes "]"
    → new ≡ old ++ members_text place (named key (array_of values) ∷ [])
array_appended place key values old begun inside ended =
    three_pieces old (array_text place key) (items_text First values) (codes "]") begun inside ended
    ∙ ap (λ (t : List ℕ). old ++ t)
    (sym (append_assoc (array_text place key) (items_text First values) (codes "]"))
    ∙ sym (array_in_pieces place key values))
