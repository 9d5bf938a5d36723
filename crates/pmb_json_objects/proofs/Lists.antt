-- Members that are appended one list after the other, from the brace to the end of the line, and
-- arrays. For all functions that write an object: `write_line`, `read_line`, `refusal_line`,
-- `append_command` and the others. A text of members in two lists is that of the first and then,
-- after a comma, that of the second.
use Rattle.std.proofs.Common.{◌≡◌, ℕ, List, [], ◌∷◌, ◌++◌, codes, sym, ap, refl, ◌∙◌, append_assoc, map}
use Rattle.std.proofs.lemmas.List.{append-nil}
use Rattle.pmb_command.specs.Parts.{DeviceParts}
use Rattle.pmb_json_text.specs.declared.item_order.ItemOrder.{ItemOrder}
use Rattle.pmb_json_text.specs.declared.item_order.ItemOrder.TheVariants.{First, Later}
use Rattle.pmb_json_text.specs.Member.{Member, members_text, object_line}
use Rattle.pmb_json_text.specs.Json.{Json, string}
use Rattle.pmb_json_text.specs.Member.{array_of, array_text, items_text, named}
use Rattle.pmb_json_text.proofs.Pieces.{array_in_pieces, items_in_parts, line_in_pieces, members_in_parts}
use Rattle.pmb_json_objects.specs.Members.{device_members}

-- no members are no text
pub none_later : members_text Later [] ≡ []
unfolding members_text
none_later = refl

pub nothing : (old : List ℕ) → old ≡ old ++ members_text Later []
nothing old = sym (ap (λ (t : List ℕ). old ++ t) none_later ∙ append-nil old)

pub later : (a b : List Member) → members_text Later (a ++ b) ≡ members_text Later a ++ members_text Later b
later [] b = sym (ap (λ (t : List ℕ). t ++ members_text Later b) none_later)
later (m ∷ a) b = members_in_parts Later (m ∷ a) b

-- members, and then others
pub joined : (old : List ℕ) (a b : List Member) {middle new : List ℕ} → middle ≡ old ++ members_text Later a
    → new ≡ middle ++ members_text Later b
    → new ≡ old ++ members_text Later (a ++ b)
joined old a b {middle} {new} first second =
    second ∙ ap (λ (t : List ℕ). t ++ members_text Later b) first ∙ append_assoc old (members_text Later a)
    (members_text Later b)
    ∙ ap (λ (t : List ℕ). old ++ t) (sym (later a b))

-- .. after the first members of an object
pub joined_to_first : (old : List ℕ) (m : Member) (a b : List Member) {middle new : List ℕ}
    → middle ≡ old ++ members_text First (m ∷ a) → new ≡ middle ++ members_text Later b
    → new ≡ old ++ members_text First (m ∷ a ++ b)
joined_to_first old m a b {middle} {new} first second =
    second ∙ ap (λ (t : List ℕ). t ++ members_text Later b) first ∙ append_assoc old (members_text First (m ∷ a))
    (members_text Later b)
    ∙ ap (λ (t : List ℕ). old ++ t) (sym (members_in_parts First (m ∷ a) b))

-- .. after its brace
pub begun : (old : List ℕ) (members : List Member) {brace new : List ℕ}
    → brace ≡ old ++ codes "{" → new ≡ brace ++ members_text First members
    → new ≡ old ++ (codes "{" ++ members_text First members)
begun old members {brace} {new} first second =
    second ∙ ap (λ (t : List ℕ). t ++ members_text First members) first
    ∙ append_assoc old (codes "{") (members_text First members)

-- .. and others after those
pub joined_to_begun : (old : List ℕ) (m : Member) (a b : List Member) {middle new : List ℕ}
    → middle ≡ old ++ (codes "{" ++ members_text First (m ∷ a))
    → new ≡ middle ++ members_text Later b → new ≡ old ++ (codes "{" ++ members_text First (m ∷ a ++ b))
joined_to_begun old m a b {middle} {new} first second =
    second ∙ ap (λ (t : List ℕ). t ++ members_text Later b) first
    ∙ append_assoc old (codes "{" ++ members_text First (m ∷ a)) (members_text Later b)
    ∙ ap (λ (t : List ℕ). old ++ (codes "{" ++ t)) (sym (members_in_parts First (m ∷ a) b))

-- and the line ends
pub ended : (old : List ℕ) (members : List Member) {middle new : List ℕ}
    → middle ≡ old ++ (codes "{" ++ members_text First members) → new ≡ middle ++ codes "}\n"
    → new ≡ old ++ object_line members
ended old members {middle} {new} first second =
    second ∙ ap (λ (t : List ℕ). t ++ codes "}\n") first
    ∙ append_assoc old (codes "{" ++ members_text First members) (codes "}\n")
    ∙ ap (λ (t : List ℕ). old ++ t) (sym (line_in_pieces members))

-- a device of the profile that is seen
pub of_seen_device : (old : List ℕ) (addr : ℕ) {profile seen : List DeviceParts} {new : List ℕ} → profile ≡ seen
    → new ≡ old ++ members_text Later (device_members profile addr)
    → new ≡ old ++ members_text Later (device_members seen addr)
of_seen_device old addr same written =
    written ∙ ap (λ (devices : List DeviceParts). old ++ members_text Later (device_members devices addr)) same

-- ---- arrays

pub no_items : (place : ItemOrder) → items_text place [] ≡ []
unfolding items_text
no_items place = refl

-- a member whose value is an array is written in three pieces
pub array_appended : (old : List ℕ) (key : List ℕ) (values : List Json) {begun listed new : List ℕ}
    → begun ≡ old ++ array_text Later key
    → listed ≡ begun ++ items_text First values → new ≡ listed ++ codes "]"
    → new ≡ old ++ members_text Later (named key (array_of values) ∷ [])
array_appended old key values {begun} {listed} {new} first second third =
    let whole = array_text Later key ++ items_text First values in
    third ∙ ap (λ (t : List ℕ). t ++ codes "]") (second ∙ ap (λ (t : List ℕ). t ++ items_text First values) first
    ∙ append_assoc old (array_text Later key) (items_text First values))
    ∙ append_assoc old whole (codes "]")
    ∙ ap (λ (t : List ℕ). old ++ t) (sym (array_in_pieces Later key values))

-- a text, and then others
pub item_before : (place : ItemOrder) (name : List ℕ) (rest : List (List ℕ)) (old : List ℕ) {new : List ℕ}
    → new ≡ old ++ items_text place (string name ∷ [])
    → new ++ items_text Later (map string rest) ≡ old ++ items_text place (map string (name ∷ rest))
item_before place name rest old {new} item =
    ap (λ (t : List ℕ). t ++ items_text Later (map string rest)) item
    ∙ append_assoc old (items_text place (string name ∷ [])) (items_text Later (map string rest))
    ∙ ap (λ (t : List ℕ). old ++ t) (sym (items_in_parts place (string name ∷ []) (map string rest)))
