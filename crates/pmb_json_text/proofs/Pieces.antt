-- Members and values in pieces, as the functions write them: a key, then its value; a comma where
-- it isn't the first; an object and an array from begin to end. For all functions of
-- `src/member.rt`, `text.rt` and `line.rt`, and for laws such as `members_follow_members`. By what
-- `members_text` and `items_text` are.
use Rattle.std.proofs.Common.{◌≡◌, ℕ, List, [], ◌∷◌, ◌++◌, codes, IsTrue, nat_le, length, refl, sym, ap, ◌∙◌}
use Rattle.std.proofs.Common.{append_assoc, ◌≤◌}
use Rattle.std.proofs.lemmas.Bool.{and_parts, leb-true}
use Rattle.std.proofs.lemmas.List.{append-nil}
use Rattle.pmb_json_text.specs.declared.item_order.ItemOrder.{ItemOrder}
use Rattle.pmb_json_text.specs.declared.item_order.ItemOrder.TheVariants.{First, Later}
use Rattle.pmb_json_text.specs.Json.{Json, string}
use Rattle.pmb_json_text.specs.Spelling.{all_escaped, quoted, comma, spelled, spelled_items, spelled_members}
use Rattle.pmb_json_text.specs.Member.{Member, named, members_of, items_of, array_of, members_text, items_text}
use Rattle.pmb_json_text.specs.Member.{key_text, object_line, all_plain, is_key, place_after, array_text}
use Rattle.pmb_json_text.proofs.Plain.{all_plain_as_they_are}

-- ---- one member

pub one_member : (place : ItemOrder) (key : List ℕ) (value : Json) → members_text place (named key value ∷ [])
    ≡ key_text place key ++ spelled value
unfolding members_text
one_member place key value =
    ap (λ (t : List ℕ). comma place ++ (quoted key ++ (codes ":" ++ t))) (append-nil (spelled value))
    ∙ ap (λ (t : List ℕ). comma place ++ t) (sym (append_assoc (quoted key) (codes ":") (spelled value)))
    ∙ sym (append_assoc (comma place) (quoted key ++ codes ":") (spelled value))

-- a key, and then its value
pub member_appended : (place : ItemOrder) (key : List ℕ) (value : Json) (old : List ℕ) {middle new : List ℕ}
    → middle ≡ old ++ key_text place key → new ≡ middle ++ spelled value
    → new ≡ old ++ members_text place (named key value ∷ [])
member_appended place key value old {middle} {new} first second =
    second ∙ ap (λ (t : List ℕ). t ++ spelled value) first ∙ append_assoc old (key_text place key) (spelled value)
    ∙ ap (λ (t : List ℕ). old ++ t) (sym (one_member place key value))

-- ---- a key of the source

pub key_is_plain : (key : List ℕ) → IsTrue (is_key key) → quoted key ≡ codes "\"" ++ (key ++ codes "\"")
key_is_plain key fits =
    ap (λ (t : List ℕ). codes "\"" ++ (t ++ codes "\""))
    (all_plain_as_they_are key (and_parts (nat_le (length key) 16) (all_plain key) fits).1)

pub key_is_short : (key : List ℕ) → IsTrue (is_key key) → length key ≤ 16
key_is_short key fits = leb-true (length key) 16 (and_parts (nat_le (length key) 16) (all_plain key) fits).0

-- a comma, or none, and the key in its quotes with a colon
pub key_appended : (place : ItemOrder) (key old : List ℕ) {first second third new : List ℕ} → IsTrue (is_key key)
    → first ≡ old ++ comma place → second ≡ first ++ codes "\"" → third ≡ second ++ key → new ≡ third ++ codes "\":"
    → new ≡ old ++ key_text place key
key_appended place key old {first} {second} {third} {new} fits separated begun keyed closed =
    closed ∙ ap (λ (t : List ℕ). t ++ codes "\":")
    (keyed ∙ ap (λ (t : List ℕ). t ++ key) (begun ∙ ap (λ (t : List ℕ). t ++ codes "\"") separated))
    ∙ append_assoc ((old ++ comma place) ++ codes "\"") key (codes "\":")
    ∙ append_assoc (old ++ comma place) (codes "\"") (key ++ codes "\":")
    ∙ append_assoc old (comma place) (codes "\"" ++ (key ++ codes "\":"))
    ∙ ap (λ (t : List ℕ). old ++ (comma place ++ (codes "\"" ++ t))) (sym (append_assoc key (codes "\"") (codes ":")))
    ∙ ap (λ (t : List ℕ). old ++ (comma place ++ (t ++ codes ":"))) (sym (key_is_plain key fits))

-- ---- a text

pub text_appended : (bytes old : List ℕ) {first second new : List ℕ} → first ≡ old ++ codes "\""
    → second ≡ first ++ all_escaped bytes → new ≡ second ++ codes "\""
    → new ≡ old ++ spelled (string bytes)
text_appended bytes old {first} {second} {new} begun inside closed =
    closed ∙ ap (λ (t : List ℕ). t ++ codes "\"") (inside ∙ ap (λ (t : List ℕ). t ++ all_escaped bytes) begun
    ∙ append_assoc old (codes "\"") (all_escaped bytes))
    ∙ append_assoc old (codes "\"" ++ all_escaped bytes) (codes "\"")

-- ---- one value of an array

pub one_item : (place : ItemOrder) (value : Json) → items_text place (value ∷ []) ≡ comma place ++ spelled value
unfolding items_text
one_item place value = ap (λ (t : List ℕ). comma place ++ t) (append-nil (spelled value))

pub item_appended : (place : ItemOrder) (value : Json) (old : List ℕ) {middle new : List ℕ}
    → middle ≡ old ++ comma place → new ≡ middle ++ spelled value
    → new ≡ old ++ items_text place (value ∷ [])
item_appended place value old {middle} {new} first second =
    second ∙ ap (λ (t : List ℕ). t ++ spelled value) first ∙ append_assoc old (comma place) (spelled value)
    ∙ ap (λ (t : List ℕ). old ++ t) (sym (one_item place value))

-- ---- lists in two parts

pub members_in_parts : (place : ItemOrder) (front back : List Member) → members_text place (front ++ back)
    ≡ members_text place front ++ members_text (place_after place front) back
unfolding members_text
members_in_parts place [] back = refl
members_in_parts place (m ∷ more) back =
    ap (λ (t : List ℕ). comma place ++ (quoted m.key ++ (codes ":" ++ (spelled m.value ++ t))))
    (later_members more back)
    ∙ simp append_assoc
  where
    later_members : (front back : List Member) → spelled_members Later (members_of (front ++ back))
        ≡ spelled_members Later (members_of front) ++ spelled_members Later (members_of back)
    later_members [] back = refl
    later_members (m ∷ more) back =
        ap (λ (t : List ℕ). codes "," ++ (quoted m.key ++ (codes ":" ++ (spelled m.value ++ t))))
        (later_members more back) ∙ simp append_assoc

pub items_in_parts : (place : ItemOrder) (front back : List Json)
    → items_text place (front ++ back) ≡ items_text place front ++ items_text (place_after place front) back
unfolding items_text
items_in_parts place [] back = refl
items_in_parts place (value ∷ more) back =
    ap (λ (t : List ℕ). comma place ++ (spelled value ++ t)) (later_items more back)
    ∙ simp append_assoc
  where
    later_items : (front back : List Json) → spelled_items Later (items_of (front ++ back))
        ≡ spelled_items Later (items_of front) ++ spelled_items Later (items_of back)
    later_items [] back = refl
    later_items (value ∷ more) back = ap (λ (t : List ℕ). codes "," ++ (spelled value ++ t)) (later_items more back)
        ∙ simp append_assoc

-- ---- an object and an array by their pieces

pub line_in_pieces : (members : List Member)
    → object_line members ≡ codes "{" ++ members_text First members ++ codes "}\n"
unfolding members_text
line_in_pieces members = simp append_assoc

pub array_in_pieces : (place : ItemOrder) (key : List ℕ) (values : List Json)
    → members_text place (named key (array_of values) ∷ []) ≡ array_text place key ++ items_text First values
    ++ codes "]"
unfolding items_text
array_in_pieces place key values =
    one_member place key (array_of values) ∙ sym
    (append_assoc (key_text place key) (codes "[") (items_text First values ++ codes "]"))
    ∙ sym (append_assoc (array_text place key) (items_text First values) (codes "]"))
