-- What is appended piece by piece, in a loop over a list: what was appended so far, and one piece more; and the room
-- that is left. For the loops of `src/rows.rt`, `member.rt` and `words.rt`.
use Rattle.std.proofs.Common.{◌≡◌, ℕ, zero, suc, ◌+◌, ◌*◌, ◌<◌, ◌≤◌, List, [], ◌∷◌, ◌++◌, Bor, length, map, take, get_or}
use Rattle.std.proofs.Common.{codes, refl, sym, ap, ◌∙◌, append_assoc, arith}
use Rattle.std.proofs.lemmas.List.{append-nil, map-append, take_more}
use Rattle.pmb_json_text.specs.declared.item_order.ItemOrder.{ItemOrder}
use Rattle.pmb_json_text.specs.declared.item_order.ItemOrder.TheVariants.{First, Later}
use Rattle.pmb_json_text.specs.Json.{string}
use Rattle.pmb_json_text.specs.Member.{items_text, members_text, place_after}
use Rattle.pmb_json_text.proofs.Pieces.{items_in_parts, members_in_parts}
use Rattle.pmb_meaning.specs.Field.{SaidField, all_parts, field_parts, texts}
use Rattle.pmb_meaning.specs.Names.{RegisterNames}
use Rattle.pmb_meaning.specs.Object.{field_member, field_members}
use Rattle.pmb_meaning.specs.Words.{between, field_words, fields_words, spaced}
use Rattle.pmb_meaning.specs.declared.field.Field.{Field}
use Rattle.pmb_meaning.specs.declared.field.Value.TheVariants.{Word}
use Rattle.pmb_meaning.specs.machine.Room.{fields_room, said_room, words_room}
use Rattle.pmb_meaning.proofs.RowLemmas.{map_more}

-- ---- what an index past the end of a list gives, as goals name it

abbrev pub no_text : Bor (List ℕ)
no_text = record { ref_ptr = (0, 0); now = [] }

abbrev pub no_field : Field
no_field = record { key = no_text; value = Word no_text }

-- ---- places

place_after_map : {X Y : Type 0} (place : ItemOrder) (f : X → Y) (xs : List X)
    → place_after place (map f xs) ≡ place_after place xs
place_after_map place f [] = refl
place_after_map place f (x ∷ xs) = refl

later_after : {X : Type 0} (place : ItemOrder) (xs : List X) (x : X) → Later ≡ place_after place (xs ++ x ∷ [])
later_after place [] x = refl
later_after place (y ∷ xs) x = refl

-- after one more comes a later one
pub place_more : {X : Type 0} (xs : List X) (i : ℕ) (d : X) → i < length xs → Later ≡ place_after First (take (i + 1) xs)
place_more xs i d less =
    later_after First (take i xs) (get_or xs i d) ∙ ap (place_after First) (sym (take_more xs i d less))

-- ---- a text that is made piece by piece

-- the text of one more
pub text_more : {X Y : Type 0} (text : ItemOrder → List Y → List ℕ)
    → ((place : ItemOrder) (front back : List Y)
    → text place (front ++ back) ≡ text place front ++ text (place_after place front) back)
    → (f : X → Y) (xs : List X) (i : ℕ) (d : X) → i < length xs
    → text First (map f (take (i + 1) xs))
    ≡ text First (map f (take i xs)) ++ text (place_after First (take i xs)) (f (get_or xs i d) ∷ [])
text_more text in_parts f xs i d less =
    ap (text First) (map_more f xs i d less) ∙ in_parts First (map f (take i xs)) (f (get_or xs i d) ∷ [])
    ∙ ap (λ (p : ItemOrder). text First (map f (take i xs)) ++ text p (f (get_or xs i d) ∷ []))
    (place_after_map First f (take i xs))

-- .. after other bytes
pub appended_more : (old front piece : List ℕ) {middle new whole : List ℕ} → middle ≡ old ++ front
    → new ≡ middle ++ piece → whole ≡ front ++ piece → new ≡ old ++ whole
appended_more old front piece {middle} {new} {whole} first second same =
    second ∙ ap (λ (t : List ℕ). t ++ piece) first ∙ append_assoc old front piece
    ∙ ap (λ (t : List ℕ). old ++ t) (sym same)

-- ---- the members of an object, the values of an array, and words

abbrev pub said_members : RegisterNames → ItemOrder → List SaidField → List ℕ
said_members names place fields = members_text place (field_members names fields)

pub said_members_in_parts : (names : RegisterNames) (place : ItemOrder) (front back : List SaidField)
    → said_members names place (front ++ back)
    ≡ said_members names place front ++ said_members names (place_after place front) back
said_members_in_parts names place front back =
    ap (members_text place) (map-append (field_member names) front back)
    ∙ members_in_parts place (field_members names front) (field_members names back)
    ∙ ap (λ (p : ItemOrder). said_members names place front ++ said_members names p back)
    (place_after_map place (field_member names) front)

abbrev pub text_items : ItemOrder → List (List ℕ) → List ℕ
text_items place names = items_text place (map string names)

pub text_items_in_parts : (place : ItemOrder) (front back : List (List ℕ)) → text_items place (front ++ back)
    ≡ text_items place front ++ text_items (place_after place front) back
text_items_in_parts place front back =
    ap (items_text place) (map-append string front back)
    ∙ items_in_parts place (map string front) (map string back)
    ∙ ap (λ (p : ItemOrder). text_items place front ++ text_items p back) (place_after_map place string front)

spaced_later : (front back : List (List ℕ)) → spaced Later (front ++ back) ≡ spaced Later front ++ spaced Later back
spaced_later [] back = refl
spaced_later (text ∷ front) back =
    ap (λ (t : List ℕ). between (codes " ") Later ++ (text ++ t)) (spaced_later front back) ∙ simp append_assoc

pub spaced_in_parts : (place : ItemOrder) (front back : List (List ℕ)) → spaced place (front ++ back)
    ≡ spaced place front ++ spaced (place_after place front) back
spaced_in_parts place [] back = refl
spaced_in_parts place (text ∷ front) back =
    ap (λ (t : List ℕ). between (codes " ") place ++ (text ++ t)) (spaced_later front back) ∙ simp append_assoc

fields_later : (names : RegisterNames) (front back : List SaidField)
    → fields_words names Later (front ++ back) ≡ fields_words names Later front ++ fields_words names Later back
fields_later names [] back = refl
fields_later names (f ∷ front) back =
    ap (λ (t : List ℕ). field_words names Later f ++ t) (fields_later names front back) ∙ simp append_assoc

pub fields_words_in_parts : (names : RegisterNames) (place : ItemOrder) (front back : List SaidField)
    → fields_words names place (front ++ back)
    ≡ fields_words names place front ++ fields_words names (place_after place front) back
fields_words_in_parts names place [] back = refl
fields_words_in_parts names place (f ∷ front) back =
    ap (λ (t : List ℕ). field_words names place f ++ t) (fields_later names front back) ∙ simp append_assoc

-- a text after what stands before it
pub spaced_piece : (place : ItemOrder) (text out : List ℕ) {middle new : List ℕ}
    → middle ≡ out ++ between (codes " ") place → new ≡ middle ++ text → new ≡ out ++ spaced place (text ∷ [])
spaced_piece place text out first second =
    second ∙ ap (λ (t : List ℕ). t ++ text) first ∙ append_assoc out (between (codes " ") place) text
    ∙ ap (λ (t : List ℕ). out ++ (between (codes " ") place ++ t)) (sym (append-nil text))

-- one field alone
pub one_field : (names : RegisterNames) (place : ItemOrder) (f : SaidField)
    → fields_words names place (f ∷ []) ≡ field_words names place f
one_field names place f = append-nil (field_words names place f)

-- ---- room

pub fields_room-append : (front back : List SaidField)
    → fields_room (front ++ back) ≡ fields_room front + fields_room back
fields_room-append [] back = omega arith
fields_room-append (f ∷ front) back =
    let more : fields_room (front ++ back) ≡ fields_room front + fields_room back = fields_room-append front back in
    omega arith

words_room-append : (front back : List (List ℕ)) → words_room (front ++ back) ≡ words_room front + words_room back
words_room-append [] back = omega arith
words_room-append (text ∷ front) back =
    let more : words_room (front ++ back) ≡ words_room front + words_room back = words_room-append front back in
    omega arith

-- the room of one more field, and what is left for it
pub fields_room_more : (fields : List Field) (i : ℕ) (d : Field) → i < length fields
    → fields_room (all_parts (take (i + 1) fields))
    ≡ fields_room (all_parts (take i fields)) + (said_room (field_parts (get_or fields i d)).value + 0)
fields_room_more fields i d less =
    ap fields_room (map_more field_parts fields i d less)
    ∙ fields_room-append (all_parts (take i fields)) (field_parts (get_or fields i d) ∷ [])

pub fields_room_left : (fields : List Field) (i : ℕ) (d : Field) → i < length fields
    → fields_room (all_parts (take i fields)) + said_room (field_parts (get_or fields i d)).value
    ≤ fields_room (all_parts fields)
fields_room_left [] i d less = absurd (omega arith)
fields_room_left (f ∷ fields) zero d less = omega arith
fields_room_left (f ∷ fields) (suc i) d less =
    let left : fields_room (all_parts (take i fields)) + said_room (field_parts (get_or fields i d)).value
    ≤ fields_room (all_parts fields) = fields_room_left fields i d (omega arith) in
    omega arith

-- .. of one more text
pub words_room_more : (names : List (Bor (List ℕ))) (i : ℕ) (d : Bor (List ℕ)) → i < length names
    → words_room (texts (take (i + 1) names))
    ≡ words_room (texts (take i names)) + ((3 + 6 * length (get_or names i d).now) + 0)
words_room_more names i d less =
    ap words_room (map_more (λ (name : Bor (List ℕ)). name.now) names i d less)
    ∙ words_room-append (texts (take i names)) ((get_or names i d).now ∷ [])

pub words_room_left : (names : List (Bor (List ℕ))) (i : ℕ) (d : Bor (List ℕ)) → i < length names
    → words_room (texts (take i names)) + (3 + 6 * length (get_or names i d).now) ≤ words_room (texts names)
words_room_left [] i d less = absurd (omega arith)
words_room_left (name ∷ names) zero d less = omega arith
words_room_left (name ∷ names) (suc i) d less =
    let left : words_room (texts (take i names)) + (3 + 6 * length (get_or names i d).now) ≤ words_room (texts names) =
    words_room_left names i d (omega arith) in
    omega arith
