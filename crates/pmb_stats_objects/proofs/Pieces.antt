-- Members that are appended one after the other, and items of a list. What two calls append is what both lists of
-- members spell; an item is a comma, or none, and an object in braces.
use Rattle.std.proofs.Common.{◌≡◌, ℕ, ◌+◌, codes, List, [], ◌∷◌, ◌++◌, refl, sym, ap, ◌∙◌, subst}
use Rattle.std.proofs.Common.{append_assoc, append-nil, arith}
use Rattle.pmb_json_text.specs.declared.item_order.ItemOrder.{ItemOrder}
use Rattle.pmb_json_text.specs.declared.item_order.ItemOrder.TheVariants.{First, Later}
use Rattle.pmb_json_text.specs.Spelling.{comma}
use Rattle.pmb_json_text.specs.Member.{Member, items_text, members_text, object_line, object_of, place_after}
use Rattle.pmb_json_text.proofs.Pieces.{line_in_pieces, members_in_parts, one_item}
use Rattle.pmb_stats_objects.specs.machine.Written.{Appends}

-- ---- members

pub after_later : {A : Type 0} (xs : List A) → place_after Later xs ≡ Later
after_later [] = refl
after_later (x ∷ xs) = refl

pub after_both : {A : Type 0} (place : ItemOrder) (xs ys : List A)
    → place_after place (xs ++ ys) ≡ place_after (place_after place xs) ys
after_both place [] ys = refl
after_both place (x ∷ xs) ys = sym (after_later ys)

-- no members have no text
pub no_text : (place : ItemOrder) → members_text place [] ≡ []
unfolding members_text
no_text place = refl

-- no member is appended
pub nothing : (n : ℕ) (place : ItemOrder) (a : List ℕ) → Appends [] n place a place a
unfolding members_text
nothing n place a = record { items = sym (append-nil a); longer = omega arith; place_is = refl }

-- members under another name
pub called : {xs ys : List Member} {m : ℕ} {p q : ItemOrder} {a b : List ℕ} → xs ≡ ys → Appends xs m p a q b
    → Appends ys m p a q b
called {xs} {ys} {m} {p} {q} {a} {b} same all = subst (λ (zs : List Member). Appends zs m p a q b) same all

-- the text of members, and of others after them
pub in_order : (place next : ItemOrder) (xs ys : List Member) (a : List ℕ) {b c : List ℕ} → next ≡ place_after place xs
    → b ≡ a ++ members_text place xs → c ≡ b ++ members_text next ys → c ≡ a ++ members_text place (xs ++ ys)
in_order place next xs ys a {b} {c} is first second =
    second ∙ ap (λ (p : ItemOrder). b ++ members_text p ys) is
    ∙ ap (λ (t : List ℕ). t ++ members_text (place_after place xs) ys) first
    ∙ append_assoc a (members_text place xs) (members_text (place_after place xs) ys)
    ∙ ap (λ (t : List ℕ). a ++ t) (sym (members_in_parts place xs ys))

-- .. in an object that has members
pub then : (xs ys : List Member) (a : List ℕ) {b c : List ℕ} → b ≡ a ++ members_text Later xs
    → c ≡ b ++ members_text Later ys → c ≡ a ++ members_text Later (xs ++ ys)
then xs ys a {b} {c} first second = in_order Later Later xs ys a (sym (after_later xs)) first second

-- the text of members under another name
pub said : (place : ItemOrder) {xs ys : List Member} (a : List ℕ) {b : List ℕ} → xs ≡ ys
    → b ≡ a ++ members_text place xs → b ≡ a ++ members_text place ys
said place {xs} {ys} a {b} same text = text ∙ ap (λ (zs : List Member). a ++ members_text place zs) same

-- .. where nothing was before
pub alone : (place : ItemOrder) (members : List Member) (a : List ℕ) {b : List ℕ} → a ≡ []
    → b ≡ a ++ members_text place members → b ≡ members_text place members
alone place members a {b} none text = text ∙ ap (λ (t : List ℕ). t ++ members_text place members) none

-- the place after members, and others after them
pub then_some : {xs ys : List Member} {m n : ℕ} {p q r : ItemOrder} {a b c : List ℕ} → Appends xs m p a q b
    → Appends ys n q b r c → Appends (xs ++ ys) (m + n) p a r c
then_some {xs} {ys} {m} {n} {p} {q} {r} {a} {b} {c} first second = record {
  items = in_order p q xs ys a first.place_is first.items second.items;
  longer = omega (arith, first.longer, second.longer);
  place_is = second.place_is ∙ ap (λ (place : ItemOrder). place_after place ys) first.place_is
      ∙ sym (after_both p xs ys);
}

-- ---- an item

-- a comma, or none, a brace, and then members
pub braced : (place : ItemOrder) (members : List Member) (old : List ℕ) {a b c : List ℕ} → a ≡ old ++ comma place
    → b ≡ a ++ codes "{" → c ≡ b ++ members_text First members
    → c ≡ old ++ (comma place ++ (codes "{" ++ members_text First members))
braced place members old {a} {b} {c} first second third =
    let inside : List ℕ = members_text First members in
    third ∙ ap (λ (t : List ℕ). t ++ inside) (second ∙ ap (λ (t : List ℕ). t ++ codes "{") first
    ∙ append_assoc old (comma place) (codes "{"))
    ∙ append_assoc old (comma place ++ codes "{") inside
    ∙ ap (λ (t : List ℕ). old ++ t) (append_assoc (comma place) (codes "{") inside)

-- an object is its begin with its first members, other members, and its end
pub object_text : (place : ItemOrder) (xs ys : List Member)
    → (comma place ++ (codes "{" ++ members_text First xs)) ++ (members_text (place_after First xs) ys ++ codes "}")
    ≡ items_text place (object_of (xs ++ ys) ∷ [])
unfolding members_text
object_text place xs ys =
    let front : List ℕ = members_text First xs in
    let back : List ℕ = members_text (place_after First xs) ys in
    append_assoc (comma place) (codes "{" ++ front) (back ++ codes "}")
    ∙ ap (λ (t : List ℕ). comma place ++ (codes "{" ++ t)) (sym (append_assoc front back (codes "}")))
    ∙ ap (λ (t : List ℕ). comma place ++ (codes "{" ++ (t ++ codes "}"))) (sym (members_in_parts First xs ys))
    ∙ sym (one_item place (object_of (xs ++ ys)))

-- an object whose first members come with its begin
pub object_item : (place : ItemOrder) (x : Member) (xs ys : List Member) (a : List ℕ) {b c d : List ℕ}
    → b ≡ a ++ (comma place ++ (codes "{" ++ members_text First (x ∷ xs))) → c ≡ b ++ members_text Later ys
    → d ≡ c ++ codes "}"
    → d ≡ a ++ items_text place (object_of ((x ∷ xs) ++ ys) ∷ [])
object_item place x xs ys a {b} {c} {d} begun rest ended =
    let front : List ℕ = comma place ++ (codes "{" ++ members_text First (x ∷ xs)) in
    let back : List ℕ = members_text Later ys in
    ended ∙ ap (λ (t : List ℕ). t ++ codes "}") (rest ∙ ap (λ (t : List ℕ). t ++ back) begun)
    ∙ append_assoc (a ++ front) back (codes "}") ∙ append_assoc a front (back ++ codes "}")
    ∙ ap (λ (t : List ℕ). a ++ t) (object_text place (x ∷ xs) ys)

-- a line whose first members come with its begin
pub object_line_text : (x : Member) (xs ys : List Member)
    → (codes "{" ++ members_text First (x ∷ xs)) ++ (members_text Later ys ++ codes "}\n")
    ≡ object_line ((x ∷ xs) ++ ys)
object_line_text x xs ys =
    let front : List ℕ = members_text First (x ∷ xs) in
    let back : List ℕ = members_text Later ys in
    ap (λ (t : List ℕ). codes "{" ++ t) (sym (append_assoc front back (codes "}\n")))
    ∙ ap (λ (t : List ℕ). codes "{" ++ (t ++ codes "}\n")) (sym (members_in_parts First (x ∷ xs) ys))
    ∙ sym (line_in_pieces ((x ∷ xs) ++ ys))

-- a line is appended, whose first members come with its begin
pub line_appended : (x : Member) (xs ys : List Member) (a : List ℕ) {b c d : List ℕ}
    → b ≡ a ++ (codes "{" ++ members_text First (x ∷ xs)) → c ≡ b ++ members_text Later ys → d ≡ c ++ codes "}\n"
    → d ≡ a ++ object_line ((x ∷ xs) ++ ys)
line_appended x xs ys a {b} {c} {d} begun rest ended =
    let front : List ℕ = codes "{" ++ members_text First (x ∷ xs) in
    let back : List ℕ = members_text Later ys in
    ended ∙ ap (λ (t : List ℕ). t ++ codes "}\n") (rest ∙ ap (λ (t : List ℕ). t ++ back) begun)
    ∙ append_assoc (a ++ front) back (codes "}\n") ∙ append_assoc a front (back ++ codes "}\n")
    ∙ ap (λ (t : List ℕ). a ++ t) (object_line_text x xs ys)
