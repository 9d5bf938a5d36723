-- Items and members that are put out one after the other, lists and pages of them.
use Rattle.std.proofs.Common.{◌≡◌, ◌∙◌, ℕ, Bool, true, ◌||◌, Option, List, [], ◌∷◌, ◌++◌, Result, Ok, Err, OnOk, ap}
use Rattle.std.proofs.Common.{codes}
use Rattle.std.proofs.Common.{map, refl, subst, sym}
use Rattle.std.specs.Result.{IsErr}
use Rattle.pmb_io.specs.Outgoing.{PutsText, TextsAddUp}
use Rattle.pmb_json_text.specs.declared.item_order.ItemOrder.{ItemOrder}
use Rattle.pmb_json_text.specs.declared.item_order.ItemOrder.TheVariants.{First, Later}
use Rattle.pmb_json_text.specs.Json.{Json}
use Rattle.pmb_json_text.specs.Member.{Member, array_text, items_text, members_text, place_after}
use Rattle.pmb_json_text.specs.Spelling.{comma}
use Rattle.pmb_json_text.proofs.Pieces.{array_in_pieces, items_in_parts, members_in_parts}
use Rattle.pmb_observed.specs.declared.spot.PageKey.{PageKey}
use Rattle.pmb_observed.specs.Told.{BitData, NumbersData}
use Rattle.pmb_stats_objects.specs.Members.{list_member}
use Rattle.pmb_stats_objects.specs.Pages.{bit_item, found_members, numbers_item, page_if, page_member}
use Rattle.pmb_stats_objects.specs.machine.Written.{PutsItems, PutsMembers, has_any}
use Rattle.pmb_stats_objects.proofs.Lists.{any_of_both, any_of_map}
use Rattle.pmb_stats_objects.proofs.Pieces.{after_both, object_text}

-- ---- texts

-- a text that waits is put out: of the law `texts_add_up`
abbrev pub TextsWait : Type 0
TextsWait = (held : Option (List ℕ)) (waiting text : List ℕ) → PutsText held waiting held (waiting ++ text) text

-- the same of an equal text
pub puts_as : {h0 h1 : Option (List ℕ)} {w0 w1 a b : List ℕ} → a ≡ b → PutsText h0 w0 h1 w1 a → PutsText h0 w0 h1 w1 b
puts_as {h0} {h1} {w0} {w1} same puts = subst (λ (t : List ℕ). PutsText h0 w0 h1 w1 t) same puts

-- room was made, and a text was appended
pub appended : TextsAddUp → TextsWait → {h0 h1 : Option (List ℕ)} {w0 w1 w2 : List ℕ} (text : List ℕ)
    → PutsText h0 w0 h1 w1 [] → w2 ≡ w1 ++ text → PutsText h0 w0 h1 w2 text
appended add wait {h0} {h1} {w0} {w1} {w2} text room written =
    add h0 h1 h1 w0 w1 w2 [] text room
    (subst (λ (w : List ℕ). PutsText h1 w1 h1 w text) (sym written) (wait h1 w1 text))

-- what follows from a call's success
pub on_ok : {T F P Q : Type 0} (r : Result T F) → (P → Q) → OnOk r P → OnOk r Q
on_ok (Ok x) then p = then p
on_ok (Err e) then p = tt

-- .. and from its failure
pub no_ok : {T F : Type 0} (P : Type 0) (r : Result T F) → IsErr r → OnOk r P
no_ok P (Ok x) fails = absurd (cc fails)
no_ok P (Err e) fails = tt

-- ---- items

pub none_put : {h : Option (List ℕ)} {w : List ℕ} (place : ItemOrder) → PutsText h w h w []
    → PutsItems [] h w place h w place
unfolding items_text
none_put place nothing = record { text = nothing; place_is = refl }

-- room was made, and an item was appended
pub one_put : TextsAddUp → TextsWait → {h0 h1 : Option (List ℕ)} {w0 w1 w2 : List ℕ} (place : ItemOrder) (item : Json)
    → PutsText h0 w0 h1 w1 [] → w2 ≡ w1 ++ items_text place (item ∷ [])
    → PutsItems (item ∷ []) h0 w0 place h1 w2 Later
one_put add wait place item room written =
    record { text = appended add wait (items_text place (item ∷ [])) room written; place_is = refl }

-- items, and others after them
pub both_put : TextsAddUp → {h0 h1 h2 : Option (List ℕ)} {w0 w1 w2 : List ℕ} {p0 p1 p2 : ItemOrder} {xs ys : List Json}
    → PutsItems xs h0 w0 p0 h1 w1 p1 → PutsItems ys h1 w1 p1 h2 w2 p2
    → PutsItems (xs ++ ys) h0 w0 p0 h2 w2 p2
both_put add {h0} {h1} {h2} {w0} {w1} {w2} {p0} {p1} {p2} {xs} {ys} first second = record {
  text = puts_as
      (ap (λ (p : ItemOrder). items_text p0 xs ++ items_text p ys) first.place_is ∙ sym (items_in_parts p0 xs ys))
      (add h0 h1 h2 w0 w1 w2 (items_text p0 xs) (items_text p1 ys) first.text second.text);
  place_is = second.place_is ∙ ap (λ (p : ItemOrder). place_after p ys) first.place_is ∙ sym (after_both p0 xs ys);
}

-- items under another name
pub called_items : {h0 h1 : Option (List ℕ)} {w0 w1 : List ℕ} {p0 p1 : ItemOrder} {xs ys : List Json} → xs ≡ ys
    → PutsItems xs h0 w0 p0 h1 w1 p1 → PutsItems ys h0 w0 p0 h1 w1 p1
called_items {h0} {h1} {w0} {w1} {p0} {p1} same puts =
    subst (λ (items : List Json). PutsItems items h0 w0 p0 h1 w1 p1) same puts

-- ---- members

pub no_members_put : {h : Option (List ℕ)} {w : List ℕ} (place : ItemOrder) → PutsText h w h w []
    → PutsMembers [] h w place h w place
unfolding members_text
no_members_put place nothing = record { text = nothing; place_is = refl }

pub both_members_put : TextsAddUp → {h0 h1 h2 : Option (List ℕ)} {w0 w1 w2 : List ℕ} {p0 p1 p2 : ItemOrder}
    {xs ys : List Member}
    → PutsMembers xs h0 w0 p0 h1 w1 p1 → PutsMembers ys h1 w1 p1 h2 w2 p2
    → PutsMembers (xs ++ ys) h0 w0 p0 h2 w2 p2
both_members_put add {h0} {h1} {h2} {w0} {w1} {w2} {p0} {p1} {p2} {xs} {ys} first second = record {
  text = puts_as
      (ap (λ (p : ItemOrder). members_text p0 xs ++ members_text p ys) first.place_is
      ∙ sym (members_in_parts p0 xs ys))
      (add h0 h1 h2 w0 w1 w2 (members_text p0 xs) (members_text p1 ys) first.text second.text);
  place_is = second.place_is ∙ ap (λ (p : ItemOrder). place_after p ys) first.place_is ∙ sym (after_both p0 xs ys);
}

pub called_members : {h0 h1 : Option (List ℕ)} {w0 w1 : List ℕ} {p0 p1 : ItemOrder} {xs ys : List Member} → xs ≡ ys
    → PutsMembers xs h0 w0 p0 h1 w1 p1 → PutsMembers ys h0 w0 p0 h1 w1 p1
called_members {h0} {h1} {w0} {w1} {p0} {p1} same puts =
    subst (λ (members : List Member). PutsMembers members h0 w0 p0 h1 w1 p1) same puts

-- a key with the begin of its list, items, and the list's end
pub list_put : TextsAddUp → {h0 h1 h2 h3 : Option (List ℕ)} {w0 w1 w2 w3 : List ℕ} {next : ItemOrder}
    (place : ItemOrder) (key : List ℕ) (items : List Json) → has_any items ≡ true
    → PutsText h0 w0 h1 w1 (array_text place key) → PutsItems items h1 w1 First h2 w2 next
    → PutsText h2 w2 h3 w3 (codes "]")
    → PutsMembers (list_member key items) h0 w0 place h3 w3 Later
list_put add place key [] none begun inside ended = absurd (cc none)
list_put add {h0} {h1} {h2} {h3} {w0} {w1} {w2} {w3} place key (item ∷ more) some begun inside ended = record {
  text = puts_as (sym (array_in_pieces place key (item ∷ more)))
      (add h0 h2 h3 w0 w2 w3 _ (codes "]") (add h0 h1 h2 w0 w1 w2 _ _ begun inside.text) ended);
  place_is = refl;
}

-- the begin of a page, its lists, and its end
pub page_put : TextsAddUp → {h0 h1 h2 h3 : Option (List ℕ)} {w0 w1 w2 w3 : List ℕ} {list next : ItemOrder}
    (place : ItemOrder) (page : PageKey) (members : List Member) → has_any members ≡ true
    → PutsText h0 w0 h1 w1 (comma place ++ (codes "{" ++ members_text First (page_member page)))
    → list ≡ place_after First (page_member page) → PutsMembers members h1 w1 list h2 w2 next
    → PutsText h2 w2 h3 w3 (codes "}")
    → PutsItems (page_if page members) h0 w0 place h3 w3 Later
page_put add place page [] none begun is inside ended = absurd (cc none)
page_put add {h0} {h1} {h2} {h3} {w0} {w1} {w2} {w3} {list} place page
    (member ∷ more) some begun is inside ended = record {
      text = puts_as
          (ap (λ (p : ItemOrder). (comma place ++ (codes "{" ++ members_text First (page_member page)))
          ++ (members_text p (member ∷ more) ++ codes "}")) is
          ∙ object_text place (page_member page) (member ∷ more))
          (add h0 h1 h3 w0 w1 w3 _ _ begun (add h1 h2 h3 w1 w2 w3 _ (codes "}") inside.text ended));
      place_is = refl;
    }

-- ---- whether there is anything

pub any_of_list : (key : List ℕ) (items : List Json) → has_any (list_member key items) ≡ has_any items
any_of_list key [] = refl
any_of_list key (item ∷ more) = refl

pub any_of_page : (page : PageKey) (members : List Member) → has_any (page_if page members) ≡ has_any members
any_of_page page [] = refl
any_of_page page (member ∷ more) = refl

-- a page has something where it has bits or numbers
pub any_on_page : (digits : ℕ) (page : PageKey) (bits : List BitData) (numbers : List NumbersData)
    → has_any (page_if page (found_members digits bits numbers)) ≡ (has_any bits || has_any numbers)
any_on_page digits page bits numbers =
    any_of_page page (found_members digits bits numbers)
    ∙ any_of_both (list_member (codes "bits") (map bit_item bits))
    (list_member (codes "numbers") (map (numbers_item digits) numbers))
    ∙ ap (λ (any : Bool). any || has_any (list_member (codes "numbers") (map (numbers_item digits) numbers)))
    (any_of_list (codes "bits") (map bit_item bits) ∙ any_of_map bit_item bits)
    ∙ ap (λ (any : Bool). has_any bits || any)
    (any_of_list (codes "numbers") (map (numbers_item digits) numbers) ∙ any_of_map (numbers_item digits) numbers)
