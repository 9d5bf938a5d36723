-- Members and texts that are appended one after the other, each with a bound on how long it is
-- (`Appends`). For all functions of `src/bits.rt`, `data.rt`, `number.rt` and `voltage.rt`. What
-- two calls append is what both lists of members spell, and their bounds add up; a member whose
-- value is an array is written in three pieces.
use Rattle.std.proofs.Common.{◌≡◌, ℕ, ◌+◌, ◌*◌, ◌≤◌, codes, get_or, map, List, [], ◌∷◌, ◌++◌, true, ◌&&◌, not, ◌==◌}
use Rattle.std.proofs.Common.{IsTrue, nat_le, ltb, false, length, refl, sym, ap, ◌∙◌, subst, append_assoc}
use Rattle.std.proofs.Common.{length-append, arith}
use Rattle.std.specs.List.{AllByRecursion}
use Rattle.std.proofs.lemmas.Bool.{and_parts, leb-true, ltb-false, ltb-true}
use Rattle.std.proofs.lemmas.List.{append-nil, map-append}
use Rattle.pmb_json_text.specs.declared.item_order.ItemOrder.{ItemOrder}
use Rattle.pmb_json_text.specs.declared.item_order.ItemOrder.TheVariants.{First, Later}
use Rattle.pmb_json_text.specs.Json.{string}
use Rattle.pmb_json_text.specs.Spelling.{AreBytes, IsWritable, ItemsAreWritable, is_plain}
use Rattle.pmb_json_text.specs.Member.{Member, all_plain, array_of, array_text, is_key, items_of, items_text}
use Rattle.pmb_json_text.specs.Member.{members_text, named, place_after}
use Rattle.pmb_json_text.proofs.Pieces.{array_in_pieces, items_in_parts, members_in_parts}
use Rattle.pmb_json_fields.specs.Value.{of_word}
use Rattle.pmb_json_fields.specs.machine.Written.{Appends, AppendsTexts, place_behind}

-- what holds of each of some and of others
pub all_of_both : {A : Type 0} (P : A → Type 0) (xs ys : List A) → AllByRecursion P xs → AllByRecursion P ys
    → AllByRecursion P (xs ++ ys)
all_of_both P [] ys these those = those
all_of_both P (x ∷ xs) ys these those = (these.0, all_of_both P xs ys these.1 those)

-- ---- members

-- no member is appended
pub nothing : (n : ℕ) (a : List ℕ) → Appends [] n a a
unfolding members_text
nothing n a = record { items = sym (append-nil a); longer = omega arith; writable = tt }

-- one member, and others after it
pub then : {x : Member} {ys : List Member} {m n : ℕ} {a b c : List ℕ} → Appends (x ∷ []) m a b → Appends ys n b c
    → Appends (x ∷ ys) (m + n) a c
then {x} {ys} {m} {n} {a} {b} {c} first second = record {
  items = second.items ∙ ap (λ (zs : List ℕ). zs ++ members_text Later ys) first.items
      ∙ append_assoc a (members_text Later (x ∷ [])) (members_text Later ys)
      ∙ ap (λ (zs : List ℕ). a ++ zs) (sym (members_in_parts Later (x ∷ []) ys));
  longer = omega (arith, first.longer, second.longer);
  writable = (first.writable.0, second.writable);
}

after_later : (xs : List Member) → place_after Later xs ≡ Later
after_later [] = refl
after_later (x ∷ xs) = refl

-- some members, and others after them
pub then_some : {xs ys : List Member} {m n : ℕ} {a b c : List ℕ} → Appends xs m a b → Appends ys n b c
    → Appends (xs ++ ys) (m + n) a c
then_some {xs} {ys} {m} {n} {a} {b} {c} first second = record {
  items = second.items ∙ ap (λ (zs : List ℕ). zs ++ members_text Later ys) first.items
      ∙ append_assoc a (members_text Later xs) (members_text Later ys)
      ∙ ap (λ (p : ItemOrder). a ++ (members_text Later xs ++ members_text p ys)) (sym (after_later xs))
      ∙ ap (λ (zs : List ℕ). a ++ zs) (sym (members_in_parts Later xs ys));
  longer = omega (arith, first.longer, second.longer);
  writable = all_of_both (λ (x : Member). AreBytes x.key × IsWritable x.value) xs ys first.writable second.writable;
}

-- a bound that is greater
pub at_most : {xs : List Member} {m : ℕ} {a b : List ℕ} (n : ℕ) → m ≤ n → Appends xs m a b → Appends xs n a b
at_most n more all = record {
  items = all.items;
  longer = omega (arith, more, all.longer);
  writable = all.writable;
}

-- members under another name
pub called : {xs ys : List Member} {m : ℕ} {a b : List ℕ} → xs ≡ ys → Appends xs m a b → Appends ys m a b
called {xs} {ys} {m} {a} {b} same all = subst (λ (zs : List Member). Appends zs m a b) same all

-- fewer than two bytes are no word
pub too_short : (members : ℕ → List Member) (bytes : List ℕ) → ltb (length bytes) 2 ≡ true → [] ≡ of_word members bytes
too_short members [] few = refl
too_short members (a ∷ []) few = refl
too_short members (a ∷ b ∷ bytes) few = absurd (omega (arith, ltb-true (length (a ∷ b ∷ bytes)) 2 few))

-- .. nor are three bytes or more
pub too_long : (members : ℕ → List Member) (bytes : List ℕ) → ltb (length bytes) 3 ≡ false → [] ≡ of_word members bytes
too_long members [] many = absurd (omega (arith, ltb-false 0 3 many))
too_long members (a ∷ []) many = absurd (omega (arith, ltb-false (length (a ∷ [])) 3 many))
too_long members (a ∷ b ∷ []) many = absurd (omega (arith, ltb-false (length (a ∷ b ∷ [])) 3 many))
too_long members (a ∷ b ∷ c ∷ bytes) many = refl

-- two bytes are one
pub two_bytes : (members : ℕ → List Member) (word : ℕ) (bytes : List ℕ) → length bytes ≡ 2
    → word ≡ get_or bytes 0 0 + 256 * get_or bytes 1 0 → members word ≡ of_word members bytes
two_bytes members word [] two is = absurd (omega (arith, two))
two_bytes members word (a ∷ []) two is = absurd (omega (arith, two))
two_bytes members word (low ∷ high ∷ []) two is = ap members is
two_bytes members word (a ∷ b ∷ c ∷ bytes) two is = absurd (omega (arith, two))

-- ---- texts of an array

-- no text is appended
pub no_text : (place : ItemOrder) (n : ℕ) (a : List ℕ) → AppendsTexts place [] n a a
unfolding items_text
no_text place n a = record { items = sym (append-nil a); longer = omega arith; writable = tt }

-- texts under another name
pub called_texts : {place : ItemOrder} {xs ys : List (List ℕ)} {m : ℕ} {a b : List ℕ} → xs ≡ ys
    → AppendsTexts place xs m a b → AppendsTexts place ys m a b
called_texts {place} {xs} {ys} {m} {a} {b} same all =
    subst (λ (zs : List (List ℕ)). AppendsTexts place zs m a b) same all

-- a bound that is greater
pub at_most_texts : {place : ItemOrder} {xs : List (List ℕ)} {m : ℕ} {a b : List ℕ} (n : ℕ) → m ≤ n
    → AppendsTexts place xs m a b → AppendsTexts place xs n a b
at_most_texts n more all = record {
  items = all.items;
  longer = omega (arith, more, all.longer);
  writable =
      all.writable;
}

same_place : (place : ItemOrder) (texts : List (List ℕ)) → place_after place (map string texts)
    ≡ place_behind place texts
same_place place [] = refl
same_place place (text ∷ texts) = refl

texts_in_parts : (place : ItemOrder) (xs ys : List (List ℕ)) → items_text place (map string (xs ++ ys))
    ≡ items_text place (map string xs) ++ items_text (place_behind place xs) (map string ys)
texts_in_parts place xs ys =
    ap (items_text place) (map-append string xs ys)
    ∙ items_in_parts place (map string xs) (map string ys)
    ∙ ap (λ (p : ItemOrder). items_text place (map string xs) ++ items_text p (map string ys)) (same_place place xs)

-- some texts, and others in the place after them
pub then_texts : {place next : ItemOrder} {xs ys : List (List ℕ)} {m n : ℕ} {a b c : List ℕ}
    → next ≡ place_behind place xs → AppendsTexts place xs m a b → AppendsTexts next ys n b c
    → AppendsTexts place (xs ++ ys) (m + n) a c
then_texts {place} {next} {xs} {ys} {m} {n} {a} {b} {c} is first second = record {
  items = second.items ∙ ap (λ (p : ItemOrder). b ++ items_text p (map string ys)) is
      ∙ ap (λ (zs : List ℕ). zs ++ items_text (place_behind place xs) (map string ys)) first.items
      ∙ append_assoc a (items_text place (map string xs)) (items_text (place_behind place xs) (map string ys))
      ∙ ap (λ (zs : List ℕ). a ++ zs) (sym (texts_in_parts place xs ys));
  longer = omega (arith, first.longer, second.longer);
  writable = all_of_both AreBytes xs ys first.writable second.writable;
}

-- ---- an array

plain_are_bytes : (key : List ℕ) → all_plain key ≡ true → AreBytes key
plain_are_bytes [] plain = tt
plain_are_bytes (byte ∷ more) plain =
    let here = and_parts (is_plain byte) (all_plain more) plain in
    -- a plain byte is printable ASCII, 0x20 to 0x7e, and neither a quote (0x22) nor a backslash
    -- (0x5c)
    let bounds = and_parts (nat_le 0x20 byte && nat_le byte 0x7e) (not (byte == 0x22) && not (byte == 0x5c)) here.0 in
    let few : byte ≤ 0x7e = leb-true byte 0x7e (and_parts (nat_le 0x20 byte) (nat_le byte 0x7e) bounds.0).1 in
    (omega (arith, few), plain_are_bytes more here.1)

texts_are_writable : (texts : List (List ℕ)) → AllByRecursion AreBytes texts
    → ItemsAreWritable (items_of (map string texts))
texts_are_writable [] are = tt
texts_are_writable (text ∷ texts) are = (are.0, texts_are_writable texts are.1)

-- the key of an array, texts, and its end
pub array_appended : (key : List ℕ) (texts : List (List ℕ)) (most n : ℕ) {a b c d : List ℕ} → IsTrue (is_key key)
    → b ≡ a ++ array_text Later key → length b ≤ length a + 21
    → AppendsTexts First texts most b c → d ≡ c ++ codes "]" → most + 22 ≤ n
    → Appends (named key (array_of (map string texts)) ∷ []) n a d
-- the key and `[`, the texts, then `]`: 22 more bytes than the texts at most
array_appended key texts most n {a} {b} {c} {d} fits begun short inside ended few =
    let values = items_text First (map string texts) in
    let long : length d ≡ length c + 1 = ap length ended ∙ length-append c (codes "]") in
    record {
      items = ended ∙ ap (λ (zs : List ℕ). zs ++ codes "]") (inside.items ∙ ap (λ (zs : List ℕ). zs ++ values) begun
          ∙ append_assoc a (array_text Later key) values)
          ∙ append_assoc a (array_text Later key ++ values) (codes "]")
          ∙ ap (λ (zs : List ℕ). a ++ zs) (sym (array_in_pieces Later key (map string texts)));
      longer = omega (arith, long, short, inside.longer, few);
      writable = (
        (
          plain_are_bytes key (and_parts (nat_le (length key) 16) (all_plain key) fits).1,
          texts_are_writable texts inside.writable,
        ),
        tt,
      );
    }
