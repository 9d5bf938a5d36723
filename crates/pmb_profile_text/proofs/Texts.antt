-- Texts put together, row by row: for `describe`, `put_bus`, `put_devices`, `put_commands`,
-- `put_each_mode`, `put_page_rows` and the rows. The text so far is that of the first devices,
-- commands or pages, and one more adds its own.
use Rattle.std.proofs.Common.{◌≡◌, ◌≢◌, ◌≤◌, ◌∙◌, ℕ, zero, suc, ◌+◌, Option, Some, Result, Ok, Err, OnOk, List, []}
use Rattle.std.proofs.Common.{◌∷◌, ◌++◌, ap, sym, subst, refl, append_assoc, append-nil, length, take, take_all, arith}
use Rattle.std.proofs.Common.{add-one}
use Rattle.std.specs.List.{flat_map, range_with_len, slice_get}
use Rattle.std.proofs.lemmas.List.{flat_map_more, length-take-le, take_more}
use Rattle.std.proofs.lemmas.Option.{get_or_from_slice_get, slice_get_within}
use Rattle.pmb_command.specs.Parts.{DeviceParts}
use Rattle.pmb_io.specs.Outgoing.{PutsText}
use Rattle.pmb_profile_text.specs.Table.{device_text, devices_text}
use Rattle.pmb_profile_text.specs.Words.{bytes_word, digits}

-- a text was appended, and then another
pub then : (a b c x y : List ℕ) → b ≡ a ++ x → c ≡ b ++ y → c ≡ a ++ (x ++ y)
then a b c x y first second = second ∙ (ap (λ (t : List ℕ). t ++ y) first ∙ append_assoc a x y)

-- what follows from a call's success
pub on_ok : {T F P Q : Type 0} (r : Result T F) → (P → Q) → OnOk r P → OnOk r Q
on_ok (Ok x) then p = then p
on_ok (Err e) then p = tt

-- and from two facts of it
pub on_ok_both : {T F P Q R : Type 0} (r : Result T F) → (P → Q → R) → OnOk r P → OnOk r Q → OnOk r R
on_ok_both (Ok x) join p q = join p q
on_ok_both (Err e) join p q = tt

-- the same of an equal text
pub puts_as : (h0 h1 : Option (List ℕ)) (w0 w1 a b : List ℕ) → a ≡ b → PutsText h0 w0 h1 w1 a → PutsText h0 w0 h1 w1 b
puts_as h0 h1 w0 w1 a b same puts = subst (λ (t : List ℕ). PutsText h0 w0 h1 w1 t) same puts

-- some bytes are the digits of each
pub some_bytes : (bytes : List ℕ) → bytes ≢ [] → bytes_word bytes ≡ flat_map digits bytes
some_bytes [] some = absurd (some refl)
some_bytes (byte ∷ bytes) some = refl

-- the first elements, with one more
pub one_more : {X : Type 0} (xs : List X) (i : ℕ) (x : X) → slice_get xs i ≡ Some x
    → take (i + 1) xs ≡ take i xs ++ x ∷ []
one_more {X} xs i x is = take_more xs i x (slice_get_within xs i x is) ∙ ap (λ (y : X). take i xs ++ y ∷ [])
    (get_or_from_slice_get xs i x x is)

-- the texts of the first elements, with that of one more
pub text_more : {X : Type 0} (text : X → List ℕ) (xs : List X) (i : ℕ) (x : X) → slice_get xs i ≡ Some x
    → flat_map text (take i xs) ++ text x ≡ flat_map text (take (i + 1) xs)
text_more {X} text xs i x is = flat_map_more text [] (take i xs) x ∙ ap (λ (ys : List X). flat_map text ys)
    (sym (one_more xs i x is))

-- devices, with one more
devices_more : (place : ℕ) (devices : List DeviceParts) (device : DeviceParts)
    → devices_text place devices ++ device_text (place + length devices) device
    ≡ devices_text place (devices ++ device ∷ [])
devices_more place [] device =
    let here : place + 0 ≡ place = omega arith in
    ap (λ (n : ℕ). device_text n device) here ∙ sym (append-nil _)
devices_more place (first ∷ devices) device =
    let next : place + length (first ∷ devices) ≡ (place + 1) + length devices = omega arith in
    append_assoc (device_text place first) (devices_text (place + 1) devices) _
    ∙ ap (λ (t : List ℕ). device_text place first ++ t)
    (ap (λ (n : ℕ). devices_text (place + 1) devices ++ device_text n device) next
    ∙ devices_more (place + 1) devices device)

-- all of them
pub all_taken : {X : Type 0} (xs : List X) (i : ℕ) → length xs ≤ i → take i xs ≡ xs
all_taken xs i past = take_all i xs past

-- the texts of the first devices, with that of one more
pub device_more : (bus : List DeviceParts) (i : ℕ) (device : DeviceParts) → slice_get bus i ≡ Some device
    → devices_text 0 (take i bus) ++ device_text i device ≡ devices_text 0 (take (i + 1) bus)
device_more bus i device is =
    let within = slice_get_within bus i device is in
    let short : length (take i bus) ≡ i = length-take-le i bus (omega (arith, within)) in
    let here : i ≡ 0 + length (take i bus) = omega (arith, short) in
    ap (λ (n : ℕ). devices_text 0 (take i bus) ++ device_text n device) here
    ∙ (devices_more 0 (take i bus) device ∙ ap (devices_text 0) (sym (one_more bus i device is)))

-- numbers from 0 on, with one more
pub numbers_more : (a n : ℕ) → range_with_len a (suc n) ≡ range_with_len a n ++ (a + n) ∷ []
numbers_more a zero = ap (λ (m : ℕ). m ∷ []) (omega arith)
numbers_more a (suc n) =
    let last : a + 1 + n ≡ a + suc n = omega arith in
    ap (λ (ms : List ℕ). a ∷ ms) (numbers_more (a + 1) n
    ∙ ap (λ (m : ℕ). range_with_len (a + 1) n ++ m ∷ []) last)

-- the texts of the first pages, with that of one more
pub page_more : (text : ℕ → List ℕ) (n : ℕ)
    → flat_map text (range_with_len 0 n) ++ text n ≡ flat_map text (range_with_len 0 (n + 1))
page_more text n = flat_map_more text [] (range_with_len 0 n) n
    ∙ ap (flat_map text) (sym (ap (range_with_len 0) (add-one n) ∙ numbers_more 0 n
    ∙ ap (λ (m : ℕ). range_with_len 0 n ++ m ∷ []) (omega arith)))
