-- HH of `--device`, as `hex` reads it, and the devices that they come to: for `read_address`,
-- `read_devices` and the laws `fact_words_ask` and `one_asking`. Two digits below 80h (128, the
-- addresses of seven bits) spell one address; of the words one by one, each address is kept the
-- first time.
use Rattle.std.proofs.Common.{◌≡◌, ℕ, zero, suc, ◌+◌, ◌*◌, ◌<◌, ◌≤◌, ◌/◌, ◌%◌, ◌==◌, if◌then◌else◌, Bool, true, false}
use Rattle.std.proofs.Common.{cond, Option, Some, None, Result, Ok, Err, List, [], ◌∷◌, ◌++◌, length, map, take, get_or}
use Rattle.std.proofs.Common.{refl, sym, ap, ap₂, ◌∙◌, subst, arith, length-append, MatchResult}
use Rattle.std.specs.Borrow.{Bor}
use Rattle.std.specs.List.{AllZip}
use Rattle.std.proofs.lemmas.List.{get_or-map, length-map, map_more}
use Rattle.std.proofs.lemmas.Bool.Decides.{nat_tests}
use Rattle.hex.specs.Hex.{decode_pairs, decode_sized, digit_or_error, hex_digit_value, ◌>>=◌}
use Rattle.hex.specs.declared.error.FromHexError.{FromHexError}
use Rattle.clap.specs.Words.{Text}
use Rattle.std.specs.Prelude.{nat_eq}
use Rattle.pmb_args.specs.Facts.{SpellDevices, SpellsAddress}
use Rattle.pmb_args.specs.Once.{each_once}
use Rattle.pmb_args.proofs.EachOnce.{Below, each_once_more, has, once_few}

-- ---- two digits

-- what two digits of these values decode to
abbrev pair : ℕ → ℕ → Option ℕ → Option ℕ → Result (List ℕ) FromHexError
pair high low h l = (digit_or_error high 0 h >>= (λ x. digit_or_error low 1 l >>= (λ y. Ok (x * 16 + y)))) >>=
    (λ byte. Ok (byte ∷ []))

decoded_pair : (high low : ℕ) → decode_sized (high ∷ low ∷ []) 1 ≡ pair high low (hex_digit_value high)
    (hex_digit_value low)
unfolding decode_pairs
decoded_pair high low = refl

-- what is spelled decodes
spelled_decodes : (word : Text) (address : ℕ) → SpellsAddress word address → decode_sized word 1 ≡ Ok (address ∷ [])
spelled_decodes word address spells =
    ap (λ t. decode_sized t 1) spells.two ∙ decoded_pair spells.high spells.low
    ∙ ap (λ h. pair spells.high spells.low h (hex_digit_value spells.low)) spells.high_is
    ∙ ap (λ l. pair spells.high spells.low (Some spells.high_value) l) spells.low_is
    ∙ ap (λ (m : ℕ). Ok (m ∷ [])) (sym spells.value)

-- and what decodes to one byte below 80h is spelled so
pair_spelled : (high low : ℕ) (h l : Option ℕ) (bytes : List ℕ) → hex_digit_value high ≡ h → hex_digit_value low ≡ l
    → pair high low h l ≡ Ok bytes → get_or bytes 0 0 < 0x80
    → SpellsAddress (high ∷ low ∷ []) (get_or bytes 0 0)
pair_spelled high low None l bytes high_is low_is ok small = cc
pair_spelled high low (Some h) None bytes high_is low_is ok small = cc
pair_spelled high low (Some h) (Some l) bytes high_is low_is ok small =
    let is : bytes ≡ (h * 16 + l) ∷ [] = cc in
    record {
      high = high;
      low = low;
      high_value = h;
      low_value = l;
      two = refl;
      high_is = high_is;
      low_is = low_is;
      value = ap (λ bs. get_or bs 0 0) is;
      seven_bits = small;
    }

-- a longer text is refused
longer : (n : ℕ) (decoded : Result (List ℕ) FromHexError) (odd wrong : FromHexError) (bytes : List ℕ) → 3 ≤ n
    → (if n % 2 == 1 then Err odd else if n / 2 == 1 then decoded else Err wrong) ≡ Ok bytes → ⊥
longer n decoded odd wrong bytes long = by (n % 2 == 1) (n / 2 == 1) refl refl
  where
    by : (p q : Bool) → (n % 2 == 1) ≡ p → (n / 2 == 1) ≡ q → (if p then Err odd else if q then decoded else Err wrong)
        ≡ Ok bytes → ⊥
    by true q is_odd one ok = cc
    by false false is_odd one ok = cc
    by false true is_odd one ok = absurd (grind (arith, nat_tests))

decodes_spelled : (word bytes : List ℕ) → decode_sized word 1 ≡ Ok bytes → get_or bytes 0 0 < 0x80
    → SpellsAddress word (get_or bytes 0 0)
decodes_spelled [] bytes ok small = cc
decodes_spelled (a ∷ []) bytes ok small = cc
decodes_spelled (high ∷ low ∷ []) bytes ok small =
    pair_spelled high low (hex_digit_value high) (hex_digit_value low) bytes refl refl
    (sym (decoded_pair high low) ∙ ok) small
decodes_spelled (a ∷ b ∷ c ∷ rest) bytes ok small =
    absurd (longer (length (a ∷ b ∷ c ∷ rest)) (decode_pairs 0 (a ∷ b ∷ c ∷ rest)) _ _ bytes (omega arith) ok)

-- ---- what `hex` returns

-- what it wrote, or its fault
abbrev Decoded : Result (List ℕ) FromHexError → List ℕ → Result Unit FromHexError → Type 0
Decoded decoded out r = MatchResult decoded (λ bytes. (r ≡ Ok tt) × (out ≡ bytes)) (λ e. r ≡ Err e)

module _ (word out : List ℕ) (r : Result Unit FromHexError) (decoded : Decoded (decode_sized word 1) out r) where
  pub address_spelled : r ≡ Ok tt → get_or out 0 0 < 0x80 → SpellsAddress word (get_or out 0 0)
  address_spelled ok small = by_result (decode_sized word 1) refl decoded
    where
      by_result : (d : Result (List ℕ) FromHexError) → decode_sized word 1 ≡ d → Decoded d out r
          → SpellsAddress word (get_or out 0 0)
      by_result (Ok bytes) is answered =
          subst (λ bs. SpellsAddress word (get_or bs 0 0)) (sym answered.1)
          (decodes_spelled word bytes is (subst (λ bs. get_or bs 0 0 < 0x80) answered.1 small))
      by_result (Err e) is answered = cc

  -- two digits that spell another byte are no address
  pub large_is_no_address : 0x80 ≤ get_or out 0 0 → (address : ℕ) → ¬ (SpellsAddress word address)
  large_is_no_address large address spells =
      let answered = subst (λ d. Decoded d out r) (spelled_decodes word address spells) decoded in
      let is : get_or out 0 0 ≡ address = ap (λ bs. get_or bs 0 0) answered.1 in
      absurd (omega (arith, large, is, spells.seven_bits))

  -- and nor is any other text
  pub other_is_no_address : (e : FromHexError) → r ≡ Err e → (address : ℕ) → ¬ (SpellsAddress word address)
  other_is_no_address e err address spells =
      let answered = subst (λ d. Decoded d out r) (spelled_decodes word address spells) decoded in
      let ok : r ≡ Ok tt = answered.0 in
      cc

-- two digits spell one address
pub one_address : (word : Text) (a b : ℕ) → SpellsAddress word a → SpellsAddress word b → a ≡ b
one_address word a b left right =
    let same : Ok (a ∷ []) ≡ Ok (b ∷ []) = sym (spelled_decodes word a left) ∙ spelled_decodes word b right in
    cc

-- ---- words that spell addresses

same_addresses : (words : List Text) (xs ys : List ℕ) → AllZip SpellsAddress words xs → AllZip SpellsAddress words ys
    → xs ≡ ys
same_addresses [] [] [] left right = refl
same_addresses [] [] (y ∷ ys) left right = absurd right
same_addresses [] (x ∷ xs) ys left right = absurd left
same_addresses (word ∷ words) [] ys left right = absurd left
same_addresses (word ∷ words) (x ∷ xs) [] left right = absurd right
same_addresses (word ∷ words) (x ∷ xs) (y ∷ ys) left right =
    ap₂ (λ (z : ℕ) (zs : List ℕ). z ∷ zs) (one_address word x y left.0 right.0)
    (same_addresses words xs ys left.1 right.1)

-- they name the same devices
pub one_list_of_devices : (words : List Text) (a b : List ℕ) → SpellDevices words a → SpellDevices words b → a ≡ b
one_list_of_devices words a b left right = left.once
    ∙ ap (each_once nat_eq) (same_addresses words left.addresses right.addresses left.spell right.spell)
    ∙ sym right.once

one_more : (words : List Text) (xs : List ℕ) (word : Text) (a : ℕ) → AllZip SpellsAddress words xs
    → SpellsAddress word a → AllZip SpellsAddress (words ++ word ∷ []) (xs ++ a ∷ [])
one_more [] [] word a spell spells = (spells, tt)
one_more [] (x ∷ xs) word a spell spells = absurd spell
one_more (w ∷ words) [] word a spell spells = absurd spell
one_more (w ∷ words) (x ∷ xs) word a spell spells = (spell.0, one_more words xs word a spell.1 spells)

below : (words : List Text) (xs : List ℕ) → AllZip SpellsAddress words xs → Below 0x80 xs
below [] [] spell = tt
below [] (x ∷ xs) spell = absurd spell
below (w ∷ words) [] spell = absurd spell
below (w ∷ words) (x ∷ xs) spell = (spell.0.seven_bits, below words xs spell.1)

module _ (words : List Text) (devices : List ℕ) (so_far : SpellDevices words devices) (word : Text) (a : ℕ)
    (spells : SpellsAddress word a) where
  -- one more word
  pub one_more_word : SpellDevices (words ++ word ∷ []) (cond (has nat_eq a devices) devices (devices ++ a ∷ []))
  one_more_word = record {
    addresses = so_far.addresses ++ a ∷ [];
    spell = one_more words so_far.addresses word a so_far.spell spells;
    once = ap (λ ds. cond (has nat_eq a ds) ds (ds ++ a ∷ [])) so_far.once
        ∙ sym (each_once_more nat_eq (λ (n : ℕ). n) (λ x y. refl) so_far.addresses a);
  }

  pub named_before : has nat_eq a devices ≡ true → SpellDevices (words ++ word ∷ []) devices
  named_before is = subst (λ h. SpellDevices (words ++ word ∷ []) (cond h devices (devices ++ a ∷ []))) is one_more_word

  pub named_first : has nat_eq a devices ≡ false → SpellDevices (words ++ word ∷ []) (devices ++ a ∷ [])
  named_first is = subst (λ h. SpellDevices (words ++ word ∷ []) (cond h devices (devices ++ a ∷ []))) is one_more_word

  -- there is room for it
  pub room : has nat_eq a devices ≡ false → length (devices ++ a ∷ []) ≤ 0x80
  room is =
      let all = named_first is in
      subst (λ ds. length ds ≤ 0x80) (sym all.once)
      (once_few 0x80 all.addresses (below (words ++ word ∷ []) all.addresses all.spell))

-- where a word spells none, all of them name no devices
spelled_at : (words : List Text) (xs : List ℕ) (i : ℕ) (other : Text) → AllZip SpellsAddress words xs → i < length words
    → (a : ℕ) × SpellsAddress (get_or words i other) a
spelled_at [] xs i other spell inside = absurd (omega (arith, inside))
spelled_at (w ∷ words) [] i other spell inside = absurd spell
spelled_at (w ∷ words) (x ∷ xs) zero other spell inside = (x, spell.0)
spelled_at (w ∷ words) (x ∷ xs) (suc i) other spell inside = spelled_at words xs i other spell.1 (omega (arith, inside))

pub no_devices : (words : List Text) (i : ℕ) (other : Text) → i < length words
    → ((a : ℕ) → ¬ (SpellsAddress (get_or words i other) a)) → (devices : List ℕ) → ¬ (SpellDevices words devices)
no_devices words i other inside none devices spell =
    let one = spelled_at words spell.addresses i other spell.spell inside in
    none one.0 one.1

-- ---- the same of words by reference, one by one

abbrev texts : List (Bor Text) → List Text
texts = map (λ (word : Bor Text). word.now)

-- whether an address was seen before, as std tells it
pub told_of : (test known : Bool) (a : ℕ) (seen devices : List ℕ) → test ≡ has nat_eq a seen → seen ≡ devices
    → test ≡ known → has nat_eq a devices ≡ known
told_of test known a seen devices tells is told = ap (has nat_eq a) (sym is) ∙ sym tells ∙ told

module _ (refs : List (Bor Text)) (i : ℕ) (d : Bor Text) (inside : i < length refs) where
  module _ (devices : List ℕ) (a : ℕ) (so_far : SpellDevices (texts (take i refs)) devices)
      (spells : SpellsAddress (get_or refs i d).now a) where
    more : texts (take (i + 1) refs) ≡ texts (take i refs) ++ (get_or refs i d).now ∷ []
    more = map_more (λ (word : Bor Text). word.now) refs i d inside

    pub seen_at : has nat_eq a devices ≡ true → SpellDevices (texts (take (i + 1) refs)) devices
    seen_at is = subst (λ ws. SpellDevices ws devices) (sym more)
        (named_before (texts (take i refs)) devices so_far (get_or refs i d).now a spells is)

    pub new_at : has nat_eq a devices ≡ false → SpellDevices (texts (take (i + 1) refs)) (devices ++ a ∷ [])
    new_at is = subst (λ ws. SpellDevices ws (devices ++ a ∷ [])) (sym more)
        (named_first (texts (take i refs)) devices so_far (get_or refs i d).now a spells is)

    pub room_at : has nat_eq a devices ≡ false → length devices < 0x80
    room_at is = omega (
      arith,
      length-append devices (a ∷ []),
      room (texts (take i refs)) devices so_far
          (get_or refs i d).now a spells is,
    )

  pub none_at : ((a : ℕ) → ¬ (SpellsAddress (get_or refs i d).now a)) → (devices : List ℕ)
      → ¬ (SpellDevices (texts refs) devices)
  none_at none = no_devices (texts refs) i [] (omega (arith, inside, length-map refs (λ (word : Bor Text). word.now)))
      (subst (λ t. (a : ℕ) → ¬ (SpellsAddress t a))
      (sym (get_or-map (λ (word : Bor Text). word.now) refs i d [] inside)) none)
