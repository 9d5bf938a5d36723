-- The words at the front of a text, by its first characters: two digits and a space, then `A `, or
-- `N P` and LF. For `front_acked`, `front_last` and `is_even` of `src/words.rt`. Each character is
-- compared with the one that would stand there, whatever follows.
use Rattle.std.proofs.Common.{◌≡◌, ℕ, ◌%◌, ◌<◌, ◌≤◌, Option, Some, None, List, [], ◌∷◌, ◌++◌, length, get_or, drop, sym}
use Rattle.std.proofs.Common.{ap, ◌∙◌, arith}
use Rattle.std.specs.Prelude.{IfSome}
use Rattle.hex.specs.Hex.{encode_with}
use Rattle.pmb_bus.specs.declared.event.Event.TheVariants.{Byte}
use Rattle.pmb_bus.specs.Event.{canonical_text}
use Rattle.pmb_canonical.specs.Front.{acked_text, end_text, lower_digit}

-- ---- a byte, whatever follows it

-- one byte of the text is none
pub short_byte : (text : List ℕ) (byte : ℕ) (rest : List ℕ) → length text < 2 → text ≡ canonical_text (Byte byte ∷ [])
    ++ rest → ⊥
unfolding encode_with
short_byte text byte rest short same = let long = ap length same in omega (arith, long)

-- the lower one of the byte's digits
pub low_digit : (text : List ℕ) (byte : ℕ) (rest : List ℕ) → text ≡ canonical_text (Byte byte ∷ []) ++ rest
    → get_or text 1 0 ≡ lower_digit (byte % 16)
unfolding encode_with
low_digit text byte rest same = ap (λ (l : List ℕ). get_or l 1 0) same

-- ---- a byte and its ACK

-- fewer bytes than that are none
pub short_acked : (text : List ℕ) (byte : ℕ) (rest : List ℕ) → length text < 5 → text ≡ acked_text (byte ∷ []) ++ rest
    → ⊥
unfolding encode_with
short_acked text byte rest short same = let long = ap length same in omega (arith, long)

-- 65 is `A`, 32 the space after it
pub other_ack : (text : List ℕ) (byte : ℕ) (rest : List ℕ) → text ≡ acked_text (byte ∷ []) ++ rest
    → get_or text 3 0 ≡ 65
unfolding encode_with
other_ack text byte rest same = ap (λ (l : List ℕ). get_or l 3 0) same

pub other_space : (text : List ℕ) (byte : ℕ) (rest : List ℕ) → text ≡ acked_text (byte ∷ []) ++ rest
    → get_or text 4 0 ≡ 32
unfolding encode_with
other_space text byte rest same = ap (λ (l : List ℕ). get_or l 4 0) same

-- the word before it
pub acked_word : (text : List ℕ) (byte : ℕ) (rest : List ℕ) → text ≡ acked_text (byte ∷ []) ++ rest
    → canonical_text (Byte byte ∷ []) ≡ get_or text 0 0 ∷ get_or text 1 0 ∷ get_or text 2 0 ∷ []
unfolding encode_with
acked_word text byte rest same = ap (λ (l : List ℕ). get_or l 0 0 ∷ get_or l 1 0 ∷ get_or l 2 0 ∷ []) (sym same)

-- from the word
pub acked_there : (text : List ℕ) (found : Option ℕ) → 5 ≤ length text
    → IfSome found (λ byte. canonical_text (Byte byte ∷ []) ≡ get_or text 0 0 ∷ get_or text 1 0 ∷ get_or text 2 0 ∷ [])
    → get_or text 3 0 ≡ 65 → get_or text 4 0 ≡ 32 → IfSome found (λ byte. text ≡ acked_text (byte ∷ []) ++ drop 5 text)
unfolding encode_with
acked_there text None long word ack space = tt
acked_there [] (Some byte) long word ack space = absurd (omega arith)
acked_there (a ∷ []) (Some byte) long word ack space = absurd (omega arith)
acked_there (a ∷ b ∷ []) (Some byte) long word ack space = absurd (omega arith)
acked_there (a ∷ b ∷ c ∷ []) (Some byte) long word ack space = absurd (omega arith)
acked_there (a ∷ b ∷ c ∷ d ∷ []) (Some byte) long word ack space = absurd (omega arith)
acked_there (a ∷ b ∷ c ∷ d ∷ e ∷ rest) (Some byte) long word ack space =
    let here : a ∷ b ∷ c ∷ d ∷ e ∷ rest ≡ a ∷ b ∷ c ∷ 65 ∷ 32 ∷ rest = cc (ack, space) in
    let whole : a ∷ b ∷ c ∷ d ∷ e ∷ rest ≡ acked_text (byte ∷ []) ++ rest = here
    ∙ sym (ap (λ (l : List ℕ). l ++ (65 ∷ 32 ∷ rest)) word) in
    whole

-- ---- the last byte that is read

pub short_last : (text : List ℕ) (byte : ℕ) (rest : List ℕ) → length text < 7 → text ≡ end_text byte ++ rest → ⊥
unfolding encode_with
short_last text byte rest short same = let long = ap length same in omega (arith, long)

-- 78 is `N`, 80 `P`, 32 the space between, 10 LF
pub other_nack : (text : List ℕ) (byte : ℕ) (rest : List ℕ) → text ≡ end_text byte ++ rest → get_or text 3 0 ≡ 78
unfolding encode_with
other_nack text byte rest same = ap (λ (l : List ℕ). get_or l 3 0) same

pub other_behind : (text : List ℕ) (byte : ℕ) (rest : List ℕ) → text ≡ end_text byte ++ rest → get_or text 4 0 ≡ 32
unfolding encode_with
other_behind text byte rest same = ap (λ (l : List ℕ). get_or l 4 0) same

pub other_stop : (text : List ℕ) (byte : ℕ) (rest : List ℕ) → text ≡ end_text byte ++ rest → get_or text 5 0 ≡ 80
unfolding encode_with
other_stop text byte rest same = ap (λ (l : List ℕ). get_or l 5 0) same

pub other_end : (text : List ℕ) (byte : ℕ) (rest : List ℕ) → text ≡ end_text byte ++ rest → get_or text 6 0 ≡ 10
unfolding encode_with
other_end text byte rest same = ap (λ (l : List ℕ). get_or l 6 0) same

pub last_word : (text : List ℕ) (byte : ℕ) (rest : List ℕ) → text ≡ end_text byte ++ rest
    → canonical_text (Byte byte ∷ []) ≡ get_or text 0 0 ∷ get_or text 1 0 ∷ get_or text 2 0 ∷ []
unfolding encode_with
last_word text byte rest same = ap (λ (l : List ℕ). get_or l 0 0 ∷ get_or l 1 0 ∷ get_or l 2 0 ∷ []) (sym same)

pub last_there : (text : List ℕ) (found : Option ℕ) → 7 ≤ length text
    → IfSome found (λ byte. canonical_text (Byte byte ∷ []) ≡ get_or text 0 0 ∷ get_or text 1 0 ∷ get_or text 2 0 ∷ [])
    → get_or text 3 0 ≡ 78 → get_or text 4 0 ≡ 32 → get_or text 5 0 ≡ 80 → get_or text 6 0 ≡ 10
    → IfSome found (λ byte. text ≡ end_text byte ++ drop 7 text)
unfolding encode_with
last_there text None long word nack behind stop end = tt
last_there [] (Some byte) long word nack behind stop end = absurd (omega arith)
last_there (a ∷ []) (Some byte) long word nack behind stop end = absurd (omega arith)
last_there (a ∷ b ∷ []) (Some byte) long word nack behind stop end = absurd (omega arith)
last_there (a ∷ b ∷ c ∷ []) (Some byte) long word nack behind stop end = absurd (omega arith)
last_there (a ∷ b ∷ c ∷ d ∷ []) (Some byte) long word nack behind stop end = absurd (omega arith)
last_there (a ∷ b ∷ c ∷ d ∷ e ∷ []) (Some byte) long word nack behind stop end = absurd (omega arith)
last_there (a ∷ b ∷ c ∷ d ∷ e ∷ f ∷ []) (Some byte) long word nack behind stop end = absurd (omega arith)
last_there (a ∷ b ∷ c ∷ d ∷ e ∷ f ∷ g ∷ rest) (Some byte) long word nack behind stop end =
    let here : a ∷ b ∷ c ∷ d ∷ e ∷ f ∷ g ∷ rest ≡ a ∷ b ∷ c ∷ 78 ∷ 32 ∷ 80 ∷ 10 ∷ rest = cc (nack, behind, stop, end) in
    let whole : a ∷ b ∷ c ∷ d ∷ e ∷ f ∷ g ∷ rest ≡ end_text byte ++ rest = here
    ∙ sym (ap (λ (l : List ℕ). l ++ (78 ∷ 32 ∷ 80 ∷ 10 ∷ rest)) word) in
    whole
