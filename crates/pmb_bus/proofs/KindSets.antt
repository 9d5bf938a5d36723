-- Sets of kinds of events, bit by bit: for `Kinds::union`, `Kinds::insert`, `Kinds::all` and the
-- law `kinds_are_told_by_events`. Each of the five kinds has a bit, so 31 is the set of all; a
-- union has each bit that one of the two has, and a set below 32 is the sum of its bits, computed
-- for each.
use Rattle.std.proofs.Common.{◌≡◌, ℕ, ◌+◌, ◌*◌, ◌<◌, ◌^◌, zero, suc, max, Bool, true, ◌==◌, ◌||◌, refl, sym, ap, ◌∙◌}
use Rattle.std.proofs.Common.{arith}
use Rattle.std.specs.Prelude.{bit_and, bit_or, if◌then◌else◌}
use Rattle.std.specs.Int.{bit_at}
use Rattle.std.proofs.lemmas.Bool.{agree_below, agree_below_at, eqb-true}
use Rattle.std.proofs.lemmas.Nat.Bits.{bit_at_or, bit_at-lt, and_pow}
use Rattle.pmb_bus.specs.declared.event.Event.{Event}
use Rattle.pmb_bus.specs.declared.event.Event.TheVariants.{Start, Byte, Ack, Nack, Stop}
use Rattle.pmb_bus.specs.declared.kinds.Kinds.{Kinds}
use Rattle.pmb_bus.specs.Kinds.{bits, kind_of, holds}

-- ---- what a union has

-- whether a number has a bit, by the bit's place
abbrev has : ℕ → ℕ → Bool
has n p = bit_and n p == p

has_at : (n k : ℕ) → has n (2 ^ k) ≡ (bit_at n k * 2 ^ k == 2 ^ k)
has_at n k = ap (λ m. m == 2 ^ k) (and_pow n k)

-- the places of the five kinds
abbrev place : Event → ℕ
place Start = 0
place (Byte b) = 1
place Ack = 2
place Nack = 3
place Stop = 4

-- the greater of two bits is set where one of them is
abbrev GreaterAt : ℕ → ℕ → Event → Type 0
GreaterAt x y event =
    (max x y * 2 ^ place event == 2 ^ place event)
    ≡ (x * 2 ^ place event == 2 ^ place event || y * 2 ^ place event == 2 ^ place event)

greater_bit : (x y : ℕ) → x < 2 → y < 2 → (event : Event) → GreaterAt x y event
greater_bit zero zero s t = λ event. elim event as
    (GreaterAt 0 0) [ Start ↦ refl | Byte b ↦ refl | Ack ↦ refl | Nack ↦ refl | Stop ↦ refl ]
greater_bit zero (suc zero) s t = λ event. elim event as
    (GreaterAt 0 1) [ Start ↦ refl | Byte b ↦ refl | Ack ↦ refl | Nack ↦ refl | Stop ↦ refl ]
greater_bit (suc zero) zero s t = λ event. elim event as
    (GreaterAt 1 0) [ Start ↦ refl | Byte b ↦ refl | Ack ↦ refl | Nack ↦ refl | Stop ↦ refl ]
greater_bit (suc zero) (suc zero) s t = λ event. elim event as
    (GreaterAt 1 1) [ Start ↦ refl | Byte b ↦ refl | Ack ↦ refl | Nack ↦ refl | Stop ↦ refl ]
greater_bit zero (suc (suc y)) s t = absurd (omega arith)
greater_bit (suc zero) (suc (suc y)) s t = absurd (omega arith)
greater_bit (suc (suc x)) y s t = absurd (omega arith)

has_either : (a b : ℕ) (event : Event) → has (bit_or a b) (2 ^ place event)
    ≡ (has a (2 ^ place event) || has b (2 ^ place event))
has_either a b event =
    let k = place event in
    let whole = has_at (bit_or a b) k in
    let greater = ap (λ n. n * 2 ^ k == 2 ^ k) (bit_at_or a b k) in
    let split = greater_bit (bit_at a k) (bit_at b k) (bit_at-lt a k) (bit_at-lt b k) event in
    let first = has_at a k in
    let second = has_at b k in
    whole ∙ greater ∙ split ∙ cc (first, second)

-- a kind's bit is that at its place
at_place : (event : Event) → kind_of event ≡ 2 ^ place event
at_place Start = refl
at_place (Byte b) = refl
at_place Ack = refl
at_place Nack = refl
at_place Stop = refl

-- a union has a kind where one of the two has it
pub union_holds : (a b c : Kinds) → bits c ≡ bit_or (bits a) (bits b) → (event : Event)
    → holds c event ≡ (holds a event || holds b event)
union_holds a b c is event =
    let both : has (bit_or (bits a) (bits b)) (kind_of event)
    ≡ (has (bits a) (kind_of event) || has (bits b) (kind_of event)) =
    rw (at_place event) (has_either (bits a) (bits b) event) in
    ap (λ n. has n (kind_of event)) is ∙ both

-- all five kinds
pub all_holds : (all : Kinds) → bits all ≡ 31 → (event : Event) → holds all event ≡ true
all_holds all is Start = rw is refl
all_holds all is (Byte b) = rw is refl
all_holds all is Ack = rw is refl
all_holds all is Nack = rw is refl
all_holds all is Stop = rw is refl

-- ---- a set by its kinds

abbrev worth : ℕ → ℕ → ℕ
worth n p = if has n p then p else 0

abbrev by_kinds : ℕ → ℕ
by_kinds n = worth n 1 + worth n 2 + worth n 4 + worth n 8 + worth n 16

-- a set of the five bits is their sum, computed for each
sums_are_right : agree_below (λ n. by_kinds n == n) (λ n. true) 32 ≡ true
sums_are_right = refl

-- the set of bits
of_bits : ℕ → Kinds
of_bits n = record { 0 = n }

pub same_kinds : (a b : Kinds) → bits a < 32 → bits b < 32 → ((event : Event) → holds a event ≡ holds b event) → a ≡ b
unfolding of_bits
same_kinds a b few few_too alike =
    let first = eqb-true (by_kinds (bits a)) (bits a)
    (agree_below_at (λ n. by_kinds n == n) (λ n. true) 32 (bits a) sums_are_right few) in
    let second = eqb-true (by_kinds (bits b)) (bits b)
    (agree_below_at (λ n. by_kinds n == n) (λ n. true) 32 (bits b) sums_are_right few_too) in
    let same : by_kinds (bits a) ≡ by_kinds (bits b) =
    cc (alike Start, alike (Byte 0), alike Ack, alike Nack, alike Stop) in
    let bits_same : bits a ≡ bits b = sym first ∙ same ∙ second in
    ap of_bits bits_same
