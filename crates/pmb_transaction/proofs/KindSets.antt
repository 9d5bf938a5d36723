-- The set of kinds (`Kinds`) of any events of which it is decided, for each kind, whether one of
-- that kind is among them. For the law `each_list_has_a_reading`: a refusal holds the kinds that
-- were expected. A set is five bits, so that it holds its kinds and no others is computed for all
-- 32 of them.
use Rattle.std.proofs.Common.{◌≡◌, ℕ, ◌+◌, ◌<◌, ◌≤◌, Bool, true, false, ◌&&◌, refl, sym, ◌∙◌, arith}
use Rattle.std.proofs.lemmas.Bool.{and_parts}
use Rattle.pmb_bus.specs.declared.event.Event.{Event}
use Rattle.pmb_bus.specs.declared.event.Event.TheVariants.{Start, Byte, Ack, Nack, Stop}
use Rattle.pmb_bus.specs.declared.kinds.Kinds.{Kinds}
use Rattle.pmb_bus.specs.Kinds.{AreKindsOf, bits, holds, kind_of}
use Rattle.pmb_transaction.proofs.Decided.{Decided, holds_yes, is_yes, yes_holds}

-- ---- tests of tests

abbrev every : (Bool → Bool) → Bool
every test = test true && test false

of_every : (test : Bool → Bool) → every test ≡ true → (b : Bool) → test b ≡ true
of_every test all true = (and_parts (test true) (test false) all).0
of_every test all false = (and_parts (test true) (test false) all).1

abbrev alike : Bool → Bool → Bool
alike true true = true
alike true false = false
alike false true = false
alike false false = true

same_if_alike : (a b : Bool) → alike a b ≡ true → a ≡ b
same_if_alike true true is = refl
same_if_alike true false is = absurd (cc is)
same_if_alike false true is = absurd (cc is)
same_if_alike false false is = refl

-- ---- a set of five bits

abbrev worth : Bool → ℕ → ℕ
worth true n = n
worth false n = 0

worth_most : (b : Bool) (n : ℕ) → worth b n ≤ n
worth_most true n = omega arith
worth_most false n = omega arith

-- the set of the kinds START, byte, ACK, NACK and STOP by whether each is in it
abbrev set_of : Bool → Bool → Bool → Bool → Bool → Kinds
set_of s b a n p = record { 0 = worth s 1 + worth b 2 + worth a 4 + worth n 8 + worth p 16 }

few_bits : (s b a n p : Bool) → bits (set_of s b a n p) < 32
few_bits s b a n p = omega (arith, worth_most s 1, worth_most b 2, worth_most a 4, worth_most n 8, worth_most p 16)

abbrev told : Bool → Bool → Bool → Bool → Bool → Bool
told s b a n p =
    alike (holds (set_of s b a n p) Start) s
    && (alike (holds (set_of s b a n p) (Byte 0)) b
    && (alike (holds (set_of s b a n p) Ack) a
    && (alike (holds (set_of s b a n p) Nack) n && alike (holds (set_of s b a n p) Stop) p)))

-- computed for each set
all_told : every (λ s. every (λ b. every (λ a. every (λ n. every (λ p. told s b a n p))))) ≡ true
all_told = refl

is_told : (s b a n p : Bool) → told s b a n p ≡ true
is_told s b a n p =
    let of_s = of_every (λ s. every (λ b. every (λ a. every (λ n. every (λ p. told s b a n p))))) all_told s in
    let of_b = of_every (λ b. every (λ a. every (λ n. every (λ p. told s b a n p)))) of_s b in
    let of_a = of_every (λ a. every (λ n. every (λ p. told s b a n p))) of_b a in
    let of_n = of_every (λ n. every (λ p. told s b a n p)) of_a n in
    of_every (λ p. told s b a n p) of_n p

record Tells (kinds : Kinds) (s b a n p : Bool) : Type 0 where
  -- only the five bits of the kinds are used
  known : bits kinds < 32
  start_is : holds kinds Start ≡ s
  byte_is : holds kinds (Byte 0) ≡ b
  ack_is : holds kinds Ack ≡ a
  nack_is : holds kinds Nack ≡ n
  stop_is : holds kinds Stop ≡ p

tells : (s b a n p : Bool) → Tells (set_of s b a n p) s b a n p
tells s b a n p =
    let kinds = set_of s b a n p in
    -- whether each kind is in the set as it should be
    let x1 = alike (holds kinds Start) s in
    let x2 = alike (holds kinds (Byte 0)) b in
    let x3 = alike (holds kinds Ack) a in
    let x4 = alike (holds kinds Nack) n in
    let x5 = alike (holds kinds Stop) p in
    -- all five together were computed: the test is taken apart
    let first = and_parts x1 (x2 && (x3 && (x4 && x5))) (is_told s b a n p) in
    let second = and_parts x2 (x3 && (x4 && x5)) first.1 in
    let third = and_parts x3 (x4 && x5) second.1 in
    let fourth = and_parts x4 x5 third.1 in
    record {
      known = few_bits s b a n p;
      start_is = same_if_alike (holds kinds Start) s first.0;
      byte_is = same_if_alike (holds kinds (Byte 0)) b second.0;
      ack_is = same_if_alike (holds kinds Ack) a third.0;
      nack_is = same_if_alike (holds kinds Nack) n fourth.0;
      stop_is = same_if_alike (holds kinds Stop) p fourth.1;
    }

module _ (events : Event → Type 0) (start : Decided (events Start)) (byte : Decided ((b : ℕ) × events (Byte b)))
    (ack : Decided (events Ack))
    (nack : Decided (events Nack)) (stop : Decided (events Stop)) where
  module _ (kinds : Kinds) (tells_them : Tells kinds (is_yes start) (is_yes byte) (is_yes ack) (is_yes nack)
      (is_yes stop)) where
    each_kind : (event : Event) → events event → holds kinds event ≡ true
    each_kind Start is = tells_them.start_is ∙ holds_yes start is
    each_kind (Byte b) is = tells_them.byte_is ∙ holds_yes byte (b, is)
    each_kind Ack is = tells_them.ack_is ∙ holds_yes ack is
    each_kind Nack is = tells_them.nack_is ∙ holds_yes nack is
    each_kind Stop is = tells_them.stop_is ∙ holds_yes stop is

    only_kinds : (event : Event) → holds kinds event ≡ true → (other : Event) × (kind_of other ≡ kind_of event)
        × events other
    only_kinds Start has = (Start, refl, yes_holds start (sym tells_them.start_is ∙ has))
    only_kinds (Byte b) has = let w = yes_holds byte (sym tells_them.byte_is ∙ has) in (Byte w.0, refl, w.1)
    only_kinds Ack has = (Ack, refl, yes_holds ack (sym tells_them.ack_is ∙ has))
    only_kinds Nack has = (Nack, refl, yes_holds nack (sym tells_them.nack_is ∙ has))
    only_kinds Stop has = (Stop, refl, yes_holds stop (sym tells_them.stop_is ∙ has))

    kinds_of_them : AreKindsOf events kinds
    kinds_of_them = record { known = tells_them.known; each = each_kind; only = only_kinds }

  -- the set of their kinds
  pub set_of_kinds : (kinds : Kinds) × AreKindsOf events kinds
  set_of_kinds =
      let kinds = set_of (is_yes start) (is_yes byte) (is_yes ack) (is_yes nack) (is_yes stop) in
      (kinds, kinds_of_them kinds (tells (is_yes start) (is_yes byte) (is_yes ack) (is_yes nack) (is_yes stop)))
