-- What is taken from a text that begins with the legs of a canonical packet: their bytes, up to
-- where each leg ends. For `front_legs`, `take_group`, `keep_part` and the functions of
-- `src/refused.rt`, whose contracts say that a packet that is there is found. START, STOP and a
-- byte with NACK are told apart by their first characters.
use Rattle.std.proofs.Common.{◌≡◌, ℕ, ◌%◌, ◌<◌, ◌≤◌, Bool, true, nat_eq, Option, Some, None, List, [], ◌∷◌, ◌++◌}
use Rattle.std.proofs.Common.{length, take, drop, refl, sym, ap, subst, ◌∙◌, arith, append_assoc, length-append}
use Rattle.std.proofs.lemmas.List.{length-take-le, take-append-drop}
use Rattle.std.specs.Prelude.{IsSome}
use Rattle.pmb_bus.specs.declared.event.Event.TheVariants.{Start, Byte, Stop}
use Rattle.pmb_bus.specs.Event.{canonical_text}
use Rattle.pmb_command.specs.Wire.{AreByteValues}
use Rattle.pmb_canonical.specs.declared.legs.PacketShape.{PacketShape}
use Rattle.pmb_canonical.specs.declared.legs.PacketShape.TheVariants.{Written, Both, Group, Nacked}
use Rattle.pmb_canonical.specs.Front.{NoneAcked, acked_text, end_text}
use Rattle.pmb_canonical.specs.Legs.{BeginsOdd, FindsNacked, FindsSecond, IsOfLegs, NextWritten, leg_events}
use Rattle.pmb_canonical.proofs.Ends.{ends, nacked_text, read_text, written_text}
use Rattle.pmb_canonical.proofs.Texts.{first_of_nacked, none_at_nack, none_at_start, none_at_stop}
use Rattle.pmb_canonical.proofs.Wires.{small-drop, small-take}

abbrev pub start : List ℕ
start = canonical_text (Start ∷ [])

abbrev pub stop : List ℕ
stop = canonical_text (Stop ∷ [])

-- START and STOP are told apart
pub start_or_stop : (a b text : List ℕ) → text ≡ start ++ a → text ≡ stop ++ b → ⊥
start_or_stop a b text one other = let letters : ◌≡◌ {A = ℕ} 83 80 = cc (one, other) in omega (arith, letters)

-- what is there is found
pub not_there : {X : Type 0} (found : Option X) → IsSome found → ((x : X) → found ≡ Some x → ⊥) → ⊥
not_there None some never = cc some
not_there (Some x) some never = never x refl

small_ended : (front : List ℕ) (last : ℕ) → AreByteValues (front ++ last ∷ []) → AreByteValues front × (last < 256)
small_ended [] last small = (tt, small.0)
small_ended (b ∷ front) last small = let more = small_ended front last small.1 in ((small.0, more.0), more.1)

-- a leg by its bytes: those before the last, which has NACK, and the last
pub record IsNacked (all : List ℕ) : Type 0 where
  pub front : List ℕ
  pub last : ℕ
  pub whole : all ≡ front ++ last ∷ []
  -- the bytes are below 256, and the text is START, those with ACK, and the last with NACK
  pub small_front : AreByteValues front
  pub small_last : last < 256
  pub text : (rest : List ℕ) → canonical_text (leg_events Nacked all) ++ rest ≡ start
      ++ (acked_text front ++ (end_text last ++ rest))

nacked_by : (all : List ℕ) → AreByteValues all → 1 ≤ length all → IsNacked all
nacked_by [] small enough = absurd (omega (arith, enough))
nacked_by (byte ∷ bytes) small enough =
    let ended = ends byte bytes in
    let parts = small_ended ended.front ended.last (subst AreByteValues ended.whole small) in
    record {
      front = ended.front;
      last = ended.last;
      whole = ended.whole;
      small_front = parts.0;
      small_last = parts.1;
      text = λ rest.
          ap (λ (l : List ℕ). canonical_text (leg_events Nacked l) ++ rest) ended.whole
          ∙ ap (λ (l : List ℕ). l ++ rest) (nacked_text ended.front ended.last)
          ∙ ap (λ (l : List ℕ). start ++ l) (append_assoc (acked_text ended.front) (end_text ended.last) rest);
    }

pub is_nacked : (all : List ℕ) → IsOfLegs Nacked all → IsNacked all
is_nacked all are = nacked_by all are.small are.enough

-- both legs, by their bytes: those of the first, those of the second but for the last, and the last
pub record IsBoth (written : ℕ) (all : List ℕ) : Type 0 where
  pub front : List ℕ
  pub back : List ℕ
  pub last : ℕ
  -- the first leg has as many bytes as were written
  pub long : length front ≡ written
  pub whole : all ≡ (front ++ back) ++ last ∷ []
  pub small_front : AreByteValues front
  pub small_back : AreByteValues back
  pub small_last : last < 256
  pub to_read : ℕ
  pub small_to_read : to_read < 256
  pub odd : to_read % 2 ≡ 1
  -- the second leg's text begins with its address byte, which is odd
  pub begins : (rest : List ℕ) → (more : List ℕ)
      × (acked_text back ++ (end_text last ++ rest) ≡ canonical_text (Byte to_read ∷ []) ++ more)
  pub text : (rest : List ℕ) → canonical_text (leg_events (Both written) all) ++ rest ≡ start
      ++ (acked_text front ++ (start ++ (acked_text back ++ (end_text last ++ rest))))

regroup : (a b c d rest : List ℕ) → (a ++ (b ++ (c ++ d))) ++ rest ≡ a ++ (b ++ (c ++ (d ++ rest)))
regroup a b c d rest = simp append_assoc

both_by : (front behind : List ℕ) → AreByteValues front → AreByteValues behind → 1 ≤ length behind → BeginsOdd behind
    → IsBoth (length front) (front ++ behind)
both_by front [] first second enough odd = absurd odd
both_by front (to_read ∷ tail) first second enough odd =
    -- the last byte of the second leg, which has NACK
    let ended = ends to_read tail in
    let parts = small_ended ended.front ended.last (subst AreByteValues ended.whole second) in
    let whole : front ++ to_read ∷ tail ≡ front ++ (ended.front ++ ended.last ∷ []) =
    ap (λ (l : List ℕ). front ++ l) ended.whole in
    record {
      front = front;
      back = ended.front;
      last = ended.last;
      long = refl;
      whole = whole ∙ sym (append_assoc front ended.front (ended.last ∷ []));
      small_front = first;
      small_back = parts.0;
      small_last = parts.1;
      to_read = to_read;
      small_to_read = second.0;
      odd = odd;
      -- so its text begins with its address byte
      begins = λ rest. first_of_nacked ended.front ended.last to_read tail rest ended.whole;
      -- and the text of both is the first leg's, START, and the second's
      text = λ rest.
          ap (λ (l : List ℕ). canonical_text (leg_events (Both (length front)) l) ++ rest) whole
          ∙ ap (λ (l : List ℕ). l ++ rest) (read_text front ended.front ended.last)
          ∙ ap (λ (l : List ℕ). start ++ l) (regroup (acked_text front) start (acked_text ended.front)
          (end_text ended.last) rest);
    }

pub is_both : (written : ℕ) (all : List ℕ) → IsOfLegs (Both written) all → IsBoth written all
is_both written all are =
    let front = take written all in
    let behind = drop written all in
    let whole : front ++ behind ≡ all = take-append-drop written all in
    let long : length front ≡ written = length-take-le written all (omega (arith, are.enough)) in
    let enough : 1 ≤ length behind = omega (arith, are.enough, long, ap length whole, length-append front behind) in
    subst (λ (n : ℕ). IsBoth n all) long
    (subst (IsBoth (length front)) whole (both_by front behind (small-take written all are.small)
    (small-drop written all are.small) enough are.reads))

-- What `take_acked` says of bytes that all find room.
-- 516: two legs of at most 258 bytes each, with their address bytes
abbrev pub TakesAll : List ℕ → List ℕ → List ℕ → List ℕ → Type 0
TakesAll text old new behind = (front rest : List ℕ) → AreByteValues front → NoneAcked rest
    → length (old ++ front) ≤ 516
    → text ≡ acked_text front ++ rest → (new ≡ old ++ front) × (behind ≡ rest)

module _ (text first behind old new : List ℕ) (none : old ≡ []) (begins : text ≡ start ++ first)
    (takes : TakesAll first old new behind) (all rest : List ℕ) where
  -- of one written leg its bytes, up to STOP
  pub written_first : IsOfLegs Written all → text ≡ canonical_text (leg_events Written all) ++ rest
      → (new ≡ all) × (behind ≡ stop ++ rest)
  written_first are split =
      let joined : start ++ first ≡ start ++ (acked_text all ++ (stop ++ rest)) =
      sym begins ∙ split ∙ ap (λ (l : List ℕ). l ++ rest) (written_text all)
      ∙ ap (λ (l : List ℕ). start ++ l) (append_assoc (acked_text all) stop rest) in
      let here : first ≡ acked_text all ++ (stop ++ rest) = cc joined in
      let few : length (old ++ all) ≤ 516 = subst (λ (l : List ℕ). length (l ++ all) ≤ 516) (sym none) are.few in
      let took = takes all (stop ++ rest) are.small (none_at_stop rest) few here in
      (took.0 ∙ ap (λ (l : List ℕ). l ++ all) none, took.1)

  -- of a group those of its first leg, up to the second START
  pub group_first : IsOfLegs Group all → NextWritten rest → text ≡ canonical_text (leg_events Group all) ++ rest
      → (new ≡ all) × (behind ≡ rest)
  group_first are next split =
      let joined : start ++ first ≡ start ++ (acked_text all ++ rest) = sym begins ∙ split
      ∙ append_assoc start (acked_text all) rest in
      let here : first ≡ acked_text all ++ rest = cc joined in
      let few : length (old ++ all) ≤ 516 = subst (λ (l : List ℕ). length (l ++ all) ≤ 516) (sym none) are.few in
      let ended : NoneAcked rest = subst NoneAcked (sym next.split)
      (none_at_start (canonical_text (Byte next.byte ∷ []) ++ next.more)) in
      let took = takes all rest are.small ended few here in
      (took.0 ∙ ap (λ (l : List ℕ). l ++ all) none, took.1)

  -- of both legs those of the first, up to the second START
  pub both_first : (written : ℕ) (are : IsOfLegs (Both written) all)
      → text ≡ canonical_text (leg_events (Both written) all) ++ rest
      → (new ≡ (is_both written all are).front)
      × (behind ≡ start ++ (acked_text (is_both written all are).back
      ++ (end_text (is_both written all are).last ++ rest)))
  both_first written are split =
      let both = is_both written all are in
      let behind_first = start ++ (acked_text both.back ++ (end_text both.last ++ rest)) in
      let joined : start ++ first ≡ start ++ (acked_text both.front ++ behind_first) = sym begins ∙ split
      ∙ both.text rest in
      let here : first ≡ acked_text both.front ++ behind_first = cc joined in
      let few : length (old ++ both.front) ≤ 516 =
      omega (arith, length-append old both.front, ap length none, both.long, are.enough, are.few) in
      let took = takes both.front behind_first both.small_front
      (none_at_start (acked_text both.back ++ (end_text both.last ++ rest))) few here in
      (took.0 ∙ ap (λ (l : List ℕ). l ++ both.front) none, took.1)

  -- of a leg with NACK those before it
  pub nacked_first : (are : IsOfLegs Nacked all) → text ≡ canonical_text (leg_events Nacked all) ++ rest
      → (new ≡ (is_nacked all are).front) × (behind ≡ end_text (is_nacked all are).last ++ rest)
  nacked_first are split =
      let one = is_nacked all are in
      let joined : start ++ first ≡ start ++ (acked_text one.front ++ (end_text one.last ++ rest)) = sym begins ∙ split
      ∙ one.text rest in
      let here : first ≡ acked_text one.front ++ (end_text one.last ++ rest) = cc joined in
      let few : length (old ++ one.front) ≤ 516 =
      omega (
        arith,
        length-append old one.front,
        ap length none,
        ap length one.whole,
        length-append one.front (one.last ∷ []),
        are.few,
      ) in
      let took = takes one.front (end_text one.last ++ rest) one.small_front (none_at_nack one.last rest) few here in
      (took.0 ∙ ap (λ (l : List ℕ). l ++ one.front) none, took.1)

-- the text after START
same_behind : (behind second more : List ℕ) → behind ≡ start ++ second → behind ≡ start ++ more → second ≡ more
same_behind behind second more one other = let joined : start ++ second ≡ start ++ more = sym one ∙ other in cc joined

-- What `is_even` says of the byte in front.
abbrev pub TellsEven : List ℕ → Bool → Type 0
TellsEven text result = (byte : ℕ) (rest : List ℕ) → byte < 256 → text ≡ canonical_text (Byte byte ∷ []) ++ rest
    → result ≡ nat_eq (byte % 2) 0

-- that of a leg that is read is not even
pub read_is_odd : (written : ℕ) (behind second all rest : List ℕ) (result : Bool) (are : IsOfLegs (Both written) all)
    → behind ≡ start ++ second → TellsEven second result
    → behind ≡ start ++ (acked_text (is_both written all are).back ++ (end_text (is_both written all are).last ++ rest))
    → result ≡ true → ⊥
read_is_odd written behind second all rest result are begins tells split is =
    let both = is_both written all are in
    let there = both.begins rest in
    let here : second ≡ canonical_text (Byte both.to_read ∷ []) ++ there.0 =
    same_behind behind second (acked_text both.back ++ (end_text both.last ++ rest)) begins split ∙ there.1 in
    let even : nat_eq (both.to_read % 2) 0 ≡ true = sym (tells both.to_read there.0 both.small_to_read here) ∙ is in
    let one : nat_eq 1 0 ≡ true = ap (λ (n : ℕ). nat_eq n 0) (sym both.odd) ∙ even in
    cc one

-- and that of the next leg of a group is
pub group_is_even : (behind second rest : List ℕ) (result : Bool) → (next : NextWritten rest) → behind ≡ start ++ second
    → TellsEven second result → behind ≡ rest → result ≡ true
group_is_even behind second rest result next begins tells same =
    let here : second ≡ canonical_text (Byte next.byte ∷ []) ++ next.more =
    same_behind behind second (canonical_text (Byte next.byte ∷ []) ++ next.more) begins (same ∙ next.split) in
    tells next.byte next.more next.small here ∙ ap (λ (n : ℕ). nat_eq n 0) next.even

-- of a leg with NACK the byte before that
pub nacked_last : (behind front new all rest : List ℕ) (result : Option PacketShape) (are : IsOfLegs Nacked all)
    → front ≡ (is_nacked all are).front → FindsNacked behind front new result
    → behind ≡ end_text (is_nacked all are).last ++ rest
    → (result ≡ Some Nacked) × (new ≡ all)
nacked_last behind front new all rest result are first finds split =
    let one = is_nacked all are in
    let few : length front ≤ 515 = omega (
      arith,
      ap length first,
      ap length one.whole,
      length-append one.front (one.last ∷ []),
      are.few,
    ) in
    let found = finds one.last rest one.small_last few split in
    (found.0, found.1 ∙ ap (λ (l : List ℕ). l ++ one.last ∷ []) first ∙ sym one.whole)

-- of the second leg those after START
pub both_second : (written : ℕ) (behind second front new all rest : List ℕ) (result : Option PacketShape)
    (are : IsOfLegs (Both written) all)
    → front ≡ (is_both written all are).front → behind ≡ start ++ second → FindsSecond second front new result
    → behind ≡ start ++ (acked_text (is_both written all are).back ++ (end_text (is_both written all are).last ++ rest))
    → (result ≡ Some (Both written)) × (new ≡ all)
both_second written behind second front new all rest result are first begins finds split =
    let both = is_both written all are in
    -- the text after the first leg is START and the second leg
    let joined : start ++ second ≡ start ++ (acked_text both.back ++ (end_text both.last ++ rest)) = sym begins
    ∙ split in
    let here : second ≡ acked_text both.back ++ (end_text both.last ++ rest) = cc joined in
    -- whose bytes find room after the first leg's
    let few : length (front ++ both.back) ≤ 515 =
    omega (
      arith,
      length-append front both.back,
      ap length first,
      ap length both.whole,
      length-append (both.front ++ both.back) (both.last ∷ []),
      length-append both.front both.back,
      are.few,
    ) in
    -- so they are found, with NACK at the end
    let found = finds both.back both.last rest
    (record { small = both.small_back; small_last = both.small_last; few = few }) here in
    let long : length front ≡ written = ap length first ∙ both.long in (
      found.0 ∙ ap (λ (n : ℕ). Some (Both n)) long,
      found.1 ∙ ap (λ (l : List ℕ). (l ++ both.back) ++ both.last ∷ []) first ∙ sym both.whole,
    )
