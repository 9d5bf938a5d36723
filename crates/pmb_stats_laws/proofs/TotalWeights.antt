-- What facts weigh in the counts of a whole capture is what their packets, refusals, others and bad tokens count
-- there: for the law `counts_are_those_of_json`.
use Rattle.std.proofs.Common.{◌≡◌, ℕ, ◌+◌, ◌≤◌, Bool, cond, List, [], ◌∷◌, ap, arith}
use Rattle.std.proofs.Common.{length, nat_eq, refl}
use Rattle.std.proofs.lemmas.Bool.{eq-eqb, ne_eqb}
use Rattle.pmb_facts.specs.Fact.{WhatData}
use Rattle.pmb_stats_counts.specs.Counts.{ends_packet, is_bad_token}
use Rattle.pmb_stats_counts.specs.Sort.{nack_place, sort_of}
use Rattle.pmb_stats_counts.specs.declared.sort.Sort.TheVariants.{Others}
use Rattle.pmb_stats_laws.proofs.DeviceWeights.{for_some_reason, nack_has_no_reason, no_other_is_nack}
use Rattle.pmb_stats_laws.proofs.DeviceWeights.{no_other_is_refusal, no_parts_weigh, refusal_has_one_reason}
use Rattle.pmb_stats_laws.proofs.Sums.{of_sort}
use Rattle.pmb_stats_laws.proofs.Weights.{Agrees, HasParts, packet_weight, parts_weight}
use Rattle.pmb_transaction.specs.Transaction.{PartData, TransactionData}
use Rattle.pmb_transaction.specs.Transaction.{Write, Read, Call, Refused, Alert, NoAlert}

-- what weighs 1 where it passes a test
abbrev pub if_passes : (WhatData → Bool) → WhatData → ℕ
if_passes test what = cond (test what) 1 0

-- ---- packets, each by its last fact

last_is_one : (part parts : ℕ) → part ≡ parts → cond {A = ℕ} (nat_eq part parts) 1 0 ≡ 1
last_is_one part parts same = ap (λ (b : Bool). cond {A = ℕ} b 1 0) (eq-eqb part parts same)

earlier_is_none : (part parts : ℕ) → (part ≡ parts → ⊥) → cond {A = ℕ} (nat_eq part parts) 1 0 ≡ 0
earlier_is_none part parts other = ap (λ (b : Bool). cond {A = ℕ} b 1 0) (ne_eqb part parts other)

-- parts with others after them
none_ends : (part parts : ℕ) (ps : List PartData) → part + length ps ≤ parts
    → parts_weight (if_passes ends_packet) part parts ps ≡ 0
none_ends part parts [] few = refl
none_ends part parts (p ∷ ps) few =
    omega (
      arith,
      earlier_is_none part parts (λ (same : part ≡ parts). omega (arith, few, same)),
      none_ends (part + 1) parts ps (omega (arith, few)),
    )

-- parts up to the last
one_ends : (part parts : ℕ) (ps : List PartData) → part + length ps ≡ parts + 1 → 1 ≤ length ps
    → parts_weight (if_passes ends_packet) part parts ps ≡ 1
one_ends part parts [] all some = absurd (omega (arith, some))
one_ends part parts (p ∷ []) all some = omega (arith, last_is_one part parts (omega (arith, all)))
one_ends part parts (p ∷ q ∷ ps) all some =
    omega (
      arith,
      earlier_is_none part parts (λ (same : part ≡ parts). omega (arith, all, same)),
      one_ends (part + 1) parts (q ∷ ps) (omega (arith, all)) (omega arith),
    )

packet_ends : (t : TransactionData) → HasParts t → packet_weight (if_passes ends_packet) t ≡ 1
packet_ends (Write parts) some = one_ends 1 (length parts) parts (omega arith) some
packet_ends (Read t) some = refl
packet_ends (Call t) some = refl
packet_ends (Refused t) some = omega (arith, none_ends 1 (length t.parts + 1) t.parts (omega arith))
packet_ends (Alert t) some = refl
packet_ends NoAlert some = refl

pub packets_agree : Agrees (λ c. c.packets) (if_passes ends_packet)
packets_agree = record {
  packet = λ c t parts. omega (arith, packet_ends t parts);
  refusal = λ c front event reason expected. omega arith;
  other = λ c addr. omega arith;
  bad_token = λ c word. omega arith;
}

-- ---- what is no packet

packet_is_no_bad_token : (t : TransactionData) → packet_weight (if_passes is_bad_token) t ≡ 0
packet_is_no_bad_token (Write parts) =
    no_parts_weigh (if_passes is_bad_token) (λ i n p. refl) 1 (length parts) parts
packet_is_no_bad_token (Read t) = refl
packet_is_no_bad_token (Call t) = refl
packet_is_no_bad_token (Refused t) =
    omega (arith, no_parts_weigh (if_passes is_bad_token) (λ i n p. refl) 1 (length t.parts + 1) t.parts)
packet_is_no_bad_token (Alert t) = refl
packet_is_no_bad_token NoAlert = refl

pub bad_tokens_agree : Agrees (λ c. c.bad_tokens) (if_passes is_bad_token)
bad_tokens_agree = record {
  packet = λ c t parts. omega (arith, packet_is_no_bad_token t);
  refusal = λ c front event reason expected. omega arith;
  other = λ c addr. omega arith;
  bad_token = λ c word. omega arith;
}

abbrev pub other_weight : WhatData → ℕ
other_weight what = of_sort Others what 1

packet_is_no_other : (t : TransactionData) → packet_weight other_weight t ≡ 0
packet_is_no_other (Write parts) = no_parts_weigh other_weight (λ i n p. refl) 1 (length parts) parts
packet_is_no_other (Read t) = refl
packet_is_no_other (Call t) = refl
packet_is_no_other (Refused t) =
    omega (
      arith,
      no_parts_weigh other_weight (λ i n p. refl) 1 (length t.parts + 1) t.parts,
      no_other_is_nack (nack_place t.sent t.at_read) 1,
    )
packet_is_no_other (Alert t) = refl
packet_is_no_other NoAlert = refl

pub all_others_agree : Agrees (λ c. c.others) other_weight
all_others_agree = record {
  packet = λ c t parts. omega (arith, packet_is_no_other t);
  refusal = λ c front event reason expected. omega (arith, no_other_is_refusal reason 1);
  other = λ c addr. omega arith;
  bad_token = λ c word. omega arith;
}

abbrev pub refusal_weight : WhatData → ℕ
refusal_weight what = for_some_reason (sort_of what) 1

packet_is_no_refusal : (t : TransactionData) → packet_weight refusal_weight t ≡ 0
packet_is_no_refusal (Write parts) = no_parts_weigh refusal_weight (λ i n p. refl) 1 (length parts) parts
packet_is_no_refusal (Read t) = refl
packet_is_no_refusal (Call t) = refl
packet_is_no_refusal (Refused t) =
    omega (
      arith,
      no_parts_weigh refusal_weight (λ i n p. refl) 1 (length t.parts + 1) t.parts,
      nack_has_no_reason (nack_place t.sent t.at_read) 1,
    )
packet_is_no_refusal (Alert t) = refl
packet_is_no_refusal NoAlert = refl

pub all_refusals_agree : Agrees (λ c. c.refusals) refusal_weight
all_refusals_agree = record {
  packet = λ c t parts. omega (arith, packet_is_no_refusal t);
  refusal = λ c front event reason expected. omega (arith, refusal_has_one_reason reason 1);
  other = λ c addr. omega arith;
  bad_token = λ c word. omega arith;
}
