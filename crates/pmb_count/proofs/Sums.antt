-- The counts of outcomes, one by one: for `Counter::finish` and `CaptureCounts::add`. A packet or
-- a refusal more is one more of its count, which stays at the greatest u64.
use Rattle.std.proofs.Common.{◌≡◌, ◌+◌, ◌-◌, ◌^◌, ℕ, min, List, [], ◌∷◌, ◌++◌, length, map, refl, sym, ap, ◌∙◌, subst}
use Rattle.std.proofs.Common.{arith}
use Rattle.std.proofs.lemmas.List.{append-nil}
use Rattle.pmb_transaction.specs.Transaction.{TransactionData}
use Rattle.pmb_transaction.specs.Reading.{Accepted, Outcome, Refusal, RefusalData}
use Rattle.pmb_count.specs.declared.capture_counts.CaptureCounts.{CaptureCounts}
use Rattle.pmb_count.specs.Count.{IsCountOf, packets, refusals}

-- those of outcomes end to end are their sums
pub packets-append : (a b : List Outcome) → packets (a ++ b) ≡ packets a + packets b
packets-append [] b = omega arith
packets-append (Accepted t ∷ a) b = let later : packets (a ++ b) ≡ packets a + packets b = packets-append a b in
    omega (arith, later)
packets-append (Refusal refusal ∷ a) b = packets-append a b

pub refusals-append : (a b : List Outcome) → refusals (a ++ b) ≡ refusals a + refusals b
refusals-append [] b = omega arith
refusals-append (Accepted t ∷ a) b = refusals-append a b
refusals-append (Refusal refusal ∷ a) b = let later : refusals (a ++ b) ≡ refusals a + refusals b =
    refusals-append a b in omega (arith, later)

-- what no outcome more comes to
pub none_more : (count : CaptureCounts) (outcomes added : List Outcome) → IsCountOf count outcomes → added ≡ []
    → IsCountOf count (outcomes ++ added)
none_more count outcomes added is none =
    let same : outcomes ++ added ≡ outcomes = ap (λ (os : List Outcome). outcomes ++ os) none ∙ append-nil outcomes in
    subst (IsCountOf count) (sym same) is

-- a count that stays is within the greatest u64
capped : (count after whole : ℕ) → count ≡ min whole (2 ^ 64 - 1) → after ≡ count → after ≡ min (count + 0) (2 ^ 64 - 1)
capped count after whole is same = omega (arith, is, same)

-- and one more
one_more : (count after : CaptureCounts) (outcomes added : List Outcome) (outcome : Outcome) → IsCountOf count outcomes
    → added ≡ outcome ∷ []
    → after.packets ≡ min (count.packets + packets (outcome ∷ [])) (2 ^ 64 - 1)
    → after.refusals ≡ min (count.refusals + refusals (outcome ∷ [])) (2 ^ 64 - 1)
    → IsCountOf after (outcomes ++ added)
one_more count after outcomes added outcome is one packets_after refusals_after =
    let p : packets (outcomes ++ added) ≡ packets outcomes + packets (outcome ∷ []) =
    ap (λ (os : List Outcome). packets (outcomes ++ os)) one ∙ packets-append outcomes (outcome ∷ []) in
    let r : refusals (outcomes ++ added) ≡ refusals outcomes + refusals (outcome ∷ []) =
    ap (λ (os : List Outcome). refusals (outcomes ++ os)) one ∙ refusals-append outcomes (outcome ∷ []) in
    let packets_before : count.packets ≡ min (packets outcomes) (2 ^ 64 - 1) = is.packets_are in
    let refusals_before : count.refusals ≡ min (refusals outcomes) (2 ^ 64 - 1) = is.refusals_are in
    record {
      packets_are = omega (arith, p, packets_before, packets_after);
      refusals_are =
          omega (arith, r, refusals_before, refusals_after);
    }

pub packet_more : (count after : CaptureCounts) (outcomes added : List Outcome) (t : TransactionData)
    → IsCountOf count outcomes → added ≡ Accepted t ∷ []
    → after.packets ≡ min (count.packets + 1) (2 ^ 64 - 1) → after.refusals ≡ count.refusals
    → IsCountOf after (outcomes ++ added)
packet_more count after outcomes added t is one counted same =
    one_more count after outcomes added (Accepted t) is one counted
    (capped count.refusals after.refusals (refusals outcomes) is.refusals_are same)

pub refusal_more : (count after : CaptureCounts) (outcomes added : List Outcome) (refusal : RefusalData)
    → IsCountOf count outcomes
    → added ≡ Refusal refusal ∷ [] → after.packets ≡ count.packets
    → after.refusals ≡ min (count.refusals + 1) (2 ^ 64 - 1)
    → IsCountOf after (outcomes ++ added)
refusal_more count after outcomes added refusal is one same counted =
    one_more count after outcomes added (Refusal refusal) is one
    (capped count.packets after.packets (packets outcomes) is.packets_are same) counted

-- transactions that are read are as many packets, and no refusals
pub packets_written : (ts : List TransactionData) → packets (map Accepted ts) ≡ length ts
packets_written [] = refl
packets_written (t ∷ ts) = let later : packets (map Accepted ts) ≡ length ts = packets_written ts in
    omega (arith, later)

pub refusals_written : (ts : List TransactionData) → refusals (map Accepted ts) ≡ 0
refusals_written [] = refl
refusals_written (t ∷ ts) = refusals_written ts
