-- What facts weigh in the counts of a device is what their packets, refusals and others count there: for the law
-- `counts_are_those_of_json`.
use Rattle.std.proofs.Common.{◌≡◌, ℕ, ◌+◌, Bool, true, false, cond, Option, Some, None, List, [], ◌∷◌, ap, arith}
use Rattle.std.proofs.Common.{nat_eq, refl, sym, ◌∙◌, length}
use Rattle.std.specs.List.{sum_by}
use Rattle.std.proofs.lemmas.List.Sums.{sum_by-cons}
use Rattle.pmb_bus.specs.declared.event.Event.{Event}
use Rattle.pmb_bus.specs.declared.kinds.Kinds.{Kinds}
use Rattle.pmb_facts.specs.Fact.{FactData, WhatData}
use Rattle.pmb_facts.specs.Fact as fact
use Rattle.pmb_json_objects.specs.Counts.{DeviceData, counted, counted_other, counted_refusal, one_if}
use Rattle.pmb_json_objects.specs.Counts.{parts_to, sum_of}
use Rattle.pmb_partial_packet.specs.PartialPacket.{said_device}
use Rattle.pmb_stats_counts.specs.Counts.{is_address, is_sort}
use Rattle.pmb_stats_counts.specs.Sort.{nack_place}
use Rattle.pmb_stats_counts.specs.declared.sort.NackPlace.{NackPlace}
use Rattle.pmb_stats_counts.specs.declared.sort.NackPlace.TheVariants.{Address, Code, Byte, ReadAddress}
use Rattle.pmb_stats_counts.specs.declared.sort.Sort.{Sort}
use Rattle.pmb_stats_counts.specs.declared.sort.Sort.TheVariants.{Writes, Reads, Calls, Nacks, Refusals, Others}
use Rattle.pmb_stats_laws.proofs.Sums.{of_device}
use Rattle.pmb_stats_laws.proofs.Weights.{Agrees, packet_weight, parts_weight}
use Rattle.pmb_stats_laws.specs.Told.{nack_places, reasons}
use Rattle.pmb_transaction.specs.Transaction.{PartData, TransactionData}
use Rattle.pmb_transaction.specs.Transaction.{Write, Read, Call, Refused, Alert, NoAlert}
use Rattle.pmb_transaction.specs.declared.reason.Reason.{Reason}
use Rattle.pmb_transaction.specs.declared.reason.Reason.TheVariants.{ReadFirst, BadRestart, BadPec, UnknownDevice}
use Rattle.pmb_transaction.specs.declared.reason.Reason.TheVariants.{UnknownCommand, TooLong, TooShort, WrongEvent}
use Rattle.pmb_transaction.specs.declared.reason.Reason.TheVariants.{Truncated}

-- ---- sorts

-- what counts as a refused leg, or as a refused event, is of no other sort
abbrev pub IsNotNack : Sort → Type 0
IsNotNack sort = (at : NackPlace) (one : ℕ) → cond (is_sort sort (Some (Nacks at))) one 0 ≡ 0

abbrev pub IsNotRefusal : Sort → Type 0
IsNotRefusal sort = (reason : Reason) (one : ℕ) → cond (is_sort sort (Some (Refusals reason))) one 0 ≡ 0

no_write_is_nack : IsNotNack Writes
no_write_is_nack Address one = refl
no_write_is_nack Code one = refl
no_write_is_nack Byte one = refl
no_write_is_nack ReadAddress one = refl

no_read_is_nack : IsNotNack Reads
no_read_is_nack Address one = refl
no_read_is_nack Code one = refl
no_read_is_nack Byte one = refl
no_read_is_nack ReadAddress one = refl

no_call_is_nack : IsNotNack Calls
no_call_is_nack Address one = refl
no_call_is_nack Code one = refl
no_call_is_nack Byte one = refl
no_call_is_nack ReadAddress one = refl

pub no_other_is_nack : IsNotNack Others
no_other_is_nack Address one = refl
no_other_is_nack Code one = refl
no_other_is_nack Byte one = refl
no_other_is_nack ReadAddress one = refl

-- by each reason in turn
by_reason : (P : Reason → Type 0) → P ReadFirst → P BadRestart → P BadPec → P UnknownDevice → P UnknownCommand
    → P TooLong → P TooShort → P WrongEvent → P Truncated → (reason : Reason) → P reason
by_reason P a b c d e f g h i ReadFirst = a
by_reason P a b c d e f g h i BadRestart = b
by_reason P a b c d e f g h i BadPec = c
by_reason P a b c d e f g h i UnknownDevice = d
by_reason P a b c d e f g h i UnknownCommand = e
by_reason P a b c d e f g h i TooLong = f
by_reason P a b c d e f g h i TooShort = g
by_reason P a b c d e f g h i WrongEvent = h
by_reason P a b c d e f g h i Truncated = i

no_write_is_refusal : IsNotRefusal Writes
no_write_is_refusal reason one =
    by_reason (λ r. cond (is_sort Writes (Some (Refusals r))) one 0 ≡ 0) refl refl refl refl refl refl refl refl refl
    reason

no_read_is_refusal : IsNotRefusal Reads
no_read_is_refusal reason one =
    by_reason (λ r. cond (is_sort Reads (Some (Refusals r))) one 0 ≡ 0) refl refl refl refl refl refl refl refl refl
    reason

no_call_is_refusal : IsNotRefusal Calls
no_call_is_refusal reason one =
    by_reason (λ r. cond (is_sort Calls (Some (Refusals r))) one 0 ≡ 0) refl refl refl refl refl refl refl refl refl
    reason

pub no_other_is_refusal : IsNotRefusal Others
no_other_is_refusal reason one =
    by_reason (λ r. cond (is_sort Others (Some (Refusals r))) one 0 ≡ 0) refl refl refl refl refl refl refl refl refl
    reason

-- a refused leg is at one of the places, and a refused event has one of the reasons
abbrev pub at_some_place : Option Sort → ℕ → ℕ
at_some_place its one = sum_by (λ at. cond {A = ℕ} (is_sort (Nacks at) its) one 0) nack_places

abbrev pub for_some_reason : Option Sort → ℕ → ℕ
for_some_reason its one = sum_by (λ reason. cond {A = ℕ} (is_sort (Refusals reason) its) one 0) reasons

pub nack_has_one_place : (at : NackPlace) (one : ℕ) → at_some_place (Some (Nacks at)) one ≡ one
nack_has_one_place Address one = omega arith
nack_has_one_place Code one = omega arith
nack_has_one_place Byte one = omega arith
nack_has_one_place ReadAddress one = omega arith

pub refusal_has_no_place : (reason : Reason) (one : ℕ) → at_some_place (Some (Refusals reason)) one ≡ 0
refusal_has_no_place reason one =
    by_reason (λ r. at_some_place (Some (Refusals r)) one ≡ 0) refl refl refl refl refl refl refl refl refl reason

pub refusal_has_one_reason : (reason : Reason) (one : ℕ) → for_some_reason (Some (Refusals reason)) one ≡ one
refusal_has_one_reason reason one =
    by_reason (λ r. for_some_reason (Some (Refusals r)) one ≡ one) (omega arith) (omega arith) (omega arith)
    (omega arith) (omega arith) (omega arith) (omega arith) (omega arith) (omega arith) reason

pub nack_has_no_reason : (at : NackPlace) (one : ℕ) → for_some_reason (Some (Nacks at)) one ≡ 0
nack_has_no_reason Address one = refl
nack_has_no_reason Code one = refl
nack_has_no_reason Byte one = refl
nack_has_no_reason ReadAddress one = refl

-- ---- ones

as_one : (b : Bool) → one_if b ≡ cond b 1 0
as_one true = refl
as_one false = refl

pub no_parts_weigh : (weight : WhatData → ℕ) → ((part parts : ℕ) (p : PartData) → weight (fact.Write part parts p) ≡ 0)
    → (part parts : ℕ) (ps : List PartData) → parts_weight weight part parts ps ≡ 0
no_parts_weigh weight none part parts [] = refl
no_parts_weigh weight none part parts (p ∷ ps) =
    omega (arith, none part parts p, no_parts_weigh weight none (part + 1) parts ps)

-- ---- a device

-- what each adds to a count of the device is its weight
record AgreesAt (addr : ℕ) (count : DeviceData → ℕ) (weight : WhatData → ℕ) : Type 0 where
  sums : (a b : DeviceData) → count (sum_of a b) ≡ count a + count b
  packet : (t : TransactionData) → count (counted addr t) ≡ packet_weight weight t
  refusal : (front : List Event) (event : Option Event) (reason : Reason) (expected : Kinds)
      → count (counted_refusal addr (said_device front)) ≡ weight (fact.Refusal front event reason expected)
  other : (at : ℕ) → count (counted_other addr at) ≡ weight (fact.Other at)
  bad_token : (word : List ℕ) → weight (fact.BadToken word) ≡ 0

of_one_device : (addr : ℕ) (count : DeviceData → ℕ) (weight : WhatData → ℕ) → AgreesAt addr count weight
    → Agrees (λ c. count (c.of_device addr)) weight
of_one_device addr count weight agrees = record {
  packet = λ c t parts. agrees.sums (c.of_device addr) (counted addr t)
      ∙ ap (λ n. count (c.of_device addr) + n) (agrees.packet t);
  refusal = λ c front event reason expected.
      agrees.sums (c.of_device addr) (counted_refusal addr (said_device front))
      ∙ ap (λ n. count (c.of_device addr) + n) (agrees.refusal front event reason expected);
  other = λ c at. agrees.sums (c.of_device addr) (counted_other addr at)
      ∙ ap (λ n. count (c.of_device addr) + n) (agrees.other at);
  bad_token = λ c word. omega (arith, agrees.bad_token word);
}

module _ (addr : ℕ) where
  -- .. of which a refusal that names it is none, or one
  no_refusal : (count : DeviceData → ℕ) → count (counted_refusal addr None) ≡ 0
      → ((at : ℕ) → count (counted_refusal addr (Some at)) ≡ 0)
      → (named : Option ℕ) → count (counted_refusal addr named) ≡ 0
  no_refusal count none some None = none
  no_refusal count none some (Some at) = some at

  one_refusal : (named : Option ℕ)
      → (counted_refusal addr named).refusals ≡ cond {A = ℕ} (is_address addr named) 1 0
  one_refusal None = refl
  one_refusal (Some at) = as_one (nat_eq at addr)

  -- ---- writes

  parts_are_writes : (part parts : ℕ) (ps : List PartData)
      → parts_to addr ps ≡ parts_weight (of_device addr Writes) part parts ps
  parts_are_writes part parts [] = refl
  parts_are_writes part parts (p ∷ ps) =
      omega (
        arith,
        sum_by-cons (λ (q : PartData). cond {A = ℕ} (nat_eq q.addr addr) 1 0) p ps,
        parts_are_writes (part + 1) parts ps,
      )

  packet_writes : (t : TransactionData) → (counted addr t).writes ≡ packet_weight (of_device addr Writes) t
  packet_writes (Write parts) = parts_are_writes 1 (length parts) parts
  packet_writes (Read t) = refl
  packet_writes (Call t) = refl
  packet_writes (Refused t) =
      omega (
        arith,
        parts_are_writes 1 (length t.parts + 1) t.parts,
        no_write_is_nack (nack_place t.sent t.at_read) (cond (nat_eq t.addr addr) 1 0),
      )
  packet_writes (Alert t) = refl
  packet_writes NoAlert = refl

  pub writes_agree : Agrees (λ c. (c.of_device addr).writes) (of_device addr Writes)
  writes_agree = of_one_device addr (λ d. d.writes) (of_device addr Writes) (record {
    sums = λ a b. refl;
    packet = packet_writes;
    refusal = λ front event reason expected.
        no_refusal (λ d. d.writes) refl (λ at. refl) (said_device front)
        ∙ sym (no_write_is_refusal reason (cond (is_address addr (said_device front)) 1 0));
    other = λ at. refl;
    bad_token = λ word. refl;
  })

  -- ---- reads, and calls

  packet_reads : (t : TransactionData) → (counted addr t).reads ≡ packet_weight (of_device addr Reads) t
  packet_reads (Write parts) = sym (no_parts_weigh (of_device addr Reads) (λ i n p. refl) 1 (length parts) parts)
  packet_reads (Read t) = as_one (nat_eq t.addr addr)
  packet_reads (Call t) = refl
  packet_reads (Refused t) =
      omega (
        arith,
        no_parts_weigh (of_device addr Reads) (λ i n p. refl) 1 (length t.parts + 1) t.parts,
        no_read_is_nack (nack_place t.sent t.at_read) (cond (nat_eq t.addr addr) 1 0),
      )
  packet_reads (Alert t) = refl
  packet_reads NoAlert = refl

  pub reads_agree : Agrees (λ c. (c.of_device addr).reads) (of_device addr Reads)
  reads_agree = of_one_device addr (λ d. d.reads) (of_device addr Reads) (record {
    sums = λ a b. refl;
    packet = packet_reads;
    refusal = λ front event reason expected.
        no_refusal (λ d. d.reads) refl (λ at. refl) (said_device front)
        ∙ sym (no_read_is_refusal reason (cond (is_address addr (said_device front)) 1 0));
    other = λ at. refl;
    bad_token = λ word. refl;
  })

  packet_calls : (t : TransactionData) → (counted addr t).calls ≡ packet_weight (of_device addr Calls) t
  packet_calls (Write parts) = sym (no_parts_weigh (of_device addr Calls) (λ i n p. refl) 1 (length parts) parts)
  packet_calls (Read t) = refl
  packet_calls (Call t) = as_one (nat_eq t.addr addr)
  packet_calls (Refused t) =
      omega (
        arith,
        no_parts_weigh (of_device addr Calls) (λ i n p. refl) 1 (length t.parts + 1) t.parts,
        no_call_is_nack (nack_place t.sent t.at_read) (cond (nat_eq t.addr addr) 1 0),
      )
  packet_calls (Alert t) = refl
  packet_calls NoAlert = refl

  pub calls_agree : Agrees (λ c. (c.of_device addr).calls) (of_device addr Calls)
  calls_agree = of_one_device addr (λ d. d.calls) (of_device addr Calls) (record {
    sums = λ a b. refl;
    packet = packet_calls;
    refusal = λ front event reason expected.
        no_refusal (λ d. d.calls) refl (λ at. refl) (said_device front)
        ∙ sym (no_call_is_refusal reason (cond (is_address addr (said_device front)) 1 0));
    other = λ at. refl;
    bad_token = λ word. refl;
  })

  -- ---- others

  packet_others : (t : TransactionData) → (counted addr t).others ≡ packet_weight (of_device addr Others) t
  packet_others (Write parts) = sym (no_parts_weigh (of_device addr Others) (λ i n p. refl) 1 (length parts) parts)
  packet_others (Read t) = refl
  packet_others (Call t) = refl
  packet_others (Refused t) =
      omega (
        arith,
        no_parts_weigh (of_device addr Others) (λ i n p. refl) 1 (length t.parts + 1) t.parts,
        no_other_is_nack (nack_place t.sent t.at_read) (cond (nat_eq t.addr addr) 1 0),
      )
  packet_others (Alert t) = refl
  packet_others NoAlert = refl

  pub others_agree : Agrees (λ c. (c.of_device addr).others) (of_device addr Others)
  others_agree = of_one_device addr (λ d. d.others) (of_device addr Others) (record {
    sums = λ a b. refl;
    packet = packet_others;
    refusal = λ front event reason expected.
        no_refusal (λ d. d.others) refl (λ at. refl) (said_device front)
        ∙ sym (no_other_is_refusal reason (cond (is_address addr (said_device front)) 1 0));
    other = λ at. as_one (nat_eq at addr);
    bad_token = λ word. refl;
  })

  -- ---- refused legs, at any place

  abbrev pub nacks : WhatData → ℕ
  nacks what = sum_by (λ at. of_device addr (Nacks at) what) nack_places

  packet_nacks : (t : TransactionData) → (counted addr t).refused ≡ packet_weight nacks t
  packet_nacks (Write parts) = sym (no_parts_weigh nacks (λ i n p. refl) 1 (length parts) parts)
  packet_nacks (Read t) = refl
  packet_nacks (Call t) = refl
  packet_nacks (Refused t) =
      omega (
        arith,
        no_parts_weigh nacks (λ i n p. refl) 1 (length t.parts + 1) t.parts,
        nack_has_one_place (nack_place t.sent t.at_read) (cond (nat_eq t.addr addr) 1 0),
        as_one (nat_eq t.addr addr),
      )
  packet_nacks (Alert t) = refl
  packet_nacks NoAlert = refl

  pub nacks_agree : Agrees (λ c. (c.of_device addr).refused) nacks
  nacks_agree = of_one_device addr (λ d. d.refused) nacks (record {
    sums = λ a b. refl;
    packet = packet_nacks;
    refusal = λ front event reason expected.
        no_refusal (λ d. d.refused) refl (λ at. refl) (said_device front)
        ∙ sym (refusal_has_no_place reason (cond (is_address addr (said_device front)) 1 0));
    other = λ at. refl;
    bad_token = λ word. refl;
  })

  -- ---- refused events, for any reason

  abbrev pub refusals : WhatData → ℕ
  refusals what = sum_by (λ reason. of_device addr (Refusals reason) what) reasons

  packet_refusals : (t : TransactionData) → (counted addr t).refusals ≡ packet_weight refusals t
  packet_refusals (Write parts) = sym (no_parts_weigh refusals (λ i n p. refl) 1 (length parts) parts)
  packet_refusals (Read t) = refl
  packet_refusals (Call t) = refl
  packet_refusals (Refused t) =
      omega (
        arith,
        no_parts_weigh refusals (λ i n p. refl) 1 (length t.parts + 1) t.parts,
        nack_has_no_reason (nack_place t.sent t.at_read) (cond (nat_eq t.addr addr) 1 0),
      )
  packet_refusals (Alert t) = refl
  packet_refusals NoAlert = refl

  pub refusals_agree : Agrees (λ c. (c.of_device addr).refusals) refusals
  refusals_agree = of_one_device addr (λ d. d.refusals) refusals (record {
    sums = λ a b. refl;
    packet = packet_refusals;
    refusal = λ front event reason expected.
        one_refusal (said_device front)
        ∙ sym (refusal_has_one_reason reason (cond (is_address addr (said_device front)) 1 0));
    other = λ at. refl;
    bad_token = λ word. refl;
  })
