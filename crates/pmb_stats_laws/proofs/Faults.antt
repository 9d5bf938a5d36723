-- The `faults` of --fail-on are the bits that reads find set: for the law `faults_are_told`.
use Rattle.std.proofs.Common.{◌≡◌, ℕ, zero, suc, ◌+◌, ◌*◌, ◌/◌, ◌%◌, ◌^◌, ◌<◌, ◌≤◌, Bool, true, ◌&&◌}
use Rattle.std.proofs.Common.{cond, Option, Some, None, List, [], ◌∷◌, ap, arith, inl, inr, nat_eq, refl, subst}
use Rattle.std.proofs.Common.{sym, ◌∙◌}
use Rattle.std.proofs.lemmas.Bool.{and_from, and_parts, cases_Bool, cases_eq, cases_lt, eq-eqb, eqb-true, or_left}
use Rattle.std.proofs.lemmas.Bool.{or_cases, or_right}
use Rattle.std.proofs.lemmas.List.Sums.{sum_by-cons}
use Rattle.std.proofs.Math.Nat.{div-eq_of_lt, pow-le-pow_right}
use Rattle.std.specs.List.{AllByRecursion}
use Rattle.pmb_command.specs.declared.entry.Kind.{Kind}
use Rattle.pmb_command.specs.declared.entry.Kind.TheVariants.{Raw, Number, Vout, VoutSigned, Status, Text}
use Rattle.pmb_command.specs.Parts.{CommandParts, DeviceParts, NamedBit, device_with, named_bits}
use Rattle.pmb_command.specs.Wire.{AreByteValues}
use Rattle.pmb_command_data.specs.Bits.{bit_text_in}
use Rattle.pmb_facts.specs.Fact.{FactData, WhatData}
use Rattle.pmb_facts.specs.Fact as fact
use Rattle.pmb_json_objects.specs.Seen.{command_of}
use Rattle.pmb_note.specs.Note.{is_set}
use Rattle.pmb_observed.specs.Spot.{is_of, is_register}
use Rattle.pmb_stats.specs.BitCounts.{IsRegister, bit_count, finds_set, has_bit}
use Rattle.pmb_stats_counts.specs.Fails.{some}
use Rattle.pmb_stats_counts.specs.Faults.{finds_fault, has_fault_bit, is_fault, is_fault_set, is_status, reads_fault}
use Rattle.pmb_stats_counts.specs.Faults.{register_has_fault}
use Rattle.pmb_stats_laws.specs.Faults.{FaultIsFound, shown_name}

-- ---- registers

same_kind : (kind : Kind) → is_status kind ≡ is_register kind
same_kind Raw = refl
same_kind (Number format) = refl
same_kind Vout = refl
same_kind VoutSigned = refl
same_kind Status = refl
same_kind Text = refl

finds_parts : (command : Option CommandParts) (code : ℕ) (reply : List ℕ)
    → finds_fault command code reply ≡ true
    → (is_of is_register command ≡ true) × (register_has_fault (named_bits command) code reply ≡ true)
finds_parts None code reply is = cc
finds_parts (Some command) code reply is =
    let both = and_parts (is_status command.entry.kind) (register_has_fault command.bits code reply) is in
    (sym (same_kind command.entry.kind) ∙ both.0, both.1)

finds_from : (command : Option CommandParts) (code : ℕ) (reply : List ℕ) → is_of is_register command ≡ true
    → register_has_fault (named_bits command) code reply ≡ true → finds_fault command code reply ≡ true
finds_from None code reply register fault = cc
finds_from (Some command) code reply register fault =
    and_from (is_status command.entry.kind) (register_has_fault command.bits code reply)
    (same_kind command.entry.kind ∙ register) fault

-- ---- bits

-- one of the lowest bits, that many, which is set and tells of a fault
record FaultBit (names : List NamedBit) (code value most : ℕ) : Type 0 where
  bit : ℕ
  below : bit < most
  set : is_set value bit ≡ true
  fault : is_fault (bit_text_in names code bit) ≡ true

fault_bit : (names : List NamedBit) (code value most : ℕ) → has_fault_bit names code value most ≡ true
    → FaultBit names code value most
unfolding has_fault_bit
fault_bit names code value zero is = cc
fault_bit names code value (suc bit) is =
    elim (or_cases (is_fault_set names code value bit) (has_fault_bit names code value bit) is) [
      | inl here ↦
          let both = and_parts (is_set value bit) (is_fault (bit_text_in names code bit)) here in
          record { bit = bit; below = omega arith; set = both.0; fault = both.1 }
      | inr there ↦
          let one = fault_bit names code value bit there in
          record { bit = one.bit; below = omega (arith, one.below); set = one.set; fault = one.fault }
    ]

is_fault_bit : (names : List NamedBit) (code value most bit : ℕ) → bit < most → is_set value bit ≡ true
    → is_fault (bit_text_in names code bit) ≡ true → has_fault_bit names code value most ≡ true
unfolding has_fault_bit
is_fault_bit names code value zero bit below set fault = absurd (omega (arith, below))
is_fault_bit names code value (suc most) bit below set fault =
    elim (cases_eq bit most) [
      | inl same ↦
          or_left (is_fault_set names code value most) (has_fault_bit names code value most)
          (subst (λ b. is_fault_set names code value b ≡ true) same
          (and_from (is_set value bit) (is_fault (bit_text_in names code bit)) set fault))
      | inr other ↦
          or_right (is_fault_set names code value most) (has_fault_bit names code value most)
          (is_fault_bit names code value most bit (omega (arith, below, other)) set fault)
    ]

-- a byte has 8 bits
none_above : (byte bit : ℕ) → byte < 256 → 8 ≤ bit → is_set byte bit ≡ true → ⊥
none_above byte bit small high set =
    let big : 2 ^ 8 ≤ 2 ^ bit = pow-le-pow_right (omega arith) high in
    let less : byte < 2 ^ bit = omega (arith, small, big) in
    let none : byte / 2 ^ bit ≡ 0 = div-eq_of_lt less in
    let one : byte / 2 ^ bit % 2 ≡ 1 = eqb-true (byte / 2 ^ bit % 2) 1 set in
    omega (arith, none, one)

-- ---- one fact

-- what a read replies are bytes
abbrev pub HasBytes : WhatData → Type 0
HasBytes (fact.Write part parts p) = Unit {0}
HasBytes (fact.Read t) = AreByteValues t.reply
HasBytes (fact.Call t) = Unit {0}
HasBytes (fact.Refused parts addr sent at_read) = Unit {0}
HasBytes (fact.Alert t) = Unit {0}
HasBytes fact.NoAlert = Unit {0}
HasBytes (fact.Other addr) = Unit {0}
HasBytes (fact.Refusal front event reason expected) = Unit {0}
HasBytes (fact.BadToken word) = Unit {0}

record ReplyHasFault (names : List NamedBit) (code : ℕ) (reply : List ℕ) : Type 0 where
  bit : ℕ
  within : bit < 16
  set : has_bit bit reply ≡ true
  fault : is_fault (bit_text_in names code bit) ≡ true

fault_in : (names : List NamedBit) (code : ℕ) (reply : List ℕ) → register_has_fault names code reply ≡ true
    → ReplyHasFault names code reply
fault_in names code [] is = cc
fault_in names code (byte ∷ []) is =
    let one = fault_bit names code byte 8 is in
    record { bit = one.bit; within = omega (arith, one.below); set = one.set; fault = one.fault }
fault_in names code (low ∷ high ∷ []) is =
    let one = fault_bit names code (low + 256 * high) 16 is in
    record { bit = one.bit; within = one.below; set = one.set; fault = one.fault }
fault_in names code (a ∷ b ∷ c ∷ more) is = cc

has_fault : (names : List NamedBit) (code : ℕ) (reply : List ℕ) (bit : ℕ) → AreByteValues reply
    → bit < 16 → has_bit bit reply ≡ true → is_fault (bit_text_in names code bit) ≡ true
    → register_has_fault names code reply ≡ true
has_fault names code [] bit small within set fault = cc
has_fault names code (byte ∷ []) bit small within set fault =
    elim (cases_lt bit 8) [
      | inl below ↦ is_fault_bit names code byte 8 bit below set fault
      | inr high ↦ absurd (none_above byte bit small.0 high set)
    ]
has_fault names code (low ∷ high ∷ []) bit small within set fault =
    is_fault_bit names code (low + 256 * high) 16 bit within set fault
has_fault names code (a ∷ b ∷ c ∷ more) bit small within set fault = cc

module _ (profile : List DeviceParts) where
  -- what a fact finds
  record FactHasFault (what : WhatData) : Type 0 where
    addr : ℕ
    code : ℕ
    bit : ℕ
    register : IsRegister profile addr code
    within : bit < 16
    fault : is_fault (shown_name profile addr code bit) ≡ true
    set : finds_set addr code bit what ≡ true

  found_by : (what : WhatData) → reads_fault profile what ≡ true → FactHasFault what
  found_by (fact.Write part parts p) is = cc
  found_by (fact.Read t) is =
      let command : Option CommandParts = command_of (device_with t.addr profile) t.code in
      let both = finds_parts command t.code t.reply is in
      let one = fault_in (named_bits command) t.code t.reply both.1 in
      record {
        addr = t.addr;
        code = t.code;
        bit = one.bit;
        register = both.0;
        within = one.within;
        fault = one.fault;
        set = and_from (nat_eq t.addr t.addr) (nat_eq t.code t.code && has_bit one.bit t.reply)
            (eq-eqb t.addr t.addr refl)
            (and_from (nat_eq t.code t.code) (has_bit one.bit t.reply) (eq-eqb t.code t.code refl) one.set);
      }
  found_by (fact.Call t) is = cc
  found_by (fact.Refused parts addr sent at_read) is = cc
  found_by (fact.Alert t) is = cc
  found_by fact.NoAlert is = cc
  found_by (fact.Other addr) is = cc
  found_by (fact.Refusal front event reason expected) is = cc
  found_by (fact.BadToken word) is = cc

  module _ (addr code bit : ℕ) (register : IsRegister profile addr code) (within : bit < 16)
      (fault : is_fault (shown_name profile addr code bit) ≡ true) where
    finds : (what : WhatData) → HasBytes what → finds_set addr code bit what ≡ true → reads_fault profile what ≡ true
    finds (fact.Write part parts p) bytes set = cc
    finds (fact.Read t) bytes set =
        let first = and_parts (nat_eq t.addr addr) (nat_eq t.code code && has_bit bit t.reply) set in
        let second = and_parts (nat_eq t.code code) (has_bit bit t.reply) first.1 in
        let device : addr ≡ t.addr = sym (eqb-true t.addr addr first.0) in
        let command : code ≡ t.code = sym (eqb-true t.code code second.0) in
        let there : IsRegister profile t.addr t.code =
        subst (λ c. IsRegister profile t.addr c) command (subst (λ a. IsRegister profile a code) device register) in
        let tells : is_fault (shown_name profile t.addr t.code bit) ≡ true =
        subst (λ c. is_fault (shown_name profile t.addr c bit) ≡ true) command
        (subst (λ a. is_fault (shown_name profile a code bit) ≡ true) device fault) in
        let its : Option CommandParts = command_of (device_with t.addr profile) t.code in
        finds_from its t.code t.reply there
        (has_fault (named_bits its) t.code t.reply bit bytes within second.1 tells)
    finds (fact.Call t) bytes set = cc
    finds (fact.Refused parts at sent at_read) bytes set = cc
    finds (fact.Alert t) bytes set = cc
    finds fact.NoAlert bytes set = cc
    finds (fact.Other at) bytes set = cc
    finds (fact.Refusal front event reason expected) bytes set = cc
    finds (fact.BadToken word) bytes set = cc

    -- ---- all facts

    pub found_in : (facts : List FactData) → AllByRecursion (λ f. HasBytes f.what) facts
        → 0 < bit_count addr code bit facts → some (reads_fault profile) facts ≡ true
    found_in [] bytes found = absurd (omega (arith, found))
    found_in (f ∷ facts) bytes found =
        let sum = sum_by-cons (λ (g : FactData). cond {A = ℕ} (finds_set addr code bit g.what) 1 0) f facts in
        elim (cases_Bool (finds_set addr code bit f.what)) [
          | inl is ↦
              or_left (reads_fault profile f.what) (some (reads_fault profile) facts) (finds f.what bytes.0 is)
          | inr is ↦
              let none : cond {A = ℕ} (finds_set addr code bit f.what) 1 0 ≡ 0
              = ap (λ (b : Bool). cond {A = ℕ} b 1 0) is in
              or_right (reads_fault profile f.what) (some (reads_fault profile) facts)
              (found_in facts bytes.1 (omega (arith, sum, none, found)))
        ]

  pub is_found : (facts : List FactData) → some (reads_fault profile) facts ≡ true → FaultIsFound profile facts
  is_found [] is = cc
  is_found (f ∷ facts) is =
      elim (or_cases (reads_fault profile f.what) (some (reads_fault profile) facts) is) [
        | inl here ↦
            let one = found_by f.what here in
            let sum = sum_by-cons (λ (g : FactData). cond {A = ℕ} (finds_set one.addr one.code one.bit g.what) 1 0) f
            facts in
            let this : cond {A = ℕ} (finds_set one.addr one.code one.bit f.what) 1 0 ≡ 1
            = ap (λ (b : Bool). cond {A = ℕ} b 1 0) one.set in
            record {
              addr = one.addr;
              code = one.code;
              bit = one.bit;
              register = one.register;
              within = one.within;
              fault = one.fault;
              found = omega (arith, sum, this);
            }
        | inr there ↦
            let one = is_found facts there in
            let sum = sum_by-cons (λ (g : FactData). cond {A = ℕ} (finds_set one.addr one.code one.bit g.what) 1 0) f
            facts in
            record {
              addr = one.addr;
              code = one.code;
              bit = one.bit;
              register = one.register;
              within = one.within;
              fault = one.fault;
              found = omega (arith, sum, one.found);
            }
      ]
