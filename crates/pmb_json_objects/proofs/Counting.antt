-- What is counted, packet by packet: writes, reads, calls, refused packets and refusals of each
-- device. For `count_transaction`, `count_parts`, `count_refusal` and `count_other` of `src/counts.rt`. One more
-- at an address adds to that device's counts alone; the parts of a write are counted one after the
-- other.
use Rattle.std.proofs.Common.{◌≡◌, ℕ, ◌+◌, ◌<◌, ◌≤◌, Bool, true, false, if◌then◌else◌, nat_eq, Some, List, [], ◌∷◌}
use Rattle.std.proofs.Common.{◌++◌, length, map, take, get_or, refl, sym, ap, ◌∙◌, subst, arith}
use Rattle.std.proofs.lemmas.List.Sums.{sum_by-append}
use Rattle.std.proofs.lemmas.List.{map-append, take_all, take_more}
use Rattle.pmb_transaction.specs.declared.part.Part.{Part}
use Rattle.pmb_transaction.specs.Transaction.{part_data}
use Rattle.pmb_transaction.specs.Transaction.{PartData}
use Rattle.pmb_json_objects.specs.declared.counts.DeviceCounts.{DeviceCounts}
use Rattle.pmb_json_objects.specs.declared.counts.What.TheVariants.{Write, Read, Call, Refused, Refusal, Other}
use Rattle.pmb_json_objects.specs.Counts.{DeviceData, calls_alone, none_counted, one_if, others_alone, parts_to}
use Rattle.pmb_json_objects.specs.Counts.{reads_alone, refusals_alone, sum_of, writes_alone}
use Rattle.pmb_json_objects.specs.machine.Counting.{AreCounts, device_counts, one_at, one_of}

pub alike : (devices : List DeviceCounts) (f g : ℕ → DeviceData) → ((addr : ℕ) → f addr ≡ g addr) → AreCounts devices f
    → AreCounts devices g
alike devices f g same counts = record {
  all = counts.all;
  each = λ addr below. counts.each addr below ∙ ap (λ d. Some (device_counts d)) (same addr);
}

same_numbers : (d e : DeviceData) → d.writes ≡ e.writes → d.reads ≡ e.reads → d.calls ≡ e.calls → d.refused ≡ e.refused
    → d.refusals ≡ e.refusals → d.others ≡ e.others → d ≡ e
same_numbers d e writes reads calls refused refusals others = λ i. record {
  writes = writes i;
  reads = reads i;
  calls = calls i;
  refused = refused i;
  refusals = refusals i;
  others = others i;
}

pub none_more : (d : DeviceData) → d ≡ sum_of d none_counted
none_more d = same_numbers d (sum_of d none_counted) (omega arith) (omega arith) (omega arith) (omega arith)
    (omega arith) (omega arith)

-- ---- one more of a sort, by whether it is that device

read_if : (b : Bool) → (if b then one_of Read else none_counted) ≡ reads_alone (one_if b)
read_if true = refl
read_if false = refl

pub one_read : (d : DeviceData) (addr other : ℕ)
    → sum_of d (one_at addr Read other) ≡ sum_of d (reads_alone (one_if (nat_eq addr other)))
one_read d addr other = ap (sum_of d) (read_if (nat_eq addr other))

call_if : (b : Bool) → (if b then one_of Call else none_counted) ≡ calls_alone (one_if b)
call_if true = refl
call_if false = refl

pub one_call : (d : DeviceData) (addr other : ℕ)
    → sum_of d (one_at addr Call other) ≡ sum_of d (calls_alone (one_if (nat_eq addr other)))
one_call d addr other = ap (sum_of d) (call_if (nat_eq addr other))

refusal_if : (b : Bool) → (if b then one_of Refusal else none_counted) ≡ refusals_alone (one_if b)
refusal_if true = refl
refusal_if false = refl

pub one_refusal : (d : DeviceData) (addr other : ℕ)
    → sum_of d (one_at addr Refusal other) ≡ sum_of d (refusals_alone (one_if (nat_eq addr other)))
one_refusal d addr other = ap (sum_of d) (refusal_if (nat_eq addr other))

other_if : (b : Bool) → (if b then one_of Other else none_counted) ≡ others_alone (one_if b)
other_if true = refl
other_if false = refl

pub one_other : (d : DeviceData) (addr other : ℕ)
    → sum_of d (one_at addr Other other) ≡ sum_of d (others_alone (one_if (nat_eq addr other)))
one_other d addr other = ap (sum_of d) (other_if (nat_eq addr other))

-- a refused leg after parts
refused_if : (d : DeviceData) (n : ℕ) (b : Bool)
    → sum_of (sum_of d (writes_alone n)) (if b then one_of Refused else none_counted)
    ≡ sum_of d (record none_counted { writes = n; refused = one_if b })
refused_if d n true = same_numbers _ _ (omega arith) (omega arith) (omega arith) (omega arith) (omega arith)
    (omega arith)
refused_if d n false = same_numbers _ _ (omega arith) (omega arith) (omega arith) (omega arith) (omega arith)
    (omega arith)

pub parts_and_refused : (d : DeviceData) (n addr other : ℕ)
    → sum_of (sum_of d (writes_alone n)) (one_at addr Refused other)
    ≡ sum_of d (record none_counted { writes = n; refused = one_if (nat_eq addr other) })
parts_and_refused d n addr other = refused_if d n (nat_eq addr other)

-- ---- parts

-- the writes to an address among parts
abbrev pub writes_of : List Part → ℕ → DeviceData
writes_of parts addr = writes_alone (parts_to addr (map part_data parts))

-- one write more
write_if : (d : DeviceData) (n : ℕ) (b : Bool)
    → sum_of (sum_of d (writes_alone n)) (if b then one_of Write else none_counted)
    ≡ sum_of d (writes_alone (n + one_if b))
write_if d n true = same_numbers _ _ (omega arith) (omega arith) (omega arith) (omega arith) (omega arith)
    (omega arith)
write_if d n false = same_numbers _ _ (omega arith) (omega arith) (omega arith) (omega arith) (omega arith)
    (omega arith)

last_counts : (addr : ℕ) (parts : List PartData) (p : PartData)
    → parts_to addr (parts ++ p ∷ []) ≡ parts_to addr parts + one_if (nat_eq p.addr addr)
last_counts addr parts p = sum_by-append (λ part. if nat_eq part.addr addr then 1 else 0) parts (p ∷ [])
    ∙ of_one (nat_eq p.addr addr)
  where
    of_one : (b : Bool) → parts_to addr parts + (0 + (if b then 1 else 0)) ≡ parts_to addr parts + one_if b
    of_one true = refl
    of_one false = refl

pub part_more : (devices : List DeviceCounts) (each : ℕ → DeviceData) (parts : List Part) (i : ℕ) (part : Part)
    → i < length parts → part ≡ get_or parts i part
    → AreCounts devices (λ addr. sum_of (sum_of (each addr) (writes_of (take i parts) addr))
    (one_at part.addr Write addr))
    → AreCounts devices (λ addr. sum_of (each addr) (writes_of (take (i + 1) parts) addr))
part_more devices each parts i part within is counts =
    let more : take (i + 1) parts ≡ take i parts ++ part ∷ [] = take_more parts i part within
    ∙ ap (λ (p : Part). take i parts ++ p ∷ []) (sym is) in
    alike devices _ _
    (λ addr.
    write_if (each addr) (parts_to addr (map part_data (take i parts))) (nat_eq part.addr addr)
    ∙ ap (λ (n : ℕ). sum_of (each addr) (writes_alone n))
    (sym (last_counts addr (map part_data (take i parts)) (part_data part)))
    ∙ ap (λ (ps : List PartData). sum_of (each addr) (writes_alone (parts_to addr ps)))
    (sym (map-append part_data (take i parts) (part ∷ [])))
    ∙ ap (λ (ps : List Part). sum_of (each addr) (writes_of ps addr)) (sym more))
    counts

pub parts_all : (devices : List DeviceCounts) (each : ℕ → DeviceData) (parts : List Part) (i : ℕ) → length parts ≤ i
    → AreCounts devices (λ addr. sum_of (each addr) (writes_of (take i parts) addr))
    → AreCounts devices (λ addr. sum_of (each addr) (writes_of parts addr))
parts_all devices each parts i whole counts =
    subst (λ (ps : List Part). AreCounts devices (λ addr. sum_of (each addr) (writes_of ps addr)))
    (take_all i parts whole) counts
