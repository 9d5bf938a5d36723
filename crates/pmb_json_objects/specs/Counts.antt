-- The last objects: how often each device came, and the totals.
use Rattle.std.specs.Prelude.{ℕ, ◌+◌, Bool, true, false, not, nat_eq, Option, Some, None, List, [], ◌∷◌, ◌++◌, codes}
use Rattle.std.specs.Prelude.{count_by, filter, map}
use Rattle.std.specs.List.{range_with_len}
use Rattle.pmb_command.specs.Parts.{DeviceParts}
use Rattle.pmb_io.specs.Count.{capped}
use Rattle.pmb_json_text.specs.Member.{Member, named, count}
use Rattle.pmb_transaction.specs.Transaction.{PartData, TransactionData, Write, Read, Call, Refused, Alert, NoAlert}
use Rattle.pmb_json_objects.specs.Members.{device_members, kind_member}
use Rattle.pmb_json_objects.specs.Object.{Object, of_device, of_none}

-- how often a device came
pub record DeviceData : Type 0 where
  pub writes : ℕ
  pub reads : ℕ
  pub calls : ℕ
  pub refused : ℕ
  pub refusals : ℕ
  pub others : ℕ

abbrev pub none_counted : DeviceData
none_counted = record { writes = 0; reads = 0; calls = 0; refused = 0; refusals = 0; others = 0 }

abbrev pub sum_of : DeviceData → DeviceData → DeviceData
sum_of a b = record {
  writes = a.writes + b.writes;
  reads = a.reads + b.reads;
  calls = a.calls + b.calls;
  refused =
      a.refused + b.refused;
  refusals = a.refusals + b.refusals;
  others = a.others + b.others;
}

abbrev pub one_if : Bool → ℕ
one_if true = 1
one_if false = 0

-- how many of the parts are to an address
abbrev pub parts_to : ℕ → List PartData → ℕ
parts_to addr parts = count_by (λ part. nat_eq part.addr addr) parts

-- so many of one sort, and nothing else
abbrev pub writes_alone : ℕ → DeviceData
writes_alone n = record none_counted { writes = n }

abbrev pub reads_alone : ℕ → DeviceData
reads_alone n = record none_counted { reads = n }

abbrev pub calls_alone : ℕ → DeviceData
calls_alone n = record none_counted { calls = n }

abbrev pub refusals_alone : ℕ → DeviceData
refusals_alone n = record none_counted { refusals = n }

abbrev pub others_alone : ℕ → DeviceData
others_alone n = record none_counted { others = n }

-- A transaction counts for each device that it names: each part as a write, those before a
-- refused leg too. Alerts count for none.
abbrev pub counted : ℕ → TransactionData → DeviceData
counted addr (Write parts) = writes_alone (parts_to addr parts)
counted addr (Read t) = reads_alone (one_if (nat_eq t.addr addr))
counted addr (Call t) = calls_alone (one_if (nat_eq t.addr addr))
counted addr (Refused t) =
    record none_counted { writes = parts_to addr t.parts; refused = one_if (nat_eq t.addr addr) }
counted addr (Alert t) = none_counted
counted addr NoAlert = none_counted

-- a refusal counts where it names a device
abbrev pub counted_refusal : ℕ → Option ℕ → DeviceData
counted_refusal addr None = none_counted
counted_refusal addr (Some device) = refusals_alone (one_if (nat_eq device addr))

-- an other counts for its address
abbrev pub counted_other : ℕ → ℕ → DeviceData
counted_other addr other = others_alone (one_if (nat_eq other addr))

-- whether it came at all
abbrev pub has_come : DeviceData → Bool
has_come c = not (nat_eq (c.writes + c.reads + c.calls + c.refused + c.refusals + c.others) 0)

-- ---- a capture

-- of each device, and in all
pub record CountsData : Type 0 where
  pub of_device : ℕ → DeviceData
  pub packets : ℕ
  pub refusals : ℕ
  pub bad_tokens : ℕ
  pub others : ℕ

abbrev pub nothing_counted : CountsData
nothing_counted = record { of_device = λ addr. none_counted; packets = 0; refusals = 0; bad_tokens = 0; others = 0 }

abbrev pub after_packet : CountsData → TransactionData → CountsData
after_packet c t = record c {
  of_device = λ addr. sum_of (c.of_device addr) (counted addr t);
  packets = c.packets + 1;
}

-- an event was refused in a packet to this device, if it says one
abbrev pub after_refusal : CountsData → Option ℕ → CountsData
after_refusal c device = record c {
  of_device = λ addr. sum_of (c.of_device addr) (counted_refusal addr device);
  refusals = c.refusals + 1;
}

abbrev pub after_bad_token : CountsData → CountsData
after_bad_token c = record c { bad_tokens = c.bad_tokens + 1 }

-- a packet came to this address, which speaks no PMBus: it is neither a packet nor a refusal
abbrev pub after_other : CountsData → ℕ → CountsData
after_other c other = record c {
  of_device = λ addr. sum_of (c.of_device addr) (counted_other addr other);
  others = c.others + 1;
}

-- ---- their objects

-- others, where the profile says which addresses these have
abbrev pub others_members : Bool → ℕ → List Member
others_members false others = []
others_members true others = named (codes "others") (count (capped others)) ∷ []

abbrev pub counts_members : Bool → DeviceData → List Member
counts_members gives_others c =
    named (codes "writes") (count (capped c.writes)) ∷ named (codes "reads") (count (capped c.reads))
    ∷ named (codes "calls") (count (capped c.calls))
    ∷ named (codes "refused") (count (capped c.refused)) ∷ named (codes "refusals") (count (capped c.refusals))
    ∷ others_members gives_others c.others

-- the totals
abbrev pub end_object : Bool → CountsData → Object
end_object gives_others c =
    of_none (kind_member (codes "end") ++ named (codes "packets") (count (capped c.packets))
    ∷ named (codes "refusals") (count (capped c.refusals)) ∷ named (codes "bad_tokens") (count (capped c.bad_tokens))
    ∷ others_members gives_others c.others)

module _ (profile : List DeviceParts) (gives_others : Bool) where
  abbrev pub counts_object : ℕ → DeviceData → Object
  counts_object addr c = of_device addr
      (kind_member (codes "device") ++ device_members profile addr ++ counts_members gives_others c)

  -- those of the addresses that came, from the lowest up
  abbrev pub counts_objects : (ℕ → DeviceData) → List Object
  counts_objects counts = map (λ addr. counts_object addr (counts addr))
      (filter (λ addr. has_come (counts addr)) (range_with_len 0 128))

  -- of each device that came, and the totals
  abbrev pub end_objects : CountsData → List Object
  end_objects c = counts_objects c.of_device ++ end_object gives_others c ∷ []
