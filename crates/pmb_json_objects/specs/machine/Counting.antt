-- What is kept of counts: each number as a u64, at most the greatest.
use Rattle.std.specs.Prelude.{◌≡◌, ℕ, ◌<◌, if◌then◌else◌, nat_eq, Some, List, length, slice_get}
use Rattle.pmb_io.specs.Count.{capped}
use Rattle.pmb_json_objects.specs.declared.counts.Counts.{Counts}
use Rattle.pmb_json_objects.specs.declared.counts.DeviceCounts.{DeviceCounts}
use Rattle.pmb_json_objects.specs.declared.counts.What.{What}
use Rattle.pmb_json_objects.specs.declared.counts.What.TheVariants.{Write, Read, Call, Refused, Refusal, Other}
use Rattle.pmb_json_objects.specs.Counts.{CountsData, DeviceData, calls_alone, none_counted, others_alone, reads_alone}
use Rattle.pmb_json_objects.specs.Counts.{refusals_alone, writes_alone}

abbrev pub device_counts : DeviceData → DeviceCounts
device_counts d = record {
  writes = capped d.writes;
  reads = capped d.reads;
  calls = capped d.calls;
  refused =
      capped d.refused;
  refusals = capped d.refusals;
  others = capped d.others;
}

-- one of a sort
abbrev pub one_of : What → DeviceData
one_of Write = writes_alone 1
one_of Read = reads_alone 1
one_of Call = calls_alone 1
one_of Refused = record none_counted { refused = 1 }
one_of Refusal = refusals_alone 1
one_of Other = others_alone 1

-- .. of the device with an address
abbrev pub one_at : ℕ → What → ℕ → DeviceData
one_at addr what other = if nat_eq addr other then one_of what else none_counted

-- those of each address of seven bits
pub record AreCounts (devices : List DeviceCounts) (of_device : ℕ → DeviceData) : Type 0 where
  pub all : length devices ≡ 128
  pub each : (addr : ℕ) → addr < 128 → slice_get devices addr ≡ Some (device_counts (of_device addr))

pub record CountsAre (counts : Counts) (known : CountsData) : Type 0 where
  pub devices : AreCounts counts.devices known.of_device
  pub packets : counts.packets ≡ capped known.packets
  pub refusals : counts.refusals ≡ capped known.refusals
  pub bad_tokens : counts.bad_tokens ≡ capped known.bad_tokens
  pub others : counts.others ≡ capped known.others
