-- What becomes of a recording, and what is told, by what a line gives.
use Rattle.std.specs.Prelude.{ℕ, not, ◌+◌, ◌==◌, true, false, Bool, Option, Some, None, List, [], ◌∷◌, ◌++◌, if◌then◌else◌}
use Rattle.std.specs.Prelude.{codes, take}
use Rattle.std.specs.Str.{bytes_eq}
use Rattle.pmb_io.specs.Count.{capped}
use Rattle.pmb_io.specs.declared.tally.Tally.{Tally}
use Rattle.pmb_recording.specs.Told.{at_line, cut_line, reason_text, failed_line, lost_line, no_packets_line}
use Rattle.pmb_recording.specs.Told.{packet_text}
use Rattle.pmb_recording.specs.Told.{passed_line, time_line, too_long_line, kind_name, reply_hidden_line}
use Rattle.pmb_recording.specs.Told.{bytes_hidden_line}
use Rattle.pmb_recording.specs.Told.{Reason}
use Rattle.pmb_recording.specs.declared.passed.Kind.{Kind}
use Rattle.pmb_recording.specs.declared.recording.PacketLines.{PacketLines}
use Rattle.pmb_recording.specs.declared.recording.Recording.{Recording}

-- what a machine has become, and the text that it told
pub record Step (S : Type 0) : Type 0 where
  pub now : S
  pub text : List ℕ

-- nothing is told
abbrev pub quietly : {S : Type 0} → S → Step S
quietly state = record { now = state; text = [] }

-- the most bytes of a text that is kept of a line
abbrev pub most_text : ℕ
most_text = 65540

-- ---- the start

-- nothing came yet
abbrev pub nothing : Recording
nothing = record {
  line = 0;
  packet = None;
  wire = record { items = [] };
  time = record { items = [] };
  is_skipping = false;
  follows_bus = false;
  bus = record { items = [] };
  packets = 0;
  troubles = 0;
  other_buses = 0;
  other_kind = 0;
}

-- The first line whose bus can be read settles it.
abbrev pub following : Recording → List ℕ → Recording
following r name = if r.follows_bus then r else record r { follows_bus = true; bus = record { items = name } }

-- The bus of a name is followed from the start. Of one that is longer than a line so much is kept that no line has it.
abbrev pub fresh : Option (List ℕ) → Recording
fresh (Some name) = following nothing (take most_text name)
fresh None = nothing

-- ---- counts

-- one more line
abbrev pub next_line : Recording → Recording
next_line r = record r { line = capped (r.line + 1) }

-- one more line that tells of something missing
abbrev pub with_trouble : Recording → Recording
with_trouble r = record r { troubles = capped (r.troubles + 1) }

-- ---- a packet under way is dropped

abbrev pub cut_text : Option PacketLines → List ℕ
cut_text (Some lines) = cut_line lines.last lines.first
cut_text None = []

abbrev pub counted_cut : Option PacketLines → Recording → Recording
counted_cut (Some lines) r = with_trouble r
counted_cut None r = r

-- no packet is under way any more
abbrev pub without_packet : Recording → Recording
without_packet r = record r { packet = None }

-- the packet under way, where there is one, is cut
abbrev pub cut : Recording → Step Recording
cut r = record { now = without_packet (counted_cut r.packet r); text = cut_text r.packet }

-- ---- what a line gives

-- A heading: the recording begins anew.
abbrev pub at_heading : Recording → Step Recording
at_heading r = record { now = record ((cut r).now) { is_skipping = false }; text = (cut r).text }

-- Lines that can't begin a packet are skipped from here on.
abbrev pub skipping : Recording → Recording
skipping r = record r { is_skipping = true }

-- A fault.
abbrev pub at_fault : Recording → Reason → Step Recording
at_fault r reason = record {
  now = skipping (with_trouble (cut r).now);
  text = (cut r).text ++ at_line r.line (reason_text reason);
}

-- A fault of a line that may itself end a packet, whatever is wrong with it: what follows is skipped, unless it does.
abbrev pub at_fault_ending : Recording → Reason → Bool → Step Recording
at_fault_ending r reason ends = record {
  now = record ((at_fault r reason).now) { is_skipping = not ends };
  text = (at_fault r reason).text;
}

-- Lost events.
abbrev pub at_loss : Recording → Option (List ℕ) → Step Recording
at_loss r count = record {
  now = skipping (with_trouble (cut r).now);
  text = (cut r).text ++ lost_line r.line count;
}

-- a time with its unit, where there is a time
abbrev pub with_unit : List ℕ → List ℕ → List ℕ
with_unit [] unit = []
with_unit (byte ∷ time) unit = (byte ∷ time) ++ unit

abbrev pub with_time : Recording → List ℕ → Recording
with_time r time = record r { time = record { items = time } }

-- An event that begins a packet, with its time.
abbrev pub begun : Recording → List ℕ → Recording
begun r time = record r {
  packet = Some (record { first = r.line; last = r.line });
  wire = record { items = [] };
  time = record { items = time };
  is_skipping = false;
}

abbrev pub at_begin : Recording → List ℕ → Step Recording
at_begin r time = record { now = begun (cut r).now time; text = (cut r).text }

-- Another event of the packet under way.
abbrev pub in_line : ℕ → Option PacketLines → Option PacketLines
in_line line (Some lines) = Some (record lines { last = line })
in_line line None = None

abbrev pub given : Recording → Recording
given r = record r { packet = in_line r.line r.packet }

-- The end of what is skipped.
abbrev pub skipped : Recording → Recording
skipped r = record r { is_skipping = false }

-- The packet under way is whole.
abbrev pub at_packet : Recording → Step Recording
at_packet r = record {
  now = record r { packet = None; packets = capped (r.packets + 1) };
  text = time_line r.time.items ++ packet_text r.wire.items;
}

-- The first line of the packet under way.
abbrev pub first_line : Option PacketLines → ℕ
first_line (Some lines) = lines.first
first_line None = 0

-- The transfer under way failed.
abbrev pub at_failure : Recording → List ℕ → Step Recording
at_failure r result = record { now = without_packet r; text = failed_line r.line result r.wire.items }

-- The bytes of this line have no room in the packet under way. What follows is skipped, unless the line ends it.
abbrev pub at_too_long : Recording → Bool → Step Recording
at_too_long r ends = record {
  now = record (with_trouble (without_packet r)) { is_skipping = not ends };
  text = too_long_line r.line (first_line r.packet);
}

-- The transfer under way went through, and the recording doesn't show its reply, or its bytes.
abbrev pub at_hidden_reply : Recording → Step Recording
at_hidden_reply r = record {
  now = with_trouble (without_packet r);
  text = reply_hidden_line r.line (first_line r.packet);
}

abbrev pub at_hidden_bytes : Recording → Step Recording
at_hidden_bytes r = record {
  now = with_trouble (without_packet r);
  text = bytes_hidden_line r.line (first_line r.packet);
}

-- ---- lines that are passed over

abbrev pub past_other_bus : Recording → Recording
past_other_bus r = record r { other_buses = capped (r.other_buses + 1) }

abbrev pub past_other_kind : Recording → Recording
past_other_kind r = record r { other_kind = capped (r.other_kind + 1) }

-- a line of the bus that is followed
abbrev pub is_followed : Recording → List ℕ → Bool
is_followed r name = bytes_eq r.bus.items name

-- ---- the end

abbrev pub passed_kind : Option Kind → ℕ → List ℕ
passed_kind (Some kind) count = passed_line count (kind_name kind)
passed_kind None count = []

-- what is told at the end, where lines of the other kind were passed over
abbrev pub end_text : Recording → Option Kind → List ℕ
end_text r other =
    passed_kind other r.other_kind
    ++ (passed_line r.other_buses (codes "other buses") ++ no_packets_line r.packets)

-- that there are no packets is told too, and counts as something that is missing
abbrev pub counted_none : Recording → Recording
counted_none r = if r.packets == 0 then with_trouble r else r

abbrev pub at_end : Recording → Option Kind → Step Recording
at_end r other = record { now = counted_none (cut r).now; text = (cut r).text ++ end_text r other }

-- packets, and what tells that something is missing
abbrev pub tally_of : Recording → Tally
tally_of r = record { packets = r.packets; refusals = r.troubles }
