use Rattle.std.proofs.Common.{◌≡◌, ◌++◌, ◌+◌, ◌*◌, ◌≤◌, List, length, map, drop, true}
use Rattle.pmb_bus.specs.Event.{canonical_text}
use Rattle.pmb_transaction.specs.Transaction.{part_data}
use Rattle.pmb_writer.specs.machine.Legs.{LegData, legs_events, part_leg}
use Rattle.pmb_writer.proofs.legs.LegsToCome.append.Given as goal

-- The text so far and that of the legs that are left is the text of all.
abbrev pub invariant-loop-part : goal.invariant-loop-part
invariant-loop-part g l = record {
  text_is : (others : List LegData)
      → l.text.items ++ canonical_text (legs_events true l.crc
      (map (part_leg l.fn.self.profile.now) (map part_data (drop l.part-index l.fn.self.parts.now)) ++ others))
      ≡ l.fn.text.items ++ canonical_text (legs_events true 0
      (map (part_leg l.fn.self.profile.now) (map part_data l.fn.self.parts.now) ++ others));
  longer : length l.text.items ≤ length l.fn.text.items + 1314 * l.part-index;
}
