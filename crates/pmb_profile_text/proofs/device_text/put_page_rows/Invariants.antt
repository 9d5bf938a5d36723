use Rattle.std.proofs.Common.{◌≡◌, Some}
use Rattle.std.specs.List.{flat_map, range_with_len}
use Rattle.pmb_command.specs.Entry.{entry_parts}
use Rattle.pmb_command.specs.Parts.{CommandParts, command_with}
use Rattle.pmb_io.specs.Outgoing.{PutsText}
use Rattle.pmb_profile_text.specs.Table.{page_row}
use Rattle.pmb_profile_text.proofs.device_text.put_page_rows.Given as goal

-- the rows of the pages so far
abbrev pub invariant-loop-page : goal.invariant-loop-page
invariant-loop-page g l = record {
  put : (command : CommandParts) → command_with l.entry.code l.device.commands ≡ Some command
      → command.entry ≡ entry_parts l.entry
      → PutsText (g.W.Sink.told l.fn.writer).held l.fn.waiting.items (g.W.Sink.told l.writer).held l.waiting.items
      (flat_map (page_row l.device command) (range_with_len 0 l.page));
  failures : (g.W.Sink.told l.writer).failures ≡ (g.W.Sink.told l.fn.writer).failures;
}
