use Rattle.std.proofs.Common.{◌≡◌, ◌+◌, ◌≤◌, ◌++◌, length, take}
use Rattle.pmb_json_text.specs.declared.item_order.ItemOrder.TheVariants.{First}
use Rattle.pmb_json_text.specs.Member.{place_after}
use Rattle.pmb_meaning.specs.Field.{texts}
use Rattle.pmb_meaning.specs.Words.{spaced}
use Rattle.pmb_meaning.specs.machine.Room.{words_room}
use Rattle.pmb_meaning.proofs.words.append_each_name.Given as goal

-- the names so far
abbrev pub invariant-loop-name : goal.invariant-loop-name
invariant-loop-name g l = record {
  text : l.out.items ≡ l.fn.out.items ++ spaced First (texts (take l.name-index l.names));
  place : l.place ≡ place_after First (take l.name-index l.names);
  short : length l.out.items ≤ length l.fn.out.items + words_room (texts (take l.name-index l.names));
}
