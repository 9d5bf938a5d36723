use Rattle.std.proofs.Common.{◌≡◌, ◌+◌, ◌≤◌, ◌++◌, length, map, take}
use Rattle.pmb_json_text.specs.declared.item_order.ItemOrder.TheVariants.{First}
use Rattle.pmb_json_text.specs.Json.{string}
use Rattle.pmb_json_text.specs.Member.{items_text, place_after}
use Rattle.pmb_meaning.specs.Field.{texts}
use Rattle.pmb_meaning.specs.machine.Room.{words_room}
use Rattle.pmb_meaning.proofs.member.append_items.Given as goal

-- the texts so far
abbrev pub invariant-loop-name : goal.invariant-loop-name
invariant-loop-name g l = record {
  text : l.out.items ≡ l.fn.out.items ++ items_text First (map string (texts (take l.name-index l.names)));
  place : l.place ≡ place_after First (take l.name-index l.names);
  short : length l.out.items ≤ length l.fn.out.items + words_room (texts (take l.name-index l.names));
}
