use Rattle.std.proofs.Common.{◌≡◌, ◌+◌, ◌≤◌, ◌++◌, length, take}
use Rattle.pmb_json_text.specs.declared.item_order.ItemOrder.TheVariants.{First}
use Rattle.pmb_json_text.specs.Member.{place_after}
use Rattle.pmb_meaning.specs.Field.{all_parts}
use Rattle.pmb_meaning.specs.Names.{names_of}
use Rattle.pmb_meaning.specs.Words.{fields_words}
use Rattle.pmb_meaning.specs.machine.Room.{fields_room}
use Rattle.pmb_meaning.proofs.words.append_fields.Given as goal

-- the fields so far
abbrev pub invariant-loop-field : goal.invariant-loop-field
invariant-loop-field g l = record {
  text : l.out.items ≡ l.fn.out.items ++ fields_words (names_of l.device) First (all_parts (take l.field-index l.fields));
  place : l.place ≡ place_after First (take l.field-index l.fields);
  short : length l.out.items ≤ length l.fn.out.items + fields_room (all_parts (take l.field-index l.fields));
}
