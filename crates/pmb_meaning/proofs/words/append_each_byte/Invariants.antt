use Rattle.std.proofs.Common.{◌≡◌, ◌+◌, ◌*◌, ◌≤◌, ◌++◌, length, take}
use Rattle.pmb_json_text.specs.declared.item_order.ItemOrder.TheVariants.{First}
use Rattle.pmb_json_text.specs.Member.{place_after}
use Rattle.pmb_meaning.specs.Words.{byte_texts, spaced}
use Rattle.pmb_meaning.proofs.words.append_each_byte.Given as goal

-- the bytes so far
abbrev pub invariant-loop-byte : goal.invariant-loop-byte
invariant-loop-byte g l = record {
  text : l.out.items ≡ l.fn.out.items ++ spaced First (byte_texts (take l.byte-index l.bytes));
  place : l.place ≡ place_after First (take l.byte-index l.bytes);
  short : length l.out.items ≤ length l.fn.out.items + 3 * l.byte-index;
}
