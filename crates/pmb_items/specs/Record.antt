-- The record of an item: 680 bytes, one field after the other, numbers with their low byte first. C has a struct of
-- this layout, in which each field is aligned.
use Rattle.std.specs.Prelude.{ℕ, ℤ, List, [], ◌∷◌, ◌++◌}
use Rattle.std.specs.Int.{cast_unsigned, to_le_bytes, w16, w64}
use Rattle.pmb_items.specs.declared.item.Item.{Item}
use Rattle.pmb_items.specs.declared.item.ItemLeg.{ItemLeg}
use Rattle.pmb_items.specs.declared.item.ItemText.{ItemText}

-- a number with a sign, in two's complement
unfoldable pub signed_bytes : ℤ → List ℕ
signed_bytes number = to_le_bytes w64 (cast_unsigned w64 number)

-- where it begins, which part it is, and the value: 56 bytes
abbrev pub where_bytes : Item → List ℕ
where_bytes item = to_le_bytes w64 item.head.at ++ (to_le_bytes w64 item.head.line ++ to_le_bytes w64 item.head.column)

abbrev pub part_bytes : Item → List ℕ
part_bytes item = to_le_bytes w64 item.part.number ++ to_le_bytes w64 item.part.count

abbrev pub value_bytes : Item → List ℕ
value_bytes item = signed_bytes item.number.numerator ++ signed_bytes item.number.denominator

-- the command, the packet error code and the device: 12 bytes
abbrev pub command_bytes : Item → List ℕ
command_bytes item =
    to_le_bytes w16 item.command.code ++ (to_le_bytes w16 item.command.page ++ to_le_bytes w16 item.command.phase)

abbrev pub device_bytes : Item → List ℕ
device_bytes item = to_le_bytes w16 item.pec.there ++ (to_le_bytes w16 item.pec.right ++ to_le_bytes w16 item.device)

-- kinds: 8 bytes
abbrev pub kind_bytes : Item → List ℕ
kind_bytes item =
    item.kind ∷ item.refused ∷ item.number.kind ∷ item.number.assumed
    ∷ item.refusal.reason ∷ item.refusal.expected ∷ item.refusal.got ∷ item.refusal.byte ∷ []

-- 260 bytes
abbrev pub leg_bytes : ItemLeg → List ℕ
leg_bytes leg = to_le_bytes w16 leg.length ++ leg.bytes

-- 42 bytes
abbrev pub text_bytes : ItemText → List ℕ
text_bytes text = to_le_bytes w16 text.length ++ text.bytes

-- the bytes that were sent and replied, the time, and a word that is no token: 604 bytes
abbrev pub text_part : Item → List ℕ
text_part item = leg_bytes item.sent ++ (leg_bytes item.reply ++ (text_bytes item.head.time ++ text_bytes item.word))

abbrev pub item_bytes : Item → List ℕ
item_bytes item =
    where_bytes item ++ (part_bytes item ++ (value_bytes item ++ (command_bytes item ++ (device_bytes item
    ++ (kind_bytes item ++ text_part item)))))
