-- Cells and words, and their colours. Whole lines are in docs/color.md.
use Rattle.std.specs.Prelude.{◌≡◌, true, false, Some, None, codes, refl}
use Rattle.pmb_colour.specs.declared.colour.Colour.TheVariants.{Red, Yellow}
use Rattle.pmb_colour.specs.Bits.{bit_colour, is_bit, is_harmless, is_name, is_number_of_bit}
use Rattle.pmb_colour.specs.Log.{bits_length, has_bits, is_bad_token, is_command, is_command_name}
use Rattle.pmb_colour.specs.Log.{is_out_of_place, is_unanswered, is_unanswered_byte, is_unknown, is_wrong_code}
use Rattle.pmb_colour.specs.Log.{is_wrong_length, says_colour, tells_event}
use Rattle.pmb_colour.specs.Table.{count_colour}

-- a refusal
pub refusal : says_colour (codes "the capture ends inside the packet") ≡ Some Red
unfolding tells_event is_unknown is_wrong_length is_wrong_code is_out_of_place is_bad_token is_unanswered_byte is_unanswered
refusal = refl

pub code : says_colour (codes "wrong error code f7 after 00 d3: f6 is right") ≡ Some Red
unfolding tells_event is_unknown is_wrong_length is_wrong_code is_out_of_place is_bad_token is_unanswered_byte is_unanswered
code = refl

pub hint : says_colour (codes "STOP came, but a byte can come (the error code is missing: pec is \"on\" in the profile)") ≡ Some Red
unfolding tells_event is_unknown is_wrong_length is_wrong_code is_out_of_place is_bad_token is_unanswered_byte is_unanswered
hint = refl

pub event : says_colour (codes "b0 cannot come after a repeated START") ≡ Some Red
unfolding tells_event is_unknown is_wrong_length is_wrong_code is_out_of_place is_bad_token is_unanswered_byte is_unanswered
event = refl

pub token : says_colour (codes "no token: oops at line 3 column 8") ≡ Some Red
unfolding tells_event is_unknown is_wrong_length is_wrong_code is_out_of_place is_bad_token is_unanswered_byte is_unanswered
token = refl

pub unanswered : says_colour (codes "refused at its error code 47: 46 is right") ≡ Some Yellow
unfolding tells_event is_unknown is_wrong_length is_wrong_code is_out_of_place is_bad_token is_unanswered_byte is_unanswered
unanswered = refl

pub byte : says_colour (codes "refused at byte 18 after 00") ≡ Some Yellow
unfolding tells_event is_unknown is_wrong_length is_wrong_code is_out_of_place is_bad_token is_unanswered_byte is_unanswered
byte = refl

pub none : says_colour (codes "alert, and no device answered") ≡ Some Yellow
unfolding tells_event is_unknown is_wrong_length is_wrong_code is_out_of_place is_bad_token is_unanswered_byte is_unanswered
none = refl

-- what a unit or a text in quotes leaves in the last cell
pub unit : says_colour (codes "refused at its (part 1 of 2)") ≡ None
unfolding tells_event is_unknown is_wrong_length is_wrong_code is_out_of_place is_bad_token is_unanswered_byte is_unanswered
unit = refl

pub short_unit : says_colour (codes "refused at its ") ≡ None
unfolding tells_event is_unknown is_wrong_length is_wrong_code is_out_of_place is_bad_token is_unanswered_byte is_unanswered
short_unit = refl

pub text : says_colour (codes "refused at its code\"") ≡ None
unfolding tells_event is_unknown is_wrong_length is_wrong_code is_out_of_place is_bad_token is_unanswered_byte is_unanswered
text = refl

pub number : says_colour (codes "12 V (VOUT_MODE 17 assumed)") ≡ None
unfolding tells_event is_unknown is_wrong_length is_wrong_code is_out_of_place is_bad_token is_unanswered_byte is_unanswered
number = refl

-- bits behind a command
pub narrow : has_bits (codes "STATUS_VOUT  ") (codes "VOUT_OV_FAULT") ≡ true
unfolding is_command_name is_command bits_length has_bits is_name is_number_of_bit is_bit
narrow = refl

pub made_name : has_bits (codes "CMD_d0  ") (codes "FUSE_OPEN bit0") ≡ true
unfolding is_command_name is_command bits_length has_bits is_name is_number_of_bit is_bit
made_name = refl

-- what a number with a unit, a unit or a text in quotes leaves in the last two cells
pub behind_number : has_bits (codes "1.000244140625  ") (codes "V") ≡ false
unfolding is_command_name is_command bits_length has_bits is_name is_number_of_bit is_bit
behind_number = refl

pub behind_unit : has_bits (codes "CMD  ") (codes "X_FAULT_12") ≡ false
unfolding is_command_name is_command bits_length has_bits is_name is_number_of_bit is_bit
behind_unit = refl

pub behind_text : has_bits (codes "POWERSUPPLY500  ") (codes "REV A\"") ≡ false
unfolding is_command_name is_command bits_length has_bits is_name is_number_of_bit is_bit
behind_text = refl

-- names of bits
pub fault : bit_colour (codes "VOUT_UV_FAULT") ≡ Some Red
unfolding is_name is_number_of_bit is_bit is_harmless
fault = refl

pub warning : bit_colour (codes "IOUT_OC_WARN") ≡ Some Yellow
unfolding is_name is_number_of_bit is_bit is_harmless
warning = refl

pub second : bit_colour (codes "IOUT_WARN2") ≡ Some Yellow
unfolding is_name is_number_of_bit is_bit is_harmless
second = refl

pub off : bit_colour (codes "OFF") ≡ None
unfolding is_name is_number_of_bit is_bit is_harmless
off = refl

pub unnamed : bit_colour (codes "bit2") ≡ Some Red
unfolding is_name is_number_of_bit is_bit is_harmless
unnamed = refl

pub digits : bit_colour (codes "41") ≡ None
unfolding is_name is_number_of_bit is_bit is_harmless
digits = refl

-- counts
pub nacks : count_colour (codes "nacks 1 (byte 1)  ") ≡ Some Yellow
nacks = refl

pub refusals : count_colour (codes "refusals 1 (Truncated 1)") ≡ Some Red
refusals = refl

pub reads : count_colour (codes "reads 1  ") ≡ None
reads = refl
