-- Rows, worked by hand.
use Rattle.std.specs.Prelude.{◌≡◌, ℕ, codes, refl, Option, Some, None, true, false}
use Rattle.pmb_sigrok_line.specs.Annotation.{event_in, spelled_event}
use Rattle.pmb_sigrok_line.specs.Line.{Line, decoder_line, is_remark}
use Rattle.pmb_sigrok_line.specs.declared.event.Event.{Event}
use Rattle.pmb_sigrok_line.specs.declared.event.Event.TheVariants.{Start, Repeat, Bit, Address, Data}

-- a line of the decoder `i2c-1`
abbrev line : Option ℕ → Option Event → Option Line
line sample event = Some (record { sample = sample; name = codes "i2c-1"; event = event })

pub with_samples : decoder_line (codes "25000-25010 i2c-1: Start") ≡ line (Some 25000) (Some Start)
unfolding decoder_line event_in spelled_event
with_samples = refl

pub without_samples : decoder_line (codes "i2c-1: Address write: 58") ≡ line None (Some (Address false 0x58))
unfolding decoder_line event_in spelled_event
without_samples = refl

pub in_quotes : decoder_line (codes "2-3 i2c-1: \"Data read: F8\"") ≡ line (Some 2) (Some (Data true 0xf8))
unfolding decoder_line event_in spelled_event
in_quotes = refl

pub with_class : decoder_line (codes "2-3 i2c-1: repeat-start: \"Start repeat\" \"Sr\"") ≡ line (Some 2) (Some Repeat)
unfolding decoder_line event_in spelled_event
with_class = refl

pub long_byte : event_in (codes "data-read: \"Data read: 40\" \"DR: 40\" \"40\"") ≡ Some (Data true 0x40)
unfolding event_in spelled_event
long_byte = refl

pub other_byte : event_in (codes "data-read: \"Data read: 40\" \"DR: 41\" \"40\"") ≡ None
unfolding event_in spelled_event
other_byte = refl

pub in_row : event_in (codes "Address/data: Data write: 0a") ≡ Some (Data false 0x0a)
unfolding event_in spelled_event
in_row = refl

pub in_class : event_in (codes "Repeat start condition: Start repeat") ≡ Some Repeat
unfolding event_in spelled_event
in_class = refl

pub bit_in_row : event_in (codes "Bits: 1") ≡ Some Bit
unfolding event_in spelled_event
bit_in_row = refl

pub bit_in_other_row : event_in (codes "Address/Data: 1") ≡ None
unfolding event_in spelled_event
bit_in_other_row = refl

pub in_other_class : event_in (codes "Stop: Start") ≡ None
unfolding event_in spelled_event
in_other_class = refl

pub no_event : decoder_line (codes "2-3 i2c-1: Start now") ≡ line (Some 2) None
unfolding decoder_line event_in spelled_event
no_event = refl

pub no_line : decoder_line (codes "2-3 i2c-1:Start") ≡ None
unfolding decoder_line event_in spelled_event
no_line = refl

pub remark : is_remark (codes "sr: session: Starting.") ≡ true
unfolding is_remark
remark = refl
