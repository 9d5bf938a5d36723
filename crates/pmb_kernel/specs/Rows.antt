-- Rows, worked by hand.
use Rattle.std.specs.Prelude.{◌≡◌, ℕ, List, [], ◌∷◌, codes, refl, None}
use Rattle.std.specs.Fmt.{digits}
use Rattle.hex.specs.Hex.{encode_with}
use Rattle.pmb_io.specs.Lines.{TextLine, Ended, without_cr}
use Rattle.pmb_recording.specs.Runs.{whole}
use Rattle.pmb_kernel.specs.Transfers.{start, take_end, take_line}

abbrev written_for : List TextLine → List ℕ
written_for lines = (whole take_line take_end (λ t. t.recording) (start None) lines).text

-- a register is read
abbrev pub a_write : TextLine
a_write = Ended (codes "dd-9 [000] 1.5: i2c_write: i2c-0 #0 a=058 f=0000 l=1 [19]")

abbrev pub a_read : TextLine
a_read = Ended (codes "dd-9 [000] 1.5: i2c_read: i2c-0 #1 a=058 f=0001 l=1")

abbrev pub a_reply : TextLine
a_reply = Ended (codes "dd-9 [000] 1.6: i2c_reply: i2c-0 #1 a=058 f=0001 l=1 [01]")

pub a_transfer : written_for (a_write ∷ a_read ∷ a_reply ∷ Ended (codes "i2c_result: i2c-0 n=2 ret=2") ∷ []) ≡
    codes "# 1.5 s\nS b0 A 19 A S b1 A 01 N P\n"
unfolding without_cr encode_with digits
a_transfer = refl

pub a_failure : written_for (a_write ∷ a_read ∷ Ended (codes "i2c_result: i2c-0 n=2 ret=-6") ∷ []) ≡
    codes "# line 3: a transfer failed with -6: write 58, read 58\n# no packets\n"
unfolding without_cr encode_with digits
a_failure = refl

pub a_cut : written_for (a_write ∷ []) ≡ codes "# line 1: the packet from line 1 is cut\n# no packets\n"
unfolding without_cr encode_with digits
a_cut = refl

-- with the flag 0400 the first byte says how many follow
pub a_block : written_for (Ended (codes "i2c_read: i2c-1 #0 a=020 f=0401 l=1")
    ∷ Ended (codes "i2c_reply: i2c-1 #0 a=020 f=0401 l=3 [02-41-42]") ∷ Ended (codes "i2c_result: i2c-1 n=1 ret=1") ∷ [])
    ≡ codes "S 41 A 02 A 41 A 42 N P\n"
unfolding without_cr encode_with digits
a_block = refl
