-- What a mode says of packet error codes (SMBus 3.0 section 6.4).
use Rattle.std.specs.Prelude.{◌≡◌, Bool, true, false}
use Rattle.pmb_command.specs.declared.pec_mode.PecMode.{PecMode}
use Rattle.pmb_command.specs.declared.pec_mode.PecMode.TheVariants.{Off, On, Optional}

-- A device's mode allows a packet, or a part of one, with or without a packet error code.
abbrev pub AllowsPec : PecMode → Bool → Type 0
AllowsPec Off with_pec = with_pec ≡ false
AllowsPec On with_pec = with_pec ≡ true
AllowsPec Optional with_pec = Unit {0}
