-- A text names one number format at most, so that one which names a format has no fault: for
-- `run_lines`. It follows from the law `one_format` of pmb_convert.
use Rattle.std.proofs.Common.{◌≡◌, ℕ, List, Result, Ok, Err}
use Rattle.pmb_convert.specs.Spelling.{Names}
use Rattle.pmb_convert.specs.declared.format_fault.FormatFault.{FormatFault}
use Rattle.pmb_value.specs.declared.number_format.NumberFormat.{NumberFormat}

-- one that names a format has no fault
pub none_is_named : ((text : List ℕ) (a b : Result NumberFormat FormatFault) → Names text a → Names text b → a ≡ b)
    → (text : List ℕ) (format : NumberFormat) → Names text (Ok format)
    → ((fault : FormatFault) × Names text (Err fault)) → ⊥
none_is_named one text format named none = let clash : Ok format ≡ Err none.0 =
    one text (Ok format) (Err none.0) named none.1 in cc
