-- A text with a quote is no time, so that `start_time` has texts without quotes alone.
use Rattle.std.proofs.Common.{◌≡◌, ℕ, Bool, true, false, Some, List, [], None, refl}
use Rattle.std.proofs.Common.{if◌then◌else◌}
use Rattle.pmb_csv.specs.Columns.{has_quote, plain_of}
use Rattle.pmb_saleae.specs.Time.{time_of}

pub no_time : (text : List ℕ) → has_quote text ≡ true → time_of text ≡ []
no_time text has = simp has

none_in : (has : Bool) (text plain : List ℕ) → Some plain ≡ (if has then None else Some text) → has ≡ false
none_in true text plain is = absurd (cc)
none_in false text plain is = refl

pub no_quote : (text plain : List ℕ) → Some plain ≡ plain_of text → has_quote text ≡ false
no_quote text plain is = none_in (has_quote text) text plain is
