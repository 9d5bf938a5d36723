-- The fields of a message, for `message_of`.
use Rattle.std.proofs.Common.{◌≡◌, Option, Some, None, refl}
use Rattle.pmb_trace.specs.Fields.{Number}
use Rattle.pmb_trace.specs.Views.{value_of}

-- a field without a value is none
pub no_value : (number : Option Number) → None ≡ value_of number → number ≡ None
no_value (Some number) is = cc
no_value None is = refl
