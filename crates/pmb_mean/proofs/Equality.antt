-- Numbers are equal where their parts are, in whichever order these are compared: for `eq`.
use Rattle.std.proofs.Common.{◌≡◌, ◌&&◌, Bool, true, false, refl}

pub in_order : (assumed value over : Bool) → (assumed && value) && over ≡ value && (over && assumed)
in_order true true true = refl
in_order true true false = refl
in_order true false over = refl
in_order false true true = refl
in_order false true false = refl
in_order false false over = refl
