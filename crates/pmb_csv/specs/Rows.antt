-- Rows, worked by hand.
use Rattle.std.specs.Prelude.{◌≡◌, [], ◌∷◌, codes, refl, true, false}
use Rattle.pmb_csv.specs.Fields.{record_of}

pub quotes : record_of (codes "\"I2C, 1\",a\"b,,\"x\"\"y\"") ≡ record {
  fields = codes "I2C, 1" ∷ codes "a\"b" ∷ [] ∷ codes "x\"y" ∷ [];
  is_whole = true;
}
quotes = refl

pub open_quote : record_of (codes "a,b,\"c") ≡ record { fields = codes "a" ∷ codes "b" ∷ []; is_whole = false }
open_quote = refl
