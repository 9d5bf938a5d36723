-- Rows, worked by hand.
use Rattle.std.specs.Prelude.{◌≡◌, [], ◌∷◌, codes, refl, Some, None}
use Rattle.pmb_words.specs.Parts.{words, after}
use Rattle.pmb_words.specs.Numbers.{decimal_of}

pub some_words : words (codes "  i2c-0 #0  a=058 ") ≡ codes "i2c-0" ∷ codes "#0" ∷ codes "a=058" ∷ []
some_words = refl

pub a_number : decimal_of (codes "1510") ≡ Some 1510
a_number = refl

pub no_number : decimal_of (codes "15x") ≡ None
no_number = refl

pub behind : after (codes "a=") (codes "a=058") ≡ Some (codes "058")
behind = refl
