-- The name in a line is no longer than the line: for `take_content`.
use Rattle.std.proofs.Common.{◌≡◌, ℕ, ◌≤◌, Option, Some, None, List, [], ◌∷◌}
use Rattle.std.proofs.Common.{length, refl, arith}
use Rattle.pmb_words.specs.Parts.{blank, parted}
use Rattle.pmb_sigrok_line.specs.Annotation.{behind_blank, colon}
use Rattle.pmb_sigrok_line.specs.Line.{Line, behind_range, decoder_line, named, with_name}

front_short : (at : ℕ) (text : List ℕ) → length (parted at text).front ≤ length text
front_short at [] = omega arith
front_short at (byte ∷ text) = grind (arith, front_short at text)

rest_short : (at : ℕ) (text rest : List ℕ) → (parted at text).rest ≡ Some rest → length rest ≤ length text
rest_short at [] rest is = cc
rest_short at (byte ∷ text) rest is = grind (arith, rest_short at text rest)

name_is : (sample : Option ℕ) (name : List ℕ) (text : Option (List ℕ)) (l : Line) → named sample name text ≡ Some l
    → l.name ≡ name
name_is sample [] (Some text) l is = cc
name_is sample [] None l is = cc
name_is sample (byte ∷ name) (Some text) l is = cc
name_is sample (byte ∷ name) None l is = cc

with_name_short : (sample : Option ℕ) (text : List ℕ) (l : Line) → with_name sample text ≡ Some l
    → length l.name ≤ length text
with_name_short sample text l is =
    rw (name_is sample (parted colon text).front (behind_blank (parted colon text).rest) l is) (front_short colon text)

behind_short : (text word : List ℕ) (rest : Option (List ℕ)) (l : Line) → (parted blank text).rest ≡ rest
    → behind_range text word rest ≡ Some l → length l.name ≤ length text
behind_short text word (Some rest) l at is =
    grind (arith, rest_short blank text rest, with_name_short)
behind_short text word None l at is = with_name_short None text l is

pub name_short : (text : List ℕ) (l : Line) → decoder_line text ≡ Some l → length l.name ≤ length text
unfolding decoder_line
name_short text l is = behind_short text (parted blank text).front (parted blank text).rest l refl is
