-- What the parts of a FORMAT say.
use Rattle.std.specs.Prelude.{◌≡◌, ◌≢◌, ℕ, Bool, Option, MatchOption, ℤ, List, [], ◌∷◌, ◌++◌, codes, slice_index, FitsSigned}
use mir.Syntax.{Width}
use Rattle.std.specs.Borrow.{Bor}
use Rattle.pmb_vid.specs.Names.{table_name}
use Rattle.pmb_vid.specs.declared.table.VidTable.{VidTable}
use Rattle.pmb_convert.specs.Spelling.{Saying, linear11_fixed, ulinear16, slinear16, vout, vid, direct, WritesInteger}
use Rattle.pmb_convert.specs.Spelling.{WritesByte, WritesWord, WritesMode}

-- what a text has after a prefix; nothing where it begins otherwise
abbrev pub StripsPrefix : List ℕ → List ℕ → Option (Bor (List ℕ)) → Type 0
StripsPrefix prefix text rest = MatchOption rest ((tail : List ℕ) → text ≢ prefix ++ tail) (λ r. text ≡ prefix ++ r.now)

-- two texts round a comma
abbrev pub comma : List ℕ → List ℕ → List ℕ
comma front back = front ++ (codes "," ++ back)

-- no comma in it
abbrev pub HasNoComma : List ℕ → Type 0
HasNoComma [] = Unit {0}
HasNoComma (c ∷ cs) = (c ≢ slice_index (codes ",") 0) × HasNoComma cs

-- the parts round the first comma; nothing where there is none
abbrev pub SplitsAtComma : List ℕ → Option (Bor (List ℕ) × Bor (List ℕ)) → Type 0
SplitsAtComma text parts =
    MatchOption parts ((front : List ℕ) → (back : List ℕ) → HasNoComma front → text ≢ comma front back)
    (λ p. HasNoComma p.0.now × (text ≡ comma p.0.now p.1.now))

-- the number that a text writes; nothing where it writes none that fits
abbrev pub ReadsInteger : Width → List ℕ → Option ℤ → Type 0
ReadsInteger w text number =
    MatchOption number ((n : ℤ) → WritesInteger text n → ¬ (FitsSigned w n))
    (λ n. WritesInteger text n × FitsSigned w n)

-- the VOUT_MODE that a text writes; nothing where it writes none
abbrev pub ReadsMode : List ℕ → Option ℕ → Type 0
ReadsMode text mode = MatchOption mode ((n : ℕ) → ¬ (WritesMode text n)) (λ n. WritesMode text n)

-- what a FORMAT says by its numbers, where its kind is known
abbrev pub IsFixed : List ℕ → Saying → Type 0
IsFixed E saying = (exponent : ℤ) × WritesByte E exponent × (saying ≡ linear11_fixed exponent)

abbrev pub IsUnsigned : List ℕ → Saying → Type 0
IsUnsigned E saying = (exponent : ℤ) × WritesByte E exponent × (saying ≡ ulinear16 exponent)

abbrev pub IsSigned : List ℕ → Saying → Type 0
IsSigned E saying = (exponent : ℤ) × WritesByte E exponent × (saying ≡ slinear16 exponent)

abbrev pub IsVout : List ℕ → Saying → Type 0
IsVout HH saying = (mode : ℕ) × WritesMode HH mode × (saying ≡ vout mode)

abbrev pub IsVid : List ℕ → Saying → Type 0
IsVid name saying = (table : VidTable) × (name ≡ table_name table) × (saying ≡ vid table)

pub record IsDirect (unsigned : Bool) (numbers : List ℕ) (saying : Saying) : Type 0 where
  pub M : List ℕ
  pub B : List ℕ
  pub R : List ℕ
  pub m : ℤ
  pub b : ℤ
  pub r : ℤ
  pub whole : numbers ≡ comma M (comma B R)
  pub m_is : WritesWord M m
  pub b_is : WritesWord B b
  pub r_is : WritesByte R r
  pub is : saying ≡ direct unsigned m b r
