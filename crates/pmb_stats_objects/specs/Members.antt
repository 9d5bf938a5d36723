-- Members that are left out where they have nothing to say.
use Rattle.std.specs.Prelude.{ℕ, ◌==◌, if◌then◌else◌, Option, Some, None, List, [], ◌∷◌}
use Rattle.pmb_decimal.specs.Decimal.{rounded_text}
use Rattle.pmb_json_text.specs.Json.{Json, number, string}
use Rattle.pmb_json_text.specs.Member.{Member, array_of, count, named, object_of}
use Rattle.pmb_quantity.specs.Fraction.{Fraction}

-- a count, left out where it is 0
abbrev pub count_member : List ℕ → ℕ → List Member
count_member key n = if n == 0 then [] else named key (count n) ∷ []

-- an object, left out where it is empty
abbrev pub object_member : List ℕ → List Member → List Member
object_member key [] = []
object_member key (member ∷ more) = named key (object_of (member ∷ more)) ∷ []

-- a list, left out where it is empty
abbrev pub list_member : List ℕ → List Json → List Member
list_member key [] = []
list_member key (item ∷ more) = named key (array_of (item ∷ more)) ∷ []

-- a text, where there is one
abbrev pub text_member : List ℕ → Option (List ℕ) → List Member
text_member key None = []
text_member key (Some text) = named key (string text) ∷ []

-- a fraction, where there is one: the nearest decimal with so many digits after the point
abbrev pub fraction_member : ℕ → List ℕ → Option Fraction → List Member
fraction_member digits key None = []
fraction_member digits key (Some q) = named key (number (rounded_text digits q)) ∷ []
