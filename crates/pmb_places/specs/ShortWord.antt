-- A short word and a space.
use Rattle.std.specs.Prelude.{◌≡◌, ℕ, nat_lt, Bool, true, List, [], ◌∷◌, ⊤}
use Rattle.pmb_bus.specs.Event.{character}
use Rattle.pmb_places.specs.declared.short_word.ShortWord.{ShortWord}
use Rattle.pmb_places.specs.declared.short_word.ShortWord.TheVariants.{One, Two, Other}

-- enough for a byte outside comments to be one of a word
abbrev pub is_plain : ℕ → Bool
is_plain b = nat_lt (character "#") b

abbrev pub IsShortWord : ShortWord → List ℕ → Type 0
IsShortWord One bytes = (first : ℕ) × (is_plain first ≡ true) × (bytes ≡ first ∷ character " " ∷ [])
IsShortWord Two bytes = (first second : ℕ) × (is_plain first ≡ true) × (is_plain second ≡ true)
    × (bytes ≡ first ∷ second ∷ character " " ∷ [])
IsShortWord Other bytes = ⊤
