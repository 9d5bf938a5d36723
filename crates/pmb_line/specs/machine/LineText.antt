-- The text after a line's first word.
use Rattle.std.specs.Prelude.{ℕ, List, map, ◌++◌, codes}
use Rattle.std.specs.List.{flat_map}
use Rattle.pmb_line.specs.declared.token.Token.{Token}
use Rattle.pmb_line.specs.Token.{token_text}

-- words, each after a space
abbrev pub behind : List Token → List ℕ
behind tokens = flat_map (λ w. codes " " ++ w) (map token_text tokens)
