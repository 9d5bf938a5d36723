-- A word that was taken is the one that was wanted. For `take_colon`, `take_plus`, `take_pec` and
-- `take_wanted_plus` of `src/pieces.rt`. It is the located word of the list, by its place and its
-- token.
use Rattle.std.proofs.Common.{◌≡◌, ℕ, Option, Some, List, ◌∷◌, ap, ◌∙◌}
use Rattle.pmb_line.specs.declared.token.Token.{Token}
use Rattle.pmb_line.specs.declared.words.Located.{Located}

-- a word that says what is wanted
pub took : (before after : List Located) (word : Located) (token : Token) → before ≡ word ∷ after
    → word.token ≡ Some token
    → (at : ℕ) × (before ≡ record { at = at; token = Some token } ∷ after)
took before after word token same is = (
  word.at,
  same
      ∙ ap (λ (t : Option Token). record { at = word.at; token = t } ∷ after) is,
)
