-- What an `OpenWord` keeps of the text that it was given, and what a piece of it leaves.
use Rattle.std.specs.Prelude.{◌≡◌, ◌==◌, ℕ, Bool, if◌then◌else◌, List, [], ◌++◌, drop, take}
use Rattle.pmb_bus.specs.Text.{ends_in_comment, open_word}
use Rattle.pmb_places.specs.declared.open_word.OpenWord.{OpenWord}

pub record OpenWordStandsAt (word : OpenWord) (text : List ℕ) : Type 0 where
  pub bytes : word.bytes.items ≡ take 32 (open_word text)
  pub comment : word.in_comment ≡ ends_in_comment text

-- After a text and a piece, whether both end in a comment, and how many bytes of the piece come
-- before its part of the word under way. With none the word began before the piece.
pub record IsTail (text piece : List ℕ) (in_comment : Bool) (from : ℕ) : Type 0 where
  pub comment : in_comment ≡ ends_in_comment (text ++ piece)
  pub word : open_word (text ++ piece) ≡ (if from == 0 then open_word text else []) ++ drop from piece
