-- The first word that is no token, of a text and of its tail: it lies as far after the one as
-- after the other. For `PmbLexer::feed` and `PmbLexer::finish`. A tail is the word under way, or a
-- `#` alone in a comment; before it the text ends between words, or the comment goes on with
-- what follows.
use Rattle.std.proofs.Common.{◌≡◌, ℕ, ◌+◌, List, [], ◌∷◌, ◌++◌, length, false, true, refl, sym, ap, subst, ◌∙◌, arith}
use Rattle.std.proofs.lemmas.List.{append-nil, append_assoc, length-append}
use Rattle.pmb_bus.specs.declared.event.Event.{Event}
use Rattle.pmb_bus.specs.LexFault.{OpenWordIsBad}
use Rattle.pmb_bus.specs.Text.{AreTokens, EndedWordsSpell, FirstBadWord, Spells, ended_words, ends_in_comment}
use Rattle.pmb_bus.specs.Text.{front_word, is_word, open_word, words}
use Rattle.pmb_firmware.specs.machine.Standing.{IsBehind, IsTail, word, hash}
use Rattle.pmb_firmware.proofs.Spelled.{spells}
use Rattle.pmb_firmware.proofs.Tails.{between_tail, ended_are_all, tail_ended, tail_inside, tail_open}

module _ (text tail : List ℕ) (is : IsTail text tail) (events : List Event) (ended : EndedWordsSpell text events)
    (back : List ℕ) where
  -- it lies as far after the text as after its tail
  abbrev pub LiesThere : ℕ → Type 0
  LiesThere place = (there : ℕ) × (there + length tail ≡ place + length text) × FirstBadWord (text ++ back) events there

  -- after a text that ends between words, the word under way after it
  behind_front : (front : List ℕ) → text ≡ front ++ tail → (open_word front ≡ []) × (ends_in_comment front ≡ false)
      → (place : ℕ)
      → FirstBadWord (tail ++ back) [] place → LiesThere place
  -- the words of the front are those that have ended
  behind_front front split between place bad =
      let of_front = between_tail front between in
      let all : words front ≡ ended_words text =
      ended_are_all front between.0
      ∙ sym (append-nil (ended_words front))
      ∙ ap (λ (more : List (List ℕ)). ended_words front ++ more) (sym is.none_ended)
      ∙ sym (tail_ended front [] of_front tail)
      ∙ ap ended_words (sym split) in
      let spelled : EndedWordsSpell front events =
      -- so the front and what stands before the bad word in the tail spell the same events
      subst (λ (ws : List (List ℕ)). AreTokens ws events) (sym all ∙ ended_are_all front between.0) ended in (
        length front + place,
        omega (arith, ap (length {A = ℕ}) split, length-append front tail),
        record {
          front = front ++ bad.front;
          rest = bad.rest;
          split = ap (λ (begun : List ℕ). begun ++ back) split
              ∙ append_assoc front tail back
              ∙ ap (λ (rest : List ℕ). front ++ rest) bad.split
              ∙ sym (append_assoc front bad.front bad.rest);
          at = length-append front bad.front ∙ ap (λ (n : ℕ). length front + n) bad.at;
          between = (
            tail_open front [] of_front bad.front ∙ bad.between.0,
            tail_inside front [] of_front bad.front
                ∙ bad.between.1,
          );
          spells = subst (λ (found : List Event). Spells (front ++ bad.front) found) (append-nil events)
              (spells front [] of_front events spelled bad.front [] bad.spells);
          word = bad.word;
          no_token = bad.no_token;
        },
      )

  -- a `#` begins no word
  no_word_there : (rest : List ℕ) → 35 ∷ back ≡ rest → is_word (front_word rest) ≡ true → ⊥
  no_word_there rest same some = cc (ap (λ (all : List ℕ). is_word (front_word all)) same ∙ some)

  -- 35 is `#`
  -- in a comment
  behind_hash : (front rest : List ℕ) → tail ≡ 35 ∷ [] → 35 ∷ back ≡ front ++ rest → (place : ℕ)
      → (bad : FirstBadWord (tail ++ back) [] place)
      → front ≡ bad.front → rest ≡ bad.rest → LiesThere place
  behind_hash [] rest is_hash split place bad is_front is_rest =
      absurd (no_word_there rest split (ap (λ (all : List ℕ). is_word (front_word all)) is_rest ∙ bad.word))
  -- the `#` of the tail comes first: what stands after it stands after the text
  behind_hash (b ∷ front) rest is_hash split place bad is_front is_rest =
      let first : b ≡ 35 = cc split in
      let others : back ≡ front ++ rest = cc split in
      let begun : bad.front ≡ tail ++ front = cc in (
        length text + length front,
        omega (arith, bad.at, ap (length {A = ℕ}) is_front, ap (length {A = ℕ}) is_hash),
        record {
          front = text ++ front;
          rest = bad.rest;
          split = ap (λ (all : List ℕ). text ++ all) (others ∙ ap (λ (all : List ℕ). front ++ all) is_rest)
              ∙ sym (append_assoc text front bad.rest);
          at = length-append text front;
          between = (
            tail_open text tail is front ∙ sym (ap open_word begun) ∙ bad.between.0,
            tail_inside text tail is front ∙ sym (ap ends_in_comment begun) ∙ bad.between.1,
          );
          spells = subst (λ (found : List Event). Spells (text ++ front) found) (append-nil events)
              (spells text tail is events ended front [] (subst (λ (all : List ℕ). Spells all []) begun bad.spells));
          word = bad.word;
          no_token = bad.no_token;
        },
      )

  pub lies_there : IsBehind text tail → (place : ℕ) → FirstBadWord (tail ++ back) [] place → LiesThere place
  lies_there (word front split between) place bad = behind_front front split between place bad
  lies_there (hash is_hash) place bad =
      behind_hash bad.front bad.rest is_hash (sym (ap (λ (all : List ℕ). all ++ back) is_hash) ∙ bad.split) place bad
      refl refl

  -- the word under way after the part that was used
  pub open_bad : IsBehind text tail → (used : List ℕ) → OpenWordIsBad (tail ++ used) (tail ++ back) []
      → OpenWordIsBad (text ++ used) (text ++ back) events
  open_bad from used bad =
      let there = lies_there from bad.0 bad.2 in (
        there.0,
        omega (
          arith,
          bad.1,
          there.1,
          ap (length {A = ℕ}) (tail_open text tail is used),
          length-append tail used,
          length-append text used,
        ),
        there.2,
      )
