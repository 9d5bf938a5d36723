-- The line of a text's first bad word (a word that is no token), and that word in the text with all
-- that follows. For the laws `one_list_of_facts`, `one_text_is_told_so_far` and `some_text_is_told`. A
-- line ends at an LF or at the end, so a text has one line at its front, and the word in it is the same
-- whatever comes after the line.
use Rattle.std.proofs.Common.{◌≡◌, ℕ, List, [], ◌∷◌, ◌++◌, length, sym, ◌∙◌, ap, subst, append_assoc, refl}
use Rattle.pmb_bus.specs.declared.event.Event.{Event}
use Rattle.pmb_bus.specs.Event.{event_of}
use Rattle.pmb_bus.specs.Text.{FirstBadWord, front_word, is_word}
use Rattle.pmb_io.specs.Lines.{HasNoLf}
use Rattle.pmb_telling.specs.Text.{IsBehindLine}
use Rattle.pmb_telling.proofs.Lines.{SplitsLine, bad_behind, bad_in_line, behind_front, front_cut}

-- a text has one line at its front, and what stands after that
pub one_line : (a b x y : List ℕ) → HasNoLf a → HasNoLf b → IsBehindLine x → IsBehindLine y → a ++ x ≡ b ++ y
    → (a ≡ b) × (x ≡ y)
one_line [] [] x y here there behind also same = (refl, same)
one_line [] (c ∷ b) [] y here there behind also same = absurd (cc same)
one_line [] (c ∷ b) (lf ∷ x) y here there behind also same =
    let heads : lf ≡ c = cc same in absurd (there.0 (sym heads ∙ behind))
one_line (c ∷ a) [] x [] here there behind also same = absurd (cc same)
one_line (c ∷ a) [] x (lf ∷ y) here there behind also same =
    let heads : c ≡ lf = cc same in absurd (here.0 (heads ∙ also))
one_line (c ∷ a) (d ∷ b) x y here there behind also same =
    let heads : c ≡ d = cc same in
    let tails : a ++ x ≡ b ++ y = cc same in
    let parts = one_line a b x y here.1 there.1 behind also tails in
    (ap (λ (l : List ℕ). c ∷ l) parts.0 ∙ ap (λ (z : ℕ). z ∷ b) heads, parts.1)

-- a line's first bad word is that of a text which goes on with a LF or not at all
pub bad_word_in_text : (front line rest : List ℕ) (events : List Event) → IsBehindLine rest
    → FirstBadWord (front ++ line) events (length front)
    → FirstBadWord (front ++ line ++ rest) events (length front)
bad_word_in_text front line rest events behind bad =
    let here = behind_front front line events bad in
    let same = front_cut line rest behind in
    subst (λ (text : List ℕ). FirstBadWord text events (length front)) (sym (append_assoc front line rest))
    (
    bad_behind front (line ++ rest) events
    (record {
      between = here.between;
      spells = here.spells;
      word = ap is_word same ∙ here.word;
      no_token = ap event_of same ∙ here.no_token;
    })
    )

-- a text's first bad word is that of its line
pub bad_word_of_line : (text : List ℕ) (events : List Event) (place : ℕ) (bad : FirstBadWord text events place)
    (here : SplitsLine bad.rest)
    → FirstBadWord (bad.front ++ here.line) events (length bad.front)
bad_word_of_line text events place bad here =
    let same = sym (ap front_word here.split) in
    bad_in_line bad.front here.line here.rest events here.behind
    (
    bad_behind bad.front (here.line ++ here.rest) events
    (record {
      between = bad.between;
      spells = bad.spells;
      word = ap is_word same ∙ bad.word;
      no_token = ap event_of same ∙ bad.no_token;
    })
    )
