-- What stands before the word under way, and the first word of a text that is no token. For the
-- laws on texts and all steps of the lexer. A text outside comments is a front and the word under
-- way; going on with the text makes that word longer, or ends it and begins others.
use Rattle.std.proofs.Common.{◌≡◌, ℕ, Bool, true, false, inl, inr, None, List, [], ◌∷◌, ◌++◌, length, refl, sym, ap}
use Rattle.std.proofs.Common.{subst, ◌∙◌}
use Rattle.std.specs.List.{filter}
use Rattle.std.proofs.lemmas.List.{append-nil, append_assoc, length-append}
use Rattle.std.proofs.lemmas.Bool.{cases_Bool, cases_eq, ne_eqb}
use Rattle.pmb_bus.specs.declared.event.Event.{Event}
use Rattle.pmb_bus.specs.Event.{event_of}
use Rattle.pmb_bus.specs.Text.{is_separator, in_comment, ends_in_comment, runs, is_word, words, last_run, all_but_last}
use Rattle.pmb_bus.specs.Text.{open_word, ended_words, first_run, front_word, AreTokens, Spells, EndedWordsSpell}
use Rattle.pmb_bus.specs.Text.{FirstBadWord}
use Rattle.pmb_bus.specs.LexFault.{OpenWordIsBad}
use Rattle.pmb_bus.proofs.Splits.{glue, glue-nil}
use Rattle.pmb_bus.proofs.Words.{runs_from, blank, blank_out, runs-append, words-append, words_split, comment_cuts}
use Rattle.pmb_bus.proofs.Words.{runs_from-kept, cut_by, longer_by, ends_in_comment_by}
use Rattle.pmb_bus.proofs.Tokens.{no_tokens}

-- what holds of no bytes, and of one more, holds of every text
pub from_the_front : (P : List ℕ → Type 0) → P [] → ((text : List ℕ) (b : ℕ) → P text → P (text ++ b ∷ []))
    → (text : List ℕ) → P text
from_the_front P none more text = onwards [] text none
  where
    onwards : (front back : List ℕ) → P front → P (front ++ back)
    onwards front [] holds = subst P (sym (append-nil front)) holds
    onwards front (b ∷ back) holds = subst P (append_assoc front (b ∷ []) back)
        (onwards (front ++ b ∷ []) back (more front b holds))

-- a text that ends in a comment has no word under way
abbrev OpensNone : List ℕ → Type 0
OpensNone text = ends_in_comment text ≡ true → open_word text ≡ []

-- in a comment no word is under way
pub open_word_in_comment : (text : List ℕ) → OpensNone text
open_word_in_comment =
    from_the_front OpensNone (λ inside. refl)
    (λ text b before inside. (cut_by text b (comment_cuts (ends_in_comment text) b
    (sym (ends_in_comment_by text b) ∙ inside))).opened)

-- ---- the front of a text

-- what stands before the word under way at the end of a text
pub record InFront (text : List ℕ) : Type 0 where
  -- what stands before it
  pub front : List ℕ
  pub split : text ≡ front ++ open_word text
  -- the front ends between words,
  pub opened : open_word front ≡ []
  pub outside : ends_in_comment front ≡ false
  -- its words are those that have ended,
  pub spelled : words front ≡ ended_words text
  -- and the word under way is one run, without a comment
  pub solid : runs (open_word text) ≡ open_word text ∷ []
  pub clear : ends_in_comment (open_word text) ≡ false

-- where no word is under way, the words have all ended
pub words_ended : (text : List ℕ) → open_word text ≡ [] → words text ≡ ended_words text
words_ended text none =
    words_split text
    ∙ ap (λ (word : List ℕ). ended_words text ++ filter is_word (word ∷ [])) none
    ∙ append-nil (ended_words text)

-- where no word is under way, the front is the whole text
all_in_front : (text : List ℕ) → ends_in_comment text ≡ false → open_word text ≡ [] → InFront text
all_in_front text outside none = record {
  front = text;
  split = sym (ap (λ (word : List ℕ). text ++ word) none ∙ append-nil text);
  opened = none;
  outside = outside;
  spelled = words_ended text none;
  solid = subst (λ (word : List ℕ). runs word ≡ word ∷ []) (sym none) refl;
  clear = ap ends_in_comment none;
}

-- a byte that is neither blanked nor a separator stands outside comments, and so does the one
-- before
outside_before : (before : Bool) (b : ℕ) → in_comment before b ≡ false → is_separator b ≡ false → before ≡ false
outside_before false b outside keeps = refl
outside_before true b outside keeps =
    elim (cases_eq b 10) [
      | inl line ↦ cc (sym (ap is_separator line) ∙ keeps)
      | inr other ↦ cc (rw (ne_eqb b 10 other) at outside)
    ]

-- the runs of what goes on with a word
pub runs-word : (word rest : List ℕ) → runs word ≡ word ∷ [] → ends_in_comment word ≡ false
    → runs (word ++ rest) ≡ glue word (runs_from false rest)
runs-word word rest solid clear =
    runs-append word rest
    ∙ ap (λ (all : List (List ℕ)). all_but_last all ++ glue (last_run all) (runs_from (ends_in_comment word) rest))
    solid
    ∙ ap (λ (inside : Bool). glue word (runs_from inside rest)) clear

-- a byte of a word leaves the front as it is
same_front : (text : List ℕ) (b : ℕ) → in_comment (ends_in_comment text) b ≡ false → is_separator b ≡ false
    → InFront text → InFront (text ++ b ∷ [])
same_front text b outside keeps before =
    let longer = longer_by text b outside keeps in
    let out : in_comment false b ≡ false =
    subst (λ (v : Bool). in_comment v b ≡ false) (outside_before (ends_in_comment text) b outside keeps) outside in
    let solid_longer : runs (open_word text ++ b ∷ []) ≡ (open_word text ++ b ∷ []) ∷ [] =
    runs-word (open_word text) (b ∷ []) before.solid before.clear
    ∙ ap (glue (open_word text)) (runs_from-kept false b [] out keeps) in
    let clear_longer : ends_in_comment (open_word text ++ b ∷ []) ≡ false =
    ends_in_comment_by (open_word text) b ∙ ap (λ (v : Bool). in_comment v b) before.clear ∙ out in
    record {
      front = before.front;
      split = ap (λ (all : List ℕ). all ++ b ∷ []) before.split
          ∙ append_assoc before.front (open_word text) (b ∷ [])
          ∙ ap (λ (word : List ℕ). before.front ++ word) (sym longer.opened);
      opened = before.opened;
      outside = before.outside;
      spelled = before.spelled ∙ sym longer.ended;
      solid = subst (λ (word : List ℕ). runs word ≡ word ∷ []) (sym longer.opened) solid_longer;
      clear = ap ends_in_comment longer.opened ∙ clear_longer;
    }

-- a text that ends outside comments has a front
abbrev HasFront : List ℕ → Type 0
HasFront text = ends_in_comment text ≡ false → InFront text

-- one byte more, which cuts or is a byte of a word
front_more : (text : List ℕ) (b : ℕ) → HasFront text → HasFront (text ++ b ∷ [])
front_more text b before outside =
    let out : in_comment (ends_in_comment text) b ≡ false = sym (ends_in_comment_by text b) ∙ outside in
    elim (cases_Bool (is_separator b)) [
      | inl cuts ↦
          let blanked : is_separator (blank (ends_in_comment text) b) ≡ true =
          ap is_separator (blank_out (ends_in_comment text) b out) ∙ cuts in
          all_in_front (text ++ b ∷ []) outside (cut_by text b blanked).opened
      | inr keeps ↦ same_front text b out keeps (before (outside_before (ends_in_comment text) b out keeps))
    ]

-- outside comments a text has a front
pub in_front : (text : List ℕ) → ends_in_comment text ≡ false → InFront text
in_front = from_the_front HasFront (λ outside. all_in_front [] refl refl) front_more

-- ---- the first word that is no token

-- The word under way is bad, however it goes on.
pub open_word_is_bad : (text : List ℕ) (events : List Event) (rest word : List ℕ) (more : List (List ℕ))
    → ends_in_comment text ≡ false → EndedWordsSpell text events
    → glue (open_word text) (runs_from false rest) ≡ word ∷ more → is_word word ≡ true → event_of word ≡ None
    → OpenWordIsBad text (text ++ rest) events
open_word_is_bad text events rest word more outside ended goes_on some none =
    let at = in_front text outside in
    let found : front_word (open_word text ++ rest) ≡ word =
    ap first_run (runs-word (open_word text) rest at.solid at.clear ∙ goes_on) in (
      length at.front,
      sym (length-append at.front (open_word text)) ∙ sym (ap (length {A = ℕ}) at.split),
      record {
        front = at.front;
        rest = open_word text ++ rest;
        split = ap (λ (all : List ℕ). all ++ rest) at.split ∙ append_assoc at.front (open_word text) rest;
        at = refl;
        between = (at.opened, at.outside);
        spells = subst (λ (ws : List (List ℕ)). AreTokens ws events) (sym at.spelled) ended;
        word = ap is_word found ∙ some;
        no_token = ap event_of found ∙ none;
      },
    )

-- the words of two texts of which the first ends between words
pub words_between : (front back : List ℕ) → open_word front ≡ [] → ends_in_comment front ≡ false
    → words (front ++ back) ≡ words front ++ words back
words_between front back none outside =
    words-append front back
    ∙ ap (λ (word : List ℕ). ended_words front ++ filter is_word (glue word (runs_from (ends_in_comment front) back)))
    none
    ∙ ap (λ (inside : Bool). ended_words front ++ filter is_word (glue [] (runs_from inside back))) outside
    ∙ ap (λ (all : List (List ℕ)). ended_words front ++ filter is_word all) (glue-nil (runs back))
    ∙ ap (λ (ws : List (List ℕ)). ws ++ words back) (sym (words_ended front none))

-- a first run that is a word is the first word
first_of_words : (all : List (List ℕ)) → is_word (first_run all) ≡ true
    → (more : List (List ℕ)) × (filter is_word all ≡ first_run all ∷ more)
first_of_words [] some = cc some
first_of_words (run ∷ all) some = (filter is_word all, rw some refl)

-- a text with a bad word spells no events
pub bad_word_spells_none : (text : List ℕ) (events others : List Event) (place : ℕ)
    → FirstBadWord text events place → Spells text others → ⊥
bad_word_spells_none text events others place bad spells =
    let first = first_of_words (runs bad.rest) bad.word in
    let row : words text ≡ words bad.front ++ front_word bad.rest ∷ first.0 =
    ap words bad.split ∙ words_between bad.front bad.rest bad.between.0 bad.between.1
    ∙ ap (λ (ws : List (List ℕ)). words bad.front ++ ws) first.1 in
    no_tokens (words bad.front) (front_word bad.rest) first.0 others bad.no_token
    (subst (λ (ws : List (List ℕ)). AreTokens ws others) row spells)
