-- A text spells one row of events, or has one first bad word, or neither yet. For the laws
-- `one_spelling`, `one_bad_word`, `ended_words_lead_on` and the steps of the lexer. Of two fronts
-- that end before a bad word the shorter one would have a word after it that is a token of the
-- longer.
use Rattle.std.proofs.Common.{◌≡◌, ℕ, ◌+◌, ◌<◌, ◌≤◌, Bool, true, false, ◌⊎◌, inl, inr, Option, None, Some, map, List}
use Rattle.std.proofs.Common.{[], ◌∷◌, ◌++◌, length, take, drop, refl, sym, ap, subst, ◌∙◌, arith, cond}
use Rattle.std.specs.List.{filter, onto_first, slice_split}
use Rattle.std.proofs.lemmas.List.{append-nil, take_at, drop_at, take-append-le, drop-append-le, take-append-drop}
use Rattle.std.proofs.lemmas.List.{length-append}
use Rattle.std.proofs.lemmas.Bool.{cases_Bool, cases_order}
use Rattle.pmb_bus.specs.declared.event.Event.{Event}
use Rattle.pmb_bus.specs.Event.{event_of}
use Rattle.pmb_bus.specs.Text.{is_separator, in_comment, blanked_from, ends_in_comment, runs, is_word, words, last_run}
use Rattle.pmb_bus.specs.Text.{all_but_last, open_word, ended_words, first_run, front_word, AreTokens, Spells}
use Rattle.pmb_bus.specs.Text.{EndedWordsSpell, FirstBadWord}
use Rattle.pmb_bus.specs.LexFault.{OpenWordIsBad}
use Rattle.pmb_bus.proofs.Splits.{glue, glue-nil, HasRuns, slice_split-HasRuns}
use Rattle.pmb_bus.proofs.Words.{runs_from, blank, runs-append, words_split, open_word-append}
use Rattle.pmb_bus.proofs.Tokens.{AreTokens-append, cases_Option, cases_word, is_word-token, one_row}
use Rattle.pmb_bus.proofs.Fronts.{words_ended, open_word_in_comment, open_word_is_bad, bad_word_spells_none}

-- a text spells one row of events
pub one_spelling : (text : List ℕ) (a b : List Event) → Spells text a → Spells text b → a ≡ b
one_spelling text a b first second = one_row (words text) a b first second

-- a word of which no byte has come
pub no_word : (text : List ℕ) → open_word text ≡ [] → AreTokens (filter is_word (open_word text ∷ [])) []
no_word text none = ap (λ (word : List ℕ). map event_of (filter is_word (word ∷ []))) none

-- the word under way is a token
pub one_word : (text : List ℕ) (event : Event) → event_of (open_word text) ≡ Some event
    → AreTokens (filter is_word (open_word text ∷ [])) (event ∷ [])
one_word text event token =
    let row : filter is_word (open_word text ∷ []) ≡ open_word text ∷ [] =
    rw (is_word-token (open_word text) event token) refl in
    ap (λ (ws : List (List ℕ)). map event_of ws) row ∙ ap (λ (o : Option Event). o ∷ []) token

-- the word under way is the token of one event more
pub spells_open : (text : List ℕ) (events : List Event) (event : Event) → EndedWordsSpell text events
    → event_of (open_word text) ≡ Some event → Spells text (events ++ event ∷ [])
spells_open text events event ended token =
    subst (λ (ws : List (List ℕ)). AreTokens ws (events ++ event ∷ [])) (sym (words_split text))
    (
    AreTokens-append (ended_words text) (filter is_word (open_word text ∷ [])) events (event ∷ []) ended
    (one_word text event token)
    )

-- where no word is under way, the words that have ended are all
pub spells_ended : (text : List ℕ) (events : List Event) → EndedWordsSpell text events → open_word text ≡ []
    → Spells text events
spells_ended text events ended none = subst (λ (ws : List (List ℕ)). AreTokens ws events)
    (sym (words_ended text none)) ended

-- a word is under way only outside comments
pub outside_of_word : (text : List ℕ) → is_word (open_word text) ≡ true → ends_in_comment text ≡ false
outside_of_word text some =
    elim (cases_Bool (ends_in_comment text)) [
      | inl inside ↦ cc (sym (ap is_word (open_word_in_comment text inside)) ∙ some)
      | inr outside ↦ outside
    ]

-- the word under way is the first that is no token, if the text ends there
pub open_word_bad_here : (text : List ℕ) (events : List Event) → EndedWordsSpell text events
    → is_word (open_word text) ≡ true → event_of (open_word text) ≡ None → OpenWordIsBad text text events
open_word_bad_here text events ended some none =
    subst (λ (all : List ℕ). OpenWordIsBad text all events) (append-nil text)
    (
    open_word_is_bad text events [] (open_word text) [] (outside_of_word text some) ended
    (ap (λ (word : List ℕ). word ∷ []) (append-nil (open_word text))) some none
    )

-- Words that have ended lead on.
pub ended_words_lead_on : (text : List ℕ) (events : List Event) → EndedWordsSpell text events
    → Spells text events ⊎ (((event : Event) × Spells text (events ++ event ∷ []))
    ⊎ ((place : ℕ) × FirstBadWord text events place))
ended_words_lead_on text events ended =
    elim (cases_word (open_word text)) [
      | inl empty ↦ inl (spells_ended text events ended empty)
      | inr some ↦
          elim (cases_Option (event_of (open_word text))) [
            | inl none ↦ let bad = open_word_bad_here text events ended some none in inr (inr (bad.0, bad.2))
            | inr token ↦ inr (inl (token.0, spells_open text events token.0 ended token.1))
          ]
    ]

-- ---- one first bad word

-- what one front of a text has that a shorter one has not
record Between (text front rest longer after : List ℕ) : Type 0 where
  -- what stands between their ends
  more : List ℕ
  onwards : longer ≡ front ++ more
  left : rest ≡ more ++ after
  long : length front + length more ≡ length longer

-- of two fronts of a text the shorter is the front of the longer
between : (text front rest longer after : List ℕ) → text ≡ front ++ rest → text ≡ longer ++ after
    → length front ≤ length longer
    → Between text front rest longer after
between text front rest longer after first second shorter =
    let n = length front in
    let same : front ++ rest ≡ longer ++ after = sym first ∙ second in
    let begins : front ≡ take n longer =
    sym (take_at front rest n refl) ∙ ap (take n) same ∙ take-append-le n longer after shorter in
    let onwards : longer ≡ front ++ drop n longer =
    sym (take-append-drop n longer) ∙ ap (λ (part : List ℕ). part ++ drop n longer) (sym begins) in record {
      more = drop n longer;
      onwards = onwards;
      left = sym (drop_at front rest n refl) ∙ ap (drop n) same ∙ drop-append-le n longer after shorter;
      long = sym (length-append front (drop n longer)) ∙ sym (ap (length {A = ℕ}) onwards);
    }

-- one byte more leaves more than one empty run
cut_not_empty : (cut : Bool) (b : ℕ) (all : List (List ℕ)) → HasRuns all → cond cut ([] ∷ all) (onto_first b all) ≡ []
    ∷ [] → ⊥
cut_not_empty true b all has same = cc (same, has.2)
cut_not_empty false b all has same = cc (same, ap (onto_first b) has.2)

-- only the empty text has one empty run
runs_some : (text : List ℕ) → 0 < length text → runs text ≡ [] ∷ [] → ⊥
runs_some [] some same = omega arith
runs_some (b ∷ text) some same =
    let rest = blanked_from (in_comment false b) text in
    cut_not_empty (is_separator (blank false b)) (blank false b) (slice_split is_separator rest)
    (slice_split-HasRuns is_separator rest) same

-- what follows the last run leaves the first
first_stays : (run : List ℕ) (all more : List (List ℕ)) → last_run (run ∷ all) ≡ [] → (run ∷ all ≡ [] ∷ [] → ⊥)
    → first_run (all_but_last (run ∷ all) ++ more) ≡ run
first_stays run [] more none some = absurd (some (ap (λ (word : List ℕ). word ∷ []) none))
first_stays run (next ∷ all) more none some = refl

-- what goes on after the end of a word leaves the first word
front_word_stays : (front back : List ℕ) → 0 < length front → open_word front ≡ []
    → front_word (front ++ back) ≡ front_word front
front_word_stays front back some none =
    let has = slice_split-HasRuns is_separator (blanked_from false front) in
    let more = glue (open_word front) (runs_from (ends_in_comment front) back) in
    let not_empty : has.0 ∷ has.1 ≡ [] ∷ [] → ⊥ = λ same. runs_some front some (has.2 ∙ same) in
    ap first_run (runs-append front back)
    ∙ ap (λ (all : List (List ℕ)). first_run (all_but_last all ++ more)) has.2
    ∙ first_stays has.0 has.1 more (sym (ap last_run has.2) ∙ none) not_empty
    ∙ sym (ap first_run has.2)

-- what stands between two ends of words ends as the second does
between_opens_none : (front more : List ℕ) → open_word front ≡ [] → ends_in_comment front ≡ false
    → open_word (front ++ more) ≡ []
    → open_word more ≡ []
between_opens_none front more none outside opened =
    sym (
    open_word-append front more
    ∙ ap (λ (word : List ℕ). last_run (glue word (runs_from (ends_in_comment front) more))) none
    ∙ ap (λ (inside : Bool). last_run (glue [] (runs_from inside more))) outside
    ∙ ap last_run (glue-nil (runs more))
    ) ∙ opened

-- no bad word stands before another
no_bad_word_before : (text : List ℕ) (a b : List Event) (i j : ℕ) (first : FirstBadWord text a i)
    (second : FirstBadWord text b j)
    → length first.front < length second.front → ⊥
no_bad_word_before text a b i j first second shorter =
    let part = between text first.front first.rest second.front second.rest first.split second.split (omega arith) in
    let opened : open_word part.more ≡ [] =
    between_opens_none first.front part.more first.between.0 first.between.1
    (sym (ap open_word part.onwards) ∙ second.between.0) in
    let some : 0 < length part.more = omega (arith, part.long) in
    let same : front_word first.rest ≡ front_word part.more =
    ap front_word part.left ∙ front_word_stays part.more second.rest some opened in
    let earlier : FirstBadWord second.front a i = record {
      front = first.front;
      rest = part.more;
      split = part.onwards;
      at = first.at;
      between = first.between;
      spells = first.spells;
      word = sym (ap is_word same) ∙ first.word;
      no_token = sym (ap event_of same) ∙ first.no_token;
    } in
    bad_word_spells_none second.front a b i earlier second.spells

-- A text has one first bad word.
pub one_bad_word : (text : List ℕ) (a b : List Event) (i j : ℕ) → FirstBadWord text a i → FirstBadWord text b j
    → (a ≡ b) × (i ≡ j)
one_bad_word text a b i j first second =
    elim (cases_order (length first.front) (length second.front)) [
      | inl same ↦
          let fronts : first.front ≡ second.front =
          sym (take_at first.front first.rest (length second.front) same)
          ∙ ap (take (length second.front)) (sym first.split ∙ second.split)
          ∙ take_at second.front second.rest (length second.front) refl in (
            one_spelling second.front a b (subst (λ (all : List ℕ). Spells all a) fronts first.spells) second.spells,
            sym first.at ∙ same ∙ second.at,
          )
      | inr apart ↦
          elim apart [
            | inl shorter ↦ absurd (no_bad_word_before text a b i j first second shorter)
            | inr longer ↦ absurd (no_bad_word_before text b a j i second first longer)
          ]
    ]
