-- The time behind a line of a text, by that before the line: for the law `the_last_time_line_counts`.
-- Bytes of a line before its LF either all stand in no word, and change nothing, or one begins a gap
-- without a time, which has none up to the LF. The LF adds what its line tells.
use Rattle.std.proofs.Common.{◌≡◌, ◌<◌, ℕ, suc, ◌&&◌, not, Bool, true, false, inl, inr, cond, Option, None, Some}
use Rattle.std.proofs.Common.{List, [], ◌∷◌, ◌++◌, length, refl, subst, sym, ap, ◌∙◌, arith}
use Rattle.std.specs.Prelude.{codes}
use Rattle.std.specs.List.{filter, onto_first}
use Rattle.std.specs.Option.{option_or}
use Rattle.std.proofs.lemmas.Bool.{cases_Bool, false≢true, ne_eqb}
use Rattle.std.proofs.lemmas.List.{append_assoc, append-nil}
use Rattle.pmb_bus.specs.Text.{ends_in_comment, in_comment, is_separator, is_word, words}
use Rattle.pmb_bus.proofs.Words.{blank, blank_out, comment_cuts, ends_in_comment_by, runs_from, runs_from-cut}
use Rattle.pmb_bus.proofs.Words.{runs_from-kept}
use Rattle.pmb_places.specs.Text.{is_in_word}
use Rattle.pmb_times.specs.Line.{line_time}
use Rattle.pmb_times.specs.Text.{line_behind, time_after, time_behind, time_from, told_by}
use Rattle.pmb_times.specs.TextLine.{BeginsLine, HasNoLineFeed, IsLineAfter}
use Rattle.pmb_times.proofs.Bytes.{line_by, longer_line, same_time, time_by, time_from-append}

-- ---- where a line begins

record StartsLine (front : List ℕ) : Type 0 where
  pub line : line_behind front ≡ []
  pub outside : ends_in_comment front ≡ false

starts_line : (front : List ℕ) → BeginsLine front → StartsLine front
starts_line front (inl is) = subst StartsLine (sym is) (record { line = refl; outside = refl })
starts_line front (inr (lines, is)) =
    subst StartsLine (sym is) (record { line = line_by lines 10; outside = ends_in_comment_by lines 10 })

-- ---- bytes of a line

-- the words of what goes on with a text that ends in a comment or not
abbrev words_from : Bool → List ℕ → List (List ℕ)
words_from before text = filter is_word (runs_from before text)

no_feed_after : (b : ℕ) (rest : List ℕ) → HasNoLineFeed (b ∷ rest) → HasNoLineFeed rest
no_feed_after b rest none k within = none (suc k) (omega (arith, within))

-- the line under way goes on
line_longer : (text rest : List ℕ) → HasNoLineFeed rest → line_behind (text ++ rest) ≡ line_behind text ++ rest
line_longer text [] none = ap line_behind (append-nil text) ∙ sym (append-nil (line_behind text))
line_longer text (b ∷ rest) none =
    ap line_behind (sym (append_assoc text (b ∷ []) rest))
    ∙ line_longer (text ++ b ∷ []) rest (no_feed_after b rest none)
    ∙ ap (λ (line : List ℕ). line ++ rest) (longer_line text b (none 0 (omega arith)))
    ∙ append_assoc (line_behind text) (b ∷ []) rest

-- a byte that stands in no word cuts
cuts_where : (text : List ℕ) (b : ℕ) (inside separates : Bool) → in_comment (ends_in_comment text) b ≡ inside
    → is_separator b ≡ separates → (not inside && not separates) ≡ false
    → is_separator (blank (ends_in_comment text) b) ≡ true
cuts_where text b true separates in_it is out = comment_cuts (ends_in_comment text) b in_it
cuts_where text b false true in_it is out = ap is_separator (blank_out (ends_in_comment text) b in_it) ∙ is
cuts_where text b false false in_it is out = absurd (false≢true (sym out))

-- so the words after it are those of the rest
words_after : (text : List ℕ) (b : ℕ) (rest : List ℕ) → is_in_word text b ≡ false
    → words_from (ends_in_comment (text ++ b ∷ [])) rest ≡ words_from (ends_in_comment text) (b ∷ rest)
words_after text b rest out =
    let cuts = cuts_where text b (in_comment (ends_in_comment text) b) (is_separator b) refl refl out in
    ap (λ (inside : Bool). words_from inside rest) (ends_in_comment_by text b)
    ∙ sym (ap (filter is_word) (runs_from-cut (ends_in_comment text) b rest cuts))

-- a byte of a word makes a word
first_is_word : (b : ℕ) (runs : List (List ℕ)) → 0 < length (filter is_word (onto_first b runs))
first_is_word b [] = omega arith
first_is_word b (run ∷ runs) = omega arith

has_word_where : (text : List ℕ) (b : ℕ) (rest : List ℕ) (inside separates : Bool)
    → in_comment (ends_in_comment text) b ≡ inside → is_separator b ≡ separates
    → (not inside && not separates) ≡ true → 0 < length (words_from (ends_in_comment text) (b ∷ rest))
has_word_where text b rest true separates in_it is in_word = absurd (false≢true in_word)
has_word_where text b rest false true in_it is in_word = absurd (false≢true in_word)
has_word_where text b rest false false in_it is in_word =
    subst (λ (runs : List (List ℕ)). 0 < length (filter is_word runs))
    (sym (runs_from-kept (ends_in_comment text) b rest in_it is)) (first_is_word b (runs_from false rest))

has_word : (text : List ℕ) (b : ℕ) (rest : List ℕ) → is_in_word text b ≡ true
    → 0 < length (words_from (ends_in_comment text) (b ∷ rest))
has_word text b rest = has_word_where text b rest (in_comment (ends_in_comment text) b) (is_separator b) refl refl

-- ---- the time before the LF

-- without words the time stays,
stays : (text : List ℕ) (time : Option (List ℕ)) (rest : List ℕ) → HasNoLineFeed rest
    → words_from (ends_in_comment text) rest ≡ [] → time_from text time rest ≡ time
stays text time [] none no_words = refl
stays text time (b ∷ rest) none no_words =
    elim (cases_Bool (is_in_word text b)) [
      | inl in_word ↦
          let some = has_word text b rest in_word in
          absurd (omega (arith, some, ap (λ (ws : List (List ℕ)). length ws) no_words))
      | inr out ↦
          ap (λ (now : Option (List ℕ)). time_from (text ++ b ∷ []) now rest)
          (same_time text time b out (none 0 (omega arith)))
          ∙ stays (text ++ b ∷ []) time rest (no_feed_after b rest none) (words_after text b rest out ∙ no_words)
    ]

-- where there is none, no byte but LF tells one,
abbrev none_if : Bool → Option (List ℕ)
none_if in_word = cond in_word None None

none_always : (in_word : Bool) → none_if in_word ≡ None
none_always true = refl
none_always false = refl

none_after : (text : List ℕ) (b : ℕ) → (b ≡ 10 → ⊥) → time_after text None b ≡ None
none_after text b other =
    ap (λ (v : Bool). cond (is_in_word text b) None (option_or (cond v (line_time (line_behind text)) None) None))
    (ne_eqb b 10 other)
    ∙ none_always (is_in_word text b)

none_stays : (text rest : List ℕ) → HasNoLineFeed rest → time_from text None rest ≡ None
none_stays text [] none = refl
none_stays text (b ∷ rest) none =
    ap (λ (now : Option (List ℕ)). time_from (text ++ b ∷ []) now rest) (none_after text b (none 0 (omega arith)))
    ∙ none_stays (text ++ b ∷ []) rest (no_feed_after b rest none)

-- and with a word there is none
ends : (text : List ℕ) (time : Option (List ℕ)) (rest : List ℕ) → HasNoLineFeed rest
    → 0 < length (words_from (ends_in_comment text) rest) → time_from text time rest ≡ None
ends text time [] none some = absurd (omega (arith, some))
ends text time (b ∷ rest) none some =
    elim (cases_Bool (is_in_word text b)) [
      | inl in_word ↦
          ap (λ (v : Bool). time_from (text ++ b ∷ []) (cond v None (option_or (told_by text b) time)) rest) in_word
          ∙ none_stays (text ++ b ∷ []) rest (no_feed_after b rest none)
      | inr out ↦
          ends (text ++ b ∷ []) (time_after text time b) rest (no_feed_after b rest none)
          (subst (λ (ws : List (List ℕ)). 0 < length ws) (sym (words_after text b rest out)) some)
    ]

-- ---- the clauses of the law

module _ (front line : List ℕ) (after : IsLineAfter front line) where
  words_there : words_from (ends_in_comment front) line ≡ words line
  words_there = ap (λ (inside : Bool). words_from inside line) (starts_line front after.begins).outside

  pub keeps : words line ≡ [] → time_behind (front ++ line) ≡ time_behind front
  keeps no_words =
      time_from-append [] None front line ∙ stays front (time_behind front) line after.unended (words_there ∙ no_words)

  pub begins_gap : 0 < length (words line) → time_behind (front ++ line) ≡ None
  begins_gap some =
      time_from-append [] None front line
      ∙ ends front (time_behind front) line after.unended
      (subst (λ (ws : List (List ℕ)). 0 < length ws) (sym words_there) some)

  -- the LF tells what its line tells
  at_line_end : time_behind (front ++ line ++ codes "\n") ≡ option_or (line_time line) (time_behind (front ++ line))
  at_line_end =
      time_by (front ++ line) 10
      ∙ ap (λ (own : List ℕ). option_or (line_time own) (time_behind (front ++ line)))
      (line_longer front line after.unended ∙ ap (λ (own : List ℕ). own ++ line) (starts_line front after.begins).line)

-- a time line's time is told,
pub tells : (front line time : List ℕ) → IsLineAfter front line → line_time line ≡ Some time
    → time_behind (front ++ line ++ codes "\n") ≡ Some time
tells front line time after is =
    at_line_end front line after ∙ ap (λ (own : Option (List ℕ)). option_or own (time_behind (front ++ line))) is

-- and another line changes nothing
pub tells_none : (front line : List ℕ) → IsLineAfter front line → line_time line ≡ None
    → time_behind (front ++ line ++ codes "\n") ≡ time_behind (front ++ line)
tells_none front line after is =
    at_line_end front line after ∙ ap (λ (own : Option (List ℕ)). option_or own (time_behind (front ++ line))) is
