-- Two texts end to end, of which the first ends between words: events and first bad words of the
-- second come after those of the first. For `Lexer::skip` and the law
-- `texts_may_be_cut_between_words`.
use Rattle.std.proofs.Common.{◌≡◌, ℕ, ◌+◌, ◌-◌, ◌^◌, min, Bool, false, List, [], ◌∷◌, ◌++◌, length, refl, sym, ap}
use Rattle.std.proofs.Common.{subst, ◌∙◌, arith}
use Rattle.std.proofs.lemmas.List.{append_assoc, length-append}
use Rattle.pmb_bus.specs.declared.event.Event.{Event}
use Rattle.pmb_bus.specs.Text.{AreTokens, EndsBetween, FirstBadWord, Spells, ends_in_comment, ends_in_comment_from}
use Rattle.pmb_bus.specs.Text.{last_run, open_word}
use Rattle.pmb_bus.specs.declared.lexer.LexerState.{LexerState}
use Rattle.pmb_bus.specs.declared.lexer.LexerState.TheVariants as places
use Rattle.pmb_bus.specs.declared.lexer.Lexer.{Lexer}
use Rattle.pmb_bus.specs.Count.{capped}
use Rattle.pmb_bus.specs.machine.Standing.{IsPlace, LexerStandsAt}
use Rattle.pmb_bus.proofs.Fronts.{words_between, words_ended}
use Rattle.pmb_bus.proofs.Spelling.{spells_ended}
use Rattle.pmb_bus.proofs.Stands.{begins_spelled}
use Rattle.pmb_bus.proofs.Splits.{glue, glue-nil}
use Rattle.pmb_bus.proofs.Tokens.{AreTokens-append}
use Rattle.pmb_bus.proofs.Words.{cut_by, ends_in_comment_by, ends_in_comment_from-append, open_word-append, runs_from}

-- the events of both
pub spelled : (front back : List ℕ) (events more : List Event) → EndsBetween front → Spells front events
    → Spells back more
    → Spells (front ++ back) (events ++ more)
spelled front back events more between first second =
    subst (λ (ws : List (List ℕ)). AreTokens ws (events ++ more)) (sym (words_between front back between.0 between.1))
    (AreTokens-append _ _ events more first second)

-- both end between words where the second does
between_behind : (front back : List ℕ) → EndsBetween front → EndsBetween back → EndsBetween (front ++ back)
between_behind front back first second = (
  open_word-append front back
      ∙ ap (λ (word : List ℕ). last_run (glue word (runs_from (ends_in_comment front) back))) first.0
      ∙ ap (λ (inside : Bool). last_run (glue [] (runs_from inside back))) first.1
      ∙ ap last_run (glue-nil (runs_from false back))
      ∙ second.0,
  ends_in_comment_from-append false front back ∙ ap (λ (inside : Bool). ends_in_comment_from inside back) first.1
      ∙ second.1,
)

-- between words there is one place
between_stays : (place : LexerState) (n m : ℕ) (text longer : List ℕ) → EndsBetween text → IsPlace place n text
    → EndsBetween longer → IsPlace place m longer
between_stays places.Between n m text longer between is here = here
between_stays places.Comment n m text longer between is here = cc (between.1, is.1)
between_stays (places.One at first) n m text longer between is here = cc (between.0, is.0)
between_stays (places.Two at byte) n m text longer between is here = cc (between.0, is.2)
between_stays (places.Faulted fault) n m text longer between is here = absurd is

-- bytes are counted, up to the greatest u64
counts_on : (used n more : ℕ) → used ≡ capped n → min (used + more) (2 ^ 64 - 1) ≡ capped (n + more)
counts_on used n more same = omega arith

-- a lexer after bytes that were read elsewhere
pub stands_behind_skipped : (before after : Lexer) (n : ℕ) (text bytes : List ℕ) (events more : List Event)
    → LexerStandsAt before n text events
    → after ≡ record { place = before.place; used = min (before.used + length bytes) (2 ^ 64 - 1) } → EndsBetween text
    → EndsBetween bytes → Spells bytes more
    → LexerStandsAt after (n + length bytes) (text ++ bytes) (events ++ more)
stands_behind_skipped before after n text bytes events more stands is first second spells =
    let here = between_behind text bytes first second in
    let all = spelled text bytes events more first (spells_ended text events stands.ended first.0) spells in
    let counted = stands.counted in
    subst (λ (lexer : Lexer). LexerStandsAt lexer (n + length bytes) (text ++ bytes) (events ++ more)) (sym is)
    (
    record {
      ended = subst (λ (ws : List (List ℕ)). AreTokens ws (events ++ more)) (words_ended (text ++ bytes) here.0) all;
      begins = begins_spelled (text ++ bytes) (events ++ more) all;
      counted = counts_on before.used n (length bytes) counted;
      place = between_stays before.place n (n + length bytes) text (text ++ bytes) first stands.place here;
    }
    )

-- the first bad word of the second
pub bad : (front back : List ℕ) (events more : List Event) (place : ℕ) → EndsBetween front → Spells front events
    → FirstBadWord back more place → FirstBadWord (front ++ back) (events ++ more) (length front + place)
bad front back events more place between first word = record {
  front = front ++ word.front;
  rest = word.rest;
  split = ap (λ (all : List ℕ). front ++ all) word.split ∙ sym (append_assoc front word.front word.rest);
  at = length-append front word.front ∙ ap (λ (n : ℕ). length front + n) word.at;
  between = between_behind front word.front between word.between;
  spells = spelled front word.front events more between first word.spells;
  word = word.word;
  no_token = word.no_token;
}

-- LF ends a word, and a comment
pub lines : (text : List ℕ) → EndsBetween (text ++ 10 ∷ [])
lines text = ((cut_by text 10 refl).opened, ends_in_comment_by text 10)
