-- What a lexer returns at the end of a text: for `Lexer::finish`. The end is as a space of no
-- bytes: it ends the word under way and leaves a comment, and so is the text with a space (byte
-- 32) after it read.
use Rattle.std.proofs.Common.{◌≡◌, ℕ, Bool, true, false, Some, Err, List, [], ◌∷◌, ◌++◌, refl, subst, ◌∙◌}
use Rattle.std.specs.List.{filter}
use Rattle.std.proofs.lemmas.List.{append-nil}
use Rattle.pmb_bus.specs.declared.event.Event.{Event}
use Rattle.pmb_bus.specs.declared.lexer.LexFault.{LexFault}
use Rattle.pmb_bus.specs.declared.lexer.LexerState.{LexerState}
use Rattle.pmb_bus.specs.declared.lexer.LexerState.TheVariants as places
use Rattle.pmb_bus.specs.declared.lexer.Lexer.{Lexer}
use Rattle.pmb_bus.specs.Event.{event_of}
use Rattle.pmb_bus.specs.Text.{is_separator, in_comment, ends_in_comment, is_word, open_word, AreTokens}
use Rattle.pmb_bus.specs.machine.Standing.{IsPlace, LexerStandsAt}
use Rattle.pmb_bus.specs.machine.Steps.{OpenWordComesTo}
use Rattle.pmb_bus.specs.Lexer.{FinishesBetween, FinishesWord, FinishRefuses}
use Rattle.pmb_bus.proofs.Words.{blank, cut_by, ends_in_comment_by}
use Rattle.pmb_bus.proofs.Tokens.{is_word-token}
use Rattle.pmb_bus.proofs.Fronts.{bad_word_spells_none}
use Rattle.pmb_bus.proofs.Spelling.{no_word, one_word, spells_open, spells_ended, outside_of_word, open_word_bad_here}
use Rattle.pmb_bus.proofs.Stands.{begins_spelled, ended_by}

-- a space cuts, in a comment and outside
space_cuts : (before : Bool) → is_separator (blank before 32) ≡ true
space_cuts true = refl
space_cuts false = refl

-- a space leaves a comment as it is
space_stays : (before : Bool) → in_comment before 32 ≡ before
space_stays true = refl
space_stays false = refl

-- a lexer after the end of a text, as if a space of no bytes stood there
stands_at_end : (before : Lexer) (n : ℕ) (text : List ℕ) (events found : List Event) (place : LexerState)
    → LexerStandsAt before n text events → AreTokens (filter is_word (open_word text ∷ [])) found
    → IsPlace place n (text ++ 32 ∷ [])
    → LexerStandsAt (record before { place = place }) n (text ++ 32 ∷ []) (events ++ found)
stands_at_end before n text events found place stands word here =
    let ended = ended_by text 32 events found (space_cuts (ends_in_comment text)) stands.ended word in record {
      ended = ended;
      begins = begins_spelled (text ++ 32 ∷ []) (events ++ found)
          (spells_ended (text ++ 32 ∷ []) (events ++ found) ended
          (cut_by text 32 (space_cuts (ends_in_comment text))).opened);
      counted = stands.counted;
      place = here;
    }

-- after the end no word is under way
opened_at_end : (text : List ℕ) → open_word (text ++ 32 ∷ []) ≡ []
opened_at_end text = (cut_by text 32 (space_cuts (ends_in_comment text))).opened

-- the end leaves a comment as it is
comment_at_end : (text : List ℕ) → ends_in_comment (text ++ 32 ∷ []) ≡ ends_in_comment text
comment_at_end text = ends_in_comment_by text 32 ∙ space_stays (ends_in_comment text)

-- between words and in a comment the place stays
place_stays : (place : LexerState) (n : ℕ) (text : List ℕ) → IsPlace place n text → open_word text ≡ []
    → IsPlace place n (text ++ 32 ∷ [])
place_stays places.Between n text is none = (opened_at_end text, comment_at_end text ∙ is.1)
place_stays places.Comment n text is none = (opened_at_end text, comment_at_end text ∙ is.1)
place_stays (places.One at first) n text is none = cc (none, is.0)
place_stays (places.Two at byte) n text is none = cc (none, is.2)
place_stays (places.Faulted fault) n text is none = absurd is

-- no word is under way
pub finishes_between : (lexer : Lexer) (n : ℕ) (text : List ℕ) (events : List Event) → LexerStandsAt lexer n text events
    → open_word text ≡ [] → FinishesBetween n text events lexer
finishes_between lexer n text events stands none = record {
  spells = spells_ended text events stands.ended none;
  stands = subst (λ (all : List Event). LexerStandsAt lexer n (text ++ 32 ∷ []) all) (append-nil events)
      (stands_at_end lexer n text events [] lexer.place stands (no_word text none)
      (place_stays lexer.place n text stands.place none));
}

-- the word under way ends
pub finishes_word : (lexer : Lexer) (n : ℕ) (text : List ℕ) (events : List Event) (event : Event)
    → LexerStandsAt lexer n text events
    → event_of (open_word text) ≡ Some event
    → FinishesWord n text events (record lexer { place = places.Between }) event
finishes_word lexer n text events event stands token = record {
  spells = spells_open text events event stands.ended token;
  stands = stands_at_end lexer n text events (event ∷ []) places.Between stands (one_word text event token)
      (opened_at_end text, comment_at_end text ∙ outside_of_word text (is_word-token (open_word text) event token));
}

-- the word under way is no token
pub finish_refuses : (lexer : Lexer) (n : ℕ) (text : List ℕ) (events : List Event) (fault : LexFault)
    → LexerStandsAt lexer n text events
    → OpenWordComesTo n text (Err fault) → FinishRefuses n text events (record lexer { place = places.Faulted fault })
    fault
finish_refuses lexer n text events fault stands none =
    let bad = open_word_bad_here text events stands.ended none.0 none.1 in record {
      spells_none = λ others spells. bad_word_spells_none text events others bad.0 bad.2 spells;
      at = none.2;
      bad = bad;
      faulted = record { kept = refl };
    }
