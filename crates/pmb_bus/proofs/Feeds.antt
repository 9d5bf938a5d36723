-- What a lexer returns for a piece of text, byte by byte: for the loop of `Lexer::feed_bytes`.
-- After i bytes no word has ended and the lexer stands after them; the next byte goes on, ends a
-- word or is refused, and the end of the piece needs more.
use Rattle.std.proofs.Common.{◌≡◌, ℕ, ◌+◌, ◌-◌, ◌<◌, List, [], ◌∷◌, ◌++◌, length, take, drop, get_or, refl, sym, ap}
use Rattle.std.proofs.Common.{subst, ◌∙◌, arith}
use Rattle.std.proofs.lemmas.List.{append_assoc, take_more, take_all, drop_more, take-append-drop}
use Rattle.pmb_bus.specs.declared.event.Event.{Event}
use Rattle.pmb_bus.specs.declared.lexer.LexFault.{LexFault}
use Rattle.pmb_bus.specs.declared.lexer.Step.TheVariants as answers
use Rattle.pmb_bus.specs.declared.lexer.Lexer.{Lexer}
use Rattle.pmb_bus.specs.Text.{EndedWordsSpell, BeginsText}
use Rattle.pmb_bus.specs.machine.Standing.{LexerStandsAt, IsFaulted}
use Rattle.pmb_bus.specs.LexFault.{OpenWordIsBad}
use Rattle.pmb_bus.specs.machine.Steps.{Steps}
use Rattle.pmb_bus.specs.Lexer.{NeedsMore, EndsWord, Refuses}

-- a lexer with no fault that was given the first i bytes of a piece, and has ended no word
pub record FedTo (before : Lexer) (piece : List ℕ) (i : ℕ) (now : Lexer) : Type 0 where
  pub stands : (n : ℕ) (text : List ℕ) (events : List Event) → LexerStandsAt before n text events
      → LexerStandsAt now (n + i) (text ++ take i piece) events
  pub sound : (fault : LexFault) → IsFaulted before fault → ⊥

module _ (before now : Lexer) (piece : List ℕ) (i d : ℕ) (fed : FedTo before piece i now)
    (within : i < length piece) where
  -- the text after one byte more
  one_more : (text : List ℕ) → (text ++ take i piece) ++ get_or piece i d ∷ [] ≡ text ++ take (i + 1) piece
  one_more text =
      append_assoc text (take i piece) (get_or piece i d ∷ []) ∙ ap (λ (part : List ℕ). text ++ part)
      (sym (take_more piece i d within))

  -- where a lexer stands after one byte more
  behind : (n : ℕ) (text : List ℕ) (events : List Event) (after : Lexer)
      → LexerStandsAt after ((n + i) + 1) ((text ++ take i piece) ++ get_or piece i d ∷ []) events
      → LexerStandsAt after (n + (i + 1)) (text ++ take (i + 1) piece) events
  behind n text events after stands =
      let count : (n + i) + 1 ≡ n + (i + 1) = omega arith in
      subst (λ (m : ℕ). LexerStandsAt after m (text ++ take (i + 1) piece) events) count
      (subst (λ (all : List ℕ). LexerStandsAt after ((n + i) + 1) all events) (one_more text) stands)

  -- one byte more, and no word has ended
  pub fed_more : (after : Lexer)
      → ((n : ℕ) (text : List ℕ) (events : List Event) → LexerStandsAt now n text events
      → Steps n text events (get_or piece i d) answers.Need after)
      → FedTo before piece (i + 1) after
  fed_more after steps = record {
    stands = λ n text events stands. behind n text events after
        (steps (n + i) (text ++ take i piece) events (fed.stands n text events stands));
    sound = fed.sound;
  }

  -- one byte more ends a word
  pub fed_event : (after : Lexer) (event : Event)
      → ((n : ℕ) (text : List ℕ) (events : List Event) → LexerStandsAt now n text events
      → Steps n text events (get_or piece i d) (answers.Event event) after)
      → (n : ℕ) (text : List ℕ) (events : List Event) → LexerStandsAt before n text events
      → EndsWord n text events piece (i + 1) after event
  fed_event after event steps n text events stands =
      let here = fed.stands n text events stands in
      let last : i ≡ (i + 1) - 1 = omega arith in record {
        some = omega arith;
        within = omega arith;
        before = subst (λ (k : ℕ). EndedWordsSpell (text ++ take k piece) events) last here.ended;
        stands = behind n text (events ++ event ∷ []) after (steps (n + i) (text ++ take i piece) events here);
      }

  -- what goes on after a byte that is refused
  onwards : (text more : List ℕ)
      → (text ++ take i piece) ++ get_or piece i d ∷ (drop (i + 1) piece ++ more) ≡ (text ++ piece) ++ more
  onwards text more =
      let rest : drop i piece ≡ get_or piece i d ∷ drop (i + 1) piece = drop_more piece i d within in
      let whole : take i piece ++ get_or piece i d ∷ drop (i + 1) piece ≡ piece =
      ap (λ (part : List ℕ). take i piece ++ part) (sym rest) ∙ take-append-drop i piece in
      append_assoc text (take i piece) (get_or piece i d ∷ (drop (i + 1) piece ++ more))
      ∙ ap (λ (part : List ℕ). text ++ part) (sym
      (append_assoc (take i piece) (get_or piece i d ∷ drop (i + 1) piece) more)
      ∙ ap (λ (part : List ℕ). part ++ more) whole)
      ∙ sym (append_assoc text piece more)

  -- the next byte is refused
  pub fed_fault : (after : Lexer) (fault : LexFault)
      → ((n : ℕ) (text : List ℕ) (events : List Event) → LexerStandsAt now n text events
      → Steps n text events (get_or piece i d) (answers.Fault fault) after)
      → (n : ℕ) (text : List ℕ) (events : List Event) → LexerStandsAt before n text events
      → Refuses n text events piece i after fault
  fed_fault after fault steps n text events stands =
      let here = fed.stands n text events stands in
      let stops = steps (n + i) (text ++ take i piece) events here in record {
        within = within;
        before = here.ended;
        begins = here.begins;
        stops = λ begins. stops.stops (subst BeginsText (sym (one_more text)) begins);
        at = stops.at;
        bad = λ more.
            subst (λ (all : List ℕ). OpenWordIsBad (text ++ take i piece) all events) (onwards text more)
            (stops.bad (drop (i + 1) piece ++ more));
        faulted = stops.faulted;
      }

-- the whole piece
pub fed_all : (before now : Lexer) (piece : List ℕ) (i : ℕ) → FedTo before piece i now → i ≡ length piece
    → (n : ℕ) (text : List ℕ) (events : List Event) → LexerStandsAt before n text events
    → NeedsMore n text events piece (length piece) now
fed_all before now piece i fed last n text events stands =
    let whole : take i piece ≡ piece = take_all i piece (omega arith) in
    let here = subst (λ (part : List ℕ). LexerStandsAt now (n + i) (text ++ part) events) whole
    (fed.stands n text events stands) in
    record { all = refl; stands = subst (λ (k : ℕ). LexerStandsAt now (n + k) (text ++ piece) events) last here }
