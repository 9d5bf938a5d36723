-- What the lexer for C returns, for the whole text: for `PmbLexer::feed` and
-- `PmbLexer::finish`. It runs a new lexer of pmb_bus after the tail of the text, which it keeps as
-- numbers; what that one returns of tail and piece is what belongs to the whole text (`Spelled`,
-- `Bad`), and the numbers after the piece say where the word under way begins.
use Rattle.std.proofs.Common.{◌≡◌, ℕ, ◌+◌, ◌-◌, ◌≤◌, ◌==◌, ◌||◌, Bool, true, false, cond, List, [], ◌∷◌, ◌++◌, length}
use Rattle.std.proofs.Common.{take, codes, refl, sym, ap, subst, ◌∙◌, arith}
use Rattle.std.proofs.lemmas.List.{append-nil, append_assoc, length-take, take_all}
use Rattle.pmb_bus.specs.declared.event.Event.{Event}
use Rattle.pmb_bus.specs.declared.lexer.LexFault.{LexFault}
use Rattle.pmb_bus.specs.declared.lexer.LexFault.TheVariants.{BadToken}
use Rattle.pmb_bus.specs.declared.lexer.Lexer.{Lexer}
use Rattle.pmb_bus.specs.declared.lexer.LexerState.{LexerState}
use Rattle.pmb_bus.specs.declared.lexer.LexerState.TheVariants as places
use Rattle.pmb_bus.specs.declared.lexer.Step.{Step}
use Rattle.pmb_bus.specs.declared.lexer.Step.TheVariants as answers
use Rattle.pmb_bus.specs.Count.{capped}
use Rattle.pmb_bus.specs.LexFault.{OpenWordIsBad}
use Rattle.pmb_bus.specs.Lexer.{LexerStandsAt}
use Rattle.pmb_bus.specs.Lexer as whole
use Rattle.pmb_bus.specs.Text.{BeginsText, EndedWordsSpell, Spells, WordBeginsAt, ends_in_comment, is_word, open_word}
use Rattle.pmb_bus.specs.machine.Standing.{IsPlace as IsPlaceOf}
use Rattle.pmb_firmware.specs.declared.lexer.PmbLexer.{PmbLexer}
use Rattle.pmb_firmware.specs.Lexer.{EndsWord, Feeds, FinishRefuses, FinishesBetween, FinishesWord, NeedsMore, Refuses}
use Rattle.pmb_firmware.specs.machine.Bytes.{IsEnd, faulted, short, long}
use Rattle.pmb_firmware.specs.machine.Standing.{IsFaulted, IsPlace, StandsAt, StandsAtTail, between, comment, one, two}
use Rattle.pmb_firmware.proofs.Bad.{open_bad}
use Rattle.pmb_firmware.proofs.Spaces.{all_ended, not_all_ended, space_cuts, space_ends, space_inside, space_outside}
use Rattle.pmb_firmware.proofs.Spaces.{space_spells}
use Rattle.pmb_firmware.proofs.Spelled.{begins, spells, spells_ended, spells_no_more, tail_begins, tail_spells}
use Rattle.pmb_firmware.proofs.Tails.{tail_open}

-- ---- how long a word under way is

at_most_two : (place : LexerState) (n : ℕ) (text : List ℕ) → IsPlaceOf place n text → length (open_word text) ≤ 2
at_most_two places.Between n text is = omega (arith, ap (length {A = ℕ}) is.0)
at_most_two places.Comment n text is = omega (arith, ap (length {A = ℕ}) is.0)
at_most_two (places.One at first) n text is = omega (arith, ap (length {A = ℕ}) is.0)
at_most_two (places.Two at byte) n text is = omega (arith, ap (length {A = ℕ}) is.2)
at_most_two (places.Faulted fault) n text is = absurd is

-- so it has a place, and the numbers say which
stands_there : (lexer : PmbLexer) (n : ℕ) (text : List ℕ) (events : List Event) → length (open_word text) ≤ 2
    → EndedWordsSpell text events → BeginsText text
    → IsEnd lexer n text → StandsAt lexer n text events
stands_there lexer n text events most ended begun (short counted place) =
    record { ended = ended; begins = begun; counted = counted; place = place }
stands_there lexer n text events most ended begun (long counted is) = absurd (omega (arith, is.long))

-- ---- the word that is no token

-- where it begins
fault_at : (lexer : PmbLexer) (n : ℕ) (text : List ℕ) → IsEnd lexer n text → WordBeginsAt n text (faulted lexer).at
fault_at lexer n text (short counted (between place ends)) =
    let is : faulted lexer ≡ record lexer { place = 4; at = lexer.used } = rw place refl in
    (n, omega (arith, ap (length {A = ℕ}) ends.0), ap (λ (at : PmbLexer). at.at) is ∙ counted)
fault_at lexer n text (short counted (comment place none inside some)) =
    let is : faulted lexer ≡ record lexer { place = 4; at = lexer.used } = rw place refl in
    (n, omega (arith, ap (length {A = ℕ}) none), ap (λ (at : PmbLexer). at.at) is ∙ counted)
fault_at lexer n text (short counted (one place begun at)) =
    let is : faulted lexer ≡ record lexer { place = 4 } = rw place refl in
    (at.0, at.1, ap (λ (there : PmbLexer). there.at) is ∙ at.2)
fault_at lexer n text (short counted (two place begun at)) =
    let is : faulted lexer ≡ record lexer { place = 4 } = rw place refl in
    (at.0, at.1, ap (λ (there : PmbLexer). there.at) is ∙ at.2)
fault_at lexer n text (long counted is_long) =
    let place = is_long.place in
    let is : faulted lexer ≡ record lexer { place = 4 } = rw place refl in
    (is_long.at.0, is_long.at.1, ap (λ (there : PmbLexer). there.at) is ∙ is_long.at.2)

-- and it is told from then on
faulted_place : (first second : Bool) (lexer : PmbLexer)
    → 4 ≤ (cond (first || second) (record lexer { place = 4; at = lexer.used }) (record lexer { place = 4 })).place
faulted_place true second lexer = omega arith
faulted_place false true lexer = omega arith
faulted_place false false lexer = omega arith

pub is_faulted : (lexer : PmbLexer) → IsFaulted (faulted lexer) (BadToken (faulted lexer).at)
is_faulted lexer = record { place = faulted_place (lexer.place == 0) (lexer.place == 1) lexer; kept = refl }

-- all that was used stays counted
faulted_used : (first second : Bool) (lexer : PmbLexer)
    → (cond (first || second) (record lexer { place = 4; at = lexer.used }) (record lexer { place = 4 })).used
    ≡ lexer.used
faulted_used true second lexer = refl
faulted_used false true lexer = refl
faulted_used false false lexer = refl

still_counted : (lexer : PmbLexer) (n : ℕ) (text : List ℕ) → IsEnd lexer n text → (faulted lexer).used ≡ capped n
still_counted lexer n text ends =
    let counted : lexer.used ≡ capped n = elim ends
    [ short counted place ↦ counted | long counted is_long ↦ counted ] in
    faulted_used (lexer.place == 0) (lexer.place == 1) lexer ∙ counted

-- ---- a piece

-- after the bytes that were used
pub passed_to : (after : PmbLexer) (n : ℕ) (text piece : List ℕ) (used : ℕ) → used ≤ length piece
    → IsEnd after (n + length (take used piece)) (text ++ take used piece)
    → IsEnd after (n + used) (text ++ take used piece)
passed_to after n text piece used within ends =
    let count : n + length (take used piece) ≡ n + used = omega (arith, length-take used piece) in
    subst (λ (m : ℕ). IsEnd after m (text ++ take used piece)) count ends

module _ (before : PmbLexer) (n : ℕ) (text : List ℕ) (events : List Event) (stands : StandsAt before n text events)
    (inner : Lexer) (tail : StandsAtTail text inner) (piece : List ℕ) (used : ℕ) (next : Lexer) where
  used_to : length (open_word (tail.tail ++ take used piece)) ≤ 2 → (after : PmbLexer) (found : List Event)
      → EndedWordsSpell (tail.tail ++ take used piece) found
      → BeginsText (tail.tail ++ take used piece) → IsEnd after (n + used) (text ++ take used piece)
      → StandsAt after (n + used) (text ++ take used piece) (events ++ found)
  used_to most after found ended begun ends =
      stands_there after (n + used) (text ++ take used piece) (events ++ found)
      (omega (arith, ap (length {A = ℕ}) (tail_open text tail.tail tail.is_tail (take used piece))))
      (spells_ended text tail.tail tail.is_tail events stands.ended (take used piece) found ended)
      (begins text tail.tail tail.is_tail events stands.ended (take used piece) begun) ends

  -- the end is known where the other lexer stands
  abbrev pub GoesOver : PmbLexer → Type 0
  GoesOver after = (m : ℕ) (found : List Event) → LexerStandsAt next m (tail.tail ++ take used piece) found
      → IsEnd after (n + used) (text ++ take used piece)

  needs : (after : PmbLexer) → whole.NeedsMore (length tail.tail) tail.tail [] piece used next → GoesOver after
      → NeedsMore n text events piece used after
  needs after more over =
      let all : take used piece ≡ piece = take_all used piece (omega (arith, more.all)) in
      let there = subst (λ (part : List ℕ). LexerStandsAt next (length tail.tail + used) (tail.tail ++ part) [])
      (sym all) more.stands in
      let stood = used_to (at_most_two next.place (length tail.tail + used) (tail.tail ++ take used piece) there.place)
      after [] there.ended there.begins
      (over (length tail.tail + used) [] there) in
      let same : StandsAt after (n + used) (text ++ take used piece) events =
      subst (λ (found : List Event). StandsAt after (n + used) (text ++ take used piece) found)
      (append-nil events) stood in
      record {
        all = more.all;
        stands = subst (λ (part : List ℕ). StandsAt after (n + used) (text ++ part) events) all
            same;
      }

  ends_word : (after : PmbLexer) (event : Event) → whole.EndsWord (length tail.tail) tail.tail [] piece used next event
      → GoesOver after → EndsWord n text events piece used after event
  ends_word after event word over = record {
    some = word.some;
    within = word.within;
    before = spells_no_more text tail.tail tail.is_tail events stands.ended (take (used - 1) piece) word.before;
    stands = used_to (at_most_two next.place (length tail.tail + used) (tail.tail ++ take used piece) word.stands.place)
        after (event ∷ []) word.stands.ended
        word.stands.begins (over (length tail.tail + used) (event ∷ []) word.stands);
  }

  -- what is no fault is told as it is
  pub told : (after : PmbLexer) (step : Step) → ((fault : LexFault) → step ≡ answers.Fault fault → ⊥)
      → whole.Feeds (length tail.tail) tail.tail [] piece used step next → GoesOver after
      → Feeds n text events piece used step after
  told after answers.Need other fed over = needs after fed over
  told after (answers.Event event) other fed over = ends_word after event fed over
  told after (answers.Fault fault) other fed over = absurd (other fault refl)

  pub refuses : (passed : PmbLexer) (fault : LexFault)
      → whole.Refuses (length tail.tail) tail.tail [] piece used next fault
      → IsEnd passed (n + used) (text ++ take used piece)
      → Refuses n text events piece used (faulted passed) (BadToken (faulted passed).at)
  refuses passed fault refused ends = record {
    within = refused.within;
    before = spells_no_more text tail.tail tail.is_tail events stands.ended (take used piece) refused.before;
    begins = begins text tail.tail tail.is_tail events stands.ended (take used piece) refused.begins;
    stops = λ begun. refused.stops (tail_begins text tail.tail tail.is_tail events stands.ended
        (take (used + 1) piece) begun);
    at = fault_at passed (n + used) (text ++ take used piece) ends;
    bad = λ more.
        let there = open_bad text tail.tail tail.is_tail events stands.ended (piece ++ more) tail.is_behind
        (take used piece)
        (subst (λ (all : List ℕ). OpenWordIsBad (tail.tail ++ take used piece) all [])
        (append_assoc tail.tail piece more) (refused.bad more)) in
        subst (λ (all : List ℕ). OpenWordIsBad (text ++ take used piece) all events)
        (sym (append_assoc text piece more)) there;
    counted = still_counted passed (n + used) (text ++ take used piece) ends;
    faulted = is_faulted passed;
  }

-- ---- the end of the input

module _ (before : PmbLexer) (n : ℕ) (text : List ℕ) (events : List Event) (stands : StandsAt before n text events)
    (inner : Lexer) (tail : StandsAtTail text inner) (next : Lexer) where
  -- the tail, and no more
  tail_itself : (others : List Event) → Spells tail.tail others → Spells text (events ++ others)
  tail_itself others spelled =
      subst (λ (all : List ℕ). Spells all (events ++ others)) (append-nil text)
      (spells text tail.tail tail.is_tail events stands.ended [] others
      (subst (λ (all : List ℕ). Spells all others) (sym (append-nil tail.tail)) spelled))

  stands_behind : (after : PmbLexer) (others : List Event) → Spells text others → after.used ≡ before.used
      → IsPlace after n (text ++ codes " ")
      → StandsAt after n (text ++ codes " ") others
  stands_behind after others spelled counted place = record {
    ended = space_ends text others spelled;
    begins = (
      [],
      others,
      subst (λ (all : List ℕ). Spells all others) (sym (append-nil (text ++ codes " ")))
          (space_spells text others spelled),
    );
    counted = counted ∙ stands.counted;
    place = place;
  }

  still : Spells text events → IsPlace before n (text ++ codes " ")
  still spelled =
      elim stands.place [
        | between place ends ↦ between place (space_cuts text, space_outside text ends.1)
        | comment place none inside some ↦ comment place (space_cuts text) (space_inside text inside) some
        | one place begun begins ↦ absurd (all_ended text events spelled stands.ended (ap is_word begun.opened))
        | two place begun begins ↦ absurd (all_ended text events spelled stands.ended (ap is_word begun.opened))
      ]

  pub finishes_between : whole.FinishesBetween (length tail.tail) tail.tail [] next
      → FinishesBetween n text events before
  finishes_between done =
      let spelled : Spells text events = subst (λ (all : List Event). Spells text all) (append-nil events)
      (tail_itself [] done.spells) in
      record { spells = spelled; stands = stands_behind before events spelled refl (still spelled) }

  outside_there : (event : Event) → Spells text (events ++ event ∷ []) → ends_in_comment text ≡ false
  outside_there event spelled =
      elim stands.place [
        | between place ends ↦ ends.1
        | comment place none inside some ↦ absurd (not_all_ended text events event spelled stands.ended none)
        | one place begun begins ↦ begun.outside
        | two place begun begins ↦ begun.outside
      ]

  pub finishes_word : (event : Event) → whole.FinishesWord (length tail.tail) tail.tail [] next event
      → FinishesWord n text events (record before { place = 0 }) event
  finishes_word event done =
      let spelled : Spells text (events ++ event ∷ []) = tail_itself (event ∷ []) done.spells in
      record {
        spells = spelled;
        stands = stands_behind (record before { place = 0 }) (events ++ event ∷ []) spelled refl
            (between refl (space_cuts text, space_outside text (outside_there event spelled)));
      }

  pub finish_refuses : (fault : LexFault) → whole.FinishRefuses (length tail.tail) tail.tail [] next fault
      → FinishRefuses n text events (faulted before) (BadToken (faulted before).at)
  finish_refuses fault refused =
      let twice : OpenWordIsBad (tail.tail ++ []) (tail.tail ++ []) [] =
      subst (λ (all : List ℕ). OpenWordIsBad all all []) (sym (append-nil tail.tail)) refused.bad in
      record {
        spells_none = λ others spelled.
            let back = tail_spells text tail.tail tail.is_tail events stands.ended [] others
            (subst (λ (all : List ℕ). Spells all others) (sym (append-nil text)) spelled) in
            refused.spells_none back.0 (subst (λ (all : List ℕ). Spells all back.0) (append-nil tail.tail) back.1);
        at = fault_at before n text (short stands.counted stands.place);
        bad = subst (λ (all : List ℕ). OpenWordIsBad all all events) (append-nil text)
            (open_bad text tail.tail tail.is_tail events stands.ended [] tail.is_behind [] twice);
        counted = still_counted before n text (short stands.counted stands.place);
        faulted = is_faulted before;
      }
