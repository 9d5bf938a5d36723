-- Where a lexer stands after one byte more, and at the end of a text. For `Lexer::step` with its
-- parts, `Lexer::finish` and `Lexer::skip`. A byte ends the word under way, makes it longer or is
-- one of a comment; events and count go on with the text, and a bad word stops it.
use Rattle.std.proofs.Common.{◌≡◌, ℕ, ◌+◌, ◌-◌, ◌^◌, min, Bool, true, false, inl, inr, Ok, Err, List, [], ◌∷◌, ◌++◌}
use Rattle.std.proofs.Common.{refl, sym, ap, subst, ◌∙◌, arith}
use Rattle.std.specs.List.{filter, onto_first}
use Rattle.std.proofs.lemmas.List.{append-nil, append_assoc}
use Rattle.std.proofs.lemmas.Bool.{cases_eq, ne_eqb}
use Rattle.pmb_bus.specs.declared.event.Event.{Event}
use Rattle.pmb_bus.specs.declared.lexer.LexFault.{LexFault}
use Rattle.pmb_bus.specs.declared.lexer.LexerState.{LexerState}
use Rattle.pmb_bus.specs.declared.lexer.LexerState.TheVariants as places
use Rattle.pmb_bus.specs.declared.lexer.Lexer.{Lexer}
use Rattle.pmb_bus.specs.Event.{event_of}
use Rattle.pmb_bus.specs.Text.{is_separator, in_comment, ends_in_comment, is_word, open_word, ended_words, AreTokens}
use Rattle.pmb_bus.specs.Text.{Spells, EndedWordsSpell, BeginsText, blanked_from}
use Rattle.pmb_bus.specs.machine.Bytes.{ends_word}
use Rattle.pmb_bus.specs.Count.{capped}
use Rattle.pmb_bus.specs.machine.Standing.{IsPlace, LexerStandsAt}
use Rattle.pmb_bus.specs.LexFault.{IsFaultOf, OpenWordIsBad}
use Rattle.pmb_bus.specs.machine.Steps.{BeginsToken, place_behind_word, OpenWordComesTo, Lengthens, Stops}
use Rattle.pmb_bus.proofs.Splits.{glue, slice_split-HasRuns}
use Rattle.pmb_bus.proofs.Words.{runs_from, runs_from-cut, runs_from-kept, blank, cut_by, longer_by, ends_in_comment_by}
use Rattle.pmb_bus.proofs.Words.{in_comment_from_out, ends_word_cuts, word_byte, blank_inside_cuts}
use Rattle.pmb_bus.proofs.Tokens.{AreTokens-append, is_word-append}
use Rattle.pmb_bus.proofs.Fronts.{open_word_is_bad, bad_word_spells_none}
use Rattle.pmb_bus.proofs.Spelling.{no_word, spells_open, spells_ended}

-- ---- texts that spell so far

-- a text that spells events begins one
pub begins_spelled : (text : List ℕ) (events : List Event) → Spells text events → BeginsText text
begins_spelled text events spells = (
  [],
  events,
  subst (λ (all : List ℕ). Spells all events)
      (sym (append-nil text)) spells,
)

-- what a byte that cuts leaves of the text
pub ended_by : (text : List ℕ) (b : ℕ) (events found : List Event) → is_separator (blank (ends_in_comment text) b)
    ≡ true
    → EndedWordsSpell text events → AreTokens (filter is_word (open_word text ∷ [])) found
    → EndedWordsSpell (text ++ b ∷ []) (events ++ found)
ended_by text b events found cuts ended word =
    subst (λ (ws : List (List ℕ)). AreTokens ws (events ++ found)) (sym (cut_by text b cuts).ended)
    (AreTokens-append (ended_words text) (filter is_word (open_word text ∷ [])) events found ended word)

-- ---- one byte more

-- a lexer after one byte more
abbrev pub advanced : Lexer → LexerState → Lexer
advanced lexer place = record { place = place; used = min (lexer.used + 1) (2 ^ 64 - 1) }

-- one byte more is counted, up to the greatest u64
counts : (used n : ℕ) → used ≡ capped n → min (used + 1) (2 ^ 64 - 1) ≡ capped (n + 1)
counts used n same = omega arith

-- after a byte that ends the word under way
pub stands_behind : (before after : Lexer) (n : ℕ) (text : List ℕ) (b : ℕ) (events found : List Event)
    (place : LexerState)
    → LexerStandsAt before n text events → after ≡ advanced before place → is_separator (blank (ends_in_comment text) b)
    ≡ true
    → AreTokens (filter is_word (open_word text ∷ [])) found → IsPlace place (n + 1) (text ++ b ∷ [])
    → LexerStandsAt after (n + 1) (text ++ b ∷ []) (events ++ found)
stands_behind before after n text b events found place stands is cuts word here =
    let ended = ended_by text b events found cuts stands.ended word in
    subst (λ (lexer : Lexer). LexerStandsAt lexer (n + 1) (text ++ b ∷ []) (events ++ found)) (sym is)
    (
    record {
      ended = ended;
      begins = begins_spelled (text ++ b ∷ []) (events ++ found)
          (spells_ended (text ++ b ∷ []) (events ++ found) ended (cut_by text b cuts).opened);
      counted = counts before.used n stands.counted;
      place = here;
    }
    )

-- the place after a byte that ends a word
pub place_behind_is : (n : ℕ) (text : List ℕ) (b : ℕ) → ends_in_comment text ≡ false → ends_word b ≡ true
    → IsPlace (place_behind_word b) n (text ++ b ∷ [])
place_behind_is n text b outside ends =
    let cuts : is_separator (blank (ends_in_comment text) b) ≡ true =
    subst (λ (v : Bool). is_separator (blank v b) ≡ true) (sym outside) (ends_word_cuts b ends) in
    let opened = (cut_by text b cuts).opened in
    let inside = ends_in_comment_by text b ∙ ap (λ (v : Bool). in_comment v b) outside in
    elim (cases_eq b 35) [
      | inl hash ↦
          subst (λ (place : LexerState). IsPlace place n (text ++ b ∷ [])) (sym (ap place_behind_word hash))
          (opened, inside ∙ (in_comment_from_out b).0 hash)
      | inr other ↦
          let between : places.Between ≡ place_behind_word b = rw (ne_eqb b 35 other) refl in
          subst (λ (place : LexerState). IsPlace place n (text ++ b ∷ [])) between
          (opened, inside ∙ (in_comment_from_out b).1 other)
    ]

-- after a byte that ends the word under way, if there is one
pub stands_end : (before after : Lexer) (n : ℕ) (text : List ℕ) (b : ℕ) (events found : List Event)
    → LexerStandsAt before n text events
    → after ≡ advanced before (place_behind_word b) → ends_in_comment text ≡ false → ends_word b ≡ true
    → AreTokens (filter is_word (open_word text ∷ [])) found
    → LexerStandsAt after (n + 1) (text ++ b ∷ []) (events ++ found)
stands_end before after n text b events found stands is outside ends word =
    let cuts : is_separator (blank (ends_in_comment text) b) ≡ true =
    subst (λ (v : Bool). is_separator (blank v b) ≡ true) (sym outside) (ends_word_cuts b ends) in
    stands_behind before after n text b events found (place_behind_word b) stands is cuts word
    (place_behind_is (n + 1) text b outside ends)

-- after a byte of a comment
pub stands_in_comment : (before after : Lexer) (n : ℕ) (text : List ℕ) (b : ℕ) (events : List Event)
    (place : LexerState)
    → LexerStandsAt before n text events → before.place ≡ places.Comment → after ≡ advanced before place
    → (open_word (text ++ b ∷ []) ≡ [] → ends_in_comment (text ++ b ∷ []) ≡ in_comment true b
    → IsPlace place (n + 1) (text ++ b ∷ []))
    → LexerStandsAt after (n + 1) (text ++ b ∷ []) events
stands_in_comment before after n text b events place stands comment is here =
    let was : IsPlace places.Comment n text = subst (λ (at : LexerState). IsPlace at n text) comment stands.place in
    let cuts : is_separator (blank (ends_in_comment text) b) ≡ true =
    subst (λ (v : Bool). is_separator (blank v b) ≡ true) (sym was.1) (blank_inside_cuts b) in
    subst (λ (all : List Event). LexerStandsAt after (n + 1) (text ++ b ∷ []) all) (append-nil events)
    (
    stands_behind before after n text b events [] place stands is cuts (no_word text was.0)
    (here (cut_by text b cuts).opened (ends_in_comment_by text b ∙ ap (λ (v : Bool). in_comment v b) was.1))
    )

-- after a word with which some token begins
begins_word : (text : List ℕ) (events : List Event) → EndedWordsSpell text events → ends_in_comment text ≡ false
    → BeginsToken (open_word text) → BeginsText text
begins_word text events ended outside begins =
    elim begins.1 [
      | inl token ↦ begins_spelled text (events ++ begins.0 ∷ []) (spells_open text events begins.0 ended token)
      | inr with_digit ↦
          let longer = longer_by text 48 (ap (λ (v : Bool). in_comment v 48) outside) refl in
          let ended_more = subst (λ (ws : List (List ℕ)). AreTokens ws events) (sym longer.ended) ended in (
            48 ∷ [],
            events ++ begins.0 ∷ [],
            spells_open (text ++ 48 ∷ []) events begins.0 ended_more (ap event_of longer.opened ∙ with_digit),
          )
    ]

-- after one more byte of a word
pub stands_longer : (before after : Lexer) (n : ℕ) (text : List ℕ) (b : ℕ) (events : List Event) (place : LexerState)
    → LexerStandsAt before n text events → after ≡ advanced before place → ends_in_comment text ≡ false
    → ends_word b ≡ false
    → Lengthens n text b (Ok place) → LexerStandsAt after (n + 1) (text ++ b ∷ []) events
stands_longer before after n text b events place stands is outside goes_on lengthens =
    let byte = word_byte b goes_on in
    let out : in_comment (ends_in_comment text) b ≡ false = ap (λ (v : Bool). in_comment v b) outside ∙ byte.0 in
    let longer = longer_by text b out byte.1 in
    let ended = subst (λ (ws : List (List ℕ)). AreTokens ws events) (sym longer.ended) stands.ended in
    let begins = subst BeginsToken (sym longer.opened) lengthens.1 in
    subst (λ (lexer : Lexer). LexerStandsAt lexer (n + 1) (text ++ b ∷ []) events) (sym is)
    (
    record {
      ended = ended;
      begins = begins_word (text ++ b ∷ []) events ended (ends_in_comment_by text b ∙ out) begins;
      counted = counts before.used n stands.counted;
      place = lengthens.0;
    }
    )

-- ---- faults

-- a lexer that has met a fault
abbrev pub failed : Lexer → LexFault → Lexer
failed lexer fault = record lexer { place = places.Faulted fault }

-- a bad word stops a text
stops_by : (before after : Lexer) (n : ℕ) (text : List ℕ) (b : ℕ) (events : List Event) (fault : LexFault)
    → after ≡ failed before fault → IsFaultOf n text fault
    → ((more : List ℕ) → OpenWordIsBad text (text ++ b ∷ more) events)
    → Stops n text events b after fault
stops_by before after n text b events fault is here bad = record {
  stops = λ begins.
      let first = bad begins.0 in
      bad_word_spells_none (text ++ b ∷ begins.0) events begins.1 first.0 first.2
      (subst (λ (all : List ℕ). Spells all begins.1) (append_assoc text (b ∷ []) begins.0) begins.2);
  at = here;
  bad = bad;
  faulted = record { kept = ap (λ (lexer : Lexer). lexer.place) is };
}

-- at a byte that ends a word which is no token
pub stops_behind : (before after : Lexer) (n : ℕ) (text : List ℕ) (b : ℕ) (events : List Event) (fault : LexFault)
    → LexerStandsAt before n text events → after ≡ failed before fault → ends_in_comment text ≡ false
    → ends_word b ≡ true
    → OpenWordComesTo n text (Err fault) → Stops n text events b after fault
stops_behind before after n text b events fault stands is outside ends none =
    stops_by before after n text b events fault is none.2
    (
    λ more.
    let cuts : glue (open_word text) (runs_from false (b ∷ more)) ≡ (open_word text ++ [])
    ∷ runs_from (in_comment false b) more =
    ap (glue (open_word text)) (runs_from-cut false b more (ends_word_cuts b ends)) in
    open_word_is_bad text events (b ∷ more) (open_word text) (runs_from (in_comment false b) more) outside stands.ended
    (cuts ∙ ap (λ (word : List ℕ). word ∷ runs_from (in_comment false b) more) (append-nil (open_word text))) none.0
    none.1
    )

-- at one more byte of a word with which no token begins
pub stops_longer : (before after : Lexer) (n : ℕ) (text : List ℕ) (b : ℕ) (events : List Event) (fault : LexFault)
    → LexerStandsAt before n text events → after ≡ failed before fault → ends_in_comment text ≡ false
    → ends_word b ≡ false
    → Lengthens n text b (Err fault) → Stops n text events b after fault
stops_longer before after n text b events fault stands is outside goes_on none =
    let byte = word_byte b goes_on in
    stops_by before after n text b events fault is none.1
    (
    λ more.
    let has = slice_split-HasRuns is_separator (blanked_from false more) in
    let keeps : glue (open_word text) (runs_from false (b ∷ more)) ≡ (open_word text ++ b ∷ has.0) ∷ has.1 =
    ap (glue (open_word text)) (runs_from-kept false b more byte.0 byte.1 ∙ ap (onto_first b) has.2) in
    open_word_is_bad text events (b ∷ more) (open_word text ++ b ∷ has.0) has.1 outside stands.ended keeps
    (is_word-append (open_word text) b has.0) (none.0 has.0)
    )
