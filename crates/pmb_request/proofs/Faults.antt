-- What is wrong with a line, by where a reader stands: a word that no line can have there,
-- one for which there is no room, or the end where a word is missing. For `parse_request`,
-- `parse_write` and the law `request_or_fault`. By `Completions` some line begins with the words
-- before, and by `Completeness` none with the faulty one.
use Rattle.std.proofs.Common.{◌≡◌, ◌≢◌, ℕ, Some, None, List, [], ◌∷◌, ◌++◌, length, sym, ap, subst, inl, inr, ◌∙◌}
use Rattle.std.proofs.lemmas.List.{map-append}
use Rattle.pmb_line.specs.declared.word_fault.WordFault.{WordFault}
use Rattle.pmb_line.specs.declared.word_fault.WordFault.TheVariants.{Blank, BadWord, TooLong}
use Rattle.pmb_line.specs.Words.{Word, texts, without_cr, line_words}
use Rattle.pmb_request.specs.Spelling.{Wording, Write, Ask, AreWanted, Spells}
use Rattle.pmb_request.specs.Fault.{At, BeginsRequest, HasRoom, goes_on, plus, IsWithin, IsBadWord, IsCutShort}
use Rattle.pmb_request.specs.Fault.{IsTooLong, IsFault}
use Rattle.pmb_request.specs.machine.Reading.{Partial, nothing, writing, run, step, finish, Room, StandsAt, AsksFor}
use Rattle.pmb_request.specs.machine.Reading.{IsUnfit, IsShort, IsFull, IsFaultOf}
use Rattle.pmb_request.proofs.Runs.{run-append, run-next, run-none, run-one, run-writing, room_run}
use Rattle.pmb_request.proofs.Steps.{append-nil, wanted}
use Rattle.pmb_request.proofs.Completeness.{finish_reached, last_place, reached, room_reached}
use Rattle.pmb_request.proofs.Completions.{completes, ends, finished}

-- ---- words that fit

-- some line begins with words that fit
pub begins : (front : List (List ℕ)) (s : Partial) → run (Some nothing) front ≡ Some s → s ≢ writing
    → BeginsRequest front
begins front s is other =
    let c = completes s other in
    record { more = c.more; wording = Ask c.command c.task; spells = ends s front c (wanted front s is other) }

-- there is room for words that fit, where there is room for what they ask for
pub has_room : (front : List (List ℕ)) (s : Partial) → run (Some nothing) front ≡ Some s → s ≢ writing → Room s
    → HasRoom front
has_room front s is other room =
    let c = completes s other in
    goes_on c.more (Ask c.command c.task) (ends s front c (wanted front s is other)) (c.within room)

-- ---- a word more

-- no line begins with a word more that does not fit
pub no_line : (front : List (List ℕ)) (word : List ℕ) (s : Partial) → run (Some nothing) front ≡ Some s
    → step s word ≡ None → BeginsRequest (front ++ word ∷ []) → ⊥
no_line front word s is unfit begun =
    let there = run-one front word begun.more s (last_place begun.wording) is
    (reached ((front ++ word ∷ []) ++ begun.more) begun.wording begun.spells) in
    run-none begun.more (last_place begun.wording) (ap (λ o. run o begun.more) (sym unfit) ∙ there)

-- no line goes on with a word for which there is no room
pub no_room : (front : List (List ℕ)) (word : List ℕ) (s after : Partial) → run (Some nothing) front ≡ Some s
    → step s word ≡ Some after → (Room after → ⊥)
    → HasRoom (front ++ word ∷ []) → ⊥
no_room front word s after is fits full (goes_on more wording spells within) =
    let there = run-one front word more s (last_place wording) is
    (reached ((front ++ word ∷ []) ++ more) wording spells) in
    full (room_run after more (last_place wording) (ap (λ o. run o more) (sym fits) ∙ there)
    (room_reached wording within))
no_room front word s after is fits full (plus before last parts split last_is spells within) =
    let written : run (Some nothing) (before ++ last ∷ []) ≡ Some writing =
    run-append (Some nothing) before (last ∷ []) ∙ ap (λ o. run o (last ∷ [])) (reached before (Write parts) spells)
    ∙ run-writing (last ∷ []) in
    let there : Some after ≡ Some writing = sym (run-next front word s after is fits) ∙ ap (run (Some nothing)) split
    ∙ written in
    let same : after ≡ writing = cc there in
    full (subst Room (sym same) tt)

-- ---- lines

texts_more : (before : List Word) (word : Word) → texts (before ++ word ∷ []) ≡ texts before ++ word.text ∷ []
texts_more before word = map-append (λ (w : Word). w.text) before (word ∷ [])

-- a reader stands before a word
pub at_word : (line : List ℕ) (s : Partial) (word : Word) (left : List Word)
    (stands : StandsAt (line_words line) s (word ∷ left)) → At line stands.before word
at_word line s word left stands = record {
  behind = left;
  split = stands.split;
  room =
      has_room (texts stands.before) s stands.ran stands.no_write stands.room;
}

pub bad_word : (line : List ℕ) (place : ℕ) → IsUnfit (line_words line) place → IsBadWord line place
bad_word line place fault =
    let before = fault.stands.before in
    record {
      before = before;
      word = fault.word;
      stands = at_word line fault.s fault.word fault.left fault.stands;
      place = fault.place_is;
      unfit = λ begun. no_line (texts before) fault.word.text fault.s fault.stands.ran fault.unfit
          (subst BeginsRequest (texts_more before fault.word) begun);
    }

pub too_long : (line : List ℕ) (place : ℕ) → IsFull (line_words line) place → IsTooLong line place
too_long line place fault =
    let before = fault.stands.before in
    let word = fault.word in
    let other : fault.after ≢ writing = λ (same : fault.after ≡ writing). fault.full (subst Room (sym same) tt) in
    let ran_all = run-next (texts before) word.text fault.s fault.after fault.stands.ran fault.fits in
    record {
      before = before;
      word = word;
      stands = at_word line fault.s word fault.left fault.stands;
      place = fault.place_is;
      fits = subst BeginsRequest (sym (texts_more before word))
          (begins (texts before ++ word.text ∷ []) fault.after ran_all other);
      full = λ room. no_room (texts before) word.text fault.s fault.after fault.stands.ran fault.fits fault.full
          (subst HasRoom (texts_more before word) room);
    }

-- all words were taken
ran_line : (line : List ℕ) (s : Partial) → StandsAt (line_words line) s []
    → run (Some nothing) (texts (line_words line)) ≡ Some s
ran_line line s stands = ap (λ ws. run (Some nothing) (texts ws)) (stands.split ∙ append-nil stands.before) ∙ stands.ran

no_words : (ws : List Word) (s : Partial) → run (Some nothing) (texts ws) ≡ Some s → nothing ≢ s → ws ≢ []
no_words [] s is begun none = begun (cc is)
no_words (w ∷ ws) s is begun none = cc none

-- nothing is asked for where a word is missing
unfinished : (words : List (List ℕ)) (s : Partial) → run (Some nothing) words ≡ Some s → s ≢ writing → finish s ≡ None
    → (wording : Wording) → Spells words wording → ⊥
unfinished words s is other none (Write parts) spells =
    let there : Some s ≡ Some writing = sym is ∙ reached words (Write parts) spells in
    let same : s ≡ writing = cc there in
    other same
unfinished words s is other none (Ask c task) spells =
    let there : Some s ≡ Some (last_place (Ask c task)) = sym is ∙ reached words (Ask c task) spells in
    let same : s ≡ last_place (Ask c task) = cc there in
    let both : None ≡ Some (Ask c task) = sym none ∙ ap finish same ∙ finish_reached c task in
    cc both

pub cut_short : (line : List ℕ) (place : ℕ) → IsShort (line_words line) (length (without_cr line)) place
    → IsCutShort line place
cut_short line place fault =
    let is = ran_line line fault.s fault.stands in
    record {
      some = no_words (line_words line) fault.s is fault.begun;
      room = has_room (texts (line_words line)) fault.s is fault.stands.no_write fault.stands.room;
      unfinished = unfinished (texts (line_words line)) fault.s is fault.stands.no_write fault.unfinished;
      place = fault.place_is;
    }

-- the fault of a line
pub fault_of : (line : List ℕ) (fault : WordFault) → IsFaultOf (line_words line) (length (without_cr line)) fault
    → IsFault line fault
fault_of line Blank is = is
fault_of line (BadWord place) (inl is) = inl (bad_word line place is)
fault_of line (BadWord place) (inr is) = inr (cut_short line place is)
fault_of line (TooLong place) is = too_long line place is

-- what a line asks for, and that it is not too large
pub asked : (line : List ℕ) (wording : Wording) → AsksFor (line_words line) wording
    → Spells (texts (line_words line)) wording × IsWithin wording
asked line wording asks =
    let is = ran_line line asks.s asks.stands in
    let done = finished asks.s wording asks.finished in
    let are = wanted (texts (line_words line)) asks.s is asks.stands.no_write in (
      subst (Spells (texts (line_words line))) (sym done.is)
          (subst (λ xs. AreWanted xs (texts (line_words line))) done.whole are),
      subst IsWithin (sym done.is) (done.within asks.stands.room),
    )
