-- The first fault of a line, told by where a reader stands: a word that doesn't fit (BadWord), one
-- for which there is no room (TooLong), a line that ends too early. For `read_any` and
-- `read_words`, and the laws `one_line_fault` and `parse_or_fault`. The words before it begin some
-- line (Completions), and with it no line begins, since a reader takes each line (Completeness).
use Rattle.std.proofs.Common.{◌≡◌, ◌≢◌, ℕ, ◌≤◌, ◌<◌, Option, Some, None, List, [], ◌∷◌, ◌++◌, map, length, refl, sym}
use Rattle.std.proofs.Common.{ap, subst, ◌⊎◌, inl, inr, ◌∙◌, arith}
use Rattle.std.proofs.lemmas.Bool.{cases_lt}
use Rattle.std.proofs.lemmas.List.{map-append}
use Rattle.pmb_transaction.specs.Transaction.{PartData, TransactionData}
use Rattle.pmb_transaction.specs.Transaction as says
use Rattle.pmb_line.specs.declared.token.Token.{Token}
use Rattle.pmb_line.specs.declared.token.Token.TheVariants.{Write, Plus}
use Rattle.pmb_line.specs.declared.word_fault.WordFault.{WordFault}
use Rattle.pmb_line.specs.declared.word_fault.WordFault.TheVariants.{Blank, BadWord, TooLong}
use Rattle.pmb_line.specs.declared.words.Located.{Located}
use Rattle.pmb_line.specs.Token.{token_of}
use Rattle.pmb_line.specs.Words.{Word, texts, without_cr, line_words}
use Rattle.pmb_line.specs.Spelling.{HasLine, SpellsTransaction, parts, tokens}
use Rattle.pmb_line.specs.Fault.{ArePartsWithin, At, BeginsLine, HasRoom, goes_on, plus, IsWithin, IsBadWord}
use Rattle.pmb_line.specs.Fault.{IsCutShort, IsTooLong, IsFault}
use Rattle.pmb_line.specs.machine.Reading.{Partial, nothing, write_next, write_data, write_pec, refused_pec, run, step}
use Rattle.pmb_line.specs.machine.Reading.{finish, Room, LineStandsAt, SaysTransaction, IsUnfit, IsShort, IsFull}
use Rattle.pmb_line.specs.machine.Reading.{IsWordFaultOf, located, tokens_said}
use Rattle.pmb_line.proofs.Partials.{spelled, append-nil, parts_before, parts-push}
use Rattle.pmb_line.proofs.Steps.{cases, ends_part, ran, run-append, run-none}
use Rattle.pmb_line.proofs.Completions.{RoomMore, completes}
use Rattle.pmb_line.proofs.Completeness.{last_of, reached}

-- ---- lists

-- A list whose images split.
pub record Splits {A B : Type 0} (f : A → B) (xs : List A) (front back : List B) : Type 0 where
  -- the elements before and after, and their images
  pub before : List A
  pub behind : List A
  pub split : xs ≡ before ++ behind
  pub front_is : map f before ≡ front
  pub back_is : map f behind ≡ back

pub splits : {A B : Type 0} (f : A → B) (xs : List A) (front back : List B) → map f xs ≡ front ++ back
    → Splits f xs front back
splits f xs [] back same = record { before = []; behind = xs; split = refl; front_is = refl; back_is = same }
splits f [] (y ∷ front) back same = cc same
splits f (x ∷ xs) (y ∷ front) back same =
    let head : f x ≡ y = cc same in
    let tail : map f xs ≡ front ++ back = cc same in
    let rest = splits f xs front back tail in
    record {
      before = x ∷ rest.before;
      behind = rest.behind;
      split = ap (λ zs. x ∷ zs) rest.split;
      front_is = cc (head, rest.front_is);
      back_is = rest.back_is;
    }

-- and whose last image is told apart
pub record SplitsLast {A B : Type 0} (f : A → B) (xs : List A) (front : List B) (y : B) : Type 0 where
  pub before : List A
  pub last : A
  pub split : xs ≡ before ++ last ∷ []
  pub front_is : map f before ≡ front
  pub last_is : f last ≡ y

one_left : {A B : Type 0} (f : A → B) (xs before behind : List A) (front : List B) (y : B) → xs ≡ before ++ behind
    → map f before ≡ front → map f behind ≡ y ∷ [] → SplitsLast f xs front y
one_left f xs before [] front y split front_is same = cc same
one_left f xs before (x ∷ []) front y split front_is same =
    record { before = before; last = x; split = split; front_is = front_is; last_is = cc same }
one_left f xs before (x ∷ z ∷ behind) front y split front_is same = cc same

splits_last : {A B : Type 0} (f : A → B) (xs : List A) (front : List B) (y : B) → map f xs ≡ front ++ y ∷ []
    → SplitsLast f xs front y
splits_last f xs front y same =
    let split = splits f xs front (y ∷ []) same in
    one_left f xs split.before split.behind front y split.split split.front_is split.back_is

-- ---- words that fit

-- A part of a line was taken.
pub record Passed (words : List (Option Token)) (rest : List (Option Token)) (at : Partial) : Type 0 where
  -- where the reader stands after the first of them
  pub mid : Partial
  pub ran : run (Some nothing) words ≡ Some mid
  pub then : run (Some mid) rest ≡ Some at

passed_cases : (o : Option Partial) (words rest : List (Option Token)) (at : Partial) → run (Some nothing) words ≡ o
    → run o rest ≡ Some at → Passed words rest at
passed_cases None words rest at is goes = absurd (run-none rest at goes)
passed_cases (Some mid) words rest at is goes = record { mid = mid; ran = is; then = goes }

pub passed : (words rest : List (Option Token)) (at : Partial) → run (Some nothing) (words ++ rest) ≡ Some at
    → Passed words rest at
passed words rest at is = passed_cases (run (Some nothing) words) words rest at refl
    (sym (run-append (Some nothing) words rest) ∙ is)

-- Where a reader stands after words with which the line of a transaction begins.
pub record Fits (front : List (List ℕ)) (t : TransactionData) : Type 0 where
  pub mid : Partial
  pub ran : run (Some nothing) (map token_of front) ≡ Some mid
  pub room : IsWithin t → Room mid

pub fits : (front more : List (List ℕ)) (t : TransactionData) → SpellsTransaction (front ++ more) t → Fits front t
fits front more t spells =
    let all = reached t spells.has_line in
    let whole : run (Some nothing) (map token_of front ++ map token_of more) ≡ Some all.at =
    ap (run (Some nothing)) (sym (map-append token_of front more) ∙ spells.says) ∙ all.ran in
    let part = passed (map token_of front) (map token_of more) all.at whole in
    record {
      mid = part.mid;
      ran = part.ran;
      room = λ within. (ran part.mid (map token_of more) all.at part.then).had_room (all.room within);
    }

-- the words that a reader took are those that lead there
spelled_is : (front : List (List ℕ)) (s : Partial) → run (Some nothing) (map token_of front) ≡ Some s
    → map token_of front ≡ map Some (spelled s)
spelled_is front s is = (ran nothing (map token_of front) s is).adds

-- words, and those that end the line
ends : (front more : List (List ℕ)) (before behind : List Token) (t : TransactionData)
    → map token_of front ≡ map Some before → map token_of more ≡ map Some behind
    → before ++ behind ≡ tokens t → HasLine t → SpellsTransaction (front ++ more) t
ends front more before behind t front_is more_is whole has_line = record {
  has_line = has_line;
  says = map-append token_of front more ∙ ap (λ xs. xs ++ map token_of more) front_is
      ∙ ap (λ xs. map Some before ++ xs) more_is
      ∙ sym (map-append Some before behind) ∙ ap (λ (xs : List Token). map Some xs) whole;
}

-- some line begins with words that fit
pub begins : (front : List (List ℕ)) (s : Partial) → run (Some nothing) (map token_of front) ≡ Some s → BeginsLine front
begins front s is =
    let c = completes s in
    record {
      more = c.more;
      t = c.t;
      spells = ends front c.more (spelled s) c.said c.t
          (spelled_is front s is) c.says c.spells c.has_line;
    }

-- ---- room

-- After the `+` of a write there is room for a part more, or there are 16 parts.
pub data More (s : Partial) : Type 0 where
  for_more : RoomMore s → More s
  sixteen : (ps : List PartData) → s ≡ write_next ps → ps ≢ [] → ArePartsWithin 16 ps → More s

write_more : (ps : List PartData) → ArePartsWithin 16 ps → (length ps ≤ 15) ⊎ (15 < length ps) → More (write_next ps)
write_more ps within (inl few) = for_more (record { few = few; each = within.each })
write_more ps within (inr full) = sixteen ps refl (λ none. absurd (omega (arith, ap length none, full))) within

few_or_full : (n : ℕ) → (n ≤ 15) ⊎ (15 < n)
few_or_full n = elim (cases_lt 15 n) [ inl above ↦ inr above | inr few ↦ inl few ]

more_room : (s : Partial) → Room s → More s
more_room (write_next ps) within = write_more ps within (few_or_full (length ps))
more_room s within = for_more within

-- a line of 16 parts, and the `+` after it
at_plus : (front : List (List ℕ)) (p : PartData) (ps : List PartData)
    → map token_of front ≡ map Some (Write ∷ parts_before (p ∷ ps)) → ArePartsWithin 16 (p ∷ ps) → HasRoom front
at_plus front p ps says_so within =
    let split = last_of p ps in
    let ends_so : Write ∷ parts_before (p ∷ ps) ≡ tokens (says.Write (p ∷ ps)) ++ Plus ∷ [] =
    ap (λ qs. Write ∷ parts_before qs) split.split ∙ ends_part Write split.front split.last
    ∙ ap (λ xs. (Write ∷ xs) ++ Plus ∷ []) (sym (parts-push split.front split.last))
    ∙ ap (λ qs. (Write ∷ parts qs) ++ Plus ∷ []) (sym split.split) in
    let apart : map token_of front ≡ map Some (tokens (says.Write (p ∷ ps))) ++ Some Plus ∷ [] =
    says_so ∙ ap (λ (xs : List Token). map Some xs) ends_so ∙ map-append Some (tokens (says.Write (p ∷ ps)))
    (Plus ∷ []) in
    let words = splits_last token_of front (map Some (tokens (says.Write (p ∷ ps)))) (Some Plus) apart in
    plus words.before words.last (p ∷ ps) words.split words.last_is
    (record { has_line = λ none. cc none; says = words.front_is }) within

at_sixteen : (front : List (List ℕ)) (ps : List PartData) → ps ≢ []
    → map token_of front ≡ map Some (Write ∷ parts_before ps) → ArePartsWithin 16 ps → HasRoom front
at_sixteen front [] some says_so within = absurd (some refl)
at_sixteen front (p ∷ ps) some says_so within = at_plus front p ps says_so within

has_more : (front : List (List ℕ)) (s : Partial) → run (Some nothing) (map token_of front) ≡ Some s → More s
    → HasRoom front
has_more front s is (for_more there) =
    let c = completes s in
    goes_on c.more c.t (ends front c.more (spelled s) c.said c.t (spelled_is front s is) c.says c.spells c.has_line)
    (c.within there)
has_more front s is (sixteen ps same some within) =
    at_sixteen front ps some (spelled_is front s is ∙ ap (λ x. map Some (spelled x)) same) within

-- there is room for words that fit, where there is room for what they say
pub has_room : (front : List (List ℕ)) (s : Partial) → run (Some nothing) (map token_of front) ≡ Some s → Room s
    → HasRoom front
has_room front s is room = has_more front s is (more_room s room)

-- ---- a word more

one_more : (front : List (List ℕ)) (word : List ℕ) (s mid : Partial) → run (Some nothing) (map token_of front) ≡ Some s
    → run (Some nothing) (map token_of (front ++ word ∷ [])) ≡ Some mid → step s (token_of word) ≡ Some mid
one_more front word s mid is then =
    let whole : run (run (Some nothing) (map token_of front)) (token_of word ∷ []) ≡ Some mid =
    sym (run-append (Some nothing) (map token_of front) (token_of word ∷ []))
    ∙ ap (run (Some nothing)) (sym (map-append token_of front (word ∷ []))) ∙ then in
    let from_s : run (step s (token_of word)) [] ≡ Some mid = ap (λ o. run o (token_of word ∷ [])) (sym is) ∙ whole in
    elim (cases (step s (token_of word))) [
      | inl none ↦ absurd (run-none [] mid (ap (λ o. run o []) (sym none) ∙ from_s))
      | inr found ↦ found.1 ∙ ap (λ o. run o []) (sym found.1) ∙ from_s
    ]

-- no line begins with a word more that does not fit
pub no_line : (front : List (List ℕ)) (word : List ℕ) (s : Partial) → run (Some nothing) (map token_of front) ≡ Some s
    → step s (token_of word) ≡ None
    → BeginsLine (front ++ word ∷ []) → ⊥
no_line front word s is unfit begun =
    let reaches = fits (front ++ word ∷ []) begun.more begun.t begun.spells in
    let next = one_more front word s reaches.mid is reaches.ran in
    cc (unfit, next)

-- what a `+` after a write says
plus_behind : (s : Partial) (ps : List PartData) → finish s ≡ Some (says.Write ps)
    → step s (Some Plus) ≡ Some (write_next ps)
plus_behind (write_data qs a c bs) ps is = cc is
plus_behind (write_pec qs a c bs) ps is = cc is
plus_behind _ ps is = cc is

pub ran_plus : (before : List (List ℕ)) (last : List ℕ) (ps : List PartData) → token_of last ≡ Some Plus
    → SpellsTransaction before (says.Write ps)
    → run (Some nothing) (map token_of (before ++ last ∷ [])) ≡ Some (write_next ps)
ran_plus before last ps last_is spells =
    let line = reached (says.Write ps) spells.has_line in
    let ran_before : run (Some nothing) (map token_of before) ≡ Some line.at = ap (run (Some nothing)) spells.says
    ∙ line.ran in
    ap (run (Some nothing)) (map-append token_of before (last ∷ [])) ∙ run-append (Some nothing) (map token_of before)
    (token_of last ∷ [])
    ∙ ap (λ o. run o (token_of last ∷ [])) ran_before ∙ ap (λ (w : Option Token). run (Some line.at) (w ∷ [])) last_is
    ∙ ap (λ o. run o []) (plus_behind line.at ps line.finished)

-- no line goes on with a word for which there is no room
pub no_room : (front : List (List ℕ)) (word : List ℕ) (s after : Partial) → run (Some nothing) (map token_of front)
    ≡ Some s → step s (token_of word) ≡ Some after
    → (Room after → ⊥) → HasRoom (front ++ word ∷ []) → ⊥
no_room front word s after is fits_so full (goes_on more t spells within) =
    let reaches = fits (front ++ word ∷ []) more t spells in
    let next = one_more front word s reaches.mid is reaches.ran in
    let same : reaches.mid ≡ after = cc (fits_so, next) in
    full (subst Room same (reaches.room within))
no_room front word s after is fits_so full (plus before last ps split last_is spells within) =
    let ran_all = ran_plus before last ps last_is spells in
    let next = one_more front word s (write_next ps) is (ap (λ ws. run (Some nothing) (map token_of ws)) split
    ∙ ran_all) in
    let same : write_next ps ≡ after = cc (fits_so, next) in
    full (subst Room same within)

-- ---- lines

said_texts : (ws : List Word) → tokens_said (map located ws) ≡ map token_of (texts ws)
said_texts [] = refl
said_texts (w ∷ ws) = ap (λ (xs : List (Option Token)). token_of w.text ∷ xs) (said_texts ws)

ran_texts : (ws : List Word) (before : List Located) (s : Partial) → map located ws ≡ before
    → run (Some nothing) (tokens_said before) ≡ Some s
    → run (Some nothing) (map token_of (texts ws)) ≡ Some s
ran_texts ws before s same is = ap (run (Some nothing)) (sym (said_texts ws) ∙ ap tokens_said same) ∙ is

-- A reader stands before a word.
record Before (line : List ℕ) (s : Partial) (word : Located) : Type 0 where
  before : List Word
  here : Word
  -- the words before it, and this one, are those of the line there
  stands : At line before here
  ran_before : run (Some nothing) (map token_of (texts before)) ≡ Some s
  is : located here ≡ word

before_word : (line : List ℕ) (s : Partial) (word : Located) (back : List Located) (before behind : List Word)
    → line_words line ≡ before ++ behind
    → run (Some nothing) (map token_of (texts before)) ≡ Some s → Room s → map located behind ≡ word ∷ back
    → Before line s word
before_word line s word back before [] split is room same = cc same
before_word line s word back before (here ∷ behind) split is room same = record {
  before = before;
  here = here;
  stands = record { behind = behind; split = split; room = has_room (texts before) s is room };
  ran_before = is;
  is = cc same;
}

before : (line : List ℕ) (s : Partial) (word : Located) (back : List Located)
    → LineStandsAt (map located (line_words line)) s (word ∷ back) → Before line s word
before line s word back stands =
    let split = splits located (line_words line) stands.before (word ∷ back) stands.split in
    before_word line s word back split.before split.behind split.split
    (ran_texts split.before stands.before s split.front_is stands.ran) stands.room split.back_is

texts_more : (before : List Word) (word : Word) → texts (before ++ word ∷ []) ≡ texts before ++ word.text ∷ []
texts_more before word = map-append (λ (w : Word). w.text) before (word ∷ [])

pub bad_word : (line : List ℕ) (place : ℕ) → IsUnfit (map located (line_words line)) place → IsBadWord line place
bad_word line place fault =
    let b = before line fault.s fault.word fault.left fault.stands in
    let unfit : step fault.s (token_of b.here.text) ≡ None = ap (λ (w : Located). step fault.s w.token) b.is
    ∙ fault.unfit in
    record {
      before = b.before;
      word = b.here;
      stands = b.stands;
      place = fault.place_is ∙ ap (λ (w : Located). w.at) (sym b.is);
      -- with it no line begins
      unfit = λ begun. no_line (texts b.before) b.here.text fault.s b.ran_before unfit
          (subst BeginsLine (texts_more b.before b.here) begun);
    }

pub too_long : (line : List ℕ) (place : ℕ) → IsFull (map located (line_words line)) place → IsTooLong line place
too_long line place fault =
    let b = before line fault.s fault.word fault.left fault.stands in
    let fits_so : step fault.s (token_of b.here.text) ≡ Some fault.after =
    ap (λ (w : Located). step fault.s w.token) b.is ∙ fault.fits in
    let ran_all : run (Some nothing) (map token_of (texts b.before ++ b.here.text ∷ [])) ≡ Some fault.after =
    ap (run (Some nothing)) (map-append token_of (texts b.before) (b.here.text ∷ []))
    ∙ run-append (Some nothing) (map token_of (texts b.before)) (token_of b.here.text ∷ [])
    ∙ ap (λ o. run o (token_of b.here.text ∷ [])) b.ran_before ∙ ap (λ o. run o []) fits_so in
    record {
      before = b.before;
      word = b.here;
      stands = b.stands;
      place = fault.place_is ∙ ap (λ (w : Located). w.at) (sym b.is);
      -- a line begins with it, but there is no room for what it says
      fits = subst BeginsLine (sym (texts_more b.before b.here))
          (begins (texts b.before ++ b.here.text ∷ []) fault.after ran_all);
      full = λ room. no_room (texts b.before) b.here.text fault.s fault.after b.ran_before fits_so fault.full
          (subst HasRoom (texts_more b.before b.here) room);
    }

-- all words were taken
ran_line : (line : List ℕ) (s : Partial) → LineStandsAt (map located (line_words line)) s []
    → run (Some nothing) (map token_of (texts (line_words line))) ≡ Some s
ran_line line s stands = ran_texts (line_words line) stands.before s (stands.split ∙ append-nil stands.before)
    stands.ran

no_words : (ws : List Word) (s : Partial) → run (Some nothing) (map token_of (texts ws)) ≡ Some s → nothing ≢ s
    → ws ≢ []
no_words [] s is begun none = begun (cc is)
no_words (w ∷ ws) s is begun none = cc none

pub cut_short : (line : List ℕ) (place : ℕ) → IsShort (map located (line_words line)) (length (without_cr line)) place
    → IsCutShort line place
cut_short line place fault =
    let is = ran_line line fault.s fault.stands in
    record {
      some = no_words (line_words line) fault.s is fault.begun;
      room = has_room (texts (line_words line)) fault.s is fault.stands.room;
      -- a transaction that it spells would be found here, and none is
      unfinished = λ t spells.
          let whole = reached t spells.has_line in
          let there : run (Some nothing) (map token_of (texts (line_words line))) ≡ Some whole.at =
          ap (run (Some nothing)) spells.says ∙ whole.ran in
          let same : whole.at ≡ fault.s = cc (is, there) in
          let open_there : finish whole.at ≡ None = ap finish same ∙ fault.unfinished in
          cc (open_there, whole.finished);
      place = fault.place_is;
    }

no_word : (ws : List Word) → map located ws ≡ [] → ws ≡ []
no_word [] none = refl
no_word (w ∷ ws) none = cc none

-- the fault of a line
pub fault_of : (line : List ℕ) (fault : WordFault)
    → IsWordFaultOf (map located (line_words line)) (length (without_cr line)) fault → IsFault line fault
fault_of line Blank is = no_word (line_words line) is
fault_of line (BadWord place) (inl is) = inl (bad_word line place is)
fault_of line (BadWord place) (inr is) = inr (cut_short line place is)
fault_of line (TooLong place) is = too_long line place is

-- the transaction that a line spells
finish_line : (s : Partial) (t : TransactionData) → finish s ≡ Some t → (spelled s ≡ tokens t) × HasLine t
finish_line s t is =
    let c = completes s in
    let whole = c.finishes t is in (
      sym (append-nil (spelled s)) ∙ ap (λ xs. spelled s ++ xs) (sym whole.0) ∙ c.spells ∙ ap tokens whole.1,
      subst HasLine whole.1 c.has_line,
    )

pub spelling : (line : List ℕ) (t : TransactionData) → SaysTransaction (map located (line_words line)) t
    → SpellsTransaction (texts (line_words line)) t
spelling line t says_so =
    let is = ran_line line says_so.s says_so.stands in
    let finished = finish_line says_so.s t says_so.finished in
    record {
      has_line = finished.1;
      says = spelled_is (texts (line_words line)) says_so.s is
          ∙ ap (λ (xs : List Token). map Some xs) finished.0;
    }

-- and that it is not too large
room_behind : (s : Partial) (t : TransactionData) → finish s ≡ Some t → Room s → RoomMore s
room_behind (write_next ps) t is room = cc is
room_behind (refused_pec ps a c bs) t is room = cc is
room_behind _ t is room = room

pub within : (all : List Located) (t : TransactionData) → SaysTransaction all t → IsWithin t
within all t says_so =
    let c = completes says_so.s in
    let whole = c.finishes t says_so.finished in
    subst IsWithin whole.1 (c.within (room_behind says_so.s t says_so.finished says_so.stands.room))
