-- A line has one first fault at most, for lines of any kind: those of transactions
-- (`one_line_fault`) and those of requests, in `pmb_request`. A word at fault is one for which
-- there is no room, while there is room for those before it; of two such words neither comes before
-- the other. A fault of the whole line leaves room for all its words.
use Rattle.std.proofs.Common.{◌≡◌, ◌≢◌, ℕ, List, [], ◌∷◌, ◌++◌, refl, sym, ap, subst, ◌∙◌, append_assoc}
use Rattle.std.proofs.lemmas.List.{map-append}
use Rattle.pmb_line.specs.declared.word_fault.WordFault.{WordFault}
use Rattle.pmb_line.specs.declared.word_fault.WordFault.TheVariants.{Blank, BadWord, TooLong}
use Rattle.pmb_line.specs.Words.{Word, texts, line_words}
use Rattle.pmb_line.specs.WordsFault.{At, IsBadWord, IsTooLong}

-- ---- places in a list

-- Of two places in a list, they are the same, or one stands before the other.
data Places {A : Type 0} (xs : List A) (x : A) (ys : List A) (y : A) : Type 0 where
  same : xs ≡ ys → x ≡ y → Places xs x ys y
  first : (zs : List A) → ys ≡ (xs ++ x ∷ []) ++ zs → Places xs x ys y
  second : (zs : List A) → xs ≡ (ys ++ y ∷ []) ++ zs → Places xs x ys y

behind_one : {A : Type 0} (z : A) (xs : List A) (x : A) (ys : List A) (y : A) → Places xs x ys y
    → Places (z ∷ xs) x (z ∷ ys) y
behind_one z xs x ys y (same fronts here) = same (ap (λ ws. z ∷ ws) fronts) here
behind_one z xs x ys y (first zs is) = first zs (ap (λ ws. z ∷ ws) is)
behind_one z xs x ys y (second zs is) = second zs (ap (λ ws. z ∷ ws) is)

places : {A : Type 0} (xs : List A) (x : A) (back : List A) (ys : List A) (y : A) (rest : List A)
    → xs ++ x ∷ back ≡ ys ++ y ∷ rest → Places xs x ys y
places [] x back [] y rest is = same refl (cc is)
places [] x back (b ∷ ys) y rest is = let head : b ≡ x = cc is in first ys (ap (λ w. w ∷ ys) head)
places (a ∷ xs) x back [] y rest is = let head : a ≡ y = cc is in second xs (ap (λ w. w ∷ xs) head)
places (a ∷ xs) x back (b ∷ ys) y rest is =
    let head : a ≡ b = cc is in
    let tail : xs ++ x ∷ back ≡ ys ++ y ∷ rest = cc is in
    subst (λ w. Places (a ∷ xs) x (w ∷ ys) y) head (behind_one a xs x ys y (places xs x back ys y rest tail))

pub not_empty : {A : Type 0} (xs : List A) (x : A) (back : List A) → xs ++ x ∷ back ≡ [] → ⊥
not_empty [] x back is = cc is
not_empty (y ∷ xs) x back is = cc is

same_at : (before rest : List Word) (word here : Word) → before ≡ rest → word ≡ here
    → texts (before ++ word ∷ []) ≡ texts (rest ++ here ∷ [])
same_at before rest word here fronts words_are = ap (λ ws. texts (ws ++ word ∷ [])) fronts
    ∙ ap (λ (w : Word). texts (rest ++ w ∷ [])) words_are

-- ---- where a line stops

-- Where there is room for words, some line goes on with them, and there was room before.
pub record IsRoom (Begins HasRoom : List (List ℕ) → Type 0) : Type 0 where
  pub begun : (front : List (List ℕ)) → HasRoom front → Begins front
  pub room_before : (front back : List (List ℕ)) → HasRoom (front ++ back) → HasRoom front

-- A word for which there is no room, whether it fits or not.
record Stops (HasRoom : List (List ℕ) → Type 0) (line : List ℕ) : Type 0 where
  before : List Word
  word : Word
  -- there is room for the words before it, and with it there is none
  stands : At HasRoom line before word
  full : HasRoom (texts (before ++ word ∷ [])) → ⊥

-- A fault of a word.
pub data StopFault {F : Type 0} (Begins HasRoom : List (List ℕ) → Type 0) (named : WordFault → F) (line : List ℕ)
    (f : F) : Type 0 where
  bad : (at : ℕ) → f ≡ named (BadWord at) → IsBadWord Begins HasRoom line at → StopFault Begins HasRoom named line f
  long : (at : ℕ) → f ≡ named (TooLong at) → IsTooLong Begins HasRoom line at → StopFault Begins HasRoom named line f

module _ (Begins HasRoom : List (List ℕ) → Type 0) (is_room : IsRoom Begins HasRoom) (line : List ℕ) where
  room_of_front : (all front back : List Word) → all ≡ front ++ back → HasRoom (texts all) → HasRoom (texts front)
  room_of_front all front back split room =
      is_room.room_before (texts front) (texts back)
      (subst HasRoom (ap texts split ∙ map-append (λ (w : Word). w.text) front back) room)

  abbrev at_bad : (at : ℕ) → IsBadWord Begins HasRoom line at → Stops HasRoom line
  at_bad at is = record {
    before = is.before;
    word = is.word;
    stands = is.stands;
    full =
        λ room. is.unfit (is_room.begun (texts (is.before ++ is.word ∷ [])) room);
  }

  abbrev at_long : (at : ℕ) → IsTooLong Begins HasRoom line at → Stops HasRoom line
  at_long at is = record { before = is.before; word = is.word; stands = is.stands; full = is.full }

  one_place : (a b : Stops HasRoom line) → Places a.before a.word b.before b.word
      → (a.before ≡ b.before) × (a.word ≡ b.word)
  one_place a b (same fronts here) = (fronts, here)
  one_place a b (first zs is) = absurd (a.full (room_of_front b.before (a.before ++ a.word ∷ []) zs is b.stands.room))
  one_place a b (second zs is) = absurd (b.full (room_of_front a.before (b.before ++ b.word ∷ []) zs is a.stands.room))

  one_stop : (a b : Stops HasRoom line) → (a.before ≡ b.before) × (a.word ≡ b.word)
  one_stop a b = one_place a b (places a.before a.word a.stands.behind b.before b.word b.stands.behind
      (sym a.stands.split ∙ b.stands.split))

  -- not where there is room for all words
  no_stop : Stops HasRoom line → HasRoom (texts (line_words line)) → ⊥
  no_stop s room =
      s.full (room_of_front (line_words line) (s.before ++ s.word ∷ []) s.stands.behind
      (s.stands.split ∙ sym (append_assoc s.before (s.word ∷ []) s.stands.behind)) room)

  stop_has_words : Stops HasRoom line → line_words line ≢ []
  stop_has_words s none = not_empty s.before s.word s.stands.behind (sym s.stands.split ∙ none)

  fits_or_not : (at place : ℕ) → IsBadWord Begins HasRoom line at → IsTooLong Begins HasRoom line place → ⊥
  fits_or_not at place unfit full =
      let both = one_stop (at_bad at unfit) (at_long place full) in
      unfit.unfit (subst Begins (sym (same_at unfit.before full.before unfit.word full.word both.0 both.1)) full.fits)

  -- ---- one fault

  module _ {F : Type 0} (named : WordFault → F) where
    stops : (f : F) → StopFault Begins HasRoom named line f → Stops HasRoom line
    stops f (bad at is fault) = at_bad at fault
    stops f (long at is fault) = at_long at fault

    -- a word is at fault only where there is no room for all words
    pub no_stop_fault : (f : F) → StopFault Begins HasRoom named line f → HasRoom (texts (line_words line)) → ⊥
    no_stop_fault f one room = no_stop (stops f one) room

    one_stop_fault : (a b : F) → StopFault Begins HasRoom named line a → StopFault Begins HasRoom named line b → a ≡ b
    one_stop_fault a b (bad at is one) (bad place fault_is other) =
        let both = one_stop (at_bad at one) (at_bad place other) in
        is ∙ ap (λ n. named (BadWord n)) (one.place ∙ ap (λ (w : Word). w.at) both.1 ∙ sym other.place) ∙ sym fault_is
    one_stop_fault a b (bad at is one) (long place fault_is other) = absurd (fits_or_not at place one other)
    one_stop_fault a b (long at is one) (bad place fault_is other) = absurd (fits_or_not place at other one)
    one_stop_fault a b (long at is one) (long place fault_is other) =
        let both = one_stop (at_long at one) (at_long place other) in
        is ∙ ap (λ n. named (TooLong n)) (one.place ∙ ap (λ (w : Word). w.at) both.1 ∙ sym other.place) ∙ sym fault_is

-- ---- the faults, in three kinds

-- A fault of no word, of one, or of the line as a whole.
pub data Kind {F : Type 0} (Begins HasRoom : List (List ℕ) → Type 0) (named : WordFault → F) (Whole : F → Type 0)
    (line : List ℕ) (f : F) : Type 0 where
  blank : f ≡ named Blank → line_words line ≡ [] → Kind Begins HasRoom named Whole line f
  stop : StopFault Begins HasRoom named line f → Kind Begins HasRoom named Whole line f
  whole : Whole f → Kind Begins HasRoom named Whole line f

-- A fault of a line as a whole: there are words, and room for all of them, and it is the only one.
pub record IsOfWhole {F : Type 0} (HasRoom : List (List ℕ) → Type 0) (Whole : F → Type 0) (line : List ℕ) : Type 0 where
  pub has_words : (f : F) → Whole f → line_words line ≢ []
  pub has_room : (f : F) → Whole f → HasRoom (texts (line_words line))
  pub one : (a b : F) → Whole a → Whole b → a ≡ b

pub one_fault : {F : Type 0} (Begins HasRoom : List (List ℕ) → Type 0) (is_room : IsRoom Begins HasRoom)
    (named : WordFault → F) (Whole : F → Type 0) (line : List ℕ) (of_whole : IsOfWhole HasRoom Whole line)
    (a b : F) → Kind Begins HasRoom named Whole line a → Kind Begins HasRoom named Whole line b → a ≡ b
one_fault B R r named W line w a b (blank is none) (blank fault_is other) = is ∙ sym fault_is
one_fault B R r named W line w a b (blank is none) (stop other) =
    absurd (stop_has_words B R r line (stops B R r line named b other) none)
one_fault B R r named W line w a b (blank is none) (whole other) = absurd (w.has_words b other none)
one_fault B R r named W line w a b (stop one) (blank fault_is none) =
    absurd (stop_has_words B R r line (stops B R r line named a one) none)
one_fault B R r named W line w a b (stop one) (stop other) = one_stop_fault B R r line named a b one other
one_fault B R r named W line w a b (stop one) (whole other) =
    absurd (no_stop_fault B R r line named a one (w.has_room b other))
one_fault B R r named W line w a b (whole one) (blank fault_is none) = absurd (w.has_words a one none)
one_fault B R r named W line w a b (whole one) (stop other) =
    absurd (no_stop_fault B R r line named b other (w.has_room a one))
one_fault B R r named W line w a b (whole one) (whole other) = w.one a b one other
