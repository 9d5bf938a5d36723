-- What a piece of text leaves at its end, byte by byte: whether it ends in a comment, and from
-- where on its bytes are of the word under way, of which the first 32 are kept. For `Tail::of`,
-- `OpenWord::take_tail` and `keep`.
use Rattle.std.proofs.Common.{◌≡◌, ℕ, zero, suc, ◌+◌, ◌<◌, ◌≤◌, ◌==◌, Bool, true, false, cond, List, [], ◌∷◌, ◌++◌}
use Rattle.std.proofs.Common.{drop, get_or, length, min, take, refl, subst, sym, ap, ◌∙◌, arith}
use Rattle.std.proofs.lemmas.List.{append_assoc, append-nil, drop-append-le, drop_all, length-take, length_push}
use Rattle.std.proofs.lemmas.List.{take_all, take_min, take_more}
use Rattle.std.proofs.Math.Seq.{take-append-add}
use Rattle.std.proofs.lemmas.Bool.{ne_eqb}
use Rattle.pmb_bus.specs.Text.{ends_in_comment, in_comment, is_separator, open_word}
use Rattle.pmb_bus.proofs.Words.{ends_in_comment_by}
use Rattle.pmb_places.specs.machine.OpenWord.{IsTail}
use Rattle.pmb_places.proofs.OpenWords.{ended_by_separator, ended_in_comment, longer}

-- ---- tails

-- no bytes
pub tail_none : (text : List ℕ) (inside : Bool) → inside ≡ ends_in_comment text → IsTail text [] inside 0
tail_none text inside is = record {
  comment = is ∙ ap ends_in_comment (sym (append-nil text));
  word = ap open_word (append-nil text) ∙ sym (append-nil (open_word text));
}

-- the part of the word under way that comes before the piece
abbrev before_piece : ℕ → List ℕ → List ℕ
before_piece from word = cond (from == 0) word []

comment_by : (text done : List ℕ) (b : ℕ) (inside : Bool) → inside ≡ ends_in_comment (text ++ done)
    → in_comment inside b ≡ ends_in_comment (text ++ (done ++ b ∷ []))
comment_by text done b inside is =
    ap (λ (v : Bool). in_comment v b) is
    ∙ sym (ends_in_comment_by (text ++ done) b)
    ∙ ap ends_in_comment (append_assoc text done (b ∷ []))

-- after a byte that stands in no word
nothing_before : (n : ℕ) (word : List ℕ) → before_piece (n + 1) word ≡ []
nothing_before n word = ap (λ (v : Bool). cond v word []) (ne_eqb (n + 1) 0 (λ none. omega arith))

nothing_behind : (word done : List ℕ) (b : ℕ) → before_piece (length done + 1) word
    ++ drop (length done + 1) (done ++ b ∷ []) ≡ []
nothing_behind word done b =
    ap (λ (front : List ℕ). front ++ drop (length done + 1) (done ++ b ∷ [])) (nothing_before (length done) word)
    ∙ drop_all (length done + 1) (done ++ b ∷ []) (omega (arith, length_push done b))

tail_cut : (text done : List ℕ) (b : ℕ) (inside : Bool) → inside ≡ ends_in_comment (text ++ done)
    → open_word ((text ++ done) ++ b ∷ []) ≡ []
    → IsTail text (done ++ b ∷ []) (in_comment inside b) (length done + 1)
tail_cut text done b inside is cut = record {
  comment = comment_by text done b inside is;
  word = ap open_word (sym (append_assoc text done (b ∷ []))) ∙ cut ∙ sym (nothing_behind (open_word text) done b);
}

-- after one in a comment, and after a separator
pub tail_in_comment : (text done : List ℕ) (b : ℕ) (inside : Bool) (from : ℕ) → IsTail text done inside from
    → in_comment inside b ≡ true
    → IsTail text (done ++ b ∷ []) (in_comment inside b) (length done + 1)
tail_in_comment text done b inside from tail now =
    tail_cut text done b inside tail.comment
    (ended_in_comment (text ++ done) b (ap (λ (v : Bool). in_comment v b) (sym tail.comment) ∙ now))

pub tail_separated : (text done : List ℕ) (b : ℕ) (inside : Bool) (from : ℕ) → IsTail text done inside from
    → is_separator b ≡ true
    → IsTail text (done ++ b ∷ []) (in_comment inside b) (length done + 1)
tail_separated text done b inside from tail separates =
    tail_cut text done b inside tail.comment (ended_by_separator (text ++ done) b separates)

-- after a byte of a word
pub tail_longer : (text done : List ℕ) (b : ℕ) (inside : Bool) (from : ℕ) → IsTail text done inside from
    → from ≤ length done
    → in_comment inside b ≡ false → is_separator b ≡ false → IsTail text (done ++ b ∷ []) (in_comment inside b) from
tail_longer text done b inside from tail within now keeps =
    let outside : in_comment (ends_in_comment (text ++ done)) b ≡ false =
    ap (λ (v : Bool). in_comment v b) (sym tail.comment) ∙ now in record {
      comment = comment_by text done b inside tail.comment;
      word = ap open_word (sym (append_assoc text done (b ∷ [])))
          ∙ longer (text ++ done) b outside keeps
          ∙ ap (λ (word : List ℕ). word ++ b ∷ []) tail.word
          ∙ append_assoc (before_piece from (open_word text)) (drop from done) (b ∷ [])
          ∙ ap (λ (rest : List ℕ). before_piece from (open_word text) ++ rest)
          (sym (drop-append-le from done (b ∷ []) within));
    }

-- ---- room

-- as many bytes as there is room for, after those that were there
-- 32 bytes of a word are kept
pub kept : (old more : List ℕ) (room : ℕ) → room + length old ≡ 32 → old ++ take (min room (length more)) more
    ≡ take 32 (old ++ more)
kept old more room fits =
    let all : length old + room ≡ 32 = omega arith in
    ap (λ (front : List ℕ). old ++ front) (take_min room more)
    ∙ sym (take-append-add old more room)
    ∙ ap (λ (n : ℕ). take n (old ++ more)) all

-- what is cut off leaves no room for others
take_front : (n : ℕ) (word more : List ℕ) → take n (take n word ++ more) ≡ take n (word ++ more)
take_front zero word more = refl
take_front (suc n) [] more = refl
take_front (suc n) (b ∷ word) more = ap (λ (rest : List ℕ). b ∷ rest) (take_front n word more)

kept_more : (goes_on : Bool) (word more : List ℕ) → take 32 (cond goes_on (take 32 word) [] ++ more)
    ≡ take 32 (cond goes_on word [] ++ more)
kept_more true word more = take_front 32 word more
kept_more false word more = refl

-- what is kept of the word under way, after a piece
pub kept_behind : (word : List ℕ) (from : ℕ) (piece : List ℕ)
    → take 32 (cond (from == 0) (take 32 word) [] ++ drop from piece)
    ≡ take 32 (cond (from == 0) word [] ++ drop from piece)
kept_behind word from piece = kept_more (from == 0) word (drop from piece)

-- after all bytes for which there is room
pub all_kept : (old more : List ℕ) (room count index : ℕ) (items : List ℕ) → room + length old ≡ 32
    → count ≡ min room (length more)
    → count ≤ index → items ≡ old ++ take index (take count more) → items ≡ take 32 (old ++ more)
all_kept old more room count index items fits is enough so_far =
    let short : length (take count more) ≤ index = omega (arith, length-take count more) in
    so_far
    ∙ ap (λ (front : List ℕ). old ++ front) (take_all index (take count more) short)
    ∙ ap (λ (n : ℕ). old ++ take n more) is
    ∙ kept old more room fits

-- ---- the next byte of a piece

module _ (text piece : List ℕ) (i : ℕ) (inside now : Bool) (from next : ℕ) where
  abbrev byte : ℕ
  byte = get_or piece i 0

  -- what is so of the bytes up to the next one is so of one more
  at_next : (others : ℕ) → i < length piece → now ≡ in_comment inside byte → next ≡ others
      → IsTail text (take i piece ++ byte ∷ []) (in_comment inside byte) others
      → IsTail text (take (i + 1) piece) now next
  at_next others within now_is next_is tail =
      subst (λ (given : List ℕ). IsTail text given now next) (sym (take_more piece i 0 within))
      (subst (λ (v : Bool). IsTail text (take i piece ++ byte ∷ []) v next) (sym now_is)
      (subst (λ (n : ℕ). IsTail text (take i piece ++ byte ∷ []) (in_comment inside byte) n) (sym next_is) tail))

  counted : i < length piece → next ≡ i + 1 → next ≡ length (take i piece) + 1
  counted within next_is = omega (arith, length-take i piece)

  pub at_comment : i < length piece → now ≡ in_comment inside byte → IsTail text (take i piece) inside from → now ≡ true
      → next ≡ i + 1
      → IsTail text (take (i + 1) piece) now next
  at_comment within now_is tail is next_is =
      at_next (length (take i piece) + 1) within now_is (counted within next_is)
      (tail_in_comment text (take i piece) byte inside from tail (sym now_is ∙ is))

  pub at_separator : i < length piece → now ≡ in_comment inside byte → IsTail text (take i piece) inside from
      → is_separator byte ≡ true → next ≡ i + 1
      → IsTail text (take (i + 1) piece) now next
  at_separator within now_is tail is next_is =
      at_next (length (take i piece) + 1) within now_is (counted within next_is)
      (tail_separated text (take i piece) byte inside from tail is)

  pub at_word : i < length piece → now ≡ in_comment inside byte → IsTail text (take i piece) inside from → from ≤ i
      → now ≡ false
      → is_separator byte ≡ false → next ≡ from → IsTail text (take (i + 1) piece) now next
  at_word within now_is tail before is keeps next_is =
      at_next from within now_is next_is
      (tail_longer text (take i piece) byte inside from tail (omega (arith, length-take i piece))
      (sym now_is ∙ is) keeps)

-- ---- a piece taken

-- what was kept before the piece stays where its tail goes on with it
pub goes_on : (from : ℕ) (old : List ℕ) → from ≤ 0 → old ≡ cond (from == 0) old []
goes_on zero old none = refl
goes_on (suc from) old none = absurd (omega arith)

pub ends : (from : ℕ) (old : List ℕ) → 0 < from → [] ≡ cond (from == 0) old []
ends from old some = ap (λ (v : Bool). cond v old []) (sym (ne_eqb from 0 (λ none. omega arith)))

pub taken : (text piece old before items : List ℕ) (inside : Bool) (from : ℕ) → IsTail text piece inside from
    → old ≡ take 32 (open_word text)
    → before ≡ cond (from == 0) old [] → items ≡ take 32 (before ++ drop from piece)
    → items ≡ take 32 (open_word (text ++ piece))
taken text piece old before items inside from tail was kept_before is =
    is
    ∙ ap (λ (front : List ℕ). take 32 (front ++ drop from piece)) kept_before
    ∙ ap (λ (front : List ℕ). take 32 (cond (from == 0) front [] ++ drop from piece)) was
    ∙ kept_behind (open_word text) from piece
    ∙ ap (λ (word : List ℕ). take 32 word) (sym tail.word)
