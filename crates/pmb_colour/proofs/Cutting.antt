-- Steps of the loops that cut a text.
use Rattle.std.proofs.Common.{◌≡◌, ◌∙◌, ℕ, ◌+◌, ◌-◌, ◌<◌, ◌≤◌, Bool, true, false, if◌then◌else◌, List, [], ◌∷◌, ◌++◌}
use Rattle.std.proofs.Common.{length, map, take, drop, get_or, sym, ap, subst, arith, append_assoc, append-nil, take-append-drop}
use Rattle.std.proofs.Math.ListN.{drop_of_length-le}
use Rattle.std.proofs.Math.Seq.{take-add}
use Rattle.std.proofs.lemmas.List.{drop_more, take_more, get_or-drop, length-drop}
use Rattle.pmb_colour.specs.declared.cut.Cut.{Cut}
use Rattle.pmb_colour.specs.declared.cut.Cut.TheVariants.{Cells}
use Rattle.pmb_colour.specs.Cut.{Parts, cut_from, ends, first_from, parts_from}
use Rattle.pmb_colour.specs.Pieces.{Piece, piece_shown, shown}

-- ---- a part of a text

-- one more byte of a part, behind it
pub part_more : (text : List ℕ) (start i d : ℕ) → start ≤ i → i < length text
    → take ((i + 1) - start) (drop start text) ≡ take (i - start) (drop start text) ++ get_or text i d ∷ []
part_more text start i d after within =
    let n = i - start in
    let more : (i + 1) - start ≡ n + 1 = omega arith in
    let back : start + n ≡ i = omega arith in
    let inside : n < length (drop start text) = omega (arith, length-drop start text) in
    ap (λ (k : ℕ). take k (drop start text)) more
    ∙ (take_more (drop start text) n d inside
    ∙ ap (λ (b : ℕ). take n (drop start text) ++ b ∷ [])
    (get_or-drop start text n d ∙ ap (λ (k : ℕ). get_or text k d) back))

-- the part that begins at a byte
pub part_begins : (text : List ℕ) (i d : ℕ) → i < length text → take ((i + 1) - i) (drop i text) ≡ get_or text i d ∷ []
part_begins text i d within =
    let none : i - i ≡ 0 = omega arith in
    let same : i ≤ i = omega arith in
    part_more text i i d same within
    ∙ ap (λ (k : ℕ). take k (drop i text) ++ get_or text i d ∷ []) none

-- ---- the first piece

pub first_step : (at : Cut) (text : List ℕ) (i d : ℕ) → i < length text → ends at (take i text) (get_or text i d) ≡ false
    → first_from at (take (i + 1) text) (drop (i + 1) text) ≡ first_from at (take i text) (drop i text)
first_step at text i d within goes_on =
    ap (λ (piece : List ℕ). first_from at piece (drop (i + 1) text)) (take_more text i d within)
    ∙ (sym (ap (λ (e : Bool). if e then take i text else first_from at (take i text ++ get_or text i d ∷ []) (drop (i + 1) text)) goes_on)
    ∙ ap (λ (rest : List ℕ). first_from at (take i text) rest) (sym (drop_more text i d within)))

pub first_stop : (at : Cut) (text : List ℕ) (i d : ℕ) → i < length text → ends at (take i text) (get_or text i d) ≡ true
    → take i text ≡ first_from at (take i text) (drop i text)
first_stop at text i d within stops =
    sym (ap (λ (e : Bool). if e then take i text else first_from at (take i text ++ get_or text i d ∷ []) (drop (i + 1) text)) stops)
    ∙ ap (λ (rest : List ℕ). first_from at (take i text) rest) (sym (drop_more text i d within))

pub first_end : (at : Cut) (text : List ℕ) (i : ℕ) → drop i text ≡ [] → first_from at (take i text) (drop i text) ≡ take i text
first_end at text i none = ap (λ (rest : List ℕ). first_from at (take i text) rest) none

-- ---- all pieces

-- what is shown of pieces from some bytes on
abbrev pub shown_from : Cut → (List ℕ → Piece) → List ℕ → List ℕ → List ℕ
shown_from at piece_of piece text = shown (map piece_of (cut_from at piece text))

pub shown_goes_on : (at : Cut) (piece_of : List ℕ → Piece) (text : List ℕ) (start i d : ℕ) → start ≤ i → i < length text
    → ends at (take (i - start) (drop start text)) (get_or text i d) ≡ false
    → shown_from at piece_of (take ((i + 1) - start) (drop start text)) (drop (i + 1) text)
    ≡ shown_from at piece_of (take (i - start) (drop start text)) (drop i text)
shown_goes_on at piece_of text start i d after within goes_on =
    let piece = take (i - start) (drop start text) in
    let byte = get_or text i d in
    let behind = drop (i + 1) text in
    ap (λ (p : List ℕ). shown_from at piece_of p behind) (part_more text start i d after within)
    ∙ (sym (ap (λ (e : Bool). shown (map piece_of (if e then piece ∷ cut_from at (byte ∷ []) behind
    else cut_from at (piece ++ byte ∷ []) behind))) goes_on)
    ∙ ap (λ (rest : List ℕ). shown_from at piece_of piece rest) (sym (drop_more text i d within)))

pub shown_ends : (at : Cut) (piece_of : List ℕ → Piece) (text : List ℕ) (start i d : ℕ) → i < length text
    → ends at (take (i - start) (drop start text)) (get_or text i d) ≡ true
    → piece_shown (piece_of (take (i - start) (drop start text)))
    ++ shown_from at piece_of (take ((i + 1) - i) (drop i text)) (drop (i + 1) text)
    ≡ shown_from at piece_of (take (i - start) (drop start text)) (drop i text)
shown_ends at piece_of text start i d within stops =
    let piece = take (i - start) (drop start text) in
    let byte = get_or text i d in
    let behind = drop (i + 1) text in
    ap (λ (p : List ℕ). piece_shown (piece_of piece) ++ shown_from at piece_of p behind) (part_begins text i d within)
    ∙ (sym (ap (λ (e : Bool). shown (map piece_of (if e then piece ∷ cut_from at (byte ∷ []) behind
    else cut_from at (piece ++ byte ∷ []) behind))) stops)
    ∙ ap (λ (rest : List ℕ). shown_from at piece_of piece rest) (sym (drop_more text i d within)))

-- a loop over the pieces, where one ends: what was appended, and what is to come, are all of it still
pub says_ends : (at : Cut) (piece_of : List ℕ → Piece) (text : List ℕ) (start next i d : ℕ) (out more whole : List ℕ)
    → next ≡ i → i < length text → ends at (take (i - start) (drop start text)) (get_or text i d) ≡ true
    → more ≡ out ++ piece_shown (piece_of (take (i - start) (drop start text)))
    → out ++ shown_from at piece_of (take (i - start) (drop start text)) (drop i text) ≡ whole
    → more ++ shown_from at piece_of (take ((i + 1) - next) (drop next text)) (drop (i + 1) text) ≡ whole
says_ends at piece_of text start next i d out more whole here within stops is so_far =
    let piece = take (i - start) (drop start text) in
    let rest = shown_from at piece_of (take ((i + 1) - i) (drop i text)) (drop (i + 1) text) in
    subst (λ (s : ℕ). more ++ shown_from at piece_of (take ((i + 1) - s) (drop s text)) (drop (i + 1) text) ≡ whole)
    (sym here)
    (ap (λ (t : List ℕ). t ++ rest) is
    ∙ (append_assoc out (piece_shown (piece_of piece)) rest
    ∙ (ap (λ (t : List ℕ). out ++ t) (shown_ends at piece_of text start i d within stops) ∙ so_far)))

-- and where none does
pub says_goes_on : (at : Cut) (piece_of : List ℕ → Piece) (text : List ℕ) (start next i d : ℕ) (out more whole : List ℕ)
    → next ≡ start → start ≤ i → i < length text
    → ends at (take (i - start) (drop start text)) (get_or text i d) ≡ false → more ≡ out
    → out ++ shown_from at piece_of (take (i - start) (drop start text)) (drop i text) ≡ whole
    → more ++ shown_from at piece_of (take ((i + 1) - next) (drop next text)) (drop (i + 1) text) ≡ whole
says_goes_on at piece_of text start next i d out more whole same after within goes_on is so_far =
    subst (λ (s : ℕ). more ++ shown_from at piece_of (take ((i + 1) - s) (drop s text)) (drop (i + 1) text) ≡ whole)
    (sym same)
    (ap (λ (t : List ℕ). t ++ shown_from at piece_of (take ((i + 1) - start) (drop start text)) (drop (i + 1) text)) is
    ∙ (ap (λ (t : List ℕ). out ++ t) (shown_goes_on at piece_of text start i d after within goes_on) ∙ so_far))

-- ---- the last cell

-- the parts of a line so far
abbrev pub so_far : List ℕ → (cell tail i : ℕ) → Parts
so_far line cell tail i = record {
  front = take cell line;
  cell = take (tail - cell) (drop cell line);
  tail = take (i - tail) (drop tail line);
}

pub tail_goes_on : (line : List ℕ) (cell tail i d : ℕ) → tail ≤ i → i < length line
    → ends Cells (take (i - tail) (drop tail line)) (get_or line i d) ≡ false
    → parts_from (so_far line cell tail (i + 1)) (drop (i + 1) line) ≡ parts_from (so_far line cell tail i) (drop i line)
tail_goes_on line cell tail i d after within goes_on =
    let p = so_far line cell tail i in
    let byte = get_or line i d in
    let behind = drop (i + 1) line in
    ap (λ (t : List ℕ). parts_from (record { front = p.front; cell = p.cell; tail = t }) behind)
    (part_more line tail i d after within)
    ∙ (sym (ap (λ (e : Bool). if e
    then parts_from (record { front = p.front ++ p.cell; cell = p.tail; tail = byte ∷ [] }) behind
    else parts_from (record { front = p.front; cell = p.cell; tail = p.tail ++ byte ∷ [] }) behind) goes_on)
    ∙ ap (λ (rest : List ℕ). parts_from p rest) (sym (drop_more line i d within)))

-- what stands before a part and the part are what stands before its end
pub take_both : (xs : List ℕ) (a b : ℕ) → a ≤ b → take a xs ++ take (b - a) (drop a xs) ≡ take b xs
take_both xs a b le =
    let back : a + (b - a) ≡ b = omega arith in
    sym (take-add a (b - a) xs) ∙ ap (λ (k : ℕ). take k xs) back

pub tail_begins : (line : List ℕ) (cell tail i d : ℕ) → cell ≤ tail → tail ≤ i → i < length line
    → ends Cells (take (i - tail) (drop tail line)) (get_or line i d) ≡ true
    → parts_from (so_far line tail i (i + 1)) (drop (i + 1) line) ≡ parts_from (so_far line cell tail i) (drop i line)
tail_begins line cell tail i d before after within stops =
    let p = so_far line cell tail i in
    let byte = get_or line i d in
    let behind = drop (i + 1) line in
    ap (λ (t : List ℕ). parts_from (record { front = take tail line; cell = p.tail; tail = t }) behind)
    (part_begins line i d within)
    ∙ (ap (λ (f : List ℕ). parts_from (record { front = f; cell = p.tail; tail = byte ∷ [] }) behind)
    (sym (take_both line cell tail before))
    ∙ (sym (ap (λ (e : Bool). if e
    then parts_from (record { front = p.front ++ p.cell; cell = p.tail; tail = byte ∷ [] }) behind
    else parts_from (record { front = p.front; cell = p.cell; tail = p.tail ++ byte ∷ [] }) behind) stops)
    ∙ ap (λ (rest : List ℕ). parts_from p rest) (sym (drop_more line i d within))))

-- ---- at the end of a text

-- all of a text is taken where nothing is left
pub take_all : (text : List ℕ) (i : ℕ) → drop i text ≡ [] → take i text ≡ text
take_all text i none =
    sym (append-nil (take i text))
    ∙ (ap (λ (rest : List ℕ). take i text ++ rest) (sym none) ∙ take-append-drop i text)

-- the last part
part_ends : (text : List ℕ) (start i : ℕ) → length text ≤ i → take (i - start) (drop start text) ≡ drop start text
part_ends text start i past =
    let short : length (drop start text) ≤ i - start = omega (arith, length-drop start text) in
    take_all (drop start text) (i - start) (drop_of_length-le (drop start text) short)

pub first_all : (at : Cut) (text : List ℕ) (i : ℕ) → length text ≤ i
    → text ≡ first_from at (take i text) (drop i text)
first_all at text i past =
    let none = drop_of_length-le text past in
    sym (take_all text i none) ∙ ap (λ (rest : List ℕ). first_from at (take i text) rest) (sym none)

pub shown_all : (at : Cut) (piece_of : List ℕ → Piece) (text : List ℕ) (start i : ℕ) → length text ≤ i
    → piece_shown (piece_of (drop start text))
    ≡ shown_from at piece_of (take (i - start) (drop start text)) (drop i text)
shown_all at piece_of text start i past =
    sym (append-nil (piece_shown (piece_of (drop start text))))
    ∙ (ap (λ (piece : List ℕ). shown_from at piece_of piece []) (sym (part_ends text start i past))
    ∙ ap (λ (rest : List ℕ). shown_from at piece_of (take (i - start) (drop start text)) rest)
    (sym (drop_of_length-le text past)))

pub parts_all : (line : List ℕ) (cell tail i : ℕ) → length line ≤ i → (parts : Parts)
    → parts ≡ record { front = take cell line; cell = take (tail - cell) (drop cell line); tail = drop tail line }
    → parts ≡ parts_from (so_far line cell tail i) (drop i line)
parts_all line cell tail i past parts is =
    is
    ∙ (ap (λ (t : List ℕ). parts_from (record {
      front = take cell line;
      cell = take (tail - cell) (drop cell line);
      tail = t;
    }) []) (sym (part_ends line tail i past))
    ∙ ap (λ (rest : List ℕ). parts_from (so_far line cell tail i) rest) (sym (drop_of_length-le line past)))
