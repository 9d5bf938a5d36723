-- The pieces of a text are the text, and so are what goes out and what is held.
use Rattle.std.proofs.Common.{◌≡◌, ◌∙◌, ℕ, Bool, true, false, not, ◌||◌, if◌then◌else◌, Option, Some, None, List, [], ◌∷◌, ◌++◌, codes}
use Rattle.std.proofs.Common.{◌+◌, ◌<◌, get_or, length, map, take, drop, sym, ap, refl, append_assoc, append-nil, take-append-drop}
use Rattle.std.proofs.Math.Seq.{drop-append_seam}
use Rattle.std.proofs.lemmas.Grind.{flat_map-append}
use Rattle.std.proofs.lemmas.List.{take_more}
use Rattle.pmb_colour.specs.declared.colour.Colour.{Colour}
use Rattle.pmb_colour.specs.declared.cut.Cut.{Cut}
use Rattle.pmb_colour.specs.declared.cut.Cut.TheVariants.{Cells, Words}
use Rattle.pmb_colour.specs.declared.lines.Lines.{Lines}
use Rattle.pmb_colour.specs.declared.lines.Lines.TheVariants.{Log, Table}
use Rattle.pmb_colour.specs.Cut.{Parts, cut_from, ends, first, first_from, parts_from, parts_of}
use Rattle.pmb_colour.specs.Log.{begins, bit_piece, has_bits, log_pieces, parts_pieces, says_colour, says_pieces, tail_pieces}
use Rattle.pmb_colour.specs.Painting.{Held, byte_pieces, held_after, held_with, is_end, line_pieces, nothing_held, of_lines}
use Rattle.pmb_colour.specs.Painting.{passes, pieces_of}
use Rattle.pmb_colour.specs.Pieces.{Piece, has_escape, piece_text, plain, texts}
use Rattle.pmb_colour.specs.Table.{behind_pieces, command_pieces, command_place, count_piece, row_pieces, table_pieces}

-- ---- pieces

pub texts_append : (a b : List Piece) → texts (a ++ b) ≡ texts a ++ texts b
texts_append a b = flat_map-append piece_text a b

-- where each piece has its own text
pub cut_same : (at : Cut) (piece_of : List ℕ → Piece) (same : (x : List ℕ) → piece_text (piece_of x) ≡ x) (piece text : List ℕ)
    → texts (map piece_of (cut_from at piece text)) ≡ piece ++ text
cut_same at piece_of same piece [] = ap (λ (t : List ℕ). t ++ []) (same piece)
cut_same at piece_of same piece (byte ∷ text) =
    elim (ends at piece byte) as (λ (e : Bool). texts (map piece_of
    (if e then piece ∷ cut_from at (byte ∷ []) text else cut_from at (piece ++ byte ∷ []) text)) ≡ piece ++ byte ∷ text) [
      | true ↦ ap (λ (t : List ℕ). t ++ texts (map piece_of (cut_from at (byte ∷ []) text))) (same piece)
          ∙ ap (λ (t : List ℕ). piece ++ t) (cut_same at piece_of same (byte ∷ []) text)
      | false ↦ cut_same at piece_of same (piece ++ byte ∷ []) text ∙ append_assoc piece (byte ∷ []) text
    ]

-- the first piece, and what follows it
first_front : (at : Cut) (piece text : List ℕ) → (rest : List ℕ) × (piece ++ text ≡ first_from at piece text ++ rest)
first_front at piece [] = ([], refl)
first_front at piece (byte ∷ text) =
    elim (ends at piece byte) as (λ (e : Bool). (rest : List ℕ) × (piece ++ byte ∷ text
    ≡ (if e then piece else first_from at (piece ++ byte ∷ []) text) ++ rest)) [
      | true ↦ (byte ∷ text, refl)
      | false ↦ let more = first_front at (piece ++ byte ∷ []) text in
          (more.0, sym (append_assoc piece (byte ∷ []) text) ∙ more.1)
    ]

pub first_whole : (at : Cut) (text : List ℕ) → first at text ++ drop (length (first at text)) text ≡ text
first_whole at text =
    let split = first_front at [] text in
    let front = first at text in
    ap (λ (t : List ℕ). front ++ drop (length front) t) split.1
    ∙ (ap (λ (t : List ℕ). front ++ t) (drop-append_seam front split.0) ∙ sym split.1)

-- the parts of a line
parts_whole : (p : Parts) (text : List ℕ)
    → (parts_from p text).front ++ ((parts_from p text).cell ++ (parts_from p text).tail)
    ≡ (p.front ++ (p.cell ++ p.tail)) ++ text
parts_whole p [] = sym (append-nil (p.front ++ (p.cell ++ p.tail)))
parts_whole p (byte ∷ text) =
    elim (ends Cells p.tail byte) as (λ (e : Bool). let r : Parts = if e
    then parts_from (record { front = p.front ++ p.cell; cell = p.tail; tail = byte ∷ [] }) text
    else parts_from (record { front = p.front; cell = p.cell; tail = p.tail ++ byte ∷ [] }) text in
    r.front ++ (r.cell ++ r.tail) ≡ (p.front ++ (p.cell ++ p.tail)) ++ byte ∷ text) [
      | true ↦ parts_whole (record { front = p.front ++ p.cell; cell = p.tail; tail = byte ∷ [] }) text
          ∙ (ap (λ (t : List ℕ). t ++ text)
          (append_assoc p.front p.cell (p.tail ++ byte ∷ [])
          ∙ (ap (λ (t : List ℕ). p.front ++ t) (sym (append_assoc p.cell p.tail (byte ∷ [])))
          ∙ sym (append_assoc p.front (p.cell ++ p.tail) (byte ∷ []))))
          ∙ append_assoc (p.front ++ (p.cell ++ p.tail)) (byte ∷ []) text)
      | false ↦ parts_whole (record { front = p.front; cell = p.cell; tail = p.tail ++ byte ∷ [] }) text
          ∙ (ap (λ (t : List ℕ). t ++ text)
          (ap (λ (t : List ℕ). p.front ++ t) (sym (append_assoc p.cell p.tail (byte ∷ [])))
          ∙ sym (append_assoc p.front (p.cell ++ p.tail) (byte ∷ [])))
          ∙ append_assoc (p.front ++ (p.cell ++ p.tail)) (byte ∷ []) text)
    ]

-- ---- lines

bit_same : (x : List ℕ) → piece_text (bit_piece x) ≡ x
bit_same x = refl

count_same : (x : List ℕ) → piece_text (count_piece x) ≡ x
count_same x = refl

tail_same : (cell tail : List ℕ) → texts (tail_pieces cell tail) ≡ tail
tail_same cell tail =
    elim (has_bits cell tail) as (λ (e : Bool). texts
    (if e then map bit_piece (cut_from Words [] tail) else plain tail ∷ []) ≡ tail) [
      | true ↦ cut_same Words bit_piece bit_same [] tail
      | false ↦ append-nil tail
    ]

says_same : (colour : Option Colour) (cell tail : List ℕ) → texts (says_pieces colour cell tail) ≡ tail
says_same None cell tail = tail_same cell tail
says_same (Some colour) cell tail = append-nil tail

log_same : (line : List ℕ) → texts (log_pieces line) ≡ line
log_same line =
    let p = parts_of line in
    elim (begins (codes "#") line) as (λ (e : Bool). texts (if e then plain line ∷ [] else parts_pieces p) ≡ line) [
      | true ↦ append-nil line
      | false ↦ ap (λ (t : List ℕ). p.front ++ (p.cell ++ t)) (says_same (says_colour p.tail) p.cell p.tail)
          ∙ parts_whole (record { front = []; cell = []; tail = [] }) line
    ]

behind_same : (line : List ℕ) → texts (behind_pieces line) ≡ line
behind_same line =
    ap (λ (t : List ℕ). first Words line ++ t) (append-nil (drop (length (first Words line)) line)) ∙ first_whole Words line

command_same : (line : List ℕ) → texts (command_pieces line) ≡ line
command_same line =
    ap (λ (t : List ℕ). first Cells line ++ t) (behind_same (drop (length (first Cells line)) line)) ∙ first_whole Cells line

row_same : (line : List ℕ) → texts (row_pieces line) ≡ line
row_same line =
    ap (λ (t : List ℕ). take (command_place line) line ++ t) (command_same (drop (command_place line) line))
    ∙ take-append-drop (command_place line) line

counts_same : (line : List ℕ) → texts (if begins (codes "total  ") line || begins (codes "  ") line
    then map count_piece (cut_from Cells [] line) else plain line ∷ []) ≡ line
counts_same line =
    elim (begins (codes "total  ") line || begins (codes "  ") line) as (λ (e : Bool). texts
    (if e then map count_piece (cut_from Cells [] line) else plain line ∷ []) ≡ line) [
      | true ↦ cut_same Cells count_piece count_same [] line
      | false ↦ append-nil line
    ]

table_same : (line : List ℕ) → texts (table_pieces line) ≡ line
table_same line =
    elim (begins (codes "   ") line) as (λ (e : Bool). texts (if e then row_pieces line else
    if begins (codes "total  ") line || begins (codes "  ") line then map count_piece (cut_from Cells [] line) else
    plain line ∷ []) ≡ line) [
      | true ↦ row_same line
      | false ↦ counts_same line
    ]

of_same : (lines : Lines) (line : List ℕ) → texts (of_lines lines line) ≡ line
of_same Log line = log_same line
of_same Table line = table_same line

pub line_same : (lines : Lines) (line : List ℕ) → texts (line_pieces lines line) ≡ line
line_same lines line =
    elim (has_escape line) as (λ (e : Bool). texts (if e then plain line ∷ [] else of_lines lines line) ≡ line) [
      | true ↦ append-nil line
      | false ↦ of_same lines line
    ]

-- ---- a text

-- what goes out with a byte, and what is held then
byte_same : (lines : Lines) (held : Held) (byte : ℕ)
    → texts (byte_pieces lines held byte) ++ (held_with held byte).line ≡ held.line ++ byte ∷ []
byte_same lines held byte =
    let ended : Held = nothing_held in
    elim (passes held byte) as (λ (p : Bool). let after : Held = if p then record { line = []; is_rest = not (is_end byte) }
    else if is_end byte then nothing_held else record { line = held.line ++ byte ∷ []; is_rest = false } in
    texts (if p then plain held.line ∷ plain (byte ∷ []) ∷ [] else
    if is_end byte then line_pieces lines held.line ++ plain (byte ∷ []) ∷ [] else [])
    ++ after.line ≡ held.line ++ byte ∷ []) [
      | true ↦ append-nil (held.line ++ byte ∷ [])
      | false ↦ elim (is_end byte) as (λ (e : Bool). let after : Held = if e then nothing_held
          else record { line = held.line ++ byte ∷ []; is_rest = false } in
          texts (if e then line_pieces lines held.line ++ plain (byte ∷ []) ∷ [] else []) ++ after.line
          ≡ held.line ++ byte ∷ []) [
            | true ↦ append-nil (texts (line_pieces lines held.line ++ plain (byte ∷ []) ∷ []))
                ∙ (texts_append (line_pieces lines held.line) (plain (byte ∷ []) ∷ [])
                ∙ ap (λ (t : List ℕ). t ++ byte ∷ []) (line_same lines held.line))
            | false ↦ refl
          ]
    ]

pub text_same : (lines : Lines) (held : Held) (text : List ℕ)
    → texts (pieces_of lines held text) ++ (held_after held text).line ≡ held.line ++ text
text_same lines held [] = sym (append-nil held.line)
text_same lines held (byte ∷ text) =
    let one = byte_pieces lines held byte in
    let after = held_with held byte in
    let more = pieces_of lines after text in
    let last = (held_after after text).line in
    ap (λ (t : List ℕ). t ++ last) (texts_append one more)
    ∙ (append_assoc (texts one) (texts more) last
    ∙ (ap (λ (t : List ℕ). texts one ++ t) (text_same lines after text)
    ∙ (sym (append_assoc (texts one) after.line text)
    ∙ (ap (λ (t : List ℕ). t ++ text) (byte_same lines held byte)
    ∙ append_assoc held.line (byte ∷ []) text))))

-- ---- a text that is cut

pub pieces_go_on : (lines : Lines) (held : Held) (text more : List ℕ)
    → pieces_of lines held (text ++ more) ≡ pieces_of lines held text ++ pieces_of lines (held_after held text) more
pieces_go_on lines held [] more = refl
pieces_go_on lines held (byte ∷ text) more =
    let one = byte_pieces lines held byte in
    let after = held_with held byte in
    ap (λ (ps : List Piece). one ++ ps) (pieces_go_on lines after text more)
    ∙ sym (append_assoc one (pieces_of lines after text) (pieces_of lines (held_after after text) more))

pub held_goes_on : (held : Held) (text more : List ℕ)
    → held_after held (text ++ more) ≡ held_after (held_after held text) more
held_goes_on held [] more = refl
held_goes_on held (byte ∷ text) more = held_goes_on (held_with held byte) text more

-- one byte more
pub byte_goes_on : (lines : Lines) (held : Held) (bytes : List ℕ) (i d : ℕ) → i < length bytes
    → pieces_of lines held (take i bytes) ++ byte_pieces lines (held_after held (take i bytes)) (get_or bytes i d)
    ≡ pieces_of lines held (take (i + 1) bytes)
byte_goes_on lines held bytes i d within =
    let before = take i bytes in
    let one = byte_pieces lines (held_after held before) (get_or bytes i d) in
    ap (λ (ps : List Piece). pieces_of lines held before ++ ps) (sym (append-nil one))
    ∙ (sym (pieces_go_on lines held before (get_or bytes i d ∷ []))
    ∙ ap (λ (t : List ℕ). pieces_of lines held t) (sym (take_more bytes i d within)))

pub held_byte_on : (held : Held) (bytes : List ℕ) (i d : ℕ) → i < length bytes
    → held_with (held_after held (take i bytes)) (get_or bytes i d) ≡ held_after held (take (i + 1) bytes)
held_byte_on held bytes i d within =
    sym (held_goes_on held (take i bytes) (get_or bytes i d ∷ []))
    ∙ ap (λ (t : List ℕ). held_after held t) (sym (take_more bytes i d within))
