-- The lines of a text from its first: for `put_all` of `tasks`. What stands before the first LF is the
-- first line, and the lines of what follows are the others; where there is no LF, all is the last.
use Rattle.std.proofs.Common.{◌≡◌, ◌≢◌, ◌∙◌, ℕ, zero, suc, ◌+◌, ◌-◌, ◌<◌, false, eqb, length, length-drop, List, [], ◌∷◌, ◌++◌, map, take, drop}
use Rattle.std.proofs.Common.{slice_index, take-append-drop, drop-cons, add-one, refl, sym, ap, arith}
use Rattle.std.proofs.lemmas.Bool.{ne_eqb}
use Rattle.std.proofs.lemmas.List.{take_all}
use Rattle.pmb_io.specs.Lines.{Cut, HasNoLf, TextLine, cut, ended_line, last_lines, line_feed, lines_of, longer}

-- the bytes before the first LF have none
pub none_in_front : (bytes : List ℕ) (count : ℕ) → ((at : ℕ) → at < count → slice_index bytes at ≢ line_feed)
    → HasNoLf (take count bytes)
none_in_front bytes zero none = tt
none_in_front [] (suc count) none = tt
none_in_front (byte ∷ bytes) (suc count) none =
    (none 0 (omega arith), none_in_front bytes count (λ at below. none (suc at) (omega arith)))

-- the lines of a text that is cut so
abbrev ended_and_last : ℕ → Cut → List TextLine
ended_and_last most parts = map (ended_line most) parts.ended ++ last_lines most parts.rest

-- what stands before an LF is a line
cut_line : (line rest : List ℕ) → HasNoLf line
    → cut (line ++ line_feed ∷ rest) ≡ record { ended = line ∷ (cut rest).ended; rest = (cut rest).rest }
unfolding cut
cut_line [] rest none = refl
cut_line (byte ∷ line) rest none =
    let other : eqb byte line_feed ≡ false = ne_eqb byte line_feed none.0 in
    rw other (ap (λ (c : Cut). longer byte c.ended c.rest) (cut_line line rest none.1))

-- and without an LF none has ended
cut_rest : (line : List ℕ) → HasNoLf line → cut line ≡ record { ended = []; rest = line }
unfolding cut
cut_rest [] none = refl
cut_rest (byte ∷ line) none =
    let other : eqb byte line_feed ≡ false = ne_eqb byte line_feed none.0 in
    rw other (ap (λ (c : Cut). longer byte c.ended c.rest) (cut_rest line none.1))

-- the text, cut after its first LF
split : (text : List ℕ) (len : ℕ) → len < length text → slice_index text len ≡ line_feed
    → text ≡ take len text ++ line_feed ∷ take (length text - (len + 1)) (drop (len + 1) text)
split text len within lf =
    let all : take (length text - (len + 1)) (drop (len + 1) text) ≡ drop (len + 1) text =
    take_all _ _ (omega (arith, length-drop (len + 1) text)) in
    let from_lf : drop len text ≡ line_feed ∷ drop (len + 1) text = cc (drop-cons text len 0 within, lf, add-one len) in
    sym (take-append-drop len text) ∙ (ap (λ (l : List ℕ). take len text ++ l) from_lf
    ∙ ap (λ (l : List ℕ). take len text ++ line_feed ∷ l) (sym all))

-- its first line, and those of what follows
pub first_line : (most : ℕ) (text : List ℕ) (len : ℕ) → len < length text → slice_index text len ≡ line_feed
    → HasNoLf (take len text)
    → lines_of most text ≡ ended_line most (take len text)
    ∷ lines_of most (take (length text - (len + 1)) (drop (len + 1) text))
first_line most text len within lf none =
    let rest = take (length text - (len + 1)) (drop (len + 1) text) in
    ap (lines_of most) (split text len within lf)
    ∙ ap (λ (c : Cut). ended_and_last most c) (cut_line (take len text) rest none)

-- there is no LF, so that all of it is the last line
pub only_last : (most : ℕ) (text : List ℕ) → HasNoLf text → lines_of most text ≡ last_lines most text
only_last most text none = ap (λ (c : Cut). ended_and_last most c) (cut_rest text none)
