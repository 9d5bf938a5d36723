-- Lines of a text that grows by a byte, and lines of which only a front is kept. For
-- `LinesEngine::take`, `without_return` and the laws `lines_are_the_text` and
-- `one_return_is_dropped`. An LF ends the line under way, any other byte belongs to it; a longer
-- line than is kept is known by its front and a flag.
use Rattle.std.proofs.Common.{◌≡◌, ◌≢◌, ℕ, zero, suc, ◌<◌, Bool, true, false, cond, eqb, nat_lt, List, [], ◌∷◌, ◌++◌}
use Rattle.std.proofs.Common.{length, slice_index, take, drop, ◌+◌, ◌-◌, add-one, drop-cons, take-append-drop}
use Rattle.std.proofs.Common.{length-drop, refl, sym, ap, ◌∙◌, inl, inr, append_assoc, append-nil, arith, eq-eqb}
use Rattle.std.proofs.lemmas.Bool.{cases_lt, cases_eq, ne_eqb}
use Rattle.std.proofs.lemmas.Bool.Decides.{nat_tests}
use Rattle.std.proofs.lemmas.List.{take_all}
use Rattle.pmb_io.specs.Lines.{Cut, HasNoLf, IsCut, carriage_return, cut, ended_line, last_line, line_feed, longer}
use Rattle.pmb_io.specs.Lines.{without_cr}
use Rattle.pmb_io.specs.machine.Lines.{ended_kept, last_kept}

-- a cut with one byte more in front
abbrev after_byte : Bool → ℕ → Cut → Cut
after_byte is_lf byte front = cond is_lf (record { ended = [] ∷ front.ended; rest = front.rest })
    (longer byte front.ended front.rest)

-- a cut with an LF more at the end
abbrev with_lf : Cut → Cut
with_lf front = record { ended = front.ended ++ front.rest ∷ []; rest = [] }

-- a cut with another byte more at the end
abbrev with_byte : ℕ → Cut → Cut
with_byte byte front = record { ended = front.ended; rest = front.rest ++ byte ∷ [] }

longer-with_lf : (byte : ℕ) (ended : List (List ℕ)) (rest : List ℕ)
    → longer byte (with_lf (record { ended = ended; rest = rest })).ended [] ≡ with_lf (longer byte ended rest)
longer-with_lf byte [] rest = refl
longer-with_lf byte (line ∷ lines) rest = refl

longer-with_byte : (byte last : ℕ) (ended : List (List ℕ)) (rest : List ℕ) → longer byte ended (rest ++ last ∷ [])
    ≡ with_byte last (longer byte ended rest)
longer-with_byte byte last [] rest = refl
longer-with_byte byte last (line ∷ lines) rest = refl

after_byte-with_lf : (is_lf : Bool) (byte : ℕ) (front : Cut) → after_byte is_lf byte (with_lf front)
    ≡ with_lf (after_byte is_lf byte front)
after_byte-with_lf true byte front = refl
after_byte-with_lf false byte front = longer-with_lf byte front.ended front.rest

after_byte-with_byte : (is_lf : Bool) (byte last : ℕ) (front : Cut) → after_byte is_lf byte (with_byte last front)
    ≡ with_byte last (after_byte is_lf byte front)
after_byte-with_byte true byte last front = refl
after_byte-with_byte false byte last front = longer-with_byte byte last front.ended front.rest

-- an LF ends the line under way
pub cut-with_lf : (bytes : List ℕ) → cut (bytes ++ line_feed ∷ [])
    ≡ record { ended = (cut bytes).ended ++ (cut bytes).rest ∷ []; rest = [] }
unfolding cut
cut-with_lf [] = refl
cut-with_lf (byte ∷ bytes) = ap (after_byte (eqb byte 10) byte) (cut-with_lf bytes)
    ∙ after_byte-with_lf (eqb byte 10) byte (cut bytes)

-- another byte belongs to it
pub cut-with_byte : (bytes : List ℕ) (last : ℕ) → last ≢ line_feed
    → cut (bytes ++ last ∷ []) ≡ record { ended = (cut bytes).ended; rest = (cut bytes).rest ++ last ∷ [] }
unfolding cut
cut-with_byte [] last other = let test : eqb last line_feed ≡ false = ne_eqb last line_feed other in rw test refl
cut-with_byte (byte ∷ bytes) last other =
    ap (after_byte (eqb byte 10) byte) (cut-with_byte bytes last other) ∙ after_byte-with_byte (eqb byte 10) byte last
    (cut bytes)

-- and so do bytes without an LF
pub cut-with_bytes : (bytes more : List ℕ) → HasNoLf more
    → cut (bytes ++ more) ≡ record { ended = (cut bytes).ended; rest = (cut bytes).rest ++ more }
cut-with_bytes bytes [] none = ap cut (append-nil bytes)
    ∙ ap (λ (rest : List ℕ). record { ended = (cut bytes).ended; rest = rest }) (sym (append-nil (cut bytes).rest))
cut-with_bytes bytes (byte ∷ more) none =
    ap cut (sym (append_assoc bytes (byte ∷ []) more)) ∙ (cut-with_bytes (bytes ++ byte ∷ []) more none.1
    ∙ (ap (λ (c : Cut). record { ended = c.ended; rest = c.rest ++ more }) (cut-with_byte bytes byte none.0)
    ∙ ap (λ (rest : List ℕ). record { ended = (cut bytes).ended; rest = rest })
    (append_assoc (cut bytes).rest (byte ∷ []) more)))

-- the bytes before the first LF have none
pub none_in_front : (bytes : List ℕ) (count : ℕ) → ((at : ℕ) → at < count → slice_index bytes at ≢ line_feed)
    → HasNoLf (take count bytes)
none_in_front bytes zero none = tt
none_in_front [] (suc count) none = tt
none_in_front (byte ∷ bytes) (suc count) none =
    (none 0 (omega arith), none_in_front bytes count (λ at below. none (suc at) (omega arith)))

-- a piece that is cut after the first LF of its rest
pub cut_behind : (piece front rest : List ℕ) (len : ℕ) → piece ≡ front ++ rest → len < length rest
    → slice_index rest len ≡ line_feed
    → piece ≡ (front ++ (take len rest ++ line_feed ∷ [])) ++ take (length rest - (len + 1)) (drop (len + 1) rest)
cut_behind piece front rest len whole within lf =
    let behind : take (length rest - (len + 1)) (drop (len + 1) rest) ≡ drop (len + 1) rest =
    take_all _ _ (omega (arith, length-drop (len + 1) rest)) in
    let from_lf : drop len rest ≡ line_feed ∷ drop (len + 1) rest = cc (drop-cons rest len 0 within, lf, add-one len) in
    let at_lf : rest ≡ (take len rest ++ line_feed ∷ []) ++ drop (len + 1) rest =
    sym (take-append-drop len rest) ∙ (ap (λ (l : List ℕ). take len rest ++ l) from_lf
    ∙ sym (append_assoc (take len rest) (line_feed ∷ []) (drop (len + 1) rest))) in
    whole ∙ (ap (λ (l : List ℕ). front ++ l) at_lf
    ∙ (sym (append_assoc front (take len rest ++ line_feed ∷ []) (drop (len + 1) rest))
    ∙ ap (λ (l : List ℕ). (front ++ (take len rest ++ line_feed ∷ [])) ++ l) (sym behind)))

-- ---- a cut text

-- what one byte more in front makes of the lines
longer_is : (byte : ℕ) (ended : List (List ℕ)) (rest bytes : List ℕ) → byte ≢ line_feed
    → IsCut bytes (record { ended = ended; rest = rest }) → IsCut (byte ∷ bytes) (longer byte ended rest)
longer_is byte [] rest bytes other is = record {
  whole = ap (λ l. byte ∷ l) is.whole;
  lines = is.lines;
  rest =
      (other, is.rest);
}
longer_is byte (line ∷ lines) rest bytes other is = record {
  whole = ap (λ l. byte ∷ l) is.whole;
  lines = ((other, is.lines.0), is.lines.1);
  rest = is.rest;
}

-- the parts make the text
pub cut_is : (bytes : List ℕ) → IsCut bytes (cut bytes)
unfolding cut
cut_is [] = record { whole = refl; lines = tt; rest = tt }
cut_is (byte ∷ bytes) = elim (cases_eq byte 10) [
  | inl lf ↦
      let test : eqb byte line_feed ≡ true = eq-eqb byte line_feed lf in
      let is = cut_is bytes in
      rw test (record {
        whole = ap (λ l. line_feed ∷ l) is.whole ∙ ap (λ b. b ∷ bytes) (sym lf);
        lines =
            (tt, is.lines);
        rest = is.rest;
      })
  | inr other ↦
      let test : eqb byte line_feed ≡ false = ne_eqb byte line_feed other in
      rw test (longer_is byte (cut bytes).ended (cut bytes).rest bytes other (cut_is bytes))
]

-- ---- a CR at the end

pub return_dropped : (line : List ℕ) → without_cr (line ++ carriage_return ∷ []) ≡ line
unfolding without_cr
return_dropped [] = refl
return_dropped (byte ∷ []) = refl
return_dropped (byte ∷ next ∷ line) = ap (λ l. byte ∷ l) (return_dropped (next ∷ line))

pub no_return_kept : (line : List ℕ) → ((front : List ℕ) → line ≢ front ++ carriage_return ∷ [])
    → without_cr line ≡ line
unfolding without_cr
no_return_kept [] none = refl
no_return_kept (byte ∷ []) none = elim (cases_eq byte carriage_return) [
  | inl is ↦ absurd (none [] (ap (λ b. b ∷ []) is))
  | inr other ↦ let test : eqb byte carriage_return ≡ false = ne_eqb byte carriage_return other in rw test refl
]
no_return_kept (byte ∷ next ∷ line) none =
    ap (λ l. byte ∷ l) (no_return_kept (next ∷ line) (λ front is. none (byte ∷ front) (ap (λ l. byte ∷ l) is)))

-- ---- lines of which a front is kept

-- a front that is whole, or of a line that is too long
pub ended_kept_is : (most : ℕ) (line : List ℕ) → ended_kept (take most line) (nat_lt most (length line))
    ≡ ended_line most line
ended_kept_is most line = elim (cases_lt most (length line)) [
  | inl long ↦ let test : nat_lt most (length line) ≡ true = grind (arith, nat_tests) in rw test refl
  | inr short ↦ ap (λ l. ended_kept l (nat_lt most (length line))) (take_all most line (omega arith))
]

pub last_kept_is : (most : ℕ) (line : List ℕ) → last_kept (take most line) (nat_lt most (length line))
    ≡ last_line most line
last_kept_is most line = elim (cases_lt most (length line)) [
  | inl long ↦ let test : nat_lt most (length line) ≡ true = grind (arith, nat_tests) in rw test refl
  | inr short ↦ ap (λ l. last_kept l (nat_lt most (length line))) (take_all most line (omega arith))
]
