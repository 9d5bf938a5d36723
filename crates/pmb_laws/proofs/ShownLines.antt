-- The lines that are shown of transactions, as lines of a text: for the laws
-- `shown_is_built_again` and `runs_are_captures`. A transaction and its note have no LF (byte 10)
-- and are short enough for `build`, so that they are one line of it.
use Rattle.std.proofs.Common.{◌≡◌, ◌≢◌, ℕ, ◌≤◌, Bool, eqb, List, [], ◌∷◌, ◌++◌, length, length-append, refl, sym, ◌∙◌}
use Rattle.std.proofs.Common.{ap, append_assoc, arith}
use Rattle.std.specs.Prelude.{codes, if◌then◌else◌, map}
use Rattle.std.specs.List.{All, AllByRecursion}
use Rattle.std.proofs.lemmas.Bool.{cond-false, le-ltb, ne_eqb}
use Rattle.std.proofs.lemmas.List.Elements.{All-append, All-cons, All-nil, recursion_from_All}
use Rattle.pmb_command.specs.Parts.{DeviceParts}
use Rattle.pmb_io.specs.Lines.{Cut, HasNoLf, Ended, TooLong, cut, ended_line, last_lines, line_feed, lines_of, longer}
use Rattle.pmb_line.specs.Spelling.{line}
use Rattle.pmb_note.specs.Note.{note}
use Rattle.pmb_transaction.specs.Transaction.{TransactionData}
use Rattle.pmb_capture.specs.Show.{noted_behind}

-- what is shown of a transaction after others, without its LF
abbrev pub said : List DeviceParts → List TransactionData → TransactionData → List ℕ
said profile before t = line t ++ (codes " # " ++ note profile before t)

-- with its LF, and what is shown after it
pub shown_first : (profile : List DeviceParts) (before ts : List TransactionData) (t : TransactionData)
    → noted_behind profile before (t ∷ ts) ≡ said profile before t ++ 10 ∷ noted_behind profile (before ++ t ∷ []) ts
shown_first profile before ts t =
    let rest = noted_behind profile (before ++ t ∷ []) ts in
    ap (λ text. text ++ rest) (sym (append_assoc (line t) (codes " # " ++ note profile before t) (10 ∷ [])))
    ∙ append_assoc (said profile before t) (10 ∷ []) rest

-- ---- one line

no_lf : (text : List ℕ) → AllByRecursion (λ b. b ≢ 10) text → HasNoLf text
no_lf [] none = tt
no_lf (b ∷ text) none = (none.0, no_lf text none.1)

mark_has_no_lf : All (λ b. b ≢ 10) (codes " # ")
mark_has_no_lf =
    let P : ℕ → Type 0 = λ b. b ≢ 10 in
    All-cons P 32 (35 ∷ 32 ∷ []) (λ same. omega (arith, same))
    (All-cons P 35 (32 ∷ []) (λ same. omega (arith, same))
    (All-cons P 32 [] (λ same. omega (arith, same)) (All-nil P)))

pub said_has_no_lf : (profile : List DeviceParts) (before : List TransactionData) (t : TransactionData)
    → All (λ b. b ≢ 10) (line t) → All (λ b. b ≢ 10) (note profile before t)
    → HasNoLf (said profile before t)
said_has_no_lf profile before t line_one note_one =
    let P : ℕ → Type 0 = λ b. b ≢ 10 in
    no_lf (said profile before t) (recursion_from_All P (said profile before t)
    (All-append P (line t) (codes " # " ++ note profile before t) line_one
    (All-append P (codes " # ") (note profile before t) mark_has_no_lf note_one)))

-- 12,544 and 8,192: the most bytes of a transaction's line and of a note; 32,768: the longest line
-- that `build` takes
pub said_is_short : (profile : List DeviceParts) (before : List TransactionData) (t : TransactionData)
    → length (line t) ≤ 12544 → length (note profile before t) ≤ 8192
    → length (said profile before t) ≤ 32768
said_is_short profile before t line_short note_short =
    omega (
      arith,
      line_short,
      note_short,
      length-append (line t) (codes " # " ++ note profile before t),
      length-append (codes " # ") (note profile before t),
    )

-- ---- the lines of a text

pub no_lines : (most : ℕ) → lines_of most [] ≡ []
unfolding cut
no_lines most = refl

cut_first : (text rest : List ℕ) → HasNoLf text
    → cut (text ++ 10 ∷ rest) ≡ record { ended = text ∷ (cut rest).ended; rest = (cut rest).rest }
unfolding cut
cut_first [] rest none = refl
cut_first (b ∷ text) rest none =
    let behind : Cut = cut (text ++ 10 ∷ rest) in
    cond-false {A = Cut} (eqb b line_feed) (record { ended = [] ∷ behind.ended; rest = behind.rest })
    (longer b behind.ended behind.rest) (ne_eqb b line_feed none.0)
    ∙ ap (λ (c : Cut). longer b c.ended c.rest) (cut_first text rest none.1)

-- the line at the front of a text, and the lines after it
pub first_line : (most : ℕ) (text rest : List ℕ) → HasNoLf text → length text ≤ most
    → lines_of most (text ++ 10 ∷ rest) ≡ Ended text ∷ lines_of most rest
first_line most text rest none short =
    ap (λ (c : Cut). map (ended_line most) c.ended ++ last_lines most c.rest) (cut_first text rest none)
    ∙ ap (λ (v : Bool). (if v then TooLong else Ended text) ∷ lines_of most rest) (le-ltb most (length text) short)
