-- The text of outcomes, and then of others; a line put together from its pieces. For
-- `append_refusal` of `src/lines.rt` and `append_transaction` of `src/packet_lines.rt`. A line
-- depends on the transactions before it alone, so the text of two lists is that of the first and
-- then that of the second after it.
use Rattle.std.proofs.Common.{◌≡◌, ℕ, ◌+◌, Bool, not, List, [], ◌∷◌, ◌++◌, count_by, codes, cond, sym, ap, ◌∙◌, refl}
use Rattle.std.proofs.Common.{append_assoc, append-nil}
use Rattle.std.proofs.lemmas.List.Elements.{filter-append}
use Rattle.std.proofs.lemmas.List.Sums.{sum_by-append}
use Rattle.pmb_transaction.specs.Reading.{Outcome, Accepted, Refusal}
use Rattle.pmb_transaction.specs.Transaction.{TransactionData}
use Rattle.pmb_capture.specs.Lines.{refusal_line}
use Rattle.pmb_capture.specs.Output.{OutputText, accepted_in, but_truncation, is_packet, is_truncation, packets_in}
use Rattle.pmb_capture.specs.Output.{refusals_in, text_behind}

pub accepted_append : (a b : List Outcome) → accepted_in (a ++ b) ≡ accepted_in a ++ accepted_in b
accepted_append [] b = refl
accepted_append (Accepted t ∷ a) b = ap (λ ts. t ∷ ts) (accepted_append a b)
accepted_append (Refusal refusal ∷ a) b = accepted_append a b

pub text_append : (output : OutputText) (before : List TransactionData) (a b : List Outcome)
    → text_behind output before (a ++ b) ≡ text_behind output before a ++ text_behind output (before ++ accepted_in a) b
text_append output before [] b = ap (λ ts. text_behind output ts b) (sym (append-nil before))
text_append output before (Accepted t ∷ a) b =
    ap (λ text. output.of_packet before t ++ text)
    (text_append output (before ++ t ∷ []) a b
    ∙ ap (λ ts. text_behind output (before ++ t ∷ []) a ++ text_behind output ts b)
    (append_assoc before (t ∷ []) (accepted_in a)))
    ∙ sym (append_assoc (output.of_packet before t) (text_behind output (before ++ t ∷ []) a)
    (text_behind output (before ++ t ∷ accepted_in a) b))
text_append output before (Refusal refusal ∷ a) b =
    ap (λ text. refusal_line refusal ++ text) (text_append output before a b)
    ∙ sym (append_assoc (refusal_line refusal) (text_behind output before a)
    (text_behind output (before ++ accepted_in a) b))

-- after some, from the start
pub texts_then : (output : OutputText) (outcomes a b : List Outcome)
    → text_behind output (accepted_in outcomes) (a ++ b) ≡ text_behind output (accepted_in outcomes) a
    ++ text_behind output (accepted_in (outcomes ++ a)) b
texts_then output outcomes a b =
    text_append output (accepted_in outcomes) a b
    ∙ ap (λ ts. text_behind output (accepted_in outcomes) a ++ text_behind output ts b)
    (sym (accepted_append outcomes a))

-- a line is made after what waits: a transaction's own, the mark of a comment, a note and LF
pub noted : (line note waited lined marked said ended : List ℕ) → lined ≡ waited ++ line → marked ≡ lined ++ codes " # "
    → said ≡ marked ++ note → ended ≡ said ++ codes "\n"
    → ended ≡ waited ++ (line ++ (codes " # " ++ (note ++ codes "\n")))
noted line note waited lined marked said ended own mark says end =
    let so_far = says ∙ ap (λ l. l ++ note) (mark ∙ ap (λ l. l ++ codes " # ") own) in
    let last = note ++ codes "\n" in
    end ∙ (ap (λ l. l ++ codes "\n") so_far ∙ (append_assoc ((waited ++ line) ++ codes " # ") note (codes "\n")
    ∙ (append_assoc (waited ++ line) (codes " # ") last ∙ append_assoc waited line (codes " # " ++ last))))

-- a piece, and what stands after it
behind_one : (l0 l1 piece rest whole : List ℕ) → l1 ≡ l0 ++ piece → whole ≡ l1 ++ rest → whole ≡ l0 ++ (piece ++ rest)
behind_one l0 l1 piece rest whole put same = same ∙ ap (λ l. l ++ rest) put ∙ append_assoc l0 piece rest

-- pieces, each after those before it
pub behind_seven : (a b c d e f g l0 l1 l2 l3 l4 l5 l6 l7 : List ℕ) → l1 ≡ l0 ++ a → l2 ≡ l1 ++ b → l3 ≡ l2 ++ c
    → l4 ≡ l3 ++ d → l5 ≡ l4 ++ e → l6 ≡ l5 ++ f → l7 ≡ l6 ++ g
    → l7 ≡ l0 ++ (a ++ b ++ c ++ d ++ e ++ f ++ g)
behind_seven a b c d e f g l0 l1 l2 l3 l4 l5 l6 l7 first second third fourth fifth sixth seventh =
    let two = behind_one l0 l1 a b l2 first second in
    let three = behind_one l0 l2 (a ++ b) c l3 two third in
    let four = behind_one l0 l3 (a ++ b ++ c) d l4 three fourth in
    let five = behind_one l0 l4 (a ++ b ++ c ++ d) e l5 four fifth in
    let six = behind_one l0 l5 (a ++ b ++ c ++ d ++ e) f l6 five sixth in
    behind_one l0 l6 (a ++ b ++ c ++ d ++ e ++ f) g l7 six seventh

-- ---- counts

count_by-append : (p : Outcome → Bool) (xs ys : List Outcome) → count_by p (xs ++ ys) ≡ count_by p xs + count_by p ys
count_by-append p xs ys = sum_by-append (λ x. cond (p x) 1 0) xs ys

pub packets_append : (a b : List Outcome) → packets_in (a ++ b) ≡ packets_in a + packets_in b
packets_append a b = count_by-append is_packet a b

pub refusals_append : (a b : List Outcome) → refusals_in (a ++ b) ≡ refusals_in a + refusals_in b
refusals_append a b = count_by-append (λ o. not (is_packet o)) a b

-- ---- an end inside a packet is all that is left out

pub left_in_both : (a b : List Outcome) → but_truncation a ≡ a → but_truncation b ≡ b → but_truncation (a ++ b) ≡ a ++ b
left_in_both a b first second =
    filter-append (λ o. not (is_truncation o)) a b ∙ (ap (λ l. l ++ but_truncation b) first ∙ ap (λ l. a ++ l) second)

pub left_out : (outcomes last : List Outcome) → but_truncation outcomes ≡ outcomes → but_truncation last ≡ []
    → but_truncation (outcomes ++ last) ≡ outcomes
left_out outcomes last whole inside =
    filter-append (λ o. not (is_truncation o)) outcomes last
    ∙ (ap (λ l. l ++ but_truncation last) whole ∙ (ap (λ l. outcomes ++ l) inside ∙ append-nil outcomes))
