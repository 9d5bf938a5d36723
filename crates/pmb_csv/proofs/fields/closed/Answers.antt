use Rattle.std.proofs.Common.{ℕ, ◌-◌, ◌≤◌, ◌≡◌, List, length, take, drop, slice_index, subst, sym, ap, ◌∙◌, arith}
use Rattle.std.proofs.Common.{ne_eqb}
use Rattle.pmb_csv.specs.Fields.{record_of}
use Rattle.pmb_csv.specs.Left.{undoubled, with_field}
use Rattle.pmb_csv.proofs.LineLemmas.{all_of}
use Rattle.pmb_csv.proofs.QuoteLemmas.{closes, field_at_comma, field_at_end, never_closes, no_field}
use Rattle.pmb_csv.proofs.fields.closed.Goals as goal

pub returns-in_err-end-clause-none : goal.returns-in_err-end-clause-none
returns-in_err-end-clause-none c = λ is. never_closes c.args.text.now (sym c.in_err-end.ensures.value)

pub returns-in_default-clause-some : goal.returns-in_default-clause-some
returns-in_default-clause-some c =
    let text = c.args.text.now in
    let end = c.in_ok-end.end in
    let whole = ap (λ (t : List ℕ). length t) (all_of end text) in
    field_at_end text end (closes text end (sym c.in_ok-end.ensures.value)) (omega (arith, whole))

pub returns-then-byte-eq44-clause-some : goal.returns-then-byte-eq44-clause-some
returns-then-byte-eq44-clause-some c =
    let text = c.args.text.now in
    let end = c.in_ok-end.end in
    let whole = all_of end text in
    let behind = take (length text - end) (drop end text) in
    let some = subst (λ (t : List ℕ). 1 ≤ length t) whole c.in-len1-up.len_at_least in
    let is = subst (λ (t : List ℕ). slice_index t 0 ≡ 44) whole c.if-byte-eq44.true in
    field_at_comma text end (closes text end (sym c.in_ok-end.ensures.value)) (omega (arith, some)) is
    ∙ ap (λ (t : List ℕ). with_field (undoubled (take (end - 1) text)) (record_of t))
    (sym (all_of 1 behind ∙ ap (drop 1) whole))

pub returns-else-byte-eq44-clause-none : goal.returns-else-byte-eq44-clause-none
returns-else-byte-eq44-clause-none c = λ _.
    let text = c.args.text.now in
    let end = c.in_ok-end.end in
    let whole = all_of end text in
    let some = subst (λ (t : List ℕ). 1 ≤ length t) whole c.in-len1-up.len_at_least in
    let other = subst (λ (t : List ℕ). slice_index t 0 ≡ 44 → ⊥) whole c.if-byte-eq44.false in
    no_field text end (closes text end (sym c.in_ok-end.ensures.value)) (omega (arith, some))
    (ne_eqb (slice_index (drop end text) 0) 44 other)
