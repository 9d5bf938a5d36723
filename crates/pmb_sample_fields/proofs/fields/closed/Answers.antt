use Rattle.std.proofs.Common.{◌≡◌, List, ℕ, [], option_copied, refl, subst, sym}
use Rattle.pmb_sample_fields.specs.Fields.{Behind, broken, fields_from, mark_byte, with_field}
use Rattle.pmb_sample_fields.specs.machine.Left.{behind_field}
use Rattle.pmb_sample_fields.proofs.LineLemmas.{all_of}
use Rattle.pmb_sample_fields.proofs.QuoteLemmas.{closed_field, closes, never_closes, no_field}
use Rattle.pmb_sample_fields.proofs.fields.closed.Goals as goal

pub returns-in_err-end-clause-none : goal.returns-in_err-end-clause-none
returns-in_err-end-clause-none c = λ _.
    never_closes (mark_byte c.args.mark) c.args.text.now (sym c.in_err-end.ensures.value)

pub returns-in_err-rest-clause-none : goal.returns-in_err-rest-clause-none
returns-in_err-rest-clause-none c = λ _.
    let mark = mark_byte c.args.mark in
    let text = c.args.text.now in
    let end = c.in_ok-end.end in
    no_field mark text end (closes mark text end (sym c.in_ok-end.ensures.value))
    (subst (λ (t : List ℕ). fields_from mark Behind t ≡ broken) (all_of end text) (c.in_err-rest.ensures.none refl))

pub returns-clause-some : goal.returns-clause-some
returns-clause-some c =
    let mark = mark_byte c.args.mark in
    let text = c.args.text.now in
    let end = c.in_ok-end.end in
    let rest = behind_field mark (option_copied c.in_ok-rest.rest) in
    closed_field mark text end rest (closes mark text end (sym c.in_ok-end.ensures.value))
    (subst (λ (t : List ℕ). fields_from mark Behind t ≡ with_field [] rest) (all_of end text) c.in_ok-rest.ensures.some)
