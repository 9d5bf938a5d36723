use Rattle.std.proofs.Common.{◌≡◌, ℕ, List, [], ◌∷◌, None, Option, Some, Bor, ap, subst, sym, ◌∙◌, option_copied}
use Rattle.pmb_sample_fields.specs.Fields.{Plain, Quoted, Record, fields_from, mark_byte, quote}
use Rattle.pmb_sample_fields.specs.machine.Left.{Takes, behind_field, left}
use Rattle.pmb_sample_fields.proofs.LineLemmas.{behind_a_quote, behind_no_quote}
use Rattle.pmb_sample_fields.proofs.fields.Fields.next_field.Goals as goal
use Rattle.pmb_words.specs.Parts.{after}

pub returns-in_default-behind : goal.returns-in_default-behind
returns-in_default-behind c =
    let mark = mark_byte c.args.self.now.mark in
    let from = c.from_field-from.result.now in
    let no_quote : after (quote ∷ []) from ≡ None = sym c.behind.ensures ∙ ap option_copied c.in_default-behind.is in
    let first : left c.args.self.now ≡ fields_from mark Plain from =
    ap (λ (rest : Option (Bor (List ℕ))). behind_field mark (option_copied rest)) c.in-Some.is
    ∙ behind_no_quote mark c.in-Some.text.now from c.from_field-from.ensures no_quote in
    subst (λ (r : Record). Takes r c.take_plain.result (left c.take_plain.new.self)) (sym first) c.take_plain.ensures

pub returns : goal.returns
returns c =
    let mark = mark_byte c.args.self.now.mark in
    let from = c.from_field-from.result.now in
    let inner = c.in-Some-behind.inner.now in
    let a_quote : after (quote ∷ []) from ≡ Some inner = sym c.behind.ensures ∙ ap option_copied c.in-Some-behind.is in
    let first : left c.args.self.now ≡ fields_from mark Quoted inner =
    ap (λ (rest : Option (Bor (List ℕ))). behind_field mark (option_copied rest)) c.in-Some.is
    ∙ behind_a_quote mark c.in-Some.text.now from inner c.from_field-from.ensures a_quote in
    subst (λ (r : Record). Takes r c.take_quoted.result (left c.take_quoted.new.self)) (sym first) c.take_quoted.ensures
