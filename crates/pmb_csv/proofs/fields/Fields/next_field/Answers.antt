use Rattle.std.proofs.Common.{◌≡◌, ℕ, List, [], ◌∷◌, None, Option, Bor, ap, subst, sym, ◌∙◌, option_copied}
use Rattle.pmb_csv.specs.Fields.{Record, comma, quote}
use Rattle.pmb_csv.specs.Left.{Takes, behind_field, left, with_field}
use Rattle.pmb_csv.proofs.LineLemmas.{first_plain}
use Rattle.pmb_csv.proofs.fields.Fields.next_field.Goals as goal
use Rattle.pmb_words.specs.Parts.{after, parted}

pub returns-in_default-behind : goal.returns-in_default-behind
returns-in_default-behind c =
    let text = c.in-Some.text.now in
    let raw = c.part.result.0.now in
    let rest = option_copied c.part.result.1 in
    let no_quote : after (quote ∷ []) text ≡ None = sym c.behind.ensures ∙ ap option_copied c.in_default-behind.is in
    let first : left c.args.self.now ≡ with_field raw (behind_field rest) =
    ap (λ (left : Option (Bor (List ℕ))). behind_field (option_copied left)) c.in-Some.is ∙ first_plain text no_quote
    ∙ ap (λ (f : List ℕ). with_field f (behind_field (parted comma text).rest)) (sym c.part.ensures.front)
    ∙ ap (λ (r : Option (List ℕ)). with_field raw (behind_field r)) (sym c.part.ensures.rest) in
    subst (λ (r : Record). Takes r c.take.result (left c.take.new.self)) (sym first) c.take.ensures
