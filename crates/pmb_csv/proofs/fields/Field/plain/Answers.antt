use Rattle.std.proofs.Common.{ap, sym, ◌∙◌, List, ℕ, Option, Bor, Some, None, if◌then◌else◌, option_copied}
use Rattle.std.specs.Option.{is_some}
use Rattle.pmb_csv.proofs.TextLemmas.{is_plain}
use Rattle.pmb_csv.proofs.fields.Field.plain.Goals as goal

pub returns-in_default-Some : goal.returns-in_default-Some
returns-in_default-Some c =
    let found = c.args.self.now in
    sym (is_plain found.is_quoted found.raw.now (option_copied c.part.result.1) c.part.ensures.rest
    ∙ ap (λ (rest : Option (Bor (List ℕ))). if is_some (option_copied rest) then None else Some found.raw.now)
    c.in_default-Some.is-1)

pub returns-in_default-None : goal.returns-in_default-None
returns-in_default-None c =
    let found = c.args.self.now in
    sym (is_plain found.is_quoted found.raw.now (option_copied c.part.result.1) c.part.ensures.rest
    ∙ ap (λ (rest : Option (Bor (List ℕ))). if is_some (option_copied rest) then None else Some found.raw.now)
    c.in_default-None.is-1)
