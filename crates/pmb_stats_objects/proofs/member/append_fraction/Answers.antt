use Rattle.std.proofs.Common.{◌∙◌, ◌++◌, ◌∷◌, [], List, ℕ, ap, sym}
use Rattle.pmb_decimal.specs.Decimal.{rounded_text}
use Rattle.pmb_json_text.specs.Json.{number}
use Rattle.pmb_json_text.specs.Member.{named}
use Rattle.pmb_stats_objects.specs.Members.{fraction_member}
use Rattle.pmb_stats_objects.proofs.Pieces.{called, nothing}
use Rattle.pmb_stats_objects.proofs.member.append_fraction.Goals as goal

pub returns-in_default : goal.returns-in_default
returns-in_default g c =
    called (ap (fraction_member c.args.digits c.args.key.now) (sym c.in_default.is)) (nothing 53 _ c.args.out.now.items)

pub returns-in-Some : goal.returns-in-Some
returns-in-Some g c =
    let written = rounded_text c.args.digits c.in-Some.quantity in
    let text = c.as_slice.ensures.value ∙ c.append_decimal.ensures.text
    ∙ ap (λ (t : List ℕ). t ++ written) c.new-text.ensures in
    called (ap (λ (t : List ℕ). named c.args.key.now (number t) ∷ []) text
    ∙ ap (fraction_member c.args.digits c.args.key.now) (sym c.in-Some.is)) c.append_number.ensures
