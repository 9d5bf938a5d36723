use Rattle.std.proofs.Common.{◌++◌, ◌∷◌, List, ℕ, true, sym, ap, ◌∙◌, append_assoc}
use Rattle.std.specs.Prelude.{option_map}
use Rattle.std.specs.Option.{option_to_list}
use Rattle.pmb_bus.specs.Event.{canonical_text}
use Rattle.pmb_bus.specs.declared.event.Event.TheVariants.{Start}
use Rattle.pmb_writer.specs.machine.Legs.{LegData, code_before, leg_data, leg_events, legs_events}
use Rattle.pmb_writer.proofs.LegTexts.{leg_behind}
use Rattle.pmb_writer.proofs.legs.append_leg.Goals as goal

pub returns-in-Some-clause-text : goal.returns-in-Some-clause-text
returns-in-Some-clause-text g c others =
    let l : LegData = leg_data c.in-Some.leg in
    let old = c.args.text.now.items in
    let text : List ℕ = canonical_text (Start ∷ leg_events (code_before l.goes_on c.args.crc) l) in
    ap (λ (t : List ℕ). t ++ canonical_text (legs_events true c.append.result others)) c.append.ensures.text
    ∙ (append_assoc old text (canonical_text (legs_events true c.append.result others))
    ∙ (ap (λ (code : ℕ). old ++ (text ++ canonical_text (legs_events true code others))) c.append.ensures.code
    ∙ (ap (λ (t : List ℕ). old ++ t) (sym (leg_behind c.args.crc l others))
    ∙ ap (λ leg. old ++ canonical_text (legs_events true c.args.crc
    (option_to_list (option_map leg_data leg) ++ others))) (sym c.in-Some.is))))
