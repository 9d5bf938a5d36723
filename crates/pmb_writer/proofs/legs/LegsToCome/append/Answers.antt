use Rattle.std.proofs.Common.{◌≡◌, ◌++◌, [], List, ℕ, true, map, sym, ap, ◌∙◌, append-nil, arith}
use Rattle.std.specs.Prelude.{option_map}
use Rattle.std.specs.Option.{option_to_list}
use Rattle.std.proofs.lemmas.List.{drop_all}
use Rattle.pmb_bus.specs.Event.{canonical_text, text_of}
use Rattle.pmb_bus.specs.declared.event.Event.TheVariants.{Stop}
use Rattle.pmb_transaction.specs.Transaction.{part_data}
use Rattle.pmb_writer.specs.machine.Legs.{LegData, leg_data, legs_events, part_leg}
use Rattle.pmb_writer.proofs.legs.LegsToCome.append.Goals as goal

-- STOP is left after the last leg
stop_left : (text : List ℕ) (crc : ℕ) → text ++ text_of Stop ≡ text ++ canonical_text (legs_events true crc [])
unfolding legs_events
stop_left text crc = ap (λ (t : List ℕ). text ++ t) (sym (append-nil (text_of Stop)))

pub returns : goal.returns
returns g c =
    let legs = c.args.self.now in
    let first : List LegData = option_to_list (option_map leg_data legs.first) in
    let second : List LegData = option_to_list (option_map leg_data legs.second) in
    let none_left = drop_all c.loop-part.part-index legs.parts.now (omega (arith, c.loop-part-test.false)) in
    c.append_event.ensures.text
    ∙ (stop_left c.append_leg.new.text.items c.append_leg.result
    ∙ (c.append_leg.ensures.text []
    ∙ (ap (λ (l : List LegData). c.append_leg-before_second.new.text.items
    ++ canonical_text (legs_events true c.append_leg-before_second.result l)) (append-nil second)
    ∙ (c.append_leg-before_second.ensures.text second
    ∙ (ap (λ parts. c.loop-part.text.items ++ canonical_text
    (legs_events true c.loop-part.crc (map (part_leg legs.profile.now) (map part_data parts) ++ (first ++ second))))
    (sym none_left)
    ∙ c.loop-part.invariant.text_is (first ++ second))))))
