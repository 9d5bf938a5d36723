use Rattle.std.proofs.Common.{◌≡◌, List, [], option_map, ◌∷◌, ◌++◌, ◌∙◌, ap, length, subst, sym}
use Rattle.pmb_stats_bits.specs.Bits.{RegisterRead}
use Rattle.pmb_stats_bits.specs.Standing.{RegisterStandsAt}
use Rattle.pmb_stats_bits.specs.declared.history.BitHistory.{BitHistory}
use Rattle.pmb_stats_room.proofs.Lists.{written}
use Rattle.pmb_stats_room.proofs.register.Register.see.Goals as goal
use Rattle.pmb_stats_room.specs.machine.Slots.{HaveRead}

pub returns : goal.returns
returns c reads have =
    let read : RegisterRead = record { word = c.args.word; time = option_map (λ time. time.now) c.args.time } in
    let lent : c.as_mut_slice.result.now ≡ c.args.self.now = c.as_mut_slice.ensures.value ∙ c.self.view_is in
    subst (λ (bits : List BitHistory). HaveRead bits (reads ++ read ∷ []))
    (sym (written c.self.inside.bits c.as_mut_slice.result.now c.see_word.new.bits c.see_word.auto.bits
    c.as_mut_slice.ensures.len))
    (record {
      sixteen = c.see_word.auto.bits ∙ (ap length lent ∙ have.sixteen);
      stand = c.see_word.ensures reads (subst (λ (bits : List BitHistory). RegisterStandsAt bits reads) (sym lent)
          have.stand);
    })
