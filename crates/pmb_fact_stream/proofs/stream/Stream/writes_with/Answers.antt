use Rattle.std.proofs.Common.{◌≡◌, Option, Some, None, [], ◌∷◌, is_some, refl, ap, subst}
use Rattle.std.proofs.Common.{sym, ◌∙◌}
use Rattle.std.specs.Prelude.{option_map}
use Rattle.pmb_partial_packet.specs.PartialPacket.{reply}
use Rattle.pmb_fact_stream.specs.Lost.{heard}
use Rattle.pmb_fact_stream.specs.Stream.{stream_profile}
use Rattle.pmb_fact_stream.specs.machine.Losing.{WritesStandAt}
use Rattle.pmb_fact_stream.proofs.stream.Stream.writes_with.Goals as goal
use Rattle.pmb_fact_stream.proofs.stream.Stream.writes_with.Goals.{then-is_some, else-is_some}

-- an option has something where what is made of it has something
some_of : {A B : Type 0} (f : A → B) (o : Option A) → is_some o ≡ is_some (option_map f o)
some_of f None = refl
some_of f (Some a) = refl

pub returns : goal.returns
returns c front viable said stands =
    let profile = stream_profile c.args.self.now in
    let event = c.args.event in
    let replies : c.is_some.result ≡ is_some (reply front) =
    c.is_some.ensures ∙ some_of _ c.reply.result
    ∙ ap is_some (c.reply.ensures.bytes profile front viable said) in
    elim c.if-is_some.branch [
      | then-is_some w ↦
          subst (λ r. WritesStandAt profile c.after.result (heard r front (event ∷ []))) (sym w.if-is_some.true ∙ replies)
          (c.after.ensures [] (subst (λ b. WritesStandAt profile b []) (sym w.before-is) (w.new-before.ensures profile)))
      | else-is_some w ↦
          subst (λ r. WritesStandAt profile c.after.result (heard r front (event ∷ []))) (sym w.if-is_some.false ∙ replies)
          (c.after.ensures front (subst (λ b. WritesStandAt profile b front) (sym w.before-is) stands))
    ]
