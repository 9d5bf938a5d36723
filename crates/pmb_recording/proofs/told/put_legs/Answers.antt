use Rattle.std.proofs.Common.{◌≡◌, ◌∙◌, ◌+◌, ◌++◌, ◌∷◌, ◌&&◌, not, [], ℕ, List, Bool, get_or, take, ap, sym, subst}
use Rattle.std.proofs.lemmas.List.{take_more}
use Rattle.pmb_io.specs.Outgoing.{PutsText}
use Rattle.pmb_recording.specs.Told.{leg_bytes, listed}
use Rattle.pmb_recording.specs.declared.wire_byte.WireByte.{WireByte}
use Rattle.pmb_recording.specs.machine.Texts.{leg_of}
use Rattle.pmb_recording.proofs.Legs.{is_none, legs_more, no_byte, none_more}
use Rattle.pmb_recording.proofs.told.put_legs.Goals as goal

-- the leg of a byte more
pub loop-b-preserved : goal.loop-b-preserved
loop-b-preserved g c =
    let i = c.loop-b.b-index in
    let wire = c.args.wire.now in
    let so_far = c.loop-b.invariant in
    let b = get_or wire i no_byte in
    let more : take (i + 1) wire ≡ take i wire ++ b ∷ [] = take_more wire i no_byte c.loop-b-test.true in
    let text : listed (leg_bytes (take i wire)) ++ leg_of c.loop-b.is_first b ≡ listed (leg_bytes (take (i + 1) wire)) =
    ap (λ (f : Bool). listed (leg_bytes (take i wire)) ++ leg_of f b) so_far.first
    ∙ (legs_more (take i wire) b ∙ sym (ap (λ (w : List WireByte). listed (leg_bytes w)) more)) in
    record {
      put = subst (λ (t : List ℕ). PutsText (g.W.Sink.told c.args.writer.now).held c.args.waiting.now.items
          (g.W.Sink.told c.put_if_leg.new.writer).held c.put_if_leg.new.waiting.items t) text
          (c.texts_add_up.ensures.both _ _ _ _ _ _ (listed (leg_bytes (take i wire))) (leg_of c.loop-b.is_first b)
          so_far.put c.in_ok-put_if_leg.ensures.ok);
      first = c.stays_first-is_first.ensures ∙ (ap (λ (f : Bool). f && not b.follows_start) so_far.first
          ∙ (none_more (take i wire) b ∙ sym (ap (λ (w : List WireByte). is_none (leg_bytes w)) more)));
      failures = c.in_ok-put_if_leg.ensures.failed ∙ so_far.failures;
    }
