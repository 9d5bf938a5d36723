-- Each field is by what the packet under way tells.
use Rattle.std.proofs.Common.{ap, ◌∙◌}
use Rattle.pmb_json_objects.specs.Head.{head_of}
use Rattle.pmb_items.specs.Bytes.{leg}
use Rattle.pmb_items.specs.Item.{bare}
use Rattle.pmb_items.proofs.fact.refusal_item.Goals as goal

pub returns : goal.returns
returns c = λ known profile front sees viable stands.
    let same_rest = c.bare.ensures ∙ ap (bare (head_of c.args.head) 7) (c.device.ensures front stands) in
    let same_sent = c.leg.ensures ∙ ap leg (c.sent.ensures.bytes profile front viable stands) in
    let same_reply = c.leg-2.ensures ∙ ap leg (c.reply.ensures.bytes profile front viable stands) in
    let same_command = c.written_command.ensures known profile front sees viable stands in
    let same_pec = c.refusal_pec.ensures front stands in
    let same_refusal = c.refusal_of.ensures in
    λ i. record (same_rest i) {
      command = same_command i;
      pec = same_pec i;
      refusal = same_refusal i;
      sent = same_sent i;
      reply = same_reply i;
    }
