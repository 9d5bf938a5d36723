use Rattle.std.proofs.Common.{◌≡◌, ◌∙◌, ◌<◌, [], List, ap, arith, length, refl, sym, take, get_or}
use Rattle.pmb_json_text.specs.declared.item_order.ItemOrder.{ItemOrder}
use Rattle.pmb_json_text.specs.declared.item_order.ItemOrder.TheVariants.{First}
use Rattle.pmb_json_text.specs.Member.{Member, members_text, place_after}
use Rattle.pmb_stats_counts.specs.declared.sort.Sort.TheVariants.{Refusals}
use Rattle.pmb_stats_objects.specs.Counts.{reason_members, reasons, sort_member}
use Rattle.pmb_stats_objects.specs.Members.{count_member}
use Rattle.pmb_stats_objects.proofs.Lists.{one_more}
use Rattle.pmb_stats_objects.proofs.Pieces.{after_both, in_order, no_text, said}
use Rattle.pmb_transaction.specs.declared.reason.Reason.{Reason}
use Rattle.pmb_transaction.specs.declared.reason.Reason.TheVariants.{ReadFirst}
use Rattle.pmb_transaction.specs.Names.{reason_name}
use Rattle.pmb_stats_objects.proofs.counts.refusals.Goals as goal

pub loop-reason-init : goal.loop-reason-init
loop-reason-init g c = record {
  text = λ facts given. c.new-out.ensures ∙ sym (no_text First);
  place_is = λ facts given. refl;
  short = omega (arith, ap length c.new-out.ensures);
}

pub loop-reason-preserved : goal.loop-reason-preserved
loop-reason-preserved g c =
    let i = c.loop-reason.reason-index in
    let within : i < length reasons = c.loop-reason-test.true in
    let reason = get_or reasons i ReadFirst in
    record {
      text = λ facts given.
          let before = reason_members facts (take i reasons) in
          let here = sort_member facts (reason_name reason) (Refusals reason) in
          let one = said c.loop-reason.place {ys = here} c.loop-reason.out.items (cc (
            c.reason_key.ensures.name,
            c.count-count.ensures facts given,
          )) c.append_count-place.ensures.items in
          in_order First c.loop-reason.place before here [] (c.loop-reason.invariant.place_is facts given)
          (c.loop-reason.invariant.text facts given) one
          ∙ ap (members_text First)
          (one_more (λ (r : Reason). sort_member facts (reason_name r) (Refusals r)) reasons i ReadFirst within);
      place_is = λ facts given.
          let before = reason_members facts (take i reasons) in
          let here = sort_member facts (reason_name reason) (Refusals reason) in
          let one : count_member c.reason_key.result.now c.count-count.result ≡ here = cc (
            c.reason_key.ensures.name,
            c.count-count.ensures facts given,
          ) in
          c.append_count-place.ensures.place_is
          ∙ ap (λ (members : List Member). place_after c.loop-reason.place members) one
          ∙ ap (λ (place : ItemOrder). place_after place here) (c.loop-reason.invariant.place_is facts given)
          ∙ sym (after_both First before here)
          ∙ ap (place_after First)
          (one_more (λ (r : Reason). sort_member facts (reason_name r) (Refusals r)) reasons i ReadFirst within);
      short = omega (arith, c.append_count-place.ensures.longer, c.loop-reason.invariant.short);
    }
