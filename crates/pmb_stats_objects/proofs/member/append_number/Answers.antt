use Rattle.std.proofs.Common.{◌≡◌, ◌+◌, ◌∙◌, ap, arith, length, length-append, refl}
use Rattle.pmb_json_text.specs.declared.item_order.ItemOrder.TheVariants.{Later}
use Rattle.pmb_json_text.specs.Json.{number}
use Rattle.pmb_json_text.proofs.Pieces.{member_appended}
use Rattle.pmb_stats_objects.proofs.member.append_number.Goals as goal

pub returns : goal.returns
returns g c =
    let keyed = c.append_key.new.out.items in
    let text = c.args.text.now in
    let long : length c.append.new.out.items ≡ length keyed + length text = ap length c.append.ensures
    ∙ length-append keyed text in
    record {
      items = member_appended Later c.args.key.now (number text) c.args.out.now.items c.append_key.ensures.key
          c.append.ensures;
      longer = omega (arith, long, c.append_key.ensures.short, c.requires.short);
      place_is = refl;
    }
