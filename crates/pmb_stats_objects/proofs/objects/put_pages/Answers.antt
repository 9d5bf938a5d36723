use Rattle.std.proofs.Common.{◌∙◌, Option, ap, codes, sym}
use Rattle.std.specs.List.{flat_map}
use Rattle.pmb_command.specs.Parts.{DeviceParts, device_with}
use Rattle.pmb_json_text.specs.declared.item_order.ItemOrder.TheVariants.{Later}
use Rattle.pmb_json_text.specs.Member.{members_text}
use Rattle.pmb_observed.specs.Observing.{observations}
use Rattle.pmb_observed.specs.Told.{pages_of}
use Rattle.pmb_stats_objects.specs.Members.{list_member}
use Rattle.pmb_stats_objects.specs.Pages.{page_item}
use Rattle.pmb_stats_objects.proofs.Pieces.{no_text}
use Rattle.pmb_stats_objects.proofs.Putting.{puts_as}
use Rattle.pmb_stats_objects.proofs.objects.put_pages.Goals as goal

-- a device that the profile lacks has no pages
pub returns-in_default-clause-puts : goal.returns-in_default-clause-puts
returns-in_default-clause-puts g c = λ setting facts stands.
    let item = page_item c.args.digits setting.profile (observations setting facts) c.args.addr in
    let none = c.in_default.ensures.device ∙ ap (device_with c.args.addr) (c.profile.ensures setting facts stands) in
    puts_as (sym (no_text Later)
    ∙ ap (λ (device : Option DeviceParts). members_text Later (list_member (codes "pages") (flat_map item
    (pages_of device))))
    none) (c.texts_add_up.ensures.nothing _ _)

pub returns-clause-puts : goal.returns-clause-puts
returns-clause-puts g c = λ setting facts stands.
    c.put_pages.ensures.puts setting facts (record {
      stats = stands;
      device = sym (c.in-Some.ensures.device
          ∙ ap (device_with c.args.addr) (c.profile.ensures setting facts stands));
    })
