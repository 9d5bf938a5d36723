-- The objects of `stats`: one for each device for which something was counted, and that of the whole.
use Rattle.std.specs.Prelude.{ℕ, List, [], ◌∷◌, ◌++◌, codes, filter, map}
use Rattle.std.specs.List.{range_with_len}
use Rattle.pmb_facts.specs.Fact.{FactData}
use Rattle.pmb_io.specs.Count.{capped}
use Rattle.pmb_json_objects.specs.Members.{device_members, kind_member}
use Rattle.pmb_json_objects.specs.Object.{Object, object_lines, of_none}
use Rattle.pmb_json_objects.specs.Object.{of_device as object_of_device}
use Rattle.pmb_json_text.specs.Member.{count, named}
use Rattle.pmb_keeper.specs.Setting.{Setting}
use Rattle.pmb_observed.specs.Observing.{first_time, last_time, observations}
use Rattle.pmb_stats_counts.specs.Counts.{bad_tokens, has_come, of_device, packets}
use Rattle.pmb_stats_objects.specs.Counts.{counts_members}
use Rattle.pmb_stats_objects.specs.Members.{count_member, list_member, text_member}
use Rattle.pmb_stats_objects.specs.Pages.{page_items}

-- the whole
abbrev pub end_object : List FactData → Object
end_object facts = of_none
    (kind_member (codes "end") ++ named (codes "packets") (count (capped (packets facts))) ∷ counts_members facts
    ++ count_member (codes "bad_tokens") (capped (bad_tokens facts)) ++ text_member (codes "first") (first_time facts)
    ++ text_member (codes "last") (last_time facts))

module _ (digits : ℕ) (setting : Setting) (facts : List FactData) where
  -- the device with an address
  abbrev pub device_object : ℕ → Object
  device_object addr = object_of_device addr
      (kind_member (codes "device") ++ device_members setting.profile addr ++ counts_members (of_device addr facts)
      ++ list_member (codes "pages") (page_items digits setting.profile (observations setting facts) addr))

  -- from the lowest address up, those for which something was counted
  abbrev pub device_objects : List Object
  device_objects = map device_object (filter (λ addr. has_come addr facts) (range_with_len 0 128))

  abbrev pub stats_objects : List Object
  stats_objects = device_objects ++ end_object facts ∷ []

  -- the lines of those that are wanted, by the addresses of the devices that are
  abbrev pub objects_text : List ℕ → List ℕ
  objects_text devices = object_lines devices stats_objects
