-- The lines of the objects, device by device: for `put_device`, `put_devices` and `put_objects`.
use Rattle.std.proofs.Common.{◌≡◌, ◌∙◌, ℕ, Bool, true, false, ◌&&◌, cond, Some, None, List, [], ◌∷◌, ◌++◌, ap}
use Rattle.std.proofs.Common.{append_assoc}
use Rattle.std.proofs.Common.{append-nil, filter, map, refl, sym}
use Rattle.std.specs.List.{flat_map}
use Rattle.pmb_facts.specs.Fact.{FactData}
use Rattle.pmb_json_objects.specs.Object.{Object, is_wanted, object_lines}
use Rattle.pmb_json_text.specs.Member.{object_line}
use Rattle.pmb_keeper.specs.Setting.{Setting}
use Rattle.pmb_stats_counts.specs.Counts.{has_come}
use Rattle.pmb_stats_objects.specs.Objects.{device_object, end_object}
use Rattle.pmb_stats_objects.specs.machine.Standing.{device_lines}

module _ (devices : List ℕ) where
  abbrev wanted : Object → Bool
  wanted object = is_wanted devices object.device

  abbrev lines : List Object → List ℕ
  lines objects = flat_map (λ object. object_line object.members) objects

  by_test : (b : Bool) (object : Object) (more : List Object)
      → lines (cond b (object ∷ more) more) ≡ cond b (object_line object.members) [] ++ lines more
  by_test true object more = refl
  by_test false object more = refl

  -- the line of an object, and those of others
  one_object : (object : Object) (more : List Object) → object_lines devices (object ∷ more)
      ≡ cond (wanted object) (object_line object.members) [] ++ object_lines devices more
  one_object object more = by_test (wanted object) object (filter wanted more)

  both_objects : (xs ys : List Object)
      → object_lines devices (xs ++ ys) ≡ object_lines devices xs ++ object_lines devices ys
  both_objects [] ys = refl
  both_objects (x ∷ xs) ys =
      let here : List ℕ = cond (wanted x) (object_line x.members) [] in
      one_object x (xs ++ ys) ∙ ap (λ (t : List ℕ). here ++ t) (both_objects xs ys)
      ∙ sym (append_assoc here (object_lines devices xs) (object_lines devices ys))
      ∙ ap (λ (t : List ℕ). t ++ object_lines devices ys) (sym (one_object x xs))

  -- what names no device is wanted
  whole_is_wanted : (ds : List ℕ) → is_wanted ds None ≡ true
  whole_is_wanted [] = refl
  whole_is_wanted (d ∷ ds) = refl

  whole_line : (facts : List FactData)
      → object_lines devices (end_object facts ∷ []) ≡ object_line (end_object facts).members
  whole_line facts =
      one_object (end_object facts) []
      ∙ ap (λ (b : Bool). cond b (object_line (end_object facts).members) [] ++ []) (whole_is_wanted devices)
      ∙ append-nil (object_line (end_object facts).members)

  module _ (digits : ℕ) (setting : Setting) (facts : List FactData) where
    abbrev come : List ℕ → List ℕ
    come addrs = filter (λ addr. has_come addr facts) addrs

    by_coming : (b : Bool) (addr : ℕ) (more : List ℕ)
        → object_lines devices (map (device_object digits setting facts) (come more))
        ≡ device_lines digits setting facts devices more
        → object_lines devices (map (device_object digits setting facts) (cond b (addr ∷ come more) (come more)))
        ≡ cond (b && is_wanted devices (Some addr)) (object_line (device_object digits setting facts addr).members) []
        ++ device_lines digits setting facts devices more
    by_coming true addr more rest =
        one_object (device_object digits setting facts addr) (map (device_object digits setting facts) (come more))
        ∙ ap (λ (t : List ℕ). cond (is_wanted devices (Some addr)) (object_line (device_object digits setting facts
        addr).members) [] ++ t) rest
    by_coming false addr more rest = rest

    lines_of_devices : (addrs : List ℕ) → object_lines devices (map (device_object digits setting facts) (come addrs))
        ≡ device_lines digits setting facts devices addrs
    lines_of_devices [] = refl
    lines_of_devices (addr ∷ more) = by_coming (has_come addr facts) addr more (lines_of_devices more)

    -- the devices' lines, and that of the whole
    pub all_lines : (addrs : List ℕ)
        → object_lines devices (map (device_object digits setting facts) (come addrs) ++ end_object facts ∷ [])
        ≡ device_lines digits setting facts devices addrs ++ object_line (end_object facts).members
    all_lines addrs =
        both_objects (map (device_object digits setting facts) (come addrs)) (end_object facts ∷ [])
        ∙ ap (λ (t : List ℕ). t ++ object_lines devices (end_object facts ∷ [])) (lines_of_devices addrs)
        ∙ ap (λ (t : List ℕ). device_lines digits setting facts devices addrs ++ t) (whole_line facts)
