-- An object of a capture, and which are wanted.
use Rattle.std.specs.Prelude.{ℕ, Bool, true, Option, Some, None, List, [], ◌∷◌, filter, flat_map, nat_eq}
use Rattle.std.specs.List.{list_any}
use Rattle.pmb_json_text.specs.Member.{Member, object_line}

-- An object, and the device that it names.
pub record Object : Type 0 where
  pub device : Option ℕ
  pub members : List Member

abbrev pub of_device : ℕ → List Member → Object
of_device addr members = record { device = Some addr; members = members }

abbrev pub of_none : List Member → Object
of_none members = record { device = None; members = members }

-- ---- which are wanted

abbrev pub is_one_of : List ℕ → Option ℕ → Bool
is_one_of devices None = true
is_one_of devices (Some addr) = list_any (nat_eq addr) devices

-- all where no device is named; else those of the devices named, and those that name none
abbrev pub is_wanted : List ℕ → Option ℕ → Bool
is_wanted [] device = true
is_wanted (first ∷ devices) device = is_one_of (first ∷ devices) device

-- their lines
abbrev pub object_lines : List ℕ → List Object → List ℕ
object_lines devices objects = flat_map (λ object. object_line object.members)
    (filter (λ object. is_wanted devices object.device) objects)
