-- Which part of how many: a part of a group says its place and the number of parts, the only part
-- of a write says nothing. For `append_part` of `src/members.rt`. By the definition, for one part
-- and for several.
use Rattle.std.proofs.Common.{◌≡◌, ℕ, ◌<◌, ◌≤◌, List, [], ◌∷◌, codes, if◌then◌else◌, ap}
use Rattle.std.proofs.lemmas.Bool.{le-leb, lt-leb}
use Rattle.pmb_json_text.specs.Member.{Member, named, count}
use Rattle.pmb_json_objects.specs.Members.{part_members}

abbrev both : ℕ → ℕ → List Member
both part parts = named (codes "part") (count part) ∷ named (codes "parts") (count parts) ∷ []

pub of_several : (part parts : ℕ) → 1 < parts → part_members part parts ≡ both part parts
of_several part parts more = ap (λ is. if is then [] else both part parts) (lt-leb parts 1 more)

pub the_only : (part parts : ℕ) → parts ≤ 1 → part_members part parts ≡ []
the_only part parts one = ap (λ is. if is then [] else both part parts) (le-leb parts 1 one)
