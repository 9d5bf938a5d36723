-- What can be written member by member can be written.
use Rattle.std.proofs.Common.{List, [], ◌∷◌}
use Rattle.pmb_json_text.specs.Member.{AreWritable, Member, members_of, object_of}
use Rattle.pmb_json_text.specs.Spelling.{MembersAreWritable}
use Rattle.pmb_json_objects.proofs.laws.objects_are_lines.Goals as goal

all_writable : (members : List Member) → AreWritable members → MembersAreWritable (members_of members)
all_writable [] are = tt
all_writable (m ∷ members) are = (are.0.0, are.0.1, all_writable members are.1)

pub returns-clause-json : goal.returns-clause-json
returns-clause-json c members is = c.line_is_json.ensures members is.writable

pub returns-clause-line : goal.returns-clause-line
returns-clause-line c members is = c.spelling_fits_in_line.ensures (object_of members)
    (all_writable members is.writable)
