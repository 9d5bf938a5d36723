-- The lines of objects that are JSON are lines of JSON.
use Rattle.std.proofs.Common.{◌≡◌, ℕ, List, [], ◌∷◌, ◌++◌, filter, refl, sym, ap, subst}
use Rattle.std.proofs.Common.{append-nil}
use Rattle.std.specs.List.{AllByRecursion, flat_map}
use Rattle.pmb_json.proofs.EachOf.{each_filtered}
use Rattle.pmb_json.proofs.JsonLines.{SpellsJson}
use Rattle.pmb_json.specs.Lines.{AreJsonLines, IsJsonLine}
use Rattle.pmb_json_objects.specs.Laws.{IsJsonObject}
use Rattle.pmb_json_objects.specs.Object.{Object, is_wanted, object_lines}
use Rattle.pmb_json_text.specs.Json.{IsJsonText, Json}
use Rattle.pmb_json_text.specs.Member.{AreWritable, Member, members_of, object_line, object_of}
use Rattle.pmb_json_text.specs.Spelling.{IsWritable, MembersAreWritable, spelled}

abbrev IsJson : Object → Type 0
IsJson object = IsJsonObject object.members

all_writable : (members : List Member) → AreWritable members → MembersAreWritable (members_of members)
all_writable [] are = tt
all_writable (m ∷ members) are = (are.0.0, are.0.1, all_writable members are.1)

whole_text : SpellsJson → (value : Json) → IsWritable value → IsJsonText (spelled value) value
whole_text spells value is = ([], spelled value, [], tt, spells.json value is, tt, sym (append-nil (spelled value)))

line_is_json : SpellsJson → (members : List Member) → IsJsonObject members → IsJsonLine (spelled (object_of members))
line_is_json spells members is =
    let writable : IsWritable (object_of members) = all_writable members is.writable in record {
      value = object_of members;
      object = tt;
      distinct = is.distinct;
      spells = whole_text spells (object_of members) writable;
      printable = spells.line (object_of members) writable;
    }

each_line : SpellsJson → (objects : List Object) → AllByRecursion IsJson objects
    → AreJsonLines (flat_map (λ (object : Object). object_line object.members) objects)
each_line spells [] are = record { lines = []; each = tt; whole = refl }
each_line spells (object ∷ objects) are =
    let more = each_line spells objects are.1 in record {
      lines = spelled (object_of object.members) ∷ more.lines;
      each = (line_is_json spells object.members are.0, more.each);
      whole = ap (λ (l : List ℕ). object_line object.members ++ l) more.whole;
    }

pub lines_are_json : SpellsJson → (devices : List ℕ) (objects : List Object) (text : List ℕ)
    → text ≡ object_lines devices objects → AllByRecursion IsJson objects → AreJsonLines text
lines_are_json spells devices objects text lines are =
    let wanted = λ (object : Object). is_wanted devices object.device in
    subst AreJsonLines (sym lines) (each_line spells (filter wanted objects) (each_filtered IsJson wanted objects are))
