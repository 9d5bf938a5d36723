use Rattle.std.proofs.Common.{map}
use Rattle.pmb_json_text.specs.Json.{string}
use Rattle.pmb_meaning.specs.Field.{texts}
use Rattle.pmb_meaning.proofs.ObjectLemmas.{array_appended}
use Rattle.pmb_meaning.proofs.member.append_array.Goals as goal

pub returns-clause-member : goal.returns-clause-member
returns-clause-member g c =
    array_appended c.args.place c.args.key.now (map string (texts c.args.names.now)) c.args.out.now.items
    c.begin_array.ensures.begun c.append_items.ensures.items c.end_array.ensures.ended
