-- By what the laws of lower crates say.
use Rattle.pmb_json.proofs.JsonLines.{SpellsJson, text_is_json, text_so_far_is_json}
use Rattle.pmb_json.proofs.JsonSpans.{Below}
use Rattle.pmb_json.proofs.laws.each_line_is_json.Goals as goal

pub returns : goal.returns
returns c =
    let below : Below = record {
      packets = c.objects_are_of_facts.ensures;
      packet = c.all_objects_are_json.ensures.packet;
      refusal = c.objects_are_json.ensures.refusal;
      bad_token = c.objects_are_json.ensures.bad_token;
      other = c.objects_are_json.ensures.other;
      last = c.all_objects_are_json.ensures.last;
      behind = c.places_are_in_range.ensures.behind;
      words = c.places_are_in_range.ensures.words;
      end = c.places_are_in_range.ensures.end;
      times = c.times_are_short.ensures.at;
    } in
    let spells : SpellsJson = record { json = c.spelling_is_json.ensures; line = c.spelling_fits_in_line.ensures } in
    record {
      whole = λ choice profile after bytes text tally is bus formats small told. text_is_json below choice profile bus
          formats spells after bytes text tally small told
          (c.json_is_the_objects.ensures.whole choice profile after bytes text tally is told);
      so_far = λ choice profile after bytes text is bus formats small told. text_so_far_is_json below choice profile
          bus formats spells after bytes text small told
          (c.json_is_the_objects.ensures.so_far choice profile after bytes text is told);
    }
