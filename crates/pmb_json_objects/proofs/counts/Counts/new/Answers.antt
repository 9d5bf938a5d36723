-- Each device has not come.
use Rattle.std.proofs.Common.{Some, replicate, ap, ◌∙◌, refl, arith}
use Rattle.std.proofs.lemmas.List.{get_or-replicate, length-replicate}
use Rattle.std.proofs.lemmas.Option.{slice_get-get_or}
use Rattle.pmb_json_objects.proofs.counts.Counts.new.Goals as goal

pub returns : goal.returns
returns c =
    let none = c.new.result in
    record {
      devices = record {
        all = length-replicate 128 none;
        each = λ addr below.
            slice_get-get_or (replicate 128 none) addr none (omega (arith, below, length-replicate 128 none))
            ∙ ap Some (get_or-replicate 128 addr none none below ∙ c.new.ensures);
      };
      packets = refl;
      refusals = refl;
      bad_tokens = refl;
      others = refl;
    }
