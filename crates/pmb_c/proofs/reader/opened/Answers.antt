use Rattle.std.proofs.Common.{ℕ, List, ◌++◌, ◌∙◌, Some, refl, ap}
use Rattle.pmb_c.specs.Reader.{kind_in, reader_in}
use Rattle.pmb_c.specs.declared.held.Held.{Held}
use Rattle.pmb_c.proofs.reader.opened.Goals as goal

pub returns-in-Ok : goal.returns-in-Ok
returns-in-Ok c =
    let fresh = c.in_ok-reader.ensures.fresh in
    record {
      base = _;
      reader = fresh.0;
      ground = record {
        of_profile = refl;
        of_devices =
            c.in_ok-extend_from_slice.ensures.items
            ∙ ap (λ (l : List ℕ). l ++ c.args.devices.now) c.new-wanted.ensures.items;
        digits = refl;
        start = refl;
        bad_words = refl;
        told = c.telling.ensures.told;
      };
      fresh = fresh.2;
      is = ap (λ (holds : Held). reader_in (Some holds)) c.in-Ok.ensures.ok ∙ fresh.1;
      of_kind = ap (λ (holds : Held). kind_in (Some holds)) c.in-Ok.ensures.ok;
    }
