use Rattle.std.proofs.Common.{◌<◌, ◌^◌, ◌∙◌, length, unsigned_abs, subst, sym, ap, rules, arith, to_z, of_z, w32}
use Rattle.std.proofs.lemmas.Int.{ints}
use Rattle.pmb_json_text.specs.Json.{IsNumber}
use Rattle.pmb_meaning.proofs.ValueLemmas.{signed_number}
use Rattle.pmb_meaning.proofs.member.append_number.Goals as goal

pub number_text_member-requires : goal.number_text_member-requires
number_text_member-requires g c =
    let small : unsigned_abs (to_z w32 (of_z w32 c.args.number)) < 2 ^ 64 = omega (arith, ints, c.ranges.number.sfits) in
    let text = c.as_bytes.ensures.value ∙ c.format.ensures.text in (
      search rules,
      (
        c.requires.key,
        (
          subst IsNumber (sym text) (signed_number (to_z w32 (of_z w32 c.args.number)) small),
          omega (arith, ap length c.as_bytes.ensures.value, c.format.ensures.fits, c.requires.room),
        ),
      ),
    )
