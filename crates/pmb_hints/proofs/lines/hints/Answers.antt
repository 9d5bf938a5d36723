use Rattle.std.proofs.Common.{rules, arith, codes}
use Rattle.std.specs.Str.{IsValidUpTo}
use Rattle.pmb_hints.proofs.lines.hints.Goals as goal

-- the text stops being UTF-8 where the draft says so
pub returns-in-Err : goal.returns-in-Err
returns-in-Err c =
    let at = c.valid_up_to.result in
    let first : IsValidUpTo c.args.text.now at = search (c.in-Err.ensures.cases, c.valid_up_to.ensures) in
    record {
      within = c.of-in-Err.ensures.within;
      told = c.of-in-Err.ensures.told;
      memory = search rules;
      utf8 = λ other broken. record {
        offset = at;
        first = first;
        tells = c.of-in-Err.ensures.known at (codes "not UTF-8\n") c.utf8_draft.ensures.at
            (omega (arith, first.short)) c.utf8_draft.ensures.memory c.utf8_draft.ensures.text;
      };
    }
