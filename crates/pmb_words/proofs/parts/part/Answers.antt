use Rattle.std.proofs.Common.{ℕ, ◌+◌, Some, sym, ap, ◌∙◌, add-one, drop, arith}
use Rattle.pmb_words.specs.Parts.{Parted}
use Rattle.pmb_words.proofs.Parted.{all_of, parted_at, parted_none}
use Rattle.pmb_words.proofs.parts.part.Goals as goal

pub returns-in-Some-clause-front : goal.returns-in-Some-clause-front
returns-in-Some-clause-front c =
    let found = c.in-Some.ensures in
    sym (ap (λ (p : Parted). p.front) (parted_at c.args.at c.args.text.now c.in-Some.end found.0.high found.1
    (λ j below is. found.0.before j (omega arith) below is)))

pub returns-in-Some-clause-rest : goal.returns-in-Some-clause-rest
returns-in-Some-clause-rest c =
    let found = c.in-Some.ensures in
    let text = c.args.text.now in
    ap Some (all_of (c.in-Some.end + 1) text ∙ ap (λ (k : ℕ). drop k text) (add-one c.in-Some.end))
    ∙ sym (ap (λ (p : Parted). p.rest) (parted_at c.args.at text c.in-Some.end found.0.high found.1
    (λ j below is. found.0.before j (omega arith) below is)))

pub returns-in-None-clause-front : goal.returns-in-None-clause-front
returns-in-None-clause-front c =
    sym (ap (λ (p : Parted). p.front) (parted_none c.args.at c.args.text.now
    (λ j below is. c.in-None.ensures j (omega arith) below is)))

pub returns-in-None-clause-rest : goal.returns-in-None-clause-rest
returns-in-None-clause-rest c =
    sym (ap (λ (p : Parted). p.rest) (parted_none c.args.at c.args.text.now
    (λ j below is. c.in-None.ensures j (omega arith) below is)))
