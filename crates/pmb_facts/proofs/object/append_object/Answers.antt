-- The object of a refusal is that of the events which its partial packet was given.
use Rattle.std.proofs.Common.{◌++◌, ap, sym, subst, ◌∙◌}
use Rattle.pmb_json_objects.specs.Head.{head_of}
use Rattle.pmb_json_text.specs.Member.{object_line}
use Rattle.pmb_facts.specs.Fact.{WhatData}
use Rattle.pmb_facts.specs.Object.{object_of}
use Rattle.pmb_facts.specs.Stands.{IsRefusal, Stands}
use Rattle.pmb_facts.proofs.object.append_object.Goals as goal

pub returns-in-Refusal-clause-line : goal.returns-in-Refusal-clause-line
returns-in-Refusal-clause-line g c = λ known what sees stands.
    let refusal : IsRefusal c.in-Refusal.said.now c.in-Refusal.event c.in-Refusal.reason c.in-Refusal.expected what =
    subst (λ w. Stands w what) c.in-Refusal.is stands in
    c.refusal_line.ensures.line known refusal.profile refusal.front sees refusal.viable refusal.given
    ∙ ap (λ (w : WhatData). c.args.out.now.items ++ object_line (object_of known (head_of c.args.fact.head) w).members)
    (sym refusal.is)
