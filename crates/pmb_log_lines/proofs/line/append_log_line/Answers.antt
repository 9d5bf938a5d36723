use Rattle.std.proofs.Common.{ap, ◌∙◌, option_map}
use Rattle.pmb_facts.specs.Fact.{fact_device}
use Rattle.pmb_log_data.proofs.Texts.{called, then}
use Rattle.pmb_log_lines.specs.Columns.{columns}
use Rattle.pmb_log_lines.proofs.line.append_log_line.Goals as goal

pub returns-clause-line : goal.returns-clause-line
returns-clause-line g c = λ known what sees stands.
    let time = option_map (λ t. t.now) c.args.fact.head.time in
    let before = called (ap (λ d. columns c.args.layout known time d c.command.result) (c.device.ensures what stands)
    ∙ ap (columns c.args.layout known time (fact_device what)) (c.command.ensures what stands))
    (c.append_columns.ensures.says known sees) in
    (then (then before (c.append_says.ensures.says known what sees stands)) c.append.ensures).items
