use Rattle.std.proofs.Common.{ap, ◌∙◌, None, Some}
use Rattle.pmb_unknown_start.specs.Known.{known_mode}
use Rattle.pmb_unknown_start.specs.declared.start.Start.TheVariants.{Late}
use Rattle.pmb_unknown_start.proofs.Keeping.{mode_at}
use Rattle.pmb_unknown_start.proofs.late.Late.mode_late.Goals as goal

pub returns-in-Some : goal.returns-in-Some
returns-in-Some c = λ profile start past seen.
    c.mode.ensures ∙ ap known_mode c.known.ensures
    ∙ mode_at profile Late past c.args.addr (Some c.in-Some.kept.now) (c.in-Some.ensures profile start past seen)

pub returns-in-None : goal.returns-in-None
returns-in-None c = λ profile start past seen.
    mode_at profile Late past c.args.addr None (c.in-None.ensures profile start past seen)
