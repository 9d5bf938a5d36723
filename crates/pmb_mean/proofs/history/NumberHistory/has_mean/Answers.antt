use Rattle.std.proofs.Common.{is_some, sym, ◌∙◌, ap}
use Rattle.pmb_mean.specs.declared.sum.Sum.{Sum}
use Rattle.pmb_mean.specs.machine.History.{HistoryData, mean_of}
use Rattle.pmb_mean.proofs.Standing.{mean_held}
use Rattle.pmb_mean.proofs.history.NumberHistory.has_mean.Goals as goal

pub returns-in-Empty : goal.returns-in-Empty
returns-in-Empty c numbers stands =
    sym (ap (λ (s : Sum). is_some (mean_of s c.self.inside.count)) c.in-Empty.is)
    ∙ ap (λ (h : HistoryData). is_some (mean_of h.total h.count)) c.self.view_is
    ∙ ap is_some (mean_held c.args.self.now numbers stands)

pub returns-in-Of : goal.returns-in-Of
returns-in-Of c numbers stands =
    sym (ap (λ (s : Sum). is_some (mean_of s c.self.inside.count)) c.in-Of.is)
    ∙ ap (λ (h : HistoryData). is_some (mean_of h.total h.count)) c.self.view_is
    ∙ ap is_some (mean_held c.args.self.now numbers stands)

pub returns-in-Mixed : goal.returns-in-Mixed
returns-in-Mixed c numbers stands =
    sym (ap (λ (s : Sum). is_some (mean_of s c.self.inside.count)) c.in-Mixed.is)
    ∙ ap (λ (h : HistoryData). is_some (mean_of h.total h.count)) c.self.view_is
    ∙ ap is_some (mean_held c.args.self.now numbers stands)
