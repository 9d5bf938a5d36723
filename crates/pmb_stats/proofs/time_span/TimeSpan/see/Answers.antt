use Rattle.std.proofs.Common.{Bor, List, Option, ℕ, ◌∙◌, ap, option_map, sym}
use Rattle.pmb_stats.proofs.Times.{span_more, span_same}
use Rattle.pmb_stats.proofs.time_span.TimeSpan.see.Goals as goal

pub returns-in-Some : goal.returns-in-Some
returns-in-Some c facts fact stands is =
    span_more _ _ facts fact c.in-Some.time.now stands
    (sym (ap (λ (t : Option (Bor (List ℕ))). option_map (λ time. time.now) t) c.in-Some.is) ∙ is)
    c.see_time.ensures.first c.see_time.ensures.last

pub returns-in_default : goal.returns-in_default
returns-in_default c facts fact stands is =
    span_same _ facts fact stands
    (sym (ap (λ (t : Option (Bor (List ℕ))). option_map (λ time. time.now) t) c.in_default.is) ∙ is)
