use Rattle.std.proofs.Common.{[], ◌∷◌, ◌++◌, ap, sym, ◌∙◌, length-append, arith}
use Rattle.std.proofs.lemmas.List.{take_all}
use Rattle.pmb_places.specs.Places.{place_of_last_word}
use Rattle.pmb_fact_stream.proofs.Lists.{full_front}
use Rattle.pmb_fact_stream.proofs.stream.Stream.keep_start.Goals as goal

pub returns-then-len-lt-STARTS-clause-begun : goal.returns-then-len-lt-STARTS-clause-begun
returns-then-len-lt-STARTS-clause-begun c text stands =
    let old = c.args.self.now.begun.items in
    c.push.ensures.items ∙ ap (λ place. old ++ record { at = c.args.self.now.count; place = place } ∷ [])
    (c.word.ensures text stands)
    ∙ sym (take_all 17 _ (omega (
      arith,
      c.if-len-lt-STARTS.true,
      c.len.ensures.value,
      length-append old (record { at = c.args.self.now.count; place = place_of_last_word text } ∷ []),
    )))

-- a packet has no more
pub returns-else-len-lt-STARTS-clause-begun : goal.returns-else-len-lt-STARTS-clause-begun
returns-else-len-lt-STARTS-clause-begun c text stands =
    sym (full_front 17 c.args.self.now.begun.items _
    (omega (arith, c.if-len-lt-STARTS.false, c.len.ensures.value, c.len.ensures.fits)))
