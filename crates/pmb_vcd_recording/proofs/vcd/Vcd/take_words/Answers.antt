use Rattle.std.proofs.Common.{◌++◌, ◌∙◌, [], refl, sym}
use Rattle.pmb_vcd_recording.specs.Lines.{take_word}
use Rattle.pmb_vcd_recording.proofs.WordLemmas.{last_now, last_text, none_now, none_text, puts_as, then_word}
use Rattle.pmb_vcd_recording.proofs.vcd.Vcd.take_words.Goals as goal

pub loop-found-init : goal.loop-found-init
loop-found-init g c = record {
  done = [];
  to_come = record { now = refl; text = refl };
  failures = refl;
  put = c.texts_add_up.ensures.nothing _ _;
}

pub loop-found-preserved : goal.loop-found-preserved
loop-found-preserved g c =
    let so_far = c.loop-found.invariant in
    let v = c.loop-found.self in
    let word = c.in-Some.found.0.now in
    record {
      done = so_far.done ++ (take_word v word).text;
      to_come = then_word c.args.self.now v c.take_word.new.self c.args.text.now c.loop-found.left.now word
          c.in-Some.found.1.now so_far.done so_far.to_come c.in-Some.ensures.some
          (sym c.in_ok-reads_on.ensures.rest ∙ c.if-not-reads_on.false) c.in_ok-reads_on.ensures.now;
      failures = c.in_ok-reads_on.ensures.failed ∙ so_far.failures;
      put = c.texts_add_up.ensures.both _ _ _ _ _ _ _ _ so_far.put c.in_ok-reads_on.ensures.puts;
    }

pub returns-then-not-reads_on-clause-now : goal.returns-then-not-reads_on-clause-now
returns-then-not-reads_on-clause-now g c =
    let so_far = c.loop-found.invariant in
    last_now c.args.self.now c.loop-found.self c.take_word.new.self c.args.text.now c.loop-found.left.now
    c.in-Some.found.0.now c.in-Some.found.1.now so_far.done so_far.to_come c.in-Some.ensures.some
    (sym c.in_ok-reads_on.ensures.rest ∙ c.if-not-reads_on.true) c.in_ok-reads_on.ensures.now

pub returns-then-not-reads_on-clause-puts : goal.returns-then-not-reads_on-clause-puts
returns-then-not-reads_on-clause-puts g c =
    let so_far = c.loop-found.invariant in
    puts_as _ _ _ _ _ _
    (c.texts_add_up.ensures.both _ _ _ _ _ _ _ _ so_far.put c.in_ok-reads_on.ensures.puts)
    (last_text c.args.self.now c.loop-found.self c.args.text.now c.loop-found.left.now c.in-Some.found.0.now
    c.in-Some.found.1.now so_far.done so_far.to_come c.in-Some.ensures.some
    (sym c.in_ok-reads_on.ensures.rest ∙ c.if-not-reads_on.true))

pub returns-clause-now : goal.returns-clause-now
returns-clause-now g c =
    let so_far = c.loop-found.invariant in
    none_now c.args.self.now c.loop-found.self c.args.text.now c.loop-found.left.now so_far.done so_far.to_come
    c.in_default.ensures.none

pub returns-clause-puts : goal.returns-clause-puts
returns-clause-puts g c =
    let so_far = c.loop-found.invariant in
    puts_as _ _ _ _ _ _ so_far.put
    (none_text c.args.self.now c.loop-found.self c.args.text.now c.loop-found.left.now so_far.done so_far.to_come
    c.in_default.ensures.none)
