use Rattle.std.proofs.Common.{refl, subst, rules}
use Rattle.std.proofs.lemmas.Result.{on_ok_weaker}
use Rattle.pmb_io.specs.Outgoing.{PutsText}
use Rattle.pmb_build.specs.Answer.{Built, Refused}
use Rattle.pmb_build.proofs.builder.Builder.take_text.Goals as goal

-- The line spells a transaction, whose packet was put out.
pub returns-in_ok-put_packet-in-Ok-clause-takes : goal.returns-in_ok-put_packet-in-Ok-clause-takes
returns-in_ok-put_packet-in-Ok-clause-takes g c =
    let put = c.in_ok-put_packet-in-Ok.ensures.puts in
    let parsed = c.in-Ok.ensures.ok in record {
      answer = Built put.holds.events;
      answers = record { t = _; spells = parsed.spells; packet = put.holds.packet };
      writes = subst (λ t. PutsText (g.W.Sink.told c.args.writer.now).held c.args.waiting.now.items
          (g.W.Sink.told c.put_packet.new.writer).held c.put_packet.new.waiting.items t) put.holds.whole put.writes;
      same = refl;
      lines = refl;
      tally = c.count_packet.ensures;
    }

-- It has words, and their fault was put out.
pub returns-else-eq-clause-takes : goal.returns-else-eq-clause-takes
returns-else-eq-clause-takes g c = on_ok_weaker c.take_fault.result
    (λ writes. record {
      answer = Refused c.in-Err.fault;
      answers = record {
        first = c.in-Err.ensures.err;
        has_words =
            λ blank. search (rules, c.eq.ensures, c.if-eq.false, blank);
      };
      writes = writes;
      same = c.take_fault.ensures.profile;
      lines = c.take_fault.ensures.lines;
      tally = c.take_fault.ensures.counted;
    })
    c.take_fault.ensures.writes
