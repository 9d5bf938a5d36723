-- The outcomes that an account is told, one by one: each is counted, and its line goes out. For
-- `visit_packet`, `visit_refusal` and `visit_whole` of `src/account.rt`. Counts stay at the
-- greatest u64, and the text of outcomes is that of those before and the new one's.
use Rattle.std.proofs.Common.{◌≡◌, ℕ, ◌+◌, Option, List, [], ◌∷◌, ◌++◌, map, add-zero, sym, ◌∙◌, ap, subst, arith}
use Rattle.std.proofs.lemmas.List.{map-append}
use Rattle.pmb_io.specs.declared.tally.Tally.{Tally}
use Rattle.pmb_io.specs.Count.{capped}
use Rattle.pmb_io.specs.Engines.{PutsOut}
use Rattle.pmb_io.specs.Outgoing.{PutsText}
use Rattle.pmb_io.specs.Tally.{IsTallyOf, with_packet, with_refusal}
use Rattle.pmb_spans.specs.Spans.{Span, outcome}
use Rattle.pmb_transaction.specs.Reading.{Outcome, Accepted, Refusal, RefusalData}
use Rattle.pmb_transaction.specs.Transaction.{TransactionData}
use Rattle.pmb_capture.specs.declared.account.Account.{Account}
use Rattle.pmb_capture.specs.Output.{OutputText, accepted_in, packets_in, refusals_in, text_behind}
use Rattle.pmb_capture.specs.machine.Account.{AccountStands}
use Rattle.pmb_capture.proofs.Texts.{accepted_append, packets_append, refusals_append, text_append}

-- ---- tallies

-- one more of a count that stays at its greatest
counted_more : (n : ℕ) → capped (capped n + 1) ≡ capped (n + 1)
counted_more n = omega arith

-- a tally with a packet more, and with a refusal more
pub packet_counted : (old new : Tally) (packets refusals : ℕ) → new ≡ with_packet old → IsTallyOf packets refusals old
    → IsTallyOf (packets + 1) refusals new
packet_counted old new packets refusals is counts = record {
  packets_counted = ap (λ (t : Tally). t.packets) is
      ∙ (ap (λ (n : ℕ). capped (n + 1)) counts.packets_counted ∙ counted_more packets);
  refusals_counted = ap (λ (t : Tally). t.refusals) is ∙ counts.refusals_counted;
}

pub refusal_counted : (old new : Tally) (packets refusals : ℕ) → new ≡ with_refusal old → IsTallyOf packets refusals old
    → IsTallyOf packets (refusals + 1) new
refusal_counted old new packets refusals is counts = record {
  packets_counted = ap (λ (t : Tally). t.packets) is ∙ counts.packets_counted;
  refusals_counted = ap (λ (t : Tally). t.refusals) is
      ∙ (ap (λ (n : ℕ). capped (n + 1)) counts.refusals_counted ∙ counted_more refusals);
}

-- a tally that has counted these too
abbrev pub Adds : Tally → Tally → List Outcome → Type 0
Adds old new more = (packets refusals : ℕ) → IsTallyOf packets refusals old
    → IsTallyOf (packets + packets_in more) (refusals + refusals_in more) new

pub adds_packet : (old new : Tally) (t : TransactionData) → new ≡ with_packet old → Adds old new (Accepted t ∷ [])
adds_packet old new t is packets refusals counts = rw add-zero (packet_counted old new packets refusals is counts)

pub adds_refusal : (old new : Tally) (refusal : RefusalData) → new ≡ with_refusal old
    → Adds old new (Refusal refusal ∷ [])
adds_refusal old new refusal is packets refusals counts =
    rw add-zero (refusal_counted old new packets refusals is counts)

-- what it has counted in all
pub counts_both : (new : Tally) (a b : List Outcome)
    → IsTallyOf (packets_in a + packets_in b) (refusals_in a + refusals_in b) new
    → IsTallyOf (packets_in (a ++ b)) (refusals_in (a ++ b)) new
counts_both new a b counts = rw (packets_append a b, refusals_append a b) counts

-- ---- an account

module _ {O : Type 0} (TextOf : O → OutputText) (StandsBehind : O → List TransactionData → Type 0) where
  -- outcomes more
  pub account_more : (start old new : Account O) (outcomes more : List Outcome) (text : List ℕ)
      → AccountStands TextOf StandsBehind start old outcomes text
      → Adds old.tally new.tally more → TextOf new.output ≡ TextOf old.output
      → StandsBehind new.output (accepted_in outcomes ++ accepted_in more)
      → AccountStands TextOf StandsBehind start new (outcomes ++ more)
      (text ++ text_behind (TextOf start.output) (accepted_in outcomes) more)
  account_more start old new outcomes more text stands adds same behind = record {
    same = same ∙ stands.same;
    behind = subst (λ (ts : List TransactionData). StandsBehind new.output ts) (sym (accepted_append outcomes more))
        behind;
    counts = counts_both new.tally outcomes more (adds (packets_in outcomes) (refusals_in outcomes) stands.counts);
    lines = ap (λ (t : List ℕ). t ++ text_behind (TextOf start.output) (accepted_in outcomes) more) stands.lines
        ∙ sym (text_append (TextOf start.output) [] outcomes more);
  }

  -- a span more, whose text goes out
  pub puts_more : (start old new : Account O) (spans : List Span) (span : Span) (text more : List ℕ)
      (h0 h1 : Option (List ℕ)) (w0 w1 : List ℕ) → AccountStands TextOf StandsBehind start old (map outcome spans) text
      → Adds old.tally new.tally (outcome span ∷ []) → TextOf new.output ≡ TextOf old.output
      → StandsBehind new.output (accepted_in (map outcome spans) ++ accepted_in (outcome span ∷ []))
      → PutsText h0 w0 h1 w1 more → more ≡ text_behind (TextOf start.output) (accepted_in (map outcome spans))
      (outcome span ∷ [])
      → PutsOut (λ out. AccountStands TextOf StandsBehind start new (map outcome (spans ++ span ∷ [])) (text ++ out)) h0
      w0 h1 w1
  puts_more start old new spans span text more h0 h1 w0 w1 stands adds same behind puts is = record {
    text = more;
    writes = puts;
    holds = subst (λ (t : List ℕ). AccountStands TextOf StandsBehind start new (map outcome (spans ++ span ∷ []))
        (text ++ t)) (sym is)
        (subst (λ (os : List Outcome). AccountStands TextOf StandsBehind start new os
        (text ++ text_behind (TextOf start.output) (accepted_in (map outcome spans)) (outcome span ∷ [])))
        (sym (map-append outcome spans (span ∷ [])))
        (account_more start old new (map outcome spans) (outcome span ∷ []) text stands adds same behind));
  }
