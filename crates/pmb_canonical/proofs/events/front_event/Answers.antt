use Rattle.std.proofs.Common.{◌≡◌, ℕ, Some, sym, ap, ◌∙◌, arith}
use Rattle.std.proofs.lemmas.Option.{same_Some}
use Rattle.pmb_bus.specs.declared.event.Event.{Event}
use Rattle.pmb_bus.specs.declared.event.Event.TheVariants.{Byte, Stop}
use Rattle.pmb_canonical.proofs.Inside.{first_is, is_ack, is_byte, is_nack, is_no_stop, is_start, length-byte_text}
use Rattle.pmb_canonical.proofs.Inside.{two_there}
use Rattle.pmb_canonical.proofs.events.front_event.Goals as goal

pub returns-in_default-clause-found : goal.returns-in_default-clause-found
returns-in_default-clause-found c event rest inside same =
    let there = two_there event c.args.text.now rest same in
    absurd (omega (arith, there, c.in_default.len_below))

pub returns-then-first-eq83-clause-found : goal.returns-then-first-eq83-clause-found
returns-then-first-eq83-clause-found c event rest inside same =
    ap (λ (e : Event). Some e) (sym (is_start event inside
    (sym (first_is event c.args.text.now rest same) ∙ c.if-first-eq83.true)))

pub returns-then-first-eq65-clause-found : goal.returns-then-first-eq65-clause-found
returns-then-first-eq65-clause-found c event rest inside same =
    ap (λ (e : Event). Some e) (sym (is_ack event inside
    (sym (first_is event c.args.text.now rest same) ∙ c.if-first-eq65.true)))

pub returns-then-first-eq78-clause-found : goal.returns-then-first-eq78-clause-found
returns-then-first-eq78-clause-found c event rest inside same =
    ap (λ (e : Event). Some e) (sym (is_nack event inside
    (sym (first_is event c.args.text.now rest same) ∙ c.if-first-eq78.true)))

pub returns-then-first-eq80-clause-found : goal.returns-then-first-eq80-clause-found
returns-then-first-eq80-clause-found c event rest inside same =
    absurd (is_no_stop event inside (sym (first_is event c.args.text.now rest same) ∙ c.if-first-eq80.true))

pub returns-in_default-text-clause-found : goal.returns-in_default-text-clause-found
returns-in_default-text-clause-found c event rest inside same =
    let is = first_is event c.args.text.now rest same in
    let there = is_byte event c.args.text.now rest inside (λ e. c.if-first-eq83.false (is ∙ e))
    (λ e. c.if-first-eq65.false (is ∙ e)) (λ e. c.if-first-eq78.false (is ∙ e)) same in
    absurd (omega (arith, there.three, c.in_default-text.len_below))

pub returns-clause-within : goal.returns-clause-within
returns-clause-within c = omega (arith, length-byte_text c.in_ok-byte.byte, c.in-len3-up.len_at_least)

pub returns-in_err-byte-clause-found : goal.returns-in_err-byte-clause-found
returns-in_err-byte-clause-found c event rest inside same =
    let is = first_is event c.args.text.now rest same in
    let there = is_byte event c.args.text.now rest inside (λ e. c.if-first-eq83.false (is ∙ e))
    (λ e. c.if-first-eq65.false (is ∙ e)) (λ e. c.if-first-eq78.false (is ∙ e)) same in
    absurd (cc (c.in_err-byte.ensures.only there.byte there.small there.word))

pub returns-clause-found : goal.returns-clause-found
returns-clause-found c event rest inside same =
    let is = first_is event c.args.text.now rest same in
    let there = is_byte event c.args.text.now rest inside (λ e. c.if-first-eq83.false (is ∙ e))
    (λ e. c.if-first-eq65.false (is ∙ e)) (λ e. c.if-first-eq78.false (is ∙ e)) same in
    let byte : c.in_ok-byte.byte ≡ there.byte = same_Some c.in_ok-byte.byte there.byte
    (c.in_ok-byte.ensures.only there.byte there.small there.word) in
    ap (λ (n : ℕ). Some (Byte n)) byte ∙ ap (λ (e : Event). Some e) (sym there.is)

pub returns-then-first-eq83-clause-ended : goal.returns-then-first-eq83-clause-ended
returns-then-first-eq83-clause-ended c rest same =
    let letters = sym (first_is Stop c.args.text.now rest same) ∙ c.if-first-eq83.true in
    absurd (omega (arith, letters))

pub returns-then-first-eq65-clause-ended : goal.returns-then-first-eq65-clause-ended
returns-then-first-eq65-clause-ended c rest same =
    let letters = sym (first_is Stop c.args.text.now rest same) ∙ c.if-first-eq65.true in
    absurd (omega (arith, letters))

pub returns-then-first-eq78-clause-ended : goal.returns-then-first-eq78-clause-ended
returns-then-first-eq78-clause-ended c rest same =
    let letters = sym (first_is Stop c.args.text.now rest same) ∙ c.if-first-eq78.true in
    absurd (omega (arith, letters))

pub returns-clause-ended : goal.returns-clause-ended
returns-clause-ended c rest same = absurd (c.if-first-eq80.false (first_is Stop c.args.text.now rest same))
