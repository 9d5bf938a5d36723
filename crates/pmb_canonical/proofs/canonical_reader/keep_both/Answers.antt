use Rattle.std.proofs.Common.{◌≡◌, ◌+◌, ℕ, Bool, List, inl, inr, length, arith}
use Rattle.pmb_command.specs.Parts.{DeviceParts}
use Rattle.pmb_canonical.specs.Canonical.{OneCalled, OneRead}
use Rattle.pmb_canonical.specs.Legs.{SayBoth, SayRead, SayUnread}
use Rattle.pmb_canonical.proofs.PacketLegs.{takes_call, takes_read}
use Rattle.pmb_canonical.proofs.canonical_reader.keep_both.Goals as goal

-- both legs say that something is read, where there is more than an address byte in the second
say_read : (profile : List DeviceParts) (written : ℕ) (bytes : List ℕ) → (length bytes ≡ written + 1 → ⊥)
    → SayBoth profile written bytes → SayRead profile written bytes
say_read profile written bytes more (inl say) = absurd (more say.0)
say_read profile written bytes more (inr say) = say.1

-- else that to be read is refused
pub say_unread : (profile : List DeviceParts) (written : ℕ) (bytes : List ℕ) → length bytes ≡ written + 1
    → SayBoth profile written bytes → SayUnread profile written bytes
say_unread profile written bytes one (inl say) = say.1
say_unread profile written bytes one (inr say) = absurd (omega (arith, one, say.0))

-- of both legs those of a read, where the first has two bytes
says_read : (profile : List DeviceParts) (written : ℕ) (bytes : List ℕ) → written ≡ 2 → SayRead profile written bytes
    → (address : ℕ) × (code : ℕ) × (reply : List ℕ) × (with_pec : Bool)
    × OneRead profile address code reply with_pec bytes
says_read profile written bytes two (inl say) = (say.1, say.2, say.3, say.4, say.5)
says_read profile written bytes two (inr say) = absurd (omega (arith, two, say.0))

-- and else those of a call
says_call : (profile : List DeviceParts) (written : ℕ) (bytes : List ℕ) → (written ≡ 2 → ⊥)
    → SayRead profile written bytes
    → (address : ℕ) × (code : ℕ) × (sent : List ℕ) × (reply : List ℕ) × (with_pec : Bool)
    × OneCalled profile address code reply with_pec bytes sent written
says_call profile written bytes more (inl say) = absurd (more say.0)
says_call profile written bytes more (inr say) = (say.1, say.2, say.3, say.4, say.5, say.6)

pub returns-in_err-said-clause-answers : goal.returns-in_err-said-clause-answers
returns-in_err-said-clause-answers c both =
    let say = says_read c.args.profile.now c.args.written c.args.bytes.now c.if-written-eq2.true
    (say_read c.args.profile.now c.args.written c.args.bytes.now (λ same. c.if-second-eq1.false (omega (arith, same)))
    both) in
    absurd (cc (c.in_err-said.ensures.found say.0 say.1 say.2 say.3 say.4))

pub returns-in_err-said-2-clause-answers : goal.returns-in_err-said-2-clause-answers
returns-in_err-said-2-clause-answers c both =
    let say = says_call c.args.profile.now c.args.written c.args.bytes.now c.if-written-eq2.false
    (say_read c.args.profile.now c.args.written c.args.bytes.now (λ same. c.if-second-eq1.false (omega (arith, same)))
    both) in
    absurd (cc (c.in_err-said-2.ensures.found say.0 say.1 say.2 say.3 say.4 say.5))

pub returns-then-written-eq2-clause-takes : goal.returns-then-written-eq2-clause-takes
returns-then-written-eq2-clause-takes c text rest split =
    let said = c.in_ok-said.said in
    rw c.end_read.ensures
    (
    takes_read c.args.profile.now text rest said.address said.code said.data.bytes.now said.data.pec c.args.bytes.now
    c.args.written _ _
    c.in_ok-said.ensures.says c.if-written-eq2.true (omega (arith, c.requires.enough, c.if-second-eq1.false)) split
    c.both_legs.ensures.used c.both_legs.ensures.events
    )

pub returns-clause-takes : goal.returns-clause-takes
returns-clause-takes c text rest split =
    let said = c.in_ok-said-2.said in
    rw c.end_call.ensures
    (
    takes_call c.args.profile.now text rest said.address said.code said.sent.now said.reply.bytes.now said.reply.pec
    c.args.bytes.now c.args.written _ _
    c.in_ok-said-2.ensures.says (omega (arith, c.requires.enough, c.if-second-eq1.false)) split
    c.both_legs-2.ensures.used c.both_legs-2.ensures.events
    )

pub returns-then-second-eq1-clause-answers : goal.returns-then-second-eq1-clause-answers
returns-then-second-eq1-clause-answers c both =
    c.keep_unread.ensures.answers (say_unread c.args.profile.now c.args.written c.args.bytes.now
    (omega (arith, c.requires.enough, c.if-second-eq1.true)) both)
