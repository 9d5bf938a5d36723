-- Between two packets and two words, the canonical packet in front is taken.
use Rattle.std.proofs.Common.{[], length, refl, subst}
use Rattle.pmb_bus.specs.Text.{EndsBetween}
use Rattle.pmb_command.specs.Bus.{IsBus}
use Rattle.pmb_canonical.specs.Canonical.{TakesPacket}
use Rattle.pmb_reader.specs.Reader.{Open, ReaderStandsAt, last_read}
use Rattle.pmb_scan.proofs.Wholes.{stands_between, stands_still, takes_whole}
use Rattle.pmb_scan.proofs.scan.Scan.take_whole.Goals as goal

pub returns-clause-takes : goal.returns-clause-takes
returns-clause-takes c reached stands =
    let used = c.in_ok-whole.whole.used in
    let count = c.in_ok-whole.whole.events in
    let piece = c.args.piece.now in
    let t = last_read c.take_canonical.new.self in
    let bus : IsBus reached.profile = subst IsBus
    (c.profile.ensures reached.profile reached.standing stands.reader.stands) c.accepted_bus.ensures in
    let between : EndsBetween reached.text =
    (c.is_between.ensures.between (length reached.text) reached.text reached.events stands.lexer).0
    c.if-not-is_between.false in
    let at = stands_between reached.standing
    ((c.is_between-else-not-is_between.ensures reached.profile reached.standing stands.reader.stands).0
    c.if-not-is_between-2.false) in
    let before : ReaderStandsAt reached.profile c.args.self.now.reader (Open at.0 []) =
    subst (ReaderStandsAt reached.profile c.args.self.now.reader) at.1 stands.reader.stands in
    let taken : TakesPacket reached.profile piece used count t =
    c.in_ok-whole.ensures.takes reached.profile at.0 before in
    takes_whole reached piece used count c.args.self.now _ stands between at.0 at.1 taken
    (c.canonical_packets_are_read.ensures.text reached.profile piece used count t taken)
    (c.skip.ensures.stands (length reached.text) reached.text reached.events taken.events stands.lexer between
    (c.canonical_packets_are_read.ensures.between reached.profile piece used count t taken)
    (c.canonical_packets_are_read.ensures.spells reached.profile piece used count t bus taken))
    (c.in_ok-whole.ensures.stands reached.profile at.0 before)

pub returns-in_err-whole-clause-same : goal.returns-in_err-whole-clause-same
returns-in_err-whole-clause-same c reached stands none =
    let at = stands_between reached.standing
    ((c.is_between-else-not-is_between.ensures reached.profile reached.standing stands.reader.stands).0
    c.if-not-is_between-2.false) in
    stands_still reached c.args.self.now _ stands refl at.0 at.1
    (λ before. c.in_err-whole.ensures.same reached.profile at.0 before refl)
