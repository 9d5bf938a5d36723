use Rattle.std.proofs.Common.{◌++◌, ◌∷◌, [], refl, sym, ap, subst, ◌∙◌, append_assoc, flat_map}
use Rattle.pmb_bus.specs.Pec.{pec}
use Rattle.pmb_host.specs.Signals.{reply_has_pec}
use Rattle.pmb_host.specs.Steps.{bytes_read}
use Rattle.pmb_host.specs.machine.Replies.{IsState}
use Rattle.pmb_host.specs.machine.Standing.{job_legs}
use Rattle.pmb_host.proofs.Sending.{sends}
use Rattle.pmb_host.proofs.Behind.{job_stays}
use Rattle.pmb_host.proofs.Taking.{goes_on_reading, has_room, incoming, is_right, is_wrong, next_ack}
use Rattle.pmb_host.proofs.host.Host.take.Goals as goal

pub returns-in-Short : goal.returns-in-Short
returns-in-Short c = λ standing heard at.
    let host = c.args.self.now in
    let byte = c.args.byte in
    let fits = c.ranges.byte.fits in
    let form = at.short.of in
    let with_pec = reply_has_pec standing.job.task in
    let told = c.taken-state.ensures form with_pec (bytes_read heard) (incoming host standing.job heard at byte fits)
    (has_room host standing.job heard at byte fits) in
    let short = subst (λ state. IsState state form with_pec (bytes_read heard ++ byte ∷ []) byte host.crc) c.in-Short.is
    told.1 in
    let legs = flat_map (λ leg. leg) (job_legs standing.job) in
    let crc_is = c.pec_next-self.ensures.goes_on (legs ++ bytes_read heard) (sym at.crc_is)
    ∙ ap pec (append_assoc legs (bytes_read heard) (byte ∷ [])) in
    sends standing _ _ host _ at.job_is (next_ack host standing.job heard at byte fits short) (
      refl,
      λ result. goes_on_reading host standing.job heard at byte fits _
          (job_stays host _ standing.job refl refl refl at.job_is) told.0 short at.not_failed crc_is result,
    )

pub returns-in-Whole : goal.returns-in-Whole
returns-in-Whole c = λ standing heard at.
    let host = c.args.self.now in
    let byte = c.args.byte in
    let fits = c.ranges.byte.fits in
    let form = at.short.of in
    let with_pec = reply_has_pec standing.job.task in
    let told = c.taken-state.ensures form with_pec (bytes_read heard) (incoming host standing.job heard at byte fits)
    (has_room host standing.job heard at byte fits) in
    let whole = subst (λ state. IsState state form with_pec (bytes_read heard ++ byte ∷ []) byte host.crc) c.in-Whole.is
    told.1 in
    c.end_reply.ensures standing _
    (is_right host standing.job heard at byte fits _ (job_stays host _ standing.job refl refl refl at.job_is) told.0
    whole.0 at.not_failed whole.1)

pub returns-in-BadPec : goal.returns-in-BadPec
returns-in-BadPec c = λ standing heard at.
    let host = c.args.self.now in
    let byte = c.args.byte in
    let fits = c.ranges.byte.fits in
    let form = at.short.of in
    let with_pec = reply_has_pec standing.job.task in
    let told = c.taken-state.ensures form with_pec (bytes_read heard) (incoming host standing.job heard at byte fits)
    (has_room host standing.job heard at byte fits) in
    let wrong = subst (λ state. IsState state form with_pec (bytes_read heard ++ byte ∷ []) byte host.crc)
    c.in-BadPec.is told.1 in
    c.end_reply-in-BadPec.ensures standing _
    (is_wrong host standing.job heard at byte fits _ (job_stays host _ standing.job refl refl refl at.job_is) told.0
    wrong.0 refl wrong.1 wrong.2)
