use Rattle.std.proofs.Common.{◌≡◌, ℕ, ◌+◌, ◌-◌, ◌*◌, List, [], ◌∷◌, ◌++◌, length, take, drop, refl, sym, ap, subst, ◌∙◌}
use Rattle.std.proofs.Common.{arith, length-append}
use Rattle.std.proofs.lemmas.List.{take_rest}
use Rattle.std.proofs.lemmas.Option.{same_Some}
use Rattle.pmb_bus.specs.declared.event.Event.TheVariants.{Start}
use Rattle.pmb_bus.specs.Event.{canonical_text}
use Rattle.pmb_command.specs.Parts.{IsNew}
use Rattle.pmb_transaction.specs.Transaction.{PartData}
use Rattle.pmb_transaction.specs.Packet.{addresses, leg}
use Rattle.pmb_canonical.specs.Canonical.{OneWritten}
use Rattle.pmb_canonical.specs.Front.{acked_text, end_text}
use Rattle.pmb_canonical.specs.Groups.{MoreParts, SayGroup, TakenParts}
use Rattle.pmb_canonical.proofs.Beginnings.{not_there}
use Rattle.pmb_canonical.proofs.Groups.{ends_parts, first_more, first_taken, leg_within, more_next, next_leg, next_part}
use Rattle.pmb_canonical.proofs.Groups.{next_refused, part_taken, room_for_next, taken_leg, taken_part, takes_parts}
use Rattle.pmb_canonical.proofs.RefusedLegs.{nacked_stands, takes_refused}
use Rattle.pmb_canonical.proofs.Texts.{length-end_text}
use Rattle.pmb_canonical.proofs.group.take_group.Goals as goal

-- ---- the first part

pub returns-then-not-keep_part-clause-answers : goal.returns-then-not-keep_part-clause-answers
returns-then-not-keep_part-clause-answers c say =
    let first = say.first in
    let says = subst (OneWritten c.args.profile.now first.addr first.code first.bytes first.pec)
    (sym c.as_slice-first.ensures.value) say.says in
    let other : IsNew first.addr (addresses c.begin.new.self.parts) =
    subst (λ (ps : List PartData). IsNew first.addr (addresses ps)) (sym c.begin.ensures) refl in
    absurd (cc (sym (c.keep_part.ensures.found first says other (omega (arith, ap length c.begin.ensures)))
    ∙ c.if-not-keep_part.true))

pub slice_bounds-rest-count : goal.slice_bounds-rest-count
slice_bounds-rest-count c =
    let within = leg_within c.args.text.now c.args.bytes.now.items c.requires.begins.0 c.requires.begins.1 in
    omega (arith, within, ap length c.as_slice-first.ensures.value)

pub slice_bounds-rest-start : goal.slice_bounds-rest-start
slice_bounds-rest-start c =
    let within = leg_within c.args.text.now c.args.bytes.now.items c.requires.begins.0 c.requires.begins.1 in
    omega (arith, within, ap length c.as_slice-first.ensures.value)

pub loop-leg-init : goal.loop-leg-init
loop-leg-init c =
    let profile = c.args.profile.now in
    let text = c.args.text.now in
    let bytes = c.as_slice-first.result.now in
    let parts = c.keep_part.new.kept.parts in
    let n = 2 + 5 * length bytes in
    let same : take (length text - n) (drop n text) ≡ drop n text = take_rest text n in
    let adds = c.keep_part.ensures.adds c.if-not-keep_part.false in
    let split : text ≡ canonical_text (leg bytes) ++ c.requires.begins.0 =
    c.requires.begins.1 ∙ ap (λ (l : List ℕ). canonical_text (leg l) ++ c.requires.begins.0)
    (sym c.as_slice-first.ensures.value) in
    let one : length parts ≡ 1 = omega (
      arith,
      ap length adds.added,
      length-append c.begin.new.self.parts
          (adds.part ∷ []),
      ap length c.begin.ensures,
    ) in
    record {
      some = omega (arith, one);
      small = omega (arith, one, c.as_slice-first.ensures.fits);
      taken = subst (TakenParts profile text parts (2 + 2 * length bytes)) (sym same)
          (first_taken profile text c.begin.new.self.parts parts bytes c.requires.begins.0 n c.begin.ensures adds split
          refl);
      more = λ say.
          subst (MoreParts profile (addresses parts)) (sym same)
          (first_more profile text c.begin.new.self.parts parts bytes n c.begin.ensures adds
          (subst (SayGroup profile text) (sym c.as_slice-first.ensures.value) say) refl);
    }

-- ---- one more, or what is refused

pub returns-then-not-keep_last-clause-answers : goal.returns-then-not-keep_last-clause-answers
returns-then-not-keep_last-clause-answers c say =
    let profile = c.args.profile.now in
    let old = c.loop-leg.kept.parts in
    let last = c.in-Some-front_last.last in
    let next = next_leg profile (addresses old) c.loop-leg.rest.now c.in-Some.leg.now
    (c.loop-leg.invariant.more say) c.in-Some.ensures.spelled in
    let says =
    next_refused profile (addresses old) c.in-Some.leg.now c.take_acked-rest.result.now c.clear.new.self.items
    c.take_acked-rest.new.bytes.items
    c.clear.ensures c.take_acked-rest.ensures.all last (drop 7 c.take_acked-rest.result.now) old
    c.in-Some-front_last.ensures.small c.in-Some-front_last.ensures.spelled
    (λ byte more small is. same_Some last byte (c.in-Some-front_last.ensures.only byte more small is)) refl next in
    absurd (cc (sym (c.keep_last.ensures.found says.0 says.1) ∙ c.if-not-keep_last.true))

pub returns-in-Some-front_last-clause-takes : goal.returns-in-Some-front_last-clause-takes
returns-in-Some-front_last-clause-takes c =
    let text = c.args.text.now in
    let rest = c.loop-leg.rest.now in
    let leg_bytes = c.in-Some.leg.now in
    let behind = c.take_acked-rest.result.now in
    let bytes = c.take_acked-rest.new.bytes.items in
    let last = c.in-Some-front_last.last in
    let taken = c.loop-leg.invariant.taken in
    let split = taken_leg leg_bytes behind c.clear.new.self.items bytes bytes c.clear.ensures
    c.take_acked-rest.ensures.taken refl in
    let long : length text ≡ length (canonical_text taken.legs) + length rest = ap length taken.split
    ∙ length-append (canonical_text taken.legs) rest in
    takes_refused c.args.profile.now text c.loop-leg.kept.parts c.loop-leg.events rest (bytes ++ last ∷ [])
    (drop 7 behind) c.keep_last.new.kept.last _ _
    taken (c.keep_last.ensures.keeps c.if-not-keep_last.false)
    (nacked_stands rest leg_bytes behind bytes last (drop 7 behind) c.in-Some.ensures.spelled split
    c.in-Some-front_last.ensures.spelled)
    (omega (
      arith,
      long,
      ap length c.in-Some.ensures.spelled,
      length-append (canonical_text (Start ∷ [])) leg_bytes,
      ap length split,
      length-append (acked_text bytes) behind,
      ap length c.in-Some-front_last.ensures.spelled,
      length-append (end_text last) (drop 7 behind),
      length-end_text last,
    ))
    (omega (arith, ap length c.as_slice-acked.ensures.value, length-append bytes (last ∷ [])))

pub returns-then-not-keep_part-2-clause-answers : goal.returns-then-not-keep_part-2-clause-answers
returns-then-not-keep_part-2-clause-answers c say =
    let profile = c.args.profile.now in
    let old = c.loop-leg.kept.parts in
    let behind = c.take_acked-rest.result.now in
    let items = c.take_acked-rest.new.bytes.items in
    let next =
    next_part profile (addresses old) c.in-Some.leg.now behind c.clear.new.self.items items c.clear.ensures
    c.take_acked-rest.ensures.all
    (λ last rest small is. c.in_default-front_last.not-Some last (c.front_last.ensures.only last rest small is))
    (next_leg profile (addresses old) c.loop-leg.rest.now c.in-Some.leg.now
    (c.loop-leg.invariant.more say) c.in-Some.ensures.spelled) in
    let same =
    taken_part profile (addresses old) c.in-Some.leg.now behind c.clear.new.self.items items c.clear.ensures
    c.take_acked-rest.ensures.all c.as_slice-part.result.now
    c.as_slice-part.ensures.value next in
    let says = subst (OneWritten profile next.part.addr next.part.code next.part.bytes next.part.pec)
    (sym same.0) next.says in
    absurd (cc (sym (c.keep_part-in-Some.ensures.found next.part says next.other (room_for_next old next.room))
    ∙ c.if-not-keep_part-2.true))

pub loop-leg-preserved : goal.loop-leg-preserved
loop-leg-preserved c =
    let profile = c.args.profile.now in
    let old = c.loop-leg.kept.parts in
    let new = c.keep_part-in-Some.new.kept.parts in
    let bytes = c.as_slice-part.result.now in
    let behind = c.take_acked-rest.result.now in
    let items = c.take_acked-rest.new.bytes.items in
    let adds = c.keep_part-in-Some.ensures.adds c.if-not-keep_part-2.false in
    let one : length new ≡ length old + 1 = omega (arith, ap length adds.added, length-append old (adds.part ∷ [])) in
    let split =
    taken_leg c.in-Some.leg.now behind c.clear.new.self.items items bytes c.clear.ensures
    c.take_acked-rest.ensures.taken c.as_slice-part.ensures.value in
    record {
      some = omega (arith, one);
      small = omega (arith, one, c.loop-leg.invariant.small, c.as_slice-part.ensures.fits);
      taken = part_taken profile c.args.text.now old new bytes c.loop-leg.rest.now c.in-Some.leg.now behind
          c.loop-leg.events _ c.loop-leg.invariant.taken adds
          c.in-Some.ensures.spelled split refl;
      more = λ say.
          let next =
          next_part profile (addresses old) c.in-Some.leg.now behind c.clear.new.self.items items c.clear.ensures
          c.take_acked-rest.ensures.all
          (λ last rest small is. c.in_default-front_last.not-Some last (c.front_last.ensures.only last rest small is))
          (next_leg profile (addresses old) c.loop-leg.rest.now c.in-Some.leg.now
          (c.loop-leg.invariant.more say) c.in-Some.ensures.spelled) in
          let same =
          taken_part profile (addresses old) c.in-Some.leg.now behind c.clear.new.self.items items c.clear.ensures
          c.take_acked-rest.ensures.all bytes
          c.as_slice-part.ensures.value next in
          more_next profile old new bytes c.in-Some.leg.now behind next adds same.0 same.1;
    }

-- ---- STOP

pub returns-in_err-behind-clause-answers : goal.returns-in_err-behind-clause-answers
returns-in_err-behind-clause-answers c say =
    let more = c.loop-leg.invariant.more say in
    let ends = ends_parts c.args.profile.now (addresses c.loop-leg.kept.parts) c.loop-leg.rest.now more
    (λ behind is. not_there c.behind_start.result (c.behind_start.ensures.found behind is) c.in_default.not-Some) in
    absurd (cc (c.in_err-behind.ensures.found more.rest ends))

pub returns-clause-takes : goal.returns-clause-takes
returns-clause-takes c =
    rw c.end_write.ensures
    (
    takes_parts c.args.profile.now c.args.text.now c.loop-leg.kept.parts c.loop-leg.rest.now c.in_ok-behind.behind.now _
    c.loop-leg.events
    c.loop-leg.invariant.taken c.loop-leg.invariant.some c.in_ok-behind.ensures.spelled refl
    )
