use Rattle.std.proofs.Common.{◌≡◌, ◌+◌, ◌*◌, ◌-◌, length, take, drop, arith}
use Rattle.std.proofs.lemmas.List.{length-drop, length-take}
use Rattle.pmb_note.specs.Note.{part_text}
use Rattle.pmb_note.specs.machine.Standing.{mode_in}
use Rattle.pmb_note.proofs.Texts.{at_most, called, first_and_rest, more_parts, part_behind, parts_text, then}
use Rattle.pmb_note.proofs.context.Context.append_parts.Goals as goal

pub loop-part-preserved : goal.loop-part-preserved
loop-part-preserved g c =
    let text = part_text c.args.self.now.profile.now (mode_in c.args.self.now) in
    let rest = take (length c.args.parts.now - 1) (drop 1 c.args.parts.now) in
    record {
      text = called (more_parts (part_behind text) rest c.loop-part.part-index c.part-item.result c.loop-part-test.true
          c.part-item.is)
          (at_most (323 * (c.loop-part.part-index + 1)) (omega arith)
          (then c.loop-part.invariant.text (then c.append.ensures c.append_part-in-loop-part.ensures)));
      room = omega (
        arith,
        c.loop-part.invariant.room,
        c.append.ensures.longer,
        c.append_part-in-loop-part.ensures.longer,
      );
    }

pub returns : goal.returns
returns g c =
    let text = part_text c.args.self.now.profile.now (mode_in c.args.self.now) in
    let rest = take (length c.args.parts.now - 1) (drop 1 c.args.parts.now) in
    let split = first_and_rest c.args.parts.now c.first-item.result c.in-len1-up.len_at_least c.first-item.is in
    let long : length c.args.parts.now ≡ length rest + 1 =
    omega (
      arith,
      length-take (length c.args.parts.now - 1) (drop 1 c.args.parts.now),
      length-drop 1 c.args.parts.now,
      c.in-len1-up.len_at_least,
    ) in
    parts_text text c.args.parts.now c.first-item.result rest c.loop-part.part-index
    (323 * length c.args.parts.now) c.args.out.now.items c.append_part.new.out.items c.loop-part.out.items
    split c.loop-part-test.false c.append_part.ensures c.loop-part.invariant.text
    (omega (arith, long, c.loop-part.auto.part-index-end))
