use Rattle.std.proofs.Common.{◌≡◌, ◌+◌, length}
use Rattle.pmb_sample_fields.specs.Fields.{mark_byte, record_of}
use Rattle.pmb_sample_fields.specs.machine.Left.{left}
use Rattle.pmb_samples.specs.Heading.{offered_all, offered_from}
use Rattle.pmb_samples.proofs.heading.Headings.offer_fields.Given as goal

-- the fields so far were taken
abbrev pub invariant-loop-field : goal.invariant-loop-field
invariant-loop-field l = record {
  same : offered_all l.fn.self (record_of (mark_byte l.fn.mark) l.line).fields
      ≡ offered_from l.self l.place (left l.fields).fields;
  passed : l.place + length (left l.fields).fields ≡ length (record_of (mark_byte l.fn.mark) l.line).fields;
  whole : (left l.fields).is_whole ≡ (record_of (mark_byte l.fn.mark) l.line).is_whole;
}

abbrev pub decreases-loop-field : goal.decreases-loop-field
decreases-loop-field l = length (left l.fields).fields
