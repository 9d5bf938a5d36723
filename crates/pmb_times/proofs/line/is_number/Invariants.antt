use Rattle.std.proofs.Common.{◌≡◌, true, count_by, take}
use Rattle.std.specs.Char.{is_ascii_digit}
use Rattle.std.specs.List.{list_all}
use Rattle.pmb_times.specs.Line.{is_point, is_seconds_byte}
use Rattle.pmb_times.proofs.line.is_number.Given as goal

-- the bytes so far are digits and points, counted
abbrev pub invariant-loop-byte : goal.invariant-loop-byte
invariant-loop-byte l = record {
  all : list_all is_seconds_byte (take l.byte-index l.text) ≡ true;
  digits : l.digits ≡ count_by is_ascii_digit (take l.byte-index l.text);
  points : l.points ≡ count_by is_point (take l.byte-index l.text);
}
