-- The values of the code's types, as the definitions have them.
use Rattle.std.specs.Prelude.{ℕ}
use Rattle.pmb_sigrok_line.specs.Line as line
use Rattle.pmb_sigrok_line.specs.declared.line.Line.{Line}
use Rattle.pmb_sigrok_line.specs.declared.rate.Rate.{Rate}

-- a line, with the bytes of its name
abbrev pub line_shown : Line → line.Line
line_shown l = record { sample = l.sample; name = l.name.now; event = l.event }

-- the samples in a second
abbrev pub hertz_of : Rate → ℕ
hertz_of rate = rate.hertz
