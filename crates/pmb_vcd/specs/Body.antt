-- What the words behind the head of a VCD give, one after the other.
use Rattle.std.specs.Prelude.{ℕ, ◌*◌, ◌==◌, ◌&&◌, ◌||◌, not, nat_lt, true, false, Bool, Option, Some, None, is_none}
use Rattle.std.specs.Prelude.{if◌then◌else◌, List, codes}
use Rattle.std.specs.Str.{bytes_eq}
use Rattle.arrayvec.specs.ArrayVec.{ArrayVec}
use Rattle.pmb_vcd.specs.Tokens.{Word, At, Sets, Gives, Opens, Closes, Senseless, token_of}
use Rattle.pmb_vcd.specs.declared.body.Body.{Body}
use Rattle.pmb_vcd.specs.declared.body.Heard.{Heard}
use Rattle.pmb_vcd.specs.declared.body.Why.{Why}
use Rattle.pmb_vcd.specs.declared.body.Why.TheVariants.{MakesNoSense, DoesNotFollow}
use Rattle.pmb_vcd.specs.declared.token.Section.{Section}
use Rattle.pmb_vcd.specs.declared.token.Section.TheVariants.{Dump, Other}
use Rattle.pmb_vcd.specs.declared.token.Value.{Value}
use Rattle.pmb_vcd.specs.declared.token.Value.TheVariants as values
use Rattle.pmb_wires.specs.Changes.{has, nothing}
use Rattle.pmb_wires.specs.declared.level.Level.{Level}
use Rattle.pmb_wires.specs.declared.level.Levels.{Levels}
use Rattle.pmb_wires.specs.declared.moment.Moment.{Moment}
use Rattle.pmb_wires.specs.declared.signal.Wire.{Wire}
use Rattle.pmb_wires.specs.declared.signal.Wire.TheVariants.{Scl, Sda}

-- what becomes of a body at a word, and what that gives
pub record Step : Type 0 where
  pub now : Body
  pub heard : Heard

abbrev pub nothing_heard : Heard
nothing_heard = record { moment = None; fault = None }

abbrev pub quiet : Body → Step
quiet b = record { now = b; heard = nothing_heard }

-- ---- the end of a time, and faults

-- what the wires got at this time
abbrev pub moment_of : Body → Moment
moment_of b = record { time = b.number * b.scale; scl = b.scl; sda = b.sda }

abbrev pub given : Body → Option Moment
given b = if is_none b.scl && is_none b.sda then None else Some (moment_of b)

abbrev pub without_moment : Body → Body
without_moment b = record b { scl = None; sda = None }

abbrev pub end : Body → Step
end b = record { now = without_moment b; heard = record { moment = given b; fault = None } }

-- A fault: behind it no wire is known until it is written again.
abbrev pub fails : Body → Why → Step
fails b why = record {
  now = record (without_moment b) { levels = nothing; value = None };
  heard = record { moment = given b; fault = Some why };
}

-- ---- times

-- A time may be written again, and does not follow a later one.
abbrev pub at_time : Body → ℕ → Step
at_time b number =
    if nat_lt number b.number then
    record { now = record ((fails b DoesNotFollow).now) { number = number }; heard = (fails b DoesNotFollow).heard }
    else if number == b.number then quiet b else
    record {
      now = record (without_moment b) { number = number };
      heard = record { moment = given b; fault = None };
    }

-- ---- levels

abbrev pub wire_of : List ℕ → List ℕ → List ℕ → Option Wire
wire_of scl sda id = if bytes_eq scl id then Some Scl else if bytes_eq sda id then Some Sda else None

abbrev pub has_level : Levels → Wire → Level → Bool
has_level levels Scl level = has levels.scl level
has_level levels Sda level = has levels.sda level

-- levels that a wire has already are written in sections of all levels, and by simulators
abbrev pub is_dump : Option Section → Bool
is_dump (Some Dump) = true
is_dump (Some Other) = false
is_dump None = false

abbrev pub repeats : Body → Bool
repeats b = b.is_simulated || is_dump b.section

abbrev pub with_level : Body → Wire → Level → ℕ → Body
with_level b Scl level line = record b {
  scl = Some (record { line = line; level = level });
  levels = record b.levels { scl = Some level };
}
with_level b Sda level line = record b {
  sda = Some (record { line = line; level = level });
  levels = record b.levels { sda = Some level };
}

-- A level that the wire has already does not follow: a line may be lost in front.
abbrev pub set : Body → Wire → Level → ℕ → Step
set b wire level line =
    if has_level b.levels wire level && not (repeats b) then fails b DoesNotFollow else
    quiet (with_level b wire level line)

-- signals that are no wire are passed over
abbrev pub set_if : Body → Option Wire → Level → ℕ → Step
set_if b (Some wire) level line = set b wire level line
set_if b None level line = quiet b

abbrev pub set_by_id : Body → Level → List ℕ → ℕ → Step
set_by_id b level id line = set_if b (wire_of b.scl_id.items b.sda_id.items id) level line

-- ---- values

-- the value of a wire: a vector of one level is that level
abbrev pub give_wire : Body → Option Wire → Value → ℕ → Step
give_wire b (Some wire) (values.Level level) line = set b wire level line
give_wire b (Some wire) values.Vector line = fails b MakesNoSense
give_wire b (Some wire) values.Other line = quiet b
give_wire b None value line = quiet b

abbrev pub give : Body → Value → ℕ → List ℕ → Step
give b value line id =
    give_wire (record b { value = None }) (wire_of b.scl_id.items b.sda_id.items id) value line

-- ---- words

abbrev pub take : Body → Word → ℕ → Step
take b (At number) line = at_time b number
take b (Sets level id) line = set_by_id b level id line
take b (Gives value) line = quiet (record b { value = Some value })
take b (Opens section) line = quiet (record b { section = Some section })
take b Closes line = quiet (record b { section = None })
take b Senseless line = fails b MakesNoSense

-- a word of a section that says nothing
abbrev pub pass : Body → List ℕ → Step
pass b word = quiet (if bytes_eq word (codes "$end") then record b { section = None } else b)

abbrev pub hear_by : Body → Option Value → ℕ → List ℕ → Step
hear_by b (Some value) line word = give b value line word
hear_by b None line word = take b (token_of word) line

abbrev pub is_other : Option Section → Bool
is_other (Some Other) = true
is_other (Some Dump) = false
is_other None = false

abbrev pub hear : Body → ℕ → List ℕ → Step
hear b line word = if is_other b.section then pass b word else hear_by b b.value line word

-- nothing came yet
abbrev pub start : ArrayVec ℕ → ArrayVec ℕ → ℕ → Bool → Body
start scl_id sda_id scale is_simulated = record {
  scl_id = scl_id;
  sda_id = sda_id;
  scale = scale;
  is_simulated = is_simulated;
  number = 0;
  scl = None;
  sda = None;
  levels = nothing;
  section = None;
  value = None;
}
