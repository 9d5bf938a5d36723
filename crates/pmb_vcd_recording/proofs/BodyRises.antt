-- The moments of the words behind a head rise: a moment is told once its time is over, and a time that falls is a fault.
use Rattle.std.proofs.Common.{◌≡◌, ℕ, ◌<◌, ◌==◌, ◌&&◌, nat_lt, not, true, false, Bool, Option, Some, None}
use Rattle.std.proofs.Common.{if◌then◌else◌, List, refl, arith}
use Rattle.std.specs.Prelude.{codes}
use Rattle.std.specs.Str.{bytes_eq}
use Rattle.std.proofs.lemmas.Bool.Decides.{nat_tests}
use Rattle.pmb_vcd.specs.Body as body
use Rattle.pmb_vcd.specs.Tokens.{Word, At, Sets, Gives, Opens, Closes, Senseless, token_of}
use Rattle.pmb_vcd.specs.declared.body.Body.{Body}
use Rattle.pmb_vcd.specs.declared.body.Why.{Why}
use Rattle.pmb_vcd.specs.declared.body.Why.TheVariants.{MakesNoSense, DoesNotFollow}
use Rattle.pmb_vcd.specs.declared.token.Value.{Value}
use Rattle.pmb_vcd.specs.declared.token.Value.TheVariants as values
use Rattle.pmb_wires.specs.declared.level.Level.{Level}
use Rattle.pmb_wires.specs.declared.signal.Wire.{Wire}
use Rattle.pmb_wires.specs.declared.signal.Wire.TheVariants.{Scl, Sda}

-- What a word does with the time: it stays, a fault ends a piece, or the time goes on.
pub data Moves (b : Body) (s : body.Step) : Type 0 where
  Stays : s.heard ≡ body.nothing_heard → s.now.number ≡ b.number → s.now.scale ≡ b.scale → Moves b s
  Breaks : (why : Why) → s.heard ≡ record { moment = body.given b; fault = Some why } → s.now.scale ≡ b.scale
      → Moves b s
  GoesOn : s.heard ≡ record { moment = body.given b; fault = None } → b.number < s.now.number
      → s.now.scale ≡ b.scale → Moves b s

pub fails_moves : (b : Body) (why : Why) → Moves b (body.fails b why)
fails_moves b why = Breaks why refl refl

-- ---- times

later : (a b : ℕ) → nat_lt a b ≡ false → (a == b) ≡ false → b < a
later a b not_before not_same = grind (arith, nat_tests)

at_by : (b : Body) (number : ℕ) (falls same : Bool) → (falls ≡ false → same ≡ false → b.number < number)
    → Moves b (if falls then
    record { now = record ((body.fails b DoesNotFollow).now) { number = number }; heard = (body.fails b DoesNotFollow).heard }
    else if same then body.quiet b else
    record {
      now = record (body.without_moment b) { number = number };
      heard = record { moment = body.given b; fault = None };
    })
at_by b number true same rises = Breaks DoesNotFollow refl refl
at_by b number false true rises = Stays refl refl refl
at_by b number false false rises = GoesOn refl (rises refl refl) refl

at_moves : (b : Body) (number : ℕ) → Moves b (body.at_time b number)
at_moves b number = at_by b number (nat_lt number b.number) (number == b.number) (later number b.number)

-- ---- levels and values

set_by : (b : Body) (wire : Wire) (level : Level) (line : ℕ) (repeats : Bool)
    → Moves b (if repeats then body.fails b DoesNotFollow else body.quiet (body.with_level b wire level line))
set_by b wire level line true = fails_moves b DoesNotFollow
set_by b Scl level line false = Stays refl refl refl
set_by b Sda level line false = Stays refl refl refl

set_moves : (b : Body) (wire : Wire) (level : Level) (line : ℕ) → Moves b (body.set b wire level line)
set_moves b wire level line =
    set_by b wire level line (body.has_level b.levels wire level && not (body.repeats b))

set_if_moves : (b : Body) (wire : Option Wire) (level : Level) (line : ℕ) → Moves b (body.set_if b wire level line)
set_if_moves b (Some wire) level line = set_moves b wire level line
set_if_moves b None level line = Stays refl refl refl

-- a value that waits changes no time
before_value : (b : Body) (s : body.Step) → Moves (record b { value = None }) s → Moves b s
before_value b s (Stays heard number scale) = Stays heard number scale
before_value b s (Breaks why heard scale) = Breaks why heard scale
before_value b s (GoesOn heard number scale) = GoesOn heard number scale

wire_moves : (b : Body) (wire : Option Wire) (value : Value) (line : ℕ) → Moves b (body.give_wire b wire value line)
wire_moves b (Some wire) (values.Level level) line = set_moves b wire level line
wire_moves b (Some wire) values.Vector line = fails_moves b MakesNoSense
wire_moves b (Some wire) values.Other line = Stays refl refl refl
wire_moves b None value line = Stays refl refl refl

give_moves : (b : Body) (value : Value) (line : ℕ) (id : List ℕ) → Moves b (body.give b value line id)
give_moves b value line id =
    before_value b (body.give b value line id)
    (wire_moves (record b { value = None }) (body.wire_of b.scl_id.items b.sda_id.items id) value line)

-- ---- words

take_moves : (b : Body) (word : Word) (line : ℕ) → Moves b (body.take b word line)
take_moves b (At number) line = at_moves b number
take_moves b (Sets level id) line =
    set_if_moves b (body.wire_of b.scl_id.items b.sda_id.items id) level line
take_moves b (Gives value) line = Stays refl refl refl
take_moves b (Opens section) line = Stays refl refl refl
take_moves b Closes line = Stays refl refl refl
take_moves b Senseless line = fails_moves b MakesNoSense

pass_by : (b : Body) (ends : Bool) → Moves b (body.quiet (if ends then record b { section = None } else b))
pass_by b true = Stays refl refl refl
pass_by b false = Stays refl refl refl

pass_moves : (b : Body) (word : List ℕ) → Moves b (body.pass b word)
pass_moves b word = pass_by b (bytes_eq word (codes "$end"))

by_moves : (b : Body) (value : Option Value) (line : ℕ) (word : List ℕ) → Moves b (body.hear_by b value line word)
by_moves b (Some value) line word = give_moves b value line word
by_moves b None line word = take_moves b (token_of word) line

other_moves : (b : Body) (is_other : Bool) (line : ℕ) (word : List ℕ) → Moves b (body.pass b word)
    → Moves b (if is_other then body.pass b word else body.hear_by b b.value line word)
other_moves b true line word passed = passed
other_moves b false line word passed = by_moves b b.value line word

pub hear_moves : (b : Body) (line : ℕ) (word : List ℕ) → Moves b (body.hear b line word)
hear_moves b line word = other_moves b (body.is_other b.section) line word (pass_moves b word)
