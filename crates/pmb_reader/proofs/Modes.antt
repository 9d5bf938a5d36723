-- What the mode of a reader (open, held, passing) says of where it stands. For `Reader::take`,
-- `pass`, `finish`, `resync`, `expected`, `held`, `read` and `take_canonical`. In each mode the
-- other two kinds of place are ruled out; and the count of events stays at the greatest u64.
use Rattle.std.proofs.Common.{◌≡◌, true, false, ℕ, ◌+◌, List, [], ◌∷◌, ◌++◌, length, refl, sym, ap, subst, ◌∙◌, arith}
use Rattle.std.proofs.Common.{length-append}
use Rattle.pmb_bus.specs.Count.{capped}
use Rattle.pmb_bus.specs.declared.event.Event.{Event}
use Rattle.pmb_bus.specs.declared.event.Event.TheVariants.{Stop}
use Rattle.pmb_bus.specs.declared.kinds.Kinds.{Kinds}
use Rattle.pmb_bus.specs.Kinds.{AreKindsOf, bits, holds}
use Rattle.pmb_command.specs.Parts.{DeviceParts}
use Rattle.pmb_transaction.specs.Reading.{RefusalData}
use Rattle.pmb_reader.specs.declared.reader.Mode.{Mode}
use Rattle.pmb_reader.specs.declared.reader.Mode.TheVariants as modes
use Rattle.pmb_reader.specs.declared.reader.Reader.{Reader}
use Rattle.pmb_reader.specs.declared.refusal.Refusal.{Refusal as Answered}
use Rattle.pmb_reader.specs.Refusal.{refusal_data}
use Rattle.pmb_reader.specs.Reader.{Standing, Open, Held, Passing, IsBetween, ReaderStandsAt, behind_passed}
use Rattle.pmb_reader.specs.machine.Standing.{IsMode}

-- ---- counts

-- one event more
pub one_more : (used now n : ℕ) → used ≡ capped n → now ≡ capped (used + 1) → now ≡ capped (n + 1)
one_more used now n was is = omega (arith)

pub one_event_more : (used now n : ℕ) (events : List Event) (event : Event) → used ≡ capped (n + length events)
    → now ≡ capped (used + 1)
    → now ≡ capped (n + length (events ++ event ∷ []))
one_event_more used now n events event was is =
    let long : n + length events + 1 ≡ n + length (events ++ event ∷ []) =
    omega (arith, length-append events (event ∷ [])) in
    one_more used now (n + length events) was is ∙ ap capped long

pub one_packet_more : (used now n : ℕ) → used ≡ capped n → now ≡ capped (used + 1) → now ≡ capped (n + 1 + 0)
one_packet_more used now n was is = omega (arith)

-- ---- modes

-- a reader that reads a packet reads one, whatever came
pub still_open : (mode : Mode) (n m : ℕ) (events more : List Event) → IsMode mode (Open n events)
    → IsMode mode (Open m more)
still_open modes.Open n m events more is = tt
still_open (modes.Held held) n m events more is = absurd is
still_open modes.Passing n m events more is = absurd is

-- after a STOP that is passed over it reads a packet
pub behind_passed_stop : (profile : List DeviceParts) (after : Reader) (n : ℕ) (event : Event) → event ≡ Stop
    → ReaderStandsAt profile after (Open (n + 1) [])
    → ReaderStandsAt profile after (behind_passed n event)
behind_passed_stop profile after n event is stands = subst (λ e. ReaderStandsAt profile after (behind_passed n e))
    (sym is) stands

module _ (profile : List DeviceParts) (reader : Reader) (Holds : Standing → Type 0) where
  -- while a packet is read
  pub while_open : reader.mode ≡ modes.Open
      → ((n : ℕ) (events : List Event) → ReaderStandsAt profile reader (Open n events) → Holds (Open n events))
      → (standing : Standing) → ReaderStandsAt profile reader standing → Holds standing
  while_open mode holds (Open n events) stands = holds n events stands
  while_open mode holds (Held n refusal) stands = absurd (subst (λ m. IsMode m (Held n refusal)) mode stands.mode)
  while_open mode holds (Passing n) stands = absurd (subst (λ m. IsMode m (Passing n)) mode stands.mode)

  -- while a refusal is held
  pub while_held : (held : Answered) → reader.mode ≡ modes.Held held
      → ((n : ℕ) (refusal : RefusalData) → refusal_data held ≡ refusal → ReaderStandsAt profile reader (Held n refusal)
      → Holds (Held n refusal))
      → (standing : Standing) → ReaderStandsAt profile reader standing → Holds standing
  while_held held mode holds (Open n events) stands = absurd (subst (λ m. IsMode m (Open n events)) mode stands.mode)
  while_held held mode holds (Held n refusal) stands =
      holds n refusal (subst (λ m. IsMode m (Held n refusal)) mode stands.mode) stands
  while_held held mode holds (Passing n) stands = absurd (subst (λ m. IsMode m (Passing n)) mode stands.mode)

  -- while events are passed over
  pub while_passing : reader.mode ≡ modes.Passing
      → ((n : ℕ) → ReaderStandsAt profile reader (Passing n) → Holds (Passing n))
      → (standing : Standing) → ReaderStandsAt profile reader standing → Holds standing
  while_passing mode holds (Open n events) stands = absurd (subst (λ m. IsMode m (Open n events)) mode stands.mode)
  while_passing mode holds (Held n refusal) stands = absurd (subst (λ m. IsMode m (Held n refusal)) mode stands.mode)
  while_passing mode holds (Passing n) stands = holds n stands

open_here : (mode : Mode) (n : ℕ) (events : List Event) → IsMode mode (Open n events) → mode ≡ modes.Open
open_here modes.Open n events is = refl
open_here (modes.Held held) n events is = absurd is
open_here modes.Passing n events is = absurd is

-- a reader that reads no packet stands between none
pub not_between : (profile : List DeviceParts) (reader : Reader) → (reader.mode ≡ modes.Open → ⊥)
    → (standing : Standing) → ReaderStandsAt profile reader standing → IsBetween standing → ⊥
not_between profile reader other (Open n events) stands between = other (open_here reader.mode n events stands.mode)
not_between profile reader other (Held n refusal) stands between = between
not_between profile reader other (Passing n) stands between = between

-- ---- kinds

-- no kind
pub no_kinds : (kinds : Kinds) → bits kinds ≡ 0 → ((event : Event) → holds kinds event ≡ false)
    → AreKindsOf (λ event. ⊥) kinds
no_kinds kinds none lacks = record {
  known = omega (arith, none);
  each = λ event absurdity. absurd absurdity;
  only = λ event held. absurd (cc (sym held ∙ lacks event));
}

-- all kinds
-- 31: the bits of all five kinds
pub all_kinds : (kinds : Kinds) → bits kinds ≡ 31 → ((event : Event) → holds kinds event ≡ true)
    → AreKindsOf (λ event. Unit {0}) kinds
all_kinds kinds all has = record {
  known = omega (arith, all);
  each = λ event any. has event;
  only = λ event held. (event, refl, tt);
}
