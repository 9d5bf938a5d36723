-- What two pairs of levels are, one behind the other: exactly one of these.
use Rattle.std.specs.Prelude.{◌≡◌, ◌≢◌, ◌⊎◌, Option, Some, None}
use Rattle.pmb_wires.specs.declared.level.Level.{Level}
use Rattle.pmb_wires.specs.declared.level.Level.TheVariants.{Low, High, Unknown}
use Rattle.pmb_wires.specs.declared.level.Levels.{Levels}
use Rattle.pmb_wires.specs.declared.signal.Kind.{Kind}
use Rattle.pmb_wires.specs.declared.signal.Kind.TheVariants.{Start, Stop, Rise, Fall, SclUnknown, SdaUnknown, Nothing}
use Rattle.pmb_wires.specs.declared.signal.Pair.{Pair}

-- ---- in words

-- START: SDA falls, and SCL is 1 before and behind.
pub record IsStart (before after : Pair) : Type 0 where
  pub scl_before : before.scl ≡ High
  pub scl_behind : after.scl ≡ High
  pub sda_before : before.sda ≡ High
  pub sda_behind : after.sda ≡ Low

-- STOP: SDA rises, and SCL is 1 before and behind.
pub record IsStop (before after : Pair) : Type 0 where
  pub scl_before : before.scl ≡ High
  pub scl_behind : after.scl ≡ High
  pub sda_before : before.sda ≡ Low
  pub sda_behind : after.sda ≡ High

-- SCL gets 1, and SDA is 0 or 1 behind.
pub record IsRise (before after : Pair) : Type 0 where
  pub scl_before : before.scl ≢ High
  pub scl_behind : after.scl ≡ High
  pub sda_behind : after.sda ≢ Unknown

-- SCL gets 0.
pub record IsFall (before after : Pair) : Type 0 where
  pub scl_before : before.scl ≢ Low
  pub scl_behind : after.scl ≡ Low

-- SCL gets x.
pub record IsSclUnknown (before after : Pair) : Type 0 where
  pub scl_before : before.scl ≢ Unknown
  pub scl_behind : after.scl ≡ Unknown

-- SDA is x while SCL is 1, and it was not so before.
pub record IsSdaUnknown (before after : Pair) : Type 0 where
  pub scl_behind : after.scl ≡ High
  pub sda_behind : after.sda ≡ Unknown
  pub is_new : (before.scl ≢ High) ⊎ (before.sda ≢ Unknown)

-- Nothing else: SCL stays, and where it is 1 SDA stays too, or gets a level that was x before.
pub record IsNothing (before after : Pair) : Type 0 where
  pub scl_stays : before.scl ≡ after.scl
  pub sda : (after.scl ≢ High) ⊎ ((before.sda ≡ after.sda) ⊎ (before.sda ≡ Unknown))

abbrev pub Is : Kind → Pair → Pair → Type 0
Is Start before after = IsStart before after
Is Stop before after = IsStop before after
Is Rise before after = IsRise before after
Is Fall before after = IsFall before after
Is SclUnknown before after = IsSclUnknown before after
Is SdaUnknown before after = IsSdaUnknown before after
Is Nothing before after = IsNothing before after

-- ---- computed

abbrev pub kind_at_high : Level → Level → Kind
kind_at_high High Low = Start
kind_at_high High High = Nothing
kind_at_high High Unknown = SdaUnknown
kind_at_high Low Low = Nothing
kind_at_high Low High = Stop
kind_at_high Low Unknown = SdaUnknown
kind_at_high Unknown Low = Nothing
kind_at_high Unknown High = Nothing
kind_at_high Unknown Unknown = Nothing

-- SCL gets 1, and SDA has a level
abbrev pub kind_at_rise : Level → Kind
kind_at_rise Low = Rise
kind_at_rise High = Rise
kind_at_rise Unknown = SdaUnknown

abbrev pub kind_by : Level → Level → Level → Level → Kind
kind_by High High sda new_sda = kind_at_high sda new_sda
kind_by Low High sda new_sda = kind_at_rise new_sda
kind_by Unknown High sda new_sda = kind_at_rise new_sda
kind_by Low Low sda new_sda = Nothing
kind_by High Low sda new_sda = Fall
kind_by Unknown Low sda new_sda = Fall
kind_by Low Unknown sda new_sda = SclUnknown
kind_by High Unknown sda new_sda = SclUnknown
kind_by Unknown Unknown sda new_sda = Nothing

abbrev pub kind : Pair → Pair → Kind
kind before after = kind_by before.scl after.scl before.sda after.sda

-- Each two pairs have one kind.
abbrev pub EachIsOneKind : Type 0
EachIsOneKind = (before after : Pair) → Is (kind before after) before after
    × ((other : Kind) → Is other before after → other ≡ kind before after)

-- ---- levels of wires

-- a wire that was not written is x
abbrev pub seen : Option Level → Level
seen (Some level) = level
seen None = Unknown

abbrev pub pair_of : Levels → Pair
pair_of levels = record { scl = seen levels.scl; sda = seen levels.sda }
