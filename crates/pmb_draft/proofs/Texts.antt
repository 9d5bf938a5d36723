-- A text that has what was seen is a first profile. For `Draft::text`.
use Rattle.std.proofs.Common.{◌≡◌, ◌≤◌, ℕ, Ok, Option, List, ◌++◌, length, subst}
use Rattle.std.specs.List.{AllByRecursion}
use Rattle.pmb_bus.specs.declared.event.Event.{Event}
use Rattle.pmb_preamble.specs.Front.{most_profile}
use Rattle.pmb_table.specs.Profile.{ProfileParts, SaysBus}
use Rattle.pmb_draft.specs.Draft.{IsDraft, Names}
use Rattle.pmb_draft.specs.Left.{left_out}
use Rattle.pmb_draft.specs.declared.seen.Seen.{Seen}
use Rattle.pmb_draft.specs.machine.Draft.{HasDevice}
use Rattle.pmb_draft.specs.machine.Seen.{HasSeen}
use Rattle.pmb_draft.proofs.Acking.{all_weaker}

module _ (events : List Event) (seen : Seen) (bad : Option ℕ) (text head tables : List ℕ)
    (has_seen : HasSeen seen events) (whole : text ≡ head ++ left_out seen.acked seen.listed.items bad ++ tables) where
  accepted : (bus : ProfileParts) → SaysBus text (Ok bus) → length text ≤ most_profile
      → AllByRecursion (HasDevice seen.codes bus.devices) seen.listed.items → IsDraft events bad text
  accepted bus says short devices = record {
    bus = bus;
    accepted = says;
    short = short;
    listed = seen.listed.items;
    are_listed = has_seen.listed;
    named = all_weaker (HasDevice seen.codes bus.devices) (Names events bus.devices)
        (λ address has. record {
          device = has.device;
          found = has.found;
          commands = λ code acked. has.commands code (has_seen.codes address code acked);
        }) seen.listed.items devices;
    acked = seen.acked;
    each = has_seen.acked.each;
    head = head;
    tables = tables;
    whole = whole;
  }

  -- what was read of it holds of it
  pub is_draft : (read : List ℕ) → read ≡ text
      → (bus : ProfileParts) × SaysBus read (Ok bus) × (length read ≤ most_profile)
      × AllByRecursion (HasDevice seen.codes bus.devices) seen.listed.items
      → IsDraft events bad text
  unfolding accepted
  is_draft read same checked =
      accepted checked.0 (subst (λ (t : List ℕ). SaysBus t (Ok checked.0)) same checked.1)
      (subst (λ (t : List ℕ). length t ≤ most_profile) same checked.2) checked.3
