-- A signal that is given to the devices of a bus, one after the other: for the loop of `hand_on`.
-- So far some devices took it, the others stand before it, and the answer is the last of theirs
-- that is not silence; one device more keeps this.
use Rattle.std.proofs.Common.{◌≡◌, ℕ, ◌+◌, ◌<◌, List, [], ◌∷◌, ◌++◌, length, set, get_or, refl, sym, ap, subst, ◌∙◌}
use Rattle.std.proofs.Common.{append_assoc, arith}
use Rattle.std.proofs.lemmas.List.{append-nil, length-append}
use Rattle.std.proofs.Math.Seq.{get_or-append_seam, set-append_seam}
use Rattle.pmb_registers.specs.State.{InState}
use Rattle.pmb_device.specs.declared.signal.HostSignal.{HostSignal}
use Rattle.pmb_device.specs.declared.signal.DeviceSignal.{DeviceSignal}
use Rattle.pmb_device.specs.declared.signal.DeviceSignal.TheVariants.{Silent, Ack, Nack, Byte}
use Rattle.pmb_device.specs.declared.device.Device.{Device}
use Rattle.pmb_device.specs.Legs.{Legs}
use Rattle.pmb_device.specs.Device.{DeviceStanding, DeviceStandsAt, Moves}
use Rattle.pmb_devices.specs.machine.Standing.{AllStand}
use Rattle.pmb_devices.specs.machine.Hands.{AllMoved, HandsOn, HandsSoFar, last_loud, or_else}

-- ---- the last answer that is not silence

or_else_silent : (a : DeviceSignal) → a ≡ or_else a Silent
or_else_silent Silent = refl
or_else_silent Ack = refl
or_else_silent Nack = refl
or_else_silent (Byte b) = refl

or_else_assoc : (a b c : DeviceSignal) → or_else (or_else a b) c ≡ or_else a (or_else b c)
or_else_assoc Silent b c = refl
or_else_assoc Ack b c = refl
or_else_assoc Nack b c = refl
or_else_assoc (Byte x) b c = refl

-- one answer more
loud_behind : (results : List DeviceSignal) (next : DeviceSignal)
    → last_loud (results ++ next ∷ []) ≡ or_else next (last_loud results)
loud_behind [] next = or_else_silent next
loud_behind (result ∷ results) next =
    ap (λ (a : DeviceSignal). or_else a result) (loud_behind results next)
    ∙ or_else_assoc next (last_loud results) result

module _ (legs : Legs) (signal : HostSignal) where
  -- where a device stands before the signal
  abbrev pub standing_of : InState → DeviceStanding
  standing_of member = record { device = member.device; state = member.state; legs = legs }

  -- one device more took the signal
  moved_behind : (done : List Device) (took : List InState) (results : List DeviceSignal) (d : Device)
      (member : InState) (result : DeviceSignal)
      → AllMoved legs signal done took results → Moves (standing_of member) signal result d
      → AllMoved legs signal (done ++ d ∷ []) (took ++ member ∷ []) (results ++ result ∷ [])
  moved_behind [] [] [] d member result all one = (one, tt)
  moved_behind [] [] (r ∷ results) d member result all one = absurd all
  moved_behind [] (m ∷ took) results d member result all one = absurd all
  moved_behind (first ∷ done) [] results d member result all one = absurd all
  moved_behind (first ∷ done) (m ∷ took) [] d member result all one = absurd all
  moved_behind (first ∷ done) (m ∷ took) (r ∷ results) d member result all one =
      (all.0, moved_behind done took results d member result all.1 one)

  pub none_yet : (members : List InState) (devices : List Device) → AllStand legs devices members
      → HandsSoFar legs signal members devices 0 Silent
  none_yet members devices stand = record {
    done = [];
    rest = devices;
    took = [];
    left = members;
    results = [];
    devices_are = refl;
    members_are = refl;
    count_is = refl;
    moved = tt;
    stand = stand;
    last = refl;
  }

  one_more : (members : List InState) (devices : List Device) (count : ℕ) (result next : DeviceSignal)
      (before after : Device)
      (done rest : List Device) (took left : List InState) (results : List DeviceSignal) → devices ≡ done ++ rest
      → members ≡ took ++ left
      → length done ≡ count → AllMoved legs signal done took results → AllStand legs rest left
      → result ≡ last_loud results
      → count < length devices → ((standing : DeviceStanding) → DeviceStandsAt (get_or devices count before) standing
      → Moves standing signal next after)
      → HandsSoFar legs signal members (set devices count after) (count + 1) (or_else next result)
  one_more members devices count result next before after done [] took left results devices_are members_are count_is
      moved stand last inside moves =
      absurd (omega (arith, ap length devices_are, length-append done [], count_is))
  one_more members devices count result next before after done (d ∷ rest) took [] results devices_are members_are
      count_is moved stand last inside moves = absurd stand
  one_more members devices count result next before after done (d ∷ rest) took
      (m ∷ left) results devices_are members_are count_is moved stand last inside moves =
      -- the device at this place is the first that is left
      let item : get_or devices count before ≡ d =
      ap (λ (ds : List Device). get_or ds count before) devices_are ∙ ap (λ (n : ℕ). get_or (done ++ d ∷ rest) n before)
      (sym count_is) ∙ get_or-append_seam done d rest before in
      -- it is put back in its place
      let now : set devices count after ≡ done ++ after ∷ rest =
      ap (λ (ds : List Device). set ds count after) devices_are ∙ ap (λ (n : ℕ). set (done ++ d ∷ rest) n after)
      (sym count_is) ∙ set-append_seam done d rest after in
      -- it took the signal, and answered
      let one : Moves (standing_of m) signal next after =
      moves (standing_of m) (subst (λ (x : Device). DeviceStandsAt x (standing_of m)) (sym item) stand.0) in
      record {
        done = done ++ after ∷ [];
        rest = rest;
        took = took ++ m ∷ [];
        left = left;
        results = results ++ next ∷ [];
        devices_are = now ∙ sym (append_assoc done (after ∷ []) rest);
        members_are = members_are ∙ sym (append_assoc took (m ∷ []) left);
        count_is = omega (arith, length-append done (after ∷ []), count_is);
        moved = moved_behind done took results after m next moved one;
        stand = stand.1;
        last = ap (or_else next) last ∙ sym (loud_behind results next);
      }

  -- the next device takes the signal
  pub next_takes : (members : List InState) (devices : List Device) (count : ℕ) (result next : DeviceSignal)
      (before after : Device)
      → HandsSoFar legs signal members devices count result → count < length devices
      → ((standing : DeviceStanding) → DeviceStandsAt (get_or devices count before) standing
      → Moves standing signal next after)
      → HandsSoFar legs signal members (set devices count after) (count + 1) (or_else next result)
  next_takes members devices count result next before after h inside moves =
      one_more members devices count result next before after h.done h.rest h.took h.left h.results h.devices_are
      h.members_are h.count_is h.moved h.stand h.last inside moves

  all_took : (members : List InState) (devices : List Device) (result : DeviceSignal) (done rest : List Device)
      (took left : List InState) (results : List DeviceSignal)
      → devices ≡ done ++ rest → members ≡ took ++ left → AllMoved legs signal done took results
      → AllStand legs rest left → result ≡ last_loud results
      → length devices ≡ length done → HandsOn legs signal members result devices
  all_took members devices result done [] took [] results devices_are members_are moved stand last all = record {
    results = results;
    moved = subst (λ (ms : List InState). AllMoved legs signal devices ms results) (sym (members_are ∙ append-nil took))
        (subst (λ (ds : List Device). AllMoved legs signal ds took results) (sym (devices_are ∙ append-nil done))
        moved);
    last = last;
  }
  all_took members devices result done [] took (m ∷ left) results devices_are members_are moved stand last all =
      absurd stand
  all_took members devices result done (d ∷ rest) took left results devices_are members_are moved stand last all =
      absurd (omega (arith, ap length devices_are, length-append done (d ∷ rest), all))

  -- all took it
  pub handed_on : (members : List InState) (devices : List Device) (count : ℕ) (result : DeviceSignal)
      → HandsSoFar legs signal members devices count result
      → length devices ≡ count → HandsOn legs signal members result devices
  handed_on members devices count result h all =
      all_took members devices result h.done h.rest h.took h.left h.results h.devices_are h.members_are h.moved h.stand
      h.last (all ∙ sym h.count_is)
