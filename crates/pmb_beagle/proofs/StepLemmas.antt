-- A packet that begins where none is under way, and a step of the machine as a line of its task.
use Rattle.std.proofs.Common.{◌≡◌, ℕ, List, [], ◌∷◌, None, Result, Ok, Err, OnOk, refl, append-nil, ap, true}
use Rattle.pmb_beagle.specs.Export.{Transaction}
use Rattle.pmb_beagle.specs.Packets.{add, begin}
use Rattle.pmb_beagle.specs.declared.beagle.Beagle.{Beagle}
use Rattle.pmb_recording.specs.Recording.{at_begin, begun, cut_text, with_unit}
use Rattle.pmb_recording.specs.declared.recording.Recording.{Recording}

-- a time that has its unit
pub has_unit : (time : List ℕ) → with_unit time [] ≡ time
has_unit [] = refl
has_unit (byte ∷ time) = append-nil (byte ∷ time)

-- Where no packet is under way nothing is cut.
pub begins_now : (r : Recording) (time : List ℕ) → r.packet ≡ None → (at_begin r (with_unit time [])).now ≡ begun r time
begins_now r time none = simp (none, has_unit time)

pub begins_quietly : (r : Recording) (time : List ℕ) → r.packet ≡ None → (at_begin r time).text ≡ []
begins_quietly r time none = ap cut_text none

-- both of two facts
pub both : {T E P Q R : Type 0} (r : Result T E) → (P → Q → R) → OnOk r P → OnOk r Q → OnOk r R
both (Ok x) f p q = f p q
both (Err e) f p q = tt

pub begin_is : (b : Beagle) (time : List ℕ) (t : Transaction) → t.marks.has_start ≡ true
    → (begin b time t).text ≡ (add (record b { recording = begun b.recording time }) t).text
begin_is b time t is = simp is
