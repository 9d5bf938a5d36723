-- The answer to the last byte of a packet: for `answer_last`, which writes it in its place.
use Rattle.std.proofs.Common.{◌≡◌, ℕ, zero, suc, ◌-◌, Bool, true, nat_lt, List, [], ◌∷◌, ◌++◌, length, take}
use Rattle.std.proofs.Common.{◌∙◌, ap, append-nil, get_or, set, arith}
use Rattle.std.specs.List.{refill}
use Rattle.std.proofs.lemmas.List.{drop_all, length-set, take_all}
use Rattle.pmb_recording.specs.declared.wire_byte.WireByte.{WireByte}
use Rattle.pmb_sigrok.specs.Packets.{answered}

-- a slice that is as long as the list replaces all of it
refilled : (xs ws : List WireByte) → length ws ≡ length xs → refill (length xs) xs ws ≡ ws
refilled xs ws same =
    ap (λ (rest : List WireByte). take (length xs) (ws ++ rest)) (drop_all (length ws) xs (omega (arith, same)))
    ∙ ap (take (length xs)) (append-nil ws) ∙ take_all (length xs) ws (omega (arith, same))

-- the byte at the last place
set_answered : (acknowledged : Bool) (wire : List WireByte) (b : WireByte) (last : ℕ) → length wire ≡ suc last
    → b ≡ get_or wire last b → set wire last (record b { is_acknowledged = acknowledged }) ≡ answered acknowledged wire
set_answered acknowledged [] b last long is = cc
set_answered acknowledged (first ∷ []) b zero long is = cc
set_answered acknowledged (first ∷ []) b (suc last) long is = absurd (omega (arith, long))
set_answered acknowledged (first ∷ next ∷ wire) b zero long is = absurd (omega (arith, long))
set_answered acknowledged (first ∷ next ∷ wire) b (suc last) long is =
    ap (λ (more : List WireByte). first ∷ more) (set_answered acknowledged (next ∷ wire) b last (omega (arith, long)) is)

some_last : (wire : List WireByte) → true ≡ nat_lt 0 (length wire) → length wire ≡ suc (length wire - 1)
some_last [] some = cc
some_last (b ∷ wire) some = omega arith

-- the slice of its bytes, with the last one written
pub last_answered : (acknowledged : Bool) (wire lent : List WireByte) (b : WireByte) → lent ≡ wire
    → true ≡ nat_lt 0 (length lent) → b ≡ get_or lent (length lent - 1) b
    → refill (length wire) wire (set lent (length lent - 1) (record b { is_acknowledged = acknowledged }))
    ≡ answered acknowledged wire
last_answered acknowledged wire lent b same some is =
    let all = set_answered acknowledged lent b (length lent - 1) (some_last lent some) is in
    refilled wire (set lent (length lent - 1) (record b { is_acknowledged = acknowledged }))
    (length-set lent (length lent - 1) (record b { is_acknowledged = acknowledged }) ∙ ap (length {A = WireByte}) same)
    ∙ all ∙ ap (answered acknowledged) same
