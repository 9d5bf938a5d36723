use Rattle.std.proofs.Common.{◌≡◌, ◌≢◌, ◌∙◌, ℕ, List, ◌++◌, codes, decimal, append_assoc}
use Rattle.std.proofs.lemmas.Bool.{ne_eqb}
use Rattle.pmb_recording.proofs.Puts.{then_last}
use Rattle.pmb_smbus.specs.Transfers.{error_codes_line}
use Rattle.pmb_smbus.proofs.transfers.put_error_codes.Goals as goal

-- the line, where there are some
line_is : (count : ℕ) (number : List ℕ) → count ≢ 0 → number ≡ decimal count
    → (codes "# " ++ number) ++ codes " error codes are computed, since the recording shows none\n"
    ≡ error_codes_line count
line_is count number some same = rw same (rw (ne_eqb count 0 some) (simp append_assoc))

pub returns-clause-puts : goal.returns-clause-puts
returns-clause-puts g c =
    let both = c.texts_add_up.ensures.both in
    let two = both _ _ _ _ _ _ _ _ c.in_ok-put.ensures.ok c.in_ok-put-2.ensures.ok in
    then_last both c.put-3.result _ _ _ _ _ _ _ _ _ two c.put-3.ensures.ok
    (line_is c.args.count c.as_bytes.result.now c.if-count-eq0.false (c.as_bytes.ensures.value ∙ c.format.ensures.text))
