-- Two bytes are one word.
use Rattle.std.proofs.Common.{◌≡◌, ◌+◌, ◌*◌, ℕ, List, [], ◌∷◌, length, get_or, ap, ◌∙◌, arith}
use Rattle.pmb_command.specs.declared.entry.Kind.{Kind}
use Rattle.pmb_json_fields.specs.declared.basis.Basis.{Basis}
use Rattle.pmb_observed.specs.Observing.{number_of, word_number}
use Rattle.pmb_stats.proofs.word.number_of.Goals as goal
use Rattle.pmb_voltage.specs.Voltage.{VoltagesData, voltages_data}

two_bytes : (voltages : VoltagesData) (basis : Basis) (code : ℕ) (kind : Kind) (word : ℕ) (bytes : List ℕ)
    → length bytes ≡ 2 → word ≡ get_or bytes 0 0 + 256 * get_or bytes 1 0
    → word_number voltages basis code kind word ≡ number_of voltages basis code kind bytes
two_bytes voltages basis code kind word [] two is = absurd (omega (arith, two))
two_bytes voltages basis code kind word (a ∷ []) two is = absurd (omega (arith, two))
two_bytes voltages basis code kind word (low ∷ high ∷ []) two is = ap (word_number voltages basis code kind) is
two_bytes voltages basis code kind word (a ∷ b ∷ c ∷ bytes) two is = absurd (omega (arith, two))

pub returns-in-len2 : goal.returns-in-len2
returns-in-len2 c =
    let word : c.from_le_bytes.result ≡ get_or c.args.bytes.now 0 0 + 256 * get_or c.args.bytes.now 1 0 =
    omega (arith, c.from_le_bytes.ensures) in
    c.word_number.ensures
    ∙ two_bytes (voltages_data c.args.voltages.now) c.args.basis c.args.code c.args.kind c.from_le_bytes.result
    c.args.bytes.now (omega (arith, c.in-len2.len_at_least, c.in-len2.len_below)) word
