use Rattle.std.proofs.Common.{◌≡◌, ℕ, ◌+◌, ◌-◌, ◌≤◌, length, take, drop, sym, ap, subst, ◌∙◌, arith, length-drop}
use Rattle.std.proofs.lemmas.List.{take_rest}
use Rattle.pmb_command.specs.Wire.{AreByteValues, Fits, wire, wire_length}
use Rattle.pmb_canonical.specs.Codes.{code_behind}
use Rattle.pmb_canonical.proofs.Wires.{code_there, data_said, small-drop, small_items, within}
use Rattle.pmb_canonical.proofs.checked.data_from.Goals as goal

pub returns-in_err-pec-clause-found : goal.returns-in_err-pec-clause-found
returns-in_err-pec-clause-found c data_bytes with_pec fits mode stand =
    let bytes = c.args.bytes.now in
    let from = c.args.from in
    let len = c.wire_length-len.result in
    let piece = take (length bytes - from) (drop from bytes) in
    let same : piece ≡ drop from bytes = take_rest bytes from in
    let told : len ≡ wire_length c.args.form (drop from bytes) = c.wire_length-len.ensures.length
    ∙ ap (wire_length c.args.form) same in
    let code = code_there c.args.form bytes from len with_pec data_bytes fits told stand in
    let here : take (length piece - len) (drop len piece) ≡ code_behind with_pec (take (from + len) bytes) =
    take_rest piece len ∙ ap (drop len) same ∙ code in
    absurd (cc (c.in_err-pec.ensures.found with_pec here))

pub data_within-requires : goal.data_within-requires
data_within-requires c =
    let bytes = c.args.bytes.now in
    let from = c.args.from in
    let len = c.wire_length-len.result in
    let piece = take (length bytes - from) (drop from bytes) in
    let same : piece ≡ drop from bytes = take_rest bytes from in
    let told : len ≡ wire_length c.args.form (drop from bytes) = c.wire_length-len.ensures.length
    ∙ ap (wire_length c.args.form) same in
    let there : len ≤ length (drop from bytes) = omega (arith, length-drop from bytes, ap length same) in
    let small : AreByteValues bytes = small_items bytes (λ k. omega (arith, c.type_inv.bytes k)) in
    let found =
    within c.args.form (drop from bytes) (small-drop from bytes small)
    (subst (λ (n : ℕ). n ≤ length (drop from bytes)) told there) in
    (found.data_bytes, ap (take len) same ∙ ap (λ (n : ℕ). take n (drop from bytes)) told ∙ found.spelled)

pub returns-clause-says : goal.returns-clause-says
returns-clause-says c =
    let bytes = c.args.bytes.now in
    let from = c.args.from in
    let len = c.wire_length-len.result in
    let piece = take (length bytes - from) (drop from bytes) in
    let same : piece ≡ drop from bytes = take_rest bytes from in
    let told : len ≡ wire_length c.args.form (drop from bytes) = c.wire_length-len.ensures.length
    ∙ ap (wire_length c.args.form) same in
    let there : len ≤ length (drop from bytes) = omega (arith, length-drop from bytes, ap length same) in
    let small : AreByteValues bytes = small_items bytes (λ k. omega (arith, c.type_inv.bytes k)) in
    let found =
    within c.args.form (drop from bytes) (small-drop from bytes small)
    (subst (λ (n : ℕ). n ≤ length (drop from bytes)) told there) in
    let front : take len (drop from bytes) ≡ wire c.args.form found.data_bytes =
    ap (λ (n : ℕ). take n (drop from bytes)) told ∙ found.spelled in
    let is : c.data_within.result.now ≡ found.data_bytes = c.data_within.ensures found.data_bytes
    (ap (take len) same ∙ front) in
    let code : drop len (drop from bytes) ≡ code_behind c.in_ok-pec.pec (take (from + len) bytes) =
    ap (drop len) (sym same) ∙ sym (take_rest piece len) ∙ c.in_ok-pec.ensures.says in
    let fits : Fits c.args.form c.data_within.result.now = subst (Fits c.args.form) (sym is) found.fits in
    let wired : take len (drop from bytes) ≡ wire c.args.form c.data_within.result.now = front
    ∙ ap (wire c.args.form) (sym is) in (
      fits,
      c.allows.ensures.0 c.if-not-allows.false,
      data_said c.args.form bytes from len c.in_ok-pec.pec c.data_within.result.now wired code,
    )
