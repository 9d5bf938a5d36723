use Rattle.std.proofs.Common.{◌≡◌, ◌∙◌, ◌++◌, ℕ, List, [], ap, sym}
use Rattle.pmb_command.specs.Entry.{EntryParts, entry_parts}
use Rattle.pmb_command.specs.Parts.{CommandParts}
use Rattle.pmb_profile_text.specs.Table.{cell, command_cells}
use Rattle.pmb_profile_text.specs.Words.{digits, form_word, kind_word, paged_word}
use Rattle.pmb_profile_text.proofs.Texts.{then}
use Rattle.pmb_profile_text.proofs.command_row.command_cells.Goals as goal

-- the cells of a command, by its entry
cells_of : (command : CommandParts) (e : EntryParts) → command.entry ≡ e
    → cell 5 (digits e.code) ++ (cell 33 e.name
    ++ (cell 6 (form_word e.shape.write) ++ (cell 6 (form_word e.shape.read) ++ (cell 6 (form_word e.shape.call)
    ++ (cell 6 (paged_word e.paged) ++ cell 26 (kind_word e.kind))))))
    ≡ command_cells command
cells_of command e same = ap (λ (x : EntryParts). cell 5 (digits x.code)
    ++ (cell 33 x.name ++ (cell 6 (form_word x.shape.write)
    ++ (cell 6 (form_word x.shape.read) ++ (cell 6 (form_word x.shape.call)
    ++ (cell 6 (paged_word x.paged) ++ cell 26 (kind_word x.kind))))))) (sym same)

pub returns-clause-text : goal.returns-clause-text
returns-clause-text c = λ command same.
    let entry = c.args.entry.now in
    let t0 = c.append_cell.new.row.items in
    let t1 = c.append_cell-2.new.row.items in
    let t2 = c.append_cell-3.new.row.items in
    let t3 = c.append_cell-4.new.row.items in
    let t4 = c.append_cell-5.new.row.items in
    let t5 = c.append_cell-6.new.row.items in
    let t6 = c.append_cell-7.new.row.items in
    let e0 : t0 ≡ cell 5 (digits entry.code) = c.append_cell.ensures.text
    ∙ (ap (λ (t : List ℕ). t ++ cell 5 c.digits_of.result) c.new-row.ensures ∙ ap (cell 5) c.digits_of.ensures) in
    let name = c.as_bytes.ensures.value ∙ c.as_str.ensures.value in
    let e1 : t1 ≡ t0 ++ cell 33 entry.name.bytes = c.append_cell-2.ensures.text
    ∙ ap (λ (w : List ℕ). t0 ++ cell 33 w) name in
    let e2 : t2 ≡ t1 ++ cell 6 (form_word entry.shape.write) = c.append_cell-3.ensures.text
    ∙ ap (λ (w : List ℕ). t1 ++ cell 6 w) c.form_word.ensures.word in
    let e3 : t3 ≡ t2 ++ cell 6 (form_word entry.shape.read) = c.append_cell-4.ensures.text
    ∙ ap (λ (w : List ℕ). t2 ++ cell 6 w) c.form_word-2.ensures.word in
    let e4 : t4 ≡ t3 ++ cell 6 (form_word entry.shape.call) = c.append_cell-5.ensures.text
    ∙ ap (λ (w : List ℕ). t3 ++ cell 6 w) c.form_word-3.ensures.word in
    let e5 : t5 ≡ t4 ++ cell 6 (paged_word entry.paged) = c.append_cell-6.ensures.text
    ∙ ap (λ (w : List ℕ). t4 ++ cell 6 w) c.paged_word.ensures.word in
    let kind = c.as_slice.ensures.value ∙ c.kind_word.ensures.word in
    let e6 : t6 ≡ t5 ++ cell 26 (kind_word entry.kind) = c.append_cell-7.ensures.text
    ∙ ap (λ (w : List ℕ). t5 ++ cell 26 w) kind in
    then [] t0 t6 _ _ e0
    (then t0 t1 t6 _ _ e1
    (then t1 t2 t6 _ _ e2
    (then t2 t3 t6 _ _ e3
    (then t3 t4 t6 _ _ e4
    (then t4 t5 t6 _ _ e5 e6)))))
    ∙ cells_of command (entry_parts entry) same
