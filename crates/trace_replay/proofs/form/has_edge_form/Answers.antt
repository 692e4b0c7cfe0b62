use Rattle.std.proofs.Common.{sym, ◌∙◌, ap, map, List, ℕ}
use Rattle.std.specs.Borrow.{Bor}
use Rattle.trace_replay.proofs.FormLemmas.{edge-blanks, edge-words}
use Rattle.trace_replay.proofs.form.has_edge_form.Goals as goal

pub returns-then-blanks-ne6 : goal.returns-then-blanks-ne6
returns-then-blanks-ne6 c = sym (edge-blanks c.args.line.now (λ same. c.if-blanks-ne6.true (c.blanks.ensures ∙ same)))

pub returns-in-len1-up : goal.returns-in-len1-up
returns-in-len1-up c =
    c.are_fields.ensures
    ∙ edge-words c.args.line.now c.as_slice.result.now _ (sym c.blanks.ensures ∙ c.if-blanks-ne6.false)
    (ap (map (λ (w : Bor (List ℕ)). w.now)) c.as_slice.ensures.value ∙ c.in_ok-words.ensures)
    c.in-len1-up.len_at_least (rw c.as_slice-2.ensures at (sym c.if-eq.ensures))
