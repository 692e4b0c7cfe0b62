use Rattle.std.proofs.Common.{◌≡◌, true, false, Some, ap, sym, ◌∙◌}
use Rattle.std.specs.Str.{bytes_eq}
use Rattle.cert_text.specs.Lines.{each_of, literal_of, are_apart}
use Rattle.cert_text.proofs.WordLemmas.{clause_without_words, clause_of_other, clause_without_literals, clause_if_apart, apart_of, clause_below, clause_few, not_was, not_is}
use Rattle.cert_text.proofs.clauses.clause_of.Goals as goal

pub returns-in_default-clause-clause : goal.returns-in_default-clause-clause
returns-in_default-clause-clause c = clause_without_words c.args.latches c.args.line.now (sym c.new-words.ensures ∙ c.in_default.ensures)

pub returns-then-ne-clause-clause : goal.returns-then-ne-clause-clause
returns-then-ne-clause-clause c =
    clause_of_other c.args.latches c.args.line.now c.in-Some.word.now c.next_word.new.self (sym c.new-words.ensures ∙ c.in-Some.ensures)
    (ap (bytes_eq c.in-Some.word.now) (sym c.as_slice.ensures) ∙ not_is _ (sym c.ne.ensures ∙ c.if-ne.true))

pub returns-in_default-2-clause-clause : goal.returns-in_default-2-clause-clause
returns-in_default-2-clause-clause c =
    clause_without_literals c.args.latches c.args.line.now c.in-Some.word.now c.next_word.new.self (sym c.new-words.ensures ∙ c.in-Some.ensures)
    (ap (bytes_eq c.in-Some.word.now) (sym c.as_slice.ensures) ∙ not_was _ (sym c.ne.ensures ∙ c.if-ne.false))
    (sym (rw c.in_default-2.is at c.in_ok-literals.ensures))

pub of-requires : goal.of-requires
of-requires c = record { apart = apart_of c.in-Some-2.literals.items (sym (ap are_apart c.as_slice-2.ensures.value) ∙ (sym c.in_ok-are_apart.ensures ∙ c.if-branch.true)) }

pub returns-then-branch-clause-clause : goal.returns-then-branch-clause-clause
returns-then-branch-clause-clause c =
    let d : Some c.in-Some-2.literals.items ≡ each_of (literal_of c.args.latches) c.next_word.new.self = rw c.in-Some-2.is at c.in_ok-literals.ensures in
    ap Some c.of.ensures
    ∙ clause_if_apart c.args.latches c.args.line.now c.in-Some.word.now c.next_word.new.self c.in-Some-2.literals.items true (sym c.new-words.ensures ∙ c.in-Some.ensures)
    (ap (bytes_eq c.in-Some.word.now) (sym c.as_slice.ensures) ∙ not_was _ (sym c.ne.ensures ∙ c.if-ne.false))
    (sym d) (sym (ap are_apart c.as_slice-2.ensures.value) ∙ (sym c.in_ok-are_apart.ensures ∙ c.if-branch.true))

pub returns-then-branch-clause-of : goal.returns-then-branch-clause-of
returns-then-branch-clause-of c =
    let d : Some c.in-Some-2.literals.items ≡ each_of (literal_of c.args.latches) c.next_word.new.self = rw c.in-Some-2.is at c.in_ok-literals.ensures in
    rw c.of.ensures (clause_below c.args.latches c.next_word.new.self c.in-Some-2.literals.items (sym d))

pub returns-then-branch-clause-few : goal.returns-then-branch-clause-few
returns-then-branch-clause-few c =
    let d : Some c.in-Some-2.literals.items ≡ each_of (literal_of c.args.latches) c.next_word.new.self = rw c.in-Some-2.is at c.in_ok-literals.ensures in
    rw c.of.ensures (clause_few c.args.latches c.args.line.now c.in-Some.word.now c.next_word.new.self c.in-Some-2.literals.items (sym c.new-words.ensures ∙ c.in-Some.ensures) (sym d))

pub returns-else-branch-clause-clause : goal.returns-else-branch-clause-clause
returns-else-branch-clause-clause c =
    let d : Some c.in-Some-2.literals.items ≡ each_of (literal_of c.args.latches) c.next_word.new.self = rw c.in-Some-2.is at c.in_ok-literals.ensures in
    clause_if_apart c.args.latches c.args.line.now c.in-Some.word.now c.next_word.new.self c.in-Some-2.literals.items false (sym c.new-words.ensures ∙ c.in-Some.ensures)
    (ap (bytes_eq c.in-Some.word.now) (sym c.as_slice.ensures) ∙ not_was _ (sym c.ne.ensures ∙ c.if-ne.false))
    (sym d) (sym (ap are_apart c.as_slice-2.ensures.value) ∙ (sym c.in_ok-are_apart.ensures ∙ c.if-branch.false))
