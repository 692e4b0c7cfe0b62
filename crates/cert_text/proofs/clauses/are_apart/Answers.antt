use Rattle.std.proofs.Common.{◌≡◌, ◌+◌, ◌-◌, ◌<◌, true, false, nat_eq, ◌==◌, ◌∷◌, length, drop, get_or, sym, ◌∙◌, subst, arith}
use Rattle.std.specs.List.{list_any}
use Rattle.std.specs.HashSet.{contains}
use Rattle.cert_text.specs.Lines.{code_of}
use Rattle.std.proofs.lemmas.List.{drop_more}
use Rattle.unroll_cnf.specs.declared.latch_literal.LatchLiteral.{LatchLiteral}
use Rattle.cert_text.proofs.WordLemmas.{apart_fails, not_was}
use Rattle.cert_text.proofs.clauses.are_apart.Goals as goal

pub returns-then-not-branch : goal.returns-then-not-branch
returns-then-not-branch c =
    let k = c.loop-left.left - 1 in
    let l : LatchLiteral = get_or c.args.literals.now k (record { latch = 0; negated = false }) in
    let lt : k < length c.args.literals.now = omega arith in
    let next : k + 1 ≡ c.loop-left.left = omega arith in
    let there : contains nat_eq c.loop-left.seen c.code_of.result ≡ true = not_was _ (sym c.in_ok-insert.ensures.added ∙ c.if-not-branch.true) in
    apart_fails c.args.literals.now k c.loop-left.left l (subst (λ m. drop k c.args.literals.now ≡ l ∷ drop m c.args.literals.now) next (drop_more c.args.literals.now k (record { latch = 0; negated = false }) lt))
    (subst (λ q. list_any (λ m. code_of m == q) (drop c.loop-left.left c.args.literals.now) ≡ true) c.code_of.ensures (sym (c.loop-left.invariant.seen c.code_of.result) ∙ there))
