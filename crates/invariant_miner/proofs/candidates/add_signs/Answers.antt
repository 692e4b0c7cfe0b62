use Rattle.std.proofs.Common.{◌∙◌, Bool, List, map}
use Rattle.invariant_miner.specs.Samples.{in_all_rows}
use Rattle.invariant_miner.specs.Candidates.{plain, negated, pair_clause, pair_clauses}
use Rattle.invariant_miner.proofs.ListedLemmas.{four_new}
use Rattle.invariant_miner.proofs.candidates.add_signs.Goals as goal

pub returns : goal.returns
unfolding pair_clauses
returns c =
    let all : (List Bool → Bool) → Bool = in_all_rows (map (λ v. v.items) c.args.rows.now) in
    c.in_ok-add_pair-4.ensures ∙ rw (c.in_ok-add_pair-3.ensures, c.in_ok-add_pair-2.ensures, c.in_ok-add_pair.ensures, c.plain.ensures, c.plain-2.ensures, c.plain-3.ensures, c.plain-4.ensures, c.negated.ensures, c.negated-2.ensures, c.negated-3.ensures, c.negated-4.ensures)
    (four_new c.args.list.now.items (pair_clause all (plain c.args.a) (plain c.args.b)) (pair_clause all (plain c.args.a) (negated c.args.b)) (pair_clause all (negated c.args.a) (plain c.args.b)) (pair_clause all (negated c.args.a) (negated c.args.b)))
