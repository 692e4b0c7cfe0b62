use Rattle.std.proofs.Common.{◌≡◌, ℕ, ◌*◌, Bool, true, false, ◌&&◌, ◌==◌, List, map, sum, sym, ◌∙◌, ap}
use Rattle.std.specs.Prelude.{nat_le, not}
use Rattle.flat_design.specs.declared.net.Net.{Net}
use Rattle.flat_design.specs.declared.expr.FlatExpr.{FlatExpr}
use Rattle.flat_rules.specs.Rules.{rules, join_rule}
use Rattle.flat_rules.proofs.Sums.{sizes_are}
use Rattle.flat_rules.proofs.rule.join_rule.Goals as goal

-- the rule of a join by the sizes that stand in its parts
by_sizes : (nets : List Net) (parts : List FlatExpr) (count size : ℕ) (signed : Bool) → (nat_le 1 count && (size == count * sum (map (λ p. p.size) parts))) && not signed ≡ join_rule count (map (rules nets) parts) size signed
by_sizes nets parts count size signed = ap (λ ss. (nat_le 1 count && (size == count * sum ss)) && not signed) (sym (sizes_are nets parts))

pub returns-then-is_product : goal.returns-then-is_product
returns-then-is_product c nets =
    ap (λ b. b && not c.args.it.signed) (sym c.if-is_product.true ∙ c.is_product-is_product.ensures (sum (map (λ p. p.size) c.args.parts.now)) c.sizes_of.ensures)
    ∙ by_sizes nets c.args.parts.now c.args.count c.args.it.size c.args.it.signed

out : (a b r : Bool) → r ≡ false → r ≡ a → r ≡ a && b
out true b r h k = cc
out false b r h k = k

pub returns-else-is_product : goal.returns-else-is_product
returns-else-is_product c nets =
    out _ (not c.args.it.signed) c.is_product-is_product.result c.if-is_product.false (c.is_product-is_product.ensures (sum (map (λ p. p.size) c.args.parts.now)) c.sizes_of.ensures)
    ∙ by_sizes nets c.args.parts.now c.args.count c.args.it.size c.args.it.signed
