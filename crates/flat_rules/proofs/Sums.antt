-- Sums of sizes, and places of nets.
use Rattle.std.proofs.Common.{◌≡◌, ◌⊎◌, inl, inr, ℕ, ◌+◌, ◌*◌, ◌^◌, ◌≤◌, ◌<◌, ◌≢◌, Bool, true, false, ◌&&◌, ◌==◌, min, List, [], ◌∷◌, map, sum, length, refl, sym, ◌∙◌, ap, subst, arith}
use Rattle.std.specs.Prelude.{nat_le, if◌then◌else◌}
use Rattle.std.proofs.Math.Nat.{mul-le-mul_right}
use Rattle.std.proofs.lemmas.Bool.{cases_lt, ne_eqb}
use Rattle.std.proofs.lemmas.Bool.Decides.{nat_tests}
use Rattle.bit_base.specs.Numbers.{number_of, sign_of}
use Rattle.bit_base.proofs.Numbers.{number_of-below}
use Rattle.flat_design.specs.declared.net.Net.{Net}
use Rattle.flat_design.specs.declared.expr.FlatExpr.{FlatExpr}
use Rattle.flat_design.specs.Bits.{offset_of, Offset}
use Rattle.flat_rules.specs.Rules.{rules, lies_in}
use Rattle.flat_rules.proofs.Nodes.{own_is}

pub sizes_are : (nets : List Net) (parts : List FlatExpr) → map (λ p. p.size) (map (rules nets) parts) ≡ map (λ p. p.size) parts
sizes_are nets [] = refl
sizes_are nets (e ∷ parts) = λ i. ap (λ o. o.size) (sym (own_is nets e)) i ∷ sizes_are nets parts i

above : (count s : ℕ) → 1 ≤ count → s ≤ count * s
above count s h = omega (arith, mul-le-mul_right {m = 1} {n = count} s h)

pub same_product : (size count s : ℕ) → 1 ≤ count → size < 2 ^ 32 → (size == count * min s (2 ^ 32)) ≡ (size == count * s)
same_product size count s h k = elim (cases_lt s (2 ^ 32)) [
  | inl less ↦ ap (λ t. size == count * t) (omega arith)
  | inr more ↦ ne_eqb size (count * min s (2 ^ 32)) (λ e. let a = above count (min s (2 ^ 32)) h in omega arith) ∙ sym (ne_eqb size (count * s) (λ e. let a = above count s h in omega arith))
]

-- ---- an index below 0 lies in no net

under : (lsb n number : ℕ) (rest : Bool) → number < n → false ≡ (nat_le (lsb + n) number && rest)
under lsb n number rest h = grind (arith, nat_tests)

pub negative_out : (net : Net) (width : ℕ) (signed : Bool) (bits : List Bool) → signed ≡ true → sign_of bits ≡ true → false ≡ lies_in net width (offset_of signed bits net.lsb)
negative_out net width signed bits h k =
    let e : signed && sign_of bits ≡ true = ap (λ b. b && sign_of bits) h ∙ k in
    let P : Bool → Type 0 = λ b. false ≡ lies_in net width (if b then (number_of bits, net.lsb + 2 ^ length bits) else (number_of bits, net.lsb)) in
    subst P (sym e) (under net.lsb (2 ^ length bits) (number_of bits) _ (number_of-below bits))
