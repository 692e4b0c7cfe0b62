use Rattle.std.proofs.Common.{◌≡◌, true, false, Some, slice_get, refl, sym, ◌∙◌, subst, below_more, arith, List}
use Rattle.std.proofs.lemmas.Option.{same_Some}
use Rattle.field_policies.specs.declared.policy.PolicyRow.{PolicyRow}
use Rattle.field_policies.specs.declared.policy.Policy.{Policy}
use Rattle.field_policies.specs.Policies.{HasRow, HasPolicy}
use Rattle.field_policies.proofs.PolicyLemmas.{one_found, none_found}
use Rattle.field_policies.proofs.table.policy_of.Goals as goal

pub loop-i-preserved : goal.loop-i-preserved
loop-i-preserved c = below_more _ _ c.loop-i.invariant
    (λ r at h. let yes : c.has_row.result ≡ true = c.has_row.ensures.1 (subst (HasRow c.args.field.now) (same_Some _ _ (sym at ∙ c.row-row.ensures)) h) in
    let clash : true ≡ false = sym yes ∙ c.if-has_row.false in cc)

pub returns-then-has_row-clause-named : goal.returns-then-has_row-clause-named
returns-then-has_row-clause-named c = one_found c.args.field.now c.loop-i.i _ (subst (λ (rows : List PolicyRow). slice_get rows c.loop-i.i ≡ Some c.row-row.result) c.policy_table-table.ensures c.row-row.ensures)
    (c.has_row.ensures.0 c.if-has_row.true)

pub returns-then-has_row-clause-unnamed : goal.returns-then-has_row-clause-unnamed
returns-then-has_row-clause-unnamed c = (
  λ e. cc,
  λ none. absurd (none c.row-row.result.policy ((one_found c.args.field.now c.loop-i.i c.row-row.result (subst (λ (rows : List PolicyRow). slice_get rows c.loop-i.i ≡ Some c.row-row.result) c.policy_table-table.ensures c.row-row.ensures)
      (c.has_row.ensures.0 c.if-has_row.true) c.row-row.result.policy).0 refl)),
)

-- every row was passed
nothing : (c : goal.After-loop-i) → (p : Policy) → HasPolicy c.args.field.now p → ⊥
nothing c = none_found c.args.field.now (λ k lt r at h. c.loop-i.invariant k (omega (arith, lt, c.loop-i-test.false)) r (subst (λ (rows : List PolicyRow). slice_get rows k ≡ Some r) (sym c.policy_table-table.ensures) at) h)

pub returns-clause-named : goal.returns-clause-named
returns-clause-named c = λ p. (λ e. cc, λ h. absurd (nothing c p h))

pub returns-clause-unnamed : goal.returns-clause-unnamed
returns-clause-unnamed c = (λ e. nothing c, λ none. refl)
