use Rattle.std.proofs.Common.{◌≡◌, ℕ, ◌<◌, ◌≤◌, List, [], ◌∷◌, ◌++◌, length, get_or, subst, arith, drop_of_length-le}
use Rattle.field_policies.specs.declared.field.Field.{Field}
use Rattle.map_report.specs.Reports.{field_line}
use Rattle.map_report.proofs.Reporting.{all_written, one_line}
use Rattle.map_report.proofs.lines.map_report.Goals as goal

pub loop-field-preserved : goal.loop-field-preserved
loop-field-preserved c =
    let same = c.deref-field-items.ensures.value in
    one_line c.args.map.now.words.items c.args.map.now.fields.items c.loop-field.field-index c.field-item.result c.policy_of-policy.result c.loop-field.text.items c.push_line.new.text.items
    (subst (λ (fs : List Field). c.loop-field.field-index < length fs) same c.loop-field-test.true)
    (subst (λ (fs : List Field). c.field-item.result ≡ get_or fs c.loop-field.field-index c.field-item.result) same c.field-item.is)
    c.policy_of-policy.ensures.named
    (subst (λ (words : List ℕ). c.push_line.new.text.items ≡ c.loop-field.text.items ++ (field_line words c.field-item.result c.policy_of-policy.result ++ 10 ∷ [])) c.as_slice-words.ensures.value c.in_ok-push_line.ensures)
    c.loop-field.invariant

pub returns : goal.returns
returns c =
    let same = c.deref-field-items.ensures.value in
    all_written c.args.map.now.words.items c.args.map.now.fields.items c.loop-field.field-index c.loop-field.text.items
    (drop_of_length-le c.args.map.now.fields.items (omega (arith, subst (λ (fs : List Field). length fs ≤ c.loop-field.field-index) same c.loop-field-test.false))) c.loop-field.invariant
