use Rattle.std.proofs.Common.{◌≡◌, ◌<◌, ◌^◌, ℕ, Some, [], ◌∷◌, length, slice_get, refl, ap, sym, ◌∙◌, subst, arith, length-append}
use Rattle.std.proofs.lemmas.Option.{slice_get_read, same_Some}
use Rattle.field_policies.specs.declared.field.Field.{Field}
use Rattle.field_edges.proofs.LoopLemmas.{facts_push}
use Rattle.machine_map_tests.proofs.plain.machine_at.Goals as goal

pub loop-n-preserved : goal.loop-n-preserved
loop-n-preserved c =
    let lt : c.loop-n.n < length c.args.map.now.fields.items = omega (arith, c.loop-n-test.true, c.len-n-end.ensures) in
    let at : slice_get c.args.map.now.fields.items c.loop-n.n ≡ Some c.index-field.result.now = slice_get_read _ _ _ _ refl lt c.index-field.ensures in
    let used = ap length c.in_ok-push-2.ensures.items ∙ length-append c.loop-n.used.items _ in
    let known = ap length c.in_ok-push-3.ensures.items ∙ length-append c.loop-n.known.items _ in
    rw c.in_ok-push.ensures.items record {
      values_size = omega (arith, length-append c.loop-n.values.items (c.stored_low-value.result ∷ []), c.loop-n.invariant.values_size);
      used_size = omega (arith, used, c.loop-n.invariant.used_size);
      known_size = omega (arith, known, c.loop-n.invariant.known_size);
      fit = facts_push (λ k (x : ℕ). (f : Field) → slice_get c.args.map.now.fields.items k ≡ Some f → x < 2 ^ f.width) c.loop-n.values.items c.stored_low-value.result c.loop-n.n c.loop-n.invariant.values_size c.loop-n.invariant.fit
          (λ f there. subst (λ (y : Field). c.stored_low-value.result < 2 ^ y.width) (same_Some c.index-field.result.now f (sym at ∙ there)) c.stored_low-value.ensures);
    }
