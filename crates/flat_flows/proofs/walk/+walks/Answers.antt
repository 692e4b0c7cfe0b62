use Rattle.std.proofs.Common.{◌≡◌, ◌∙◌, ◌+◌, ◌++◌, ◌||◌, ◌&&◌, not, ℕ, List, refl, sym, ap, subst, map, drop, arith}
use Rattle.std.specs.Prelude.{IfOk, MatchOption, false}
use Rattle.std.proofs.Math.ListN.{drop_of_length-le}
use Rattle.flat_design.specs.declared.stmt.FlatStmt.TheVariants as s
use Rattle.flat_design.specs.Flows as spec
use Rattle.flat_design.specs.Reads.{reads}
use Rattle.flat_orders.specs.Orders.{among}
use Rattle.flat_flows.specs.declared.found.Found.{Found}
use Rattle.flat_flows.specs.Tables.{in_table}
use Rattle.flat_flows.specs.Walks.{Fixes, Adds, Walked}
use Rattle.flat_flows.specs.Arms.{arm_before, arms_before, other_flow, is_closed, default_flow}
use Rattle.flat_flows.proofs.ReadNodes.{rest_of, rest_before, no_rest, none_in}
use Rattle.flat_flows.proofs.FlowNodes.{flow_Block, flow_Assign, flow_If, flow_Case}
use Rattle.flat_flows.proofs.WalkLemmas.{adds_same, fixes_same, sure_more, row_more, row_end, sure_back, if_walked, case_walked, if_ok_map, if_ok_both, match_map}
use Rattle.flat_flows.proofs.walk.+walks.Goals as goal

pub walk_all-loop-s-preserved : goal.walk_all-loop-s-preserved
walk_all-loop-s-preserved t c =
    let own : List ℕ = c.in_ok-more.more.items in
    let is : c.extend_from_slice.new.self.items ≡ c.loop-s.fixed.items ++ own = c.in_ok-extend_from_slice.ensures.items ∙ ap (λ l. c.loop-s.fixed.items ++ l) c.as_slice-in-loop-s.ensures.value in
    let added : (i : ℕ) → in_table c.add_all.new.self i ≡ (in_table c.walk_stmt.new.sure i || among i own) = λ i. c.in_ok-add_all.ensures i ∙ ap (λ l. in_table c.walk_stmt.new.sure i || among i l) c.as_slice.ensures.value in
    let rest = rest_of c.args.body.now c.loop-s.s-index c.s-item.result c.loop-s-test.true c.s-item.is in
    record {
      sure = λ i. sure_more c.args.sure.now c.loop-s.sure c.walk_stmt.new.sure c.add_all.new.self c.loop-s.fixed.items own i (c.loop-s.invariant.sure i) (c.in_ok-more.ensures.sure i) (added i) ∙ ap (λ l. in_table c.args.sure.now i || among i l) (sym is);
      walked = λ final more ends.
          subst (λ (l : List ℕ). Walked (spec.all_before (map (spec.flow c.args.nets.now) c.args.body.now)) c.args.sure.now c.args.found.now final (l ++ more)) (sym is)
          (row_more (spec.flow c.args.nets.now c.s-item.result) (spec.all_before (map (spec.flow c.args.nets.now) (drop (c.loop-s.s-index + 1) c.args.body.now))) (spec.all_before (map (spec.flow c.args.nets.now) c.args.body.now))
          c.args.sure.now c.loop-s.sure c.walk_stmt.new.sure c.add_all.new.self c.args.found.now c.loop-s.found c.walk_stmt.new.found final c.loop-s.fixed.items own more
          (λ final more w. c.loop-s.invariant.walked final more (subst (λ (f : spec.Flow). Walked f c.loop-s.sure c.loop-s.found final more) (ap (λ l. spec.all_before (map (spec.flow c.args.nets.now) l)) (sym rest)) w))
          c.in_ok-more.ensures.walked c.in_ok-more.ensures.sure added ends);
    }

pub walk_all-returns-clause-walked : goal.walk_all-returns-clause-walked
walk_all-returns-clause-walked t c =
    row_end (spec.all_before (map (spec.flow c.args.nets.now) c.args.body.now)) c.args.sure.now c.loop-s.sure c.args.found.now c.loop-s.found c.loop-s.fixed.items
    (λ end more w. c.loop-s.invariant.walked end more (subst (λ (f : spec.Flow). Walked f c.loop-s.sure c.loop-s.found end more) (ap (λ l. spec.all_before (map (spec.flow c.args.nets.now) l)) (sym (drop_of_length-le c.args.body.now c.loop-s-test.false))) w))

pub walk_all-returns-clause-sure : goal.walk_all-returns-clause-sure
walk_all-returns-clause-sure t c i =
    let w = walk_all-returns-clause-walked t c in
    c.remove_all.ensures i ∙ ap (λ l. in_table c.loop-s.sure i && not (among i l)) c.as_slice-2.ensures.value
    ∙ sure_back (spec.all_before (map (spec.flow c.args.nets.now) c.args.body.now)) c.args.sure.now c.loop-s.sure c.loop-s.fixed.items i (c.loop-s.invariant.sure i) w.fixes

pub walk_arms-loop-i-preserved : goal.walk_arms-loop-i-preserved
walk_arms-loop-i-preserved t c = record {
  none = λ none. absurd (cc none);
  sure = λ i. c.in_ok-fixed.ensures.sure i ∙ c.loop-i.invariant.sure i;
  adds = λ g first h.
      let rest : spec.Flow = arms_before c.args.nets.now (drop c.loop-i.i c.args.arms.now) g in
      subst (λ l. Adds (arms_before c.args.nets.now l g) c.args.sure.now first c.walk_arm.new.found) (sym (rest_before c.args.arms.now c.loop-i.i c.index-arms-i.result c.loop-i-test.true c.loop-i.auto.i c.index-arms-i.is))
      (adds_same (arm_before c.args.nets.now c.index-arms-i.result rest) c.args.sure.now c.loop-i.sure first c.walk_arm.new.found c.loop-i.invariant.sure
      (c.in_ok-fixed.ensures.adds rest first (adds_same rest c.loop-i.sure c.args.sure.now first c.loop-i.found (λ i. sym (c.loop-i.invariant.sure i)) (c.loop-i.invariant.adds g first h))));
  fixes = λ g h.
      let rest : spec.Flow = arms_before c.args.nets.now (drop c.loop-i.i c.args.arms.now) g in
      subst (λ l. Fixes (arms_before c.args.nets.now l g) c.args.sure.now c.in_ok-fixed.fixed.items) (sym (rest_before c.args.arms.now c.loop-i.i c.index-arms-i.result c.loop-i-test.true c.loop-i.auto.i c.index-arms-i.is))
      (fixes_same (arm_before c.args.nets.now c.index-arms-i.result rest) c.args.sure.now c.loop-i.sure c.in_ok-fixed.fixed.items c.loop-i.invariant.sure
      (c.in_ok-fixed.ensures.fixes rest (match_map c.loop-i.rest _ _ _ (λ r f. fixes_same rest c.loop-i.sure c.args.sure.now r.items (λ i. sym (c.loop-i.invariant.sure i)) f) (c.loop-i.invariant.fixes g h))));
}

pub walk_arms-returns-in-None-clause-adds : goal.walk_arms-returns-in-None-clause-adds
walk_arms-returns-in-None-clause-adds t c g first h =
    subst (λ l. Adds (arms_before c.args.nets.now l g) c.args.sure.now first c.loop-i.found) (no_rest c.args.arms.now c.loop-i.i c.loop-i-test.false) (c.loop-i.invariant.adds g first h)

pub walk_arms-returns-in-Some-clause-adds : goal.walk_arms-returns-in-Some-clause-adds
walk_arms-returns-in-Some-clause-adds t c g first h =
    subst (λ l. Adds (arms_before c.args.nets.now l g) c.args.sure.now first c.loop-i.found) (no_rest c.args.arms.now c.loop-i.i c.loop-i-test.false) (c.loop-i.invariant.adds g first h)

pub walk_arms-returns-in-None-clause-fixes : goal.walk_arms-returns-in-None-clause-fixes
walk_arms-returns-in-None-clause-fixes t c g h = let n = c.loop-i.invariant.none c.in-None.is in absurd (c.requires n.0 (none_in c.args.arms.now (omega (arith, n.1))))

pub walk_arms-returns-in-Some-clause-fixes : goal.walk_arms-returns-in-Some-clause-fixes
walk_arms-returns-in-Some-clause-fixes t c g h =
    subst (λ l. Fixes (arms_before c.args.nets.now l g) c.args.sure.now c.in-Some.fixed.items) (no_rest c.args.arms.now c.loop-i.i c.loop-i-test.false)
    (subst (λ o. MatchOption o ((i : ℕ) → (arms_before c.args.nets.now (drop c.loop-i.i c.args.arms.now) g).leaves i ≡ false) (λ r. Fixes (arms_before c.args.nets.now (drop c.loop-i.i c.args.arms.now) g) c.args.sure.now r.items)) c.in-Some.is (c.loop-i.invariant.fixes g h))

pub walk_stmt-returns-in-Block-clause-walked : goal.walk_stmt-returns-in-Block-clause-walked
walk_stmt-returns-in-Block-clause-walked t c =
    subst (λ (f : spec.Flow). IfOk c.walk_all.result (λ fixed. Walked f c.args.sure.now c.args.found.now c.walk_all.new.found fixed.items))
    (ap (λ l. spec.all_before (map (spec.flow c.args.nets.now) l)) c.as_slice.ensures ∙ sym (flow_Block c.args.nets.now c.args.s.now c.in-Block.body c.in-Block.is)) c.walk_all.ensures.walked

pub walk_stmt-returns-in-Assign-clause-walked : goal.walk_stmt-returns-in-Assign-clause-walked
walk_stmt-returns-in-Assign-clause-walked t c =
    subst (λ (f : spec.Flow). IfOk c.walk_assign.result (λ fixed. Walked f c.args.sure.now c.args.found.now c.walk_assign.new.found fixed.items))
    (ap (λ l. spec.assign_flow c.args.nets.now l c.in-Assign.value c.in-Assign.later) c.as_slice-in-Assign.ensures ∙ sym (flow_Assign c.args.nets.now c.args.s.now c.in-Assign.left c.in-Assign.value c.in-Assign.later c.in-Assign.is)) c.walk_assign.ensures

pub walk_stmt-returns-in_ok-second-in-If-clause-walked : goal.walk_stmt-returns-in_ok-second-in-If-clause-walked
walk_stmt-returns-in_ok-second-in-If-clause-walked t c =
    let m1 : Found = record { reads = c.add_reads.new.into; drives = c.args.found.now.drives } in
    if_ok_map c.common.result _ _
    (λ both h.
    subst (λ (f : spec.Flow). Walked f c.args.sure.now c.args.found.now c.walk_other.new.found both.items)
    (sym (flow_If c.args.nets.now c.args.s.now c.in-If.test c.get.result.now c.in-If.no (c.in-If.is ∙ ap (λ x. s.If c.in-If.test x c.in-If.no) (sym c.get.ensures))))
    (if_walked (reads c.args.nets.now c.in-If.test) (spec.flow c.args.nets.now c.get.result.now) (other_flow c.args.nets.now c.in-If.no) c.args.sure.now c.walk_stmt.new.sure c.walk_other.new.sure
    c.args.found.now m1 c.walk_stmt.new.found c.walk_other.new.found c.in_ok-first-in-If.first.items c.in_ok-second-in-If.second.items both.items
    c.in_ok-add_reads-in-If.ensures refl c.in_ok-first-in-If.ensures.walked c.in_ok-first-in-If.ensures.sure c.in_ok-second-in-If.ensures.walked c.in_ok-second-in-If.ensures.sure
    (λ i. h i ∙ (λ j. among i (c.as_slice-in-If-2.ensures.value j) && (in_table c.walk_other.new.sure i || among i (c.as_slice-in-If.ensures.value j))))))
    c.common.ensures.both

pub walk_stmt-returns-in_ok-last-in-Case-clause-walked : goal.walk_stmt-returns-in_ok-last-in-Case-clause-walked
walk_stmt-returns-in_ok-last-in-Case-clause-walked t c =
    let m1 : Found = record { reads = c.add_reads-in-Case.new.into; drives = c.args.found.now.drives } in
    let d : spec.Flow = default_flow c.args.nets.now c.in_ok-closed-in-Case.closed c.in-Case.other in
    let whole : spec.Flow = arms_before c.args.nets.now c.as_slice-in-Case-2.result.now d in
    let closed = c.in_ok-closed-in-Case.ensures.closed c.args.nets.now ∙ ap (λ l. is_closed c.args.nets.now c.in-Case.selector l c.in-Case.other) c.as_slice-in-Case.ensures in
    let is : spec.before (spec.reading (reads c.args.nets.now c.in-Case.selector)) whole ≡ spec.flow c.args.nets.now c.args.s.now =
    (λ j. spec.before (spec.reading (reads c.args.nets.now c.in-Case.selector)) (arms_before c.args.nets.now (c.as_slice-in-Case-2.ensures j) (default_flow c.args.nets.now (closed j) c.in-Case.other)))
    ∙ sym (flow_Case c.args.nets.now c.args.s.now c.in-Case.selector c.in-Case.arms c.in-Case.other c.in-Case.is) in
    if_ok_both c.walk_arms.result _ _ _
    (λ fixed adds fixes.
    subst (λ (f : spec.Flow). Walked f c.args.sure.now c.args.found.now c.walk_arms.new.found fixed.items) is
    (case_walked (reads c.args.nets.now c.in-Case.selector) d whole c.args.sure.now c.walk_default.new.sure c.args.found.now m1 c.walk_default.new.found c.walk_arms.new.found fixed.items
    c.in_ok-add_reads-in-Case.ensures refl c.in_ok-last-in-Case.ensures.adds c.in_ok-last-in-Case.ensures.sure (λ a. adds) fixes))
    (c.walk_arms.ensures.adds d m1 (adds_same d c.walk_default.new.sure c.args.sure.now m1 c.walk_default.new.found (λ i. sym (c.in_ok-last-in-Case.ensures.sure i)) c.in_ok-last-in-Case.ensures.adds))
    (c.walk_arms.ensures.fixes d (match_map c.in_ok-last-in-Case.last _ _ _ (λ r f. fixes_same d c.walk_default.new.sure c.args.sure.now r.items (λ i. sym (c.in_ok-last-in-Case.ensures.sure i)) f) c.in_ok-last-in-Case.ensures.fixes))
