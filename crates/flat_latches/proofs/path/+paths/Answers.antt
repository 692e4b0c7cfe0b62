use Rattle.std.proofs.Common.{◌≡◌, ◌∙◌, ◌+◌, ◌++◌, ◌∷◌, ◌||◌, not, ℕ, List, [], refl, sym, ap, subst, map, drop, length, append_assoc}
use Rattle.std.specs.Prelude.{IfOk, MatchOption, false}
use Rattle.std.proofs.Math.ListN.{drop_of_length-le}
use Rattle.std.proofs.lemmas.List.{append-nil}
use Rattle.flat_design.specs.declared.stmt.FlatStmt.TheVariants as s
use Rattle.flat_design.specs.Flows as spec
use Rattle.flat_paths.specs.Paths.{Walk, walk, walk_all, walk_choice, stop}
use Rattle.flat_flows.specs.Arms.{arms_before, is_closed, default_flow}
use Rattle.flat_flows.proofs.ReadNodes.{rest_of}
use Rattle.flat_flows.proofs.FlowNodes.{flow_Block, flow_Assign, flow_If, flow_Case}
use Rattle.flat_latches.specs.Latches.{LeadsOn, other_walk, default_walk, arm_walks}
use Rattle.flat_latches.proofs.WalkNodes.{walk_Block, walk_Assign, walk_If, walk_Case}
use Rattle.flat_latches.proofs.PathLemmas.{match_some, match_none, branch_map, leads_all, leads_choice, branch_at, branch_last, walk_on, or_true, or_false, and_false, closed_leaves, open_flow, open_walk}
use Rattle.flat_latches.proofs.path.+paths.Goals as goal
use Rattle.flat_latches.proofs.path.+paths.Goals.{leaving_path-then-later-via-then-later, leaving_path-then-later-via-else-later+in_ok-fixes_bit-in-Assign+then-not-branch}

pub path_of_arms-returns-in-Some : goal.path_of_arms-returns-in-Some
path_of_arms-returns-in-Some t c last =
    let leads = match_some c.in_ok-path.field-0 c.in-Some.path _ _ c.in-Some.is c.in_ok-path.ensures in
    branch_map c.branch-alloc.result _ _ _
    (λ longer is. leads_choice (arm_walks c.args.nets.now c.args.bit c.args.arms.now) last c.loop-number.number c.as_slice.result.now longer.items is
    (λ rest. branch_at (λ a. walk c.args.nets.now c.args.bit a.body) c.args.arms.now c.loop-number.number c.index-arms-number.result last (c.as_slice.result.now ++ rest) c.loop-number-test.true c.index-arms-number.is
    ∙ ap (λ l. walk c.args.nets.now c.args.bit c.index-arms-number.result.body (l ++ rest)) c.as_slice.ensures.value ∙ leads rest))
    c.branch-alloc.ensures

pub path_through-loop-s-preserved : goal.path_through-loop-s-preserved
path_through-loop-s-preserved t c =
    let own = match_some c.in_ok-more.field-0 c.in-Some.more _ _ c.in-Some.is c.in_ok-more.ensures in
    let is : c.extend_from_slice.new.self.items ≡ c.loop-s.path.items ++ c.in-Some.more.items = c.in_ok-extend_from_slice.ensures.items ∙ ap (λ l. c.loop-s.path.items ++ l) c.as_slice.ensures.value in
    let rest = rest_of c.args.body.now c.loop-s.s-index c.s-item.result c.loop-s-test.true c.s-item.is in
    record {
      leads = λ more h.
          subst (λ (l : List ℕ). LeadsOn (walk_all (map (walk c.args.nets.now c.args.bit) c.args.body.now)) (l ++ more)) (sym is)
          (subst (λ (l : List ℕ). LeadsOn (walk_all (map (walk c.args.nets.now c.args.bit) c.args.body.now)) l) (sym (append_assoc c.loop-s.path.items c.in-Some.more.items more))
          (c.loop-s.invariant.leads (c.in-Some.more.items ++ more)
          (subst (λ l. LeadsOn (walk_all (map (walk c.args.nets.now c.args.bit) l)) (c.in-Some.more.items ++ more)) (sym rest)
          (leads_all (walk c.args.nets.now c.args.bit c.s-item.result) (map (walk c.args.nets.now c.args.bit) (drop (c.loop-s.s-index + 1) c.args.body.now)) c.in-Some.more.items more own h))));
      leaves = λ off. c.loop-s.invariant.leaves (ap (λ l. (spec.all_before (map (spec.flow c.args.nets.now) l)).leaves c.args.bit) rest ∙ and_false ((spec.flow c.args.nets.now c.s-item.result).leaves c.args.bit) _ off);
    }

pub path_through-returns : goal.path_through-returns
path_through-returns t c =
    subst (λ (l : List ℕ). LeadsOn (walk_all (map (walk c.args.nets.now c.args.bit) c.args.body.now)) l) (append-nil c.loop-s.path.items)
    (c.loop-s.invariant.leads [] (subst (λ l. LeadsOn (walk_all (map (walk c.args.nets.now c.args.bit) l)) []) (sym (drop_of_length-le c.args.body.now c.loop-s-test.false)) (λ rest. refl)))

pub leaving_path-returns-in-Block : goal.leaving_path-returns-in-Block
leaving_path-returns-in-Block t c =
    subst (λ (w : Walk). IfOk c.path_through.result (λ o. MatchOption o ((spec.flow c.args.nets.now c.args.s.now).leaves c.args.bit ≡ false) (λ path. LeadsOn w path.items)))
    (ap (λ l. walk_all (map (walk c.args.nets.now c.args.bit) l)) c.as_slice.ensures ∙ sym (walk_Block c.args.nets.now c.args.bit c.args.s.now c.in-Block.body c.in-Block.is))
    (subst (λ (f : spec.Flow). IfOk c.path_through.result (λ o. MatchOption o (f.leaves c.args.bit ≡ false) (λ path. LeadsOn (walk_all (map (walk c.args.nets.now c.args.bit) c.as_slice.result.now)) path.items)))
    (ap (λ l. spec.all_before (map (spec.flow c.args.nets.now) l)) c.as_slice.ensures ∙ sym (flow_Block c.args.nets.now c.args.s.now c.in-Block.body c.in-Block.is)) c.path_through.ensures)

pub leaving_path-returns-then-later : goal.leaving_path-returns-then-later
leaving_path-returns-then-later t c rest =
    ap (λ l. walk c.args.nets.now c.args.bit c.args.s.now (l ++ rest)) c.new.ensures.items
    ∙ ap (λ (w : Walk). w rest) (walk_Assign c.args.nets.now c.args.bit c.args.s.now c.in-Assign.left c.in-Assign.value c.in-Assign.later c.in-Assign.is)
    ∙ walk_on (c.in-Assign.later || not (spec.left_fixes c.args.nets.now c.in-Assign.left c.args.bit)) rest (elim c.then-later.branch [
      | leaving_path-then-later-via-then-later w ↦ ap (λ b. b || not (spec.left_fixes c.args.nets.now c.in-Assign.left c.args.bit)) w.if-later.true
      | leaving_path-then-later-via-else-later+in_ok-fixes_bit-in-Assign+then-not-branch w ↦ or_true c.in-Assign.later _
          (ap not (sym (w.in_ok-fixes_bit-in-Assign.ensures ∙ ap (λ l. spec.left_fixes c.args.nets.now l c.args.bit) w.as_slice-else-later.ensures)) ∙ ap not w.if-not-branch.true)
    ])

pub leaving_path-returns-else-not-branch : goal.leaving_path-returns-else-not-branch
leaving_path-returns-else-not-branch t c =
    ap (λ (f : spec.Flow). f.leaves c.args.bit) (flow_Assign c.args.nets.now c.args.s.now c.in-Assign.left c.in-Assign.value c.in-Assign.later c.in-Assign.is) ∙ or_false _ _ c.if-later.false (ap not (sym (c.in_ok-fixes_bit-in-Assign.ensures ∙ ap (λ l. spec.left_fixes c.args.nets.now l c.args.bit) c.as_slice-else-later.ensures)) ∙ ap not c.if-not-branch.false)

pub leaving_path-returns-in-Some : goal.leaving_path-returns-in-Some
leaving_path-returns-in-Some t c =
    let leads = match_some c.in_ok-path-in-If.field-0 c.in-Some.path _ _ c.in-Some.is c.in_ok-path-in-If.ensures in
    branch_map c.branch-alloc.result _ _ _
    (λ longer is.
    subst (λ (w : Walk). LeadsOn w longer.items) (sym (walk_If c.args.nets.now c.args.bit c.args.s.now c.in-If.test c.get.result.now c.in-If.no (c.in-If.is ∙ ap (λ x. s.If c.in-If.test x c.in-If.no) (sym c.get.ensures))))
    (leads_choice (walk c.args.nets.now c.args.bit c.get.result.now ∷ []) (other_walk c.args.nets.now c.args.bit c.in-If.no) 0 c.as_slice-in-Some.result.now longer.items is
    (λ rest. ap (λ l. walk c.args.nets.now c.args.bit c.get.result.now (l ++ rest)) c.as_slice-in-Some.ensures.value ∙ leads rest)))
    c.branch-alloc.ensures

pub leaving_path-returns-in_default-2 : goal.leaving_path-returns-in_default-2
leaving_path-returns-in_default-2 t c =
    ap (λ (f : spec.Flow). f.leaves c.args.bit) (flow_If c.args.nets.now c.args.s.now c.in-If.test c.get.result.now c.in-If.no (c.in-If.is ∙ ap (λ x. s.If c.in-If.test x c.in-If.no) (sym c.get.ensures)))
    ∙ or_false _ _ (match_none c.in_ok-path-in-If.field-0 _ _ c.in_default.not-Some c.in_ok-path-in-If.ensures) (match_none c.in_ok-path-in-If-2.field-0 _ _ c.in_default-2.not-Some c.in_ok-path-in-If-2.ensures)

pub leaving_path-returns-in-Some-2 : goal.leaving_path-returns-in-Some-2
leaving_path-returns-in-Some-2 t c =
    let leads = match_some c.in_ok-path-in-If-2.field-0 c.in-Some-2.path _ _ c.in-Some-2.is c.in_ok-path-in-If-2.ensures in
    branch_map c.branch-alloc-in-If.result _ _ _
    (λ longer is.
    subst (λ (w : Walk). LeadsOn w longer.items) (sym (walk_If c.args.nets.now c.args.bit c.args.s.now c.in-If.test c.get.result.now c.in-If.no (c.in-If.is ∙ ap (λ x. s.If c.in-If.test x c.in-If.no) (sym c.get.ensures))))
    (leads_choice (walk c.args.nets.now c.args.bit c.get.result.now ∷ []) (other_walk c.args.nets.now c.args.bit c.in-If.no) 1 c.as_slice-in-If.result.now longer.items is
    (λ rest. ap (λ l. other_walk c.args.nets.now c.args.bit c.in-If.no (l ++ rest)) c.as_slice-in-If.ensures.value ∙ leads rest)))
    c.branch-alloc-in-If.ensures

pub leaving_path-returns-in-Some-3 : goal.leaving_path-returns-in-Some-3
leaving_path-returns-in-Some-3 t c =
    let last : Walk = default_walk c.args.nets.now c.args.bit (is_closed c.args.nets.now c.in-Case.selector c.in-Case.arms c.in-Case.other) c.in-Case.other in
    let leads = match_some c.in_ok-path-in-Case.field-0 c.in-Some-3.path _ _ c.in-Some-3.is (c.in_ok-path-in-Case.ensures last) in
    subst (λ (w : Walk). LeadsOn w c.in-Some-3.path.items)
    (ap (λ l. walk_choice (arm_walks c.args.nets.now c.args.bit l) last) c.as_slice-arms.ensures ∙ sym (walk_Case c.args.nets.now c.args.bit c.args.s.now c.in-Case.selector c.in-Case.arms c.in-Case.other c.in-Case.is)) leads

pub leaving_path-returns-then-branch : goal.leaving_path-returns-then-branch
leaving_path-returns-then-branch t c =
    let closed = c.in_ok-is_closed-in-Case.ensures.closed c.args.nets.now ∙ ap (λ l. is_closed c.args.nets.now c.in-Case.selector l c.in-Case.other) c.as_slice-arms.ensures in
    let d : spec.Flow = default_flow c.args.nets.now (is_closed c.args.nets.now c.in-Case.selector c.in-Case.arms c.in-Case.other) c.in-Case.other in
    ap (λ (f : spec.Flow). f.leaves c.args.bit) (flow_Case c.args.nets.now c.args.s.now c.in-Case.selector c.in-Case.arms c.in-Case.other c.in-Case.is)
    ∙ ap (λ l. (arms_before c.args.nets.now l d).leaves c.args.bit) (sym c.as_slice-arms.ensures)
    ∙ match_none c.in_ok-path-in-Case.field-0 _ _ c.in_default-3.not-Some (c.in_ok-path-in-Case.ensures stop) d
    ∙ closed_leaves c.args.nets.now c.in-Case.selector c.in-Case.arms c.in-Case.other c.args.bit (sym closed ∙ c.if-branch.true)

pub leaving_path-returns-in_default-4 : goal.leaving_path-returns-in_default-4
leaving_path-returns-in_default-4 t c =
    let closed = c.in_ok-is_closed-in-Case.ensures.closed c.args.nets.now ∙ ap (λ l. is_closed c.args.nets.now c.in-Case.selector l c.in-Case.other) c.as_slice-arms.ensures in
    let d : spec.Flow = default_flow c.args.nets.now (is_closed c.args.nets.now c.in-Case.selector c.in-Case.arms c.in-Case.other) c.in-Case.other in
    ap (λ (f : spec.Flow). f.leaves c.args.bit) (flow_Case c.args.nets.now c.args.s.now c.in-Case.selector c.in-Case.arms c.in-Case.other c.in-Case.is)
    ∙ ap (λ l. (arms_before c.args.nets.now l d).leaves c.args.bit) (sym c.as_slice-arms.ensures)
    ∙ match_none c.in_ok-path-in-Case.field-0 _ _ c.in_default-3.not-Some (c.in_ok-path-in-Case.ensures stop) d
    ∙ ap (λ (f : spec.Flow). f.leaves c.args.bit) (open_flow c.args.nets.now _ c.in-Case.other (sym closed ∙ c.if-branch.false))
    ∙ match_none c.in_ok-path-in-Case-2.field-0 _ _ c.in_default-4.not-Some c.in_ok-path-in-Case-2.ensures

pub leaving_path-returns-in-Some-4 : goal.leaving_path-returns-in-Some-4
leaving_path-returns-in-Some-4 t c =
    let closed = c.in_ok-is_closed-in-Case.ensures.closed c.args.nets.now ∙ ap (λ l. is_closed c.args.nets.now c.in-Case.selector l c.in-Case.other) c.as_slice-arms.ensures in
    let last : Walk = default_walk c.args.nets.now c.args.bit (is_closed c.args.nets.now c.in-Case.selector c.in-Case.arms c.in-Case.other) c.in-Case.other in
    let leads = match_some c.in_ok-path-in-Case-2.field-0 c.in-Some-4.path _ _ c.in-Some-4.is c.in_ok-path-in-Case-2.ensures in
    branch_map c.branch-alloc-in-Case.result _ _ _
    (λ longer is.
    subst (λ (w : Walk). LeadsOn w longer.items)
    (ap (λ l. walk_choice (arm_walks c.args.nets.now c.args.bit l) last) c.as_slice-arms.ensures ∙ sym (walk_Case c.args.nets.now c.args.bit c.args.s.now c.in-Case.selector c.in-Case.arms c.in-Case.other c.in-Case.is))
    (leads_choice (arm_walks c.args.nets.now c.args.bit c.as_slice-arms.result.now) last (length c.as_slice-arms.result.now) c.as_slice-in-Case.result.now longer.items is
    (λ rest. branch_last (λ a. walk c.args.nets.now c.args.bit a.body) c.as_slice-arms.result.now last (c.as_slice-in-Case.result.now ++ rest)
    ∙ ap (λ (w : Walk). w (c.as_slice-in-Case.result.now ++ rest)) (open_walk c.args.nets.now c.args.bit _ c.in-Case.other (sym closed ∙ c.if-branch.false))
    ∙ ap (λ l. other_walk c.args.nets.now c.args.bit c.in-Case.other (l ++ rest)) c.as_slice-in-Case.ensures.value ∙ leads rest)))
    c.branch-alloc-in-Case.ensures
