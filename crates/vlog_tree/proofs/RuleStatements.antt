-- The laws of left sides, events and statements.
use Rattle.std.proofs.Common.{◌≡◌, ℕ, zero, suc, ◌+◌, ◌<◌, ◌≤◌, Bool, true, false, cond, not, ◌&&◌, nat_le, List, [], ◌∷◌, ◌++◌, length, map, Option, Some, None, codes, refl, sym, ◌∙◌, ◌⊎◌, inl, inr, ap, subst, append_assoc, append-nil, length-append, arith}
use Rattle.std.proofs.lemmas.Bool.Decides.{nat_tests}
use Rattle.std.specs.List.{list_all}
use Rattle.parsing.specs.Parser.{on}
use Rattle.parsing.proofs.Rules.{sunk_rule, no_room_rule}
use Rattle.vlog_tree.specs.declared.token.VTokenKind.TheVariants.{Name, Mark}
use Rattle.vlog_tree.specs.declared.token.VToken.{VToken}
use Rattle.vlog_tree.specs.declared.tree_expressions.VExpr.{VExpr}
use Rattle.vlog_tree.specs.declared.tree_expressions.VSelect.{VSelect}
use Rattle.vlog_tree.specs.declared.tree_expressions.VNextExpr.{VNextExpr}
use Rattle.vlog_tree.specs.declared.tree_expressions.VLval.{VLval}
use Rattle.vlog_tree.specs.declared.tree_expressions.VLval.TheVariants as VLval
use Rattle.vlog_tree.specs.declared.tree_expressions.VNextLval.{VNextLval, out-VNextLval, roll-VNextLval, roll-out-VNextLval}
use Rattle.vlog_tree.specs.declared.tree_statements.VEv.{VEv}
use Rattle.vlog_tree.specs.declared.tree_statements.VNextEv.{VNextEv}
use Rattle.vlog_tree.specs.declared.tree_statements.VEvent.{VEvent}
use Rattle.vlog_tree.specs.declared.tree_statements.VLabel.{VLabel}
use Rattle.vlog_tree.specs.declared.tree_statements.VIfHead.{VIfHead}
use Rattle.vlog_tree.specs.declared.tree_statements.VStmt.{VStmt}
use Rattle.vlog_tree.specs.declared.tree_statements.VStmt.TheVariants as VStmt
use Rattle.vlog_tree.specs.declared.tree_statements.VElse.{VElse, out-VElse, roll-VElse, roll-out-VElse}
use Rattle.vlog_tree.specs.declared.tree_statements.VCitem.{VCitem}
use Rattle.vlog_tree.specs.Spelling.{is_token, is_quoted}
use Rattle.vlog_tree.specs.Terminals.{Tokens, is_mark, is_word, is_name, is_edge, is_separator, is_assigning, is_case_word}
use Rattle.vlog_tree.specs.Parts.{flat_option, flat_list, fits_option, count_true}
use Rattle.vlog_tree.specs.Expressions.{flat_expr, fits_expr, fits_select, flat_next_expr, fits_next_expr, flat_lval, fits_lval, flat_next_lval, fits_next_lval}
use Rattle.vlog_tree.specs.Statements.{flat_ev, fits_ev, flat_next_ev, fits_next_ev, flat_event, fits_event, flat_label, fits_label, flat_if_head, fits_if_head, flat_stmt, fits_stmt, flat_else, grade_else, fits_else, flat_citem, grade_citem, fits_citem, ends_open}
use Rattle.vlog_tree.specs.ReadExpressions.{Reader, expr, next_lval, next_lvals, lval_join, lval_name, lval, begins_expr}
use Rattle.vlog_tree.specs.ReadStatements.{ev, next_ev, next_evs, EventEnd, event_from, event_end, event, label, any_label, if_head, begins_stmt, stmts, block, assign, else_part, any_else, branches, conditional, labelled, all_labelled, default_item, default_and_more, citems_from, citems, cases, stmt_of, stmt}
use Rattle.vlog_tree.proofs.FoldsExpressions.{flat_lval_Name, flat_lval_Join, fits_lval_Name, fits_lval_Join, by_lval, flat_next_lval_roll, fits_next_lval_roll}
use Rattle.vlog_tree.proofs.FoldsStatements.{flat_citem_Labels, flat_citem_Default, grade_citem_Labels, grade_citem_Default, by_citem, flat_stmt_Empty, flat_stmt_Block, flat_stmt_Assign, flat_stmt_If, flat_stmt_Case, grade_stmt_Empty, grade_stmt_Block, grade_stmt_Assign, grade_stmt_If_alone, grade_stmt_If_with, grade_stmt_Case, by_stmt, flat_else_roll, grade_else_roll}
use Rattle.vlog_tree.proofs.Sorts.{and_both, and_left, and_right, not_both, not_true, true_not, subset, disjoint, begin_word_sorted, begins_expr_sorted, begins_stmt_sorted, colon_sorted, comma_sorted, default_word_sorted, if_word_sorted, is_case_word_sorted, is_edge_sorted, is_separator_sorted, name_sorted, semi_sorted, star_sorted}
use Rattle.vlog_tree.proofs.Conjunctions.{both2, both3, both4, both7, fit2, fit3, fit4, fit7}
use Rattle.vlog_tree.proofs.Sets.{expr_firsts, label_nexts, if_head_nexts, stmt_nexts, citem_nexts, stmt_firsts}
use Rattle.vlog_tree.proofs.Build.{Reading, Holds, Image, then_rule, then_step_rule, as_rule, any_rule, each_rule, or_rule, image_rule, fitting_rule, wider_rule, lower_rule}
use Rattle.vlog_tree.proofs.Endings.{Ending, always, settled, then_ending, then_step_ending, as_ending, image_ending, or_ending, fitting_ending, wider_ending, sunk_ending, no_room_ending, ElseFits, branch_opens, branches_ending, part, else_there, there_else, no_else}
use Rattle.vlog_tree.proofs.TokenRules.{token_of, open_paren_rule, close_paren_rule, open_brace_rule, close_brace_rule, semi_rule, comma_rule, colon_rule, star_rule, if_word_rule, else_word_rule, begin_word_rule, end_word_rule, endcase_word_rule, default_word_rule, name_rule, edge_rule, separator_rule, assigning_rule, case_any_rule}
use Rattle.vlog_tree.proofs.RuleExpressions.{next_exprs_rule, any_select_rule}
use Rattle.vlog_tree.proofs.RuleLevels.{expr_rule, some_flat}

some_token : (t : VToken) → 0 < length (t ∷ [])
some_token t = omega arith

-- ---- left sides

abbrev Lefts : ℕ → ℕ → Reader VLval → Reader VLval → Type 0
Lefts room more p q = Reading room more (1 ∷ 44 ∷ []) (47 ∷ 45 ∷ 48 ∷ 60 ∷ []) p q flat_lval (Holds fits_lval)

abbrev make_next_lval : VToken × VLval → VNextLval
make_next_lval p = roll-VNextLval (record { comma = p.0; lval = p.1 })

next_lval_parts : (x : VNextLval) → fits_next_lval x ≡ true → (p : VToken × VLval) × ((make_next_lval p ≡ x) × ((is_mark (codes ",") p.0 ≡ true) × (fits_lval p.1 ≡ true)))
next_lval_parts x h =
    let o = out-VNextLval x in
    let e : fits_next_lval (roll-VNextLval o) ≡ true = subst (λ y. fits_next_lval y ≡ true) (sym (roll-out-VNextLval x)) h in
    ((o.comma, o.lval), (roll-out-VNextLval x, fit2 (sym (fits_next_lval_roll o) ∙ e)))

next_lval_some : (x : VNextLval) → fits_next_lval x ≡ true → 0 < length (flat_next_lval x)
next_lval_some x h = subst (λ y. 0 < length (flat_next_lval y)) (roll-out-VNextLval x) (rw (flat_next_lval_roll (out-VNextLval x)) (omega arith))

next_lval_rule : (room more : ℕ) (p q : Reader VLval) → Lefts room more p q → Reading room more (47 ∷ []) (47 ∷ 45 ∷ []) (next_lval p) (next_lval q) flat_next_lval (Holds fits_next_lval)
unfolding next_lval
next_lval_rule room more p q inner =
    as_rule make_next_lval flat_next_lval (Holds fits_next_lval) (λ a h. (flat_next_lval_roll _, fits_next_lval_roll _ ∙ both2 h)) next_lval_parts
    (then_rule refl (comma_rule room more (1 ∷ 44 ∷ [])) (λ _. wider_rule (1 ∷ 44 ∷ []) (47 ∷ 45 ∷ []) refl refl inner))

next_lvals_rule : (room more : ℕ) (p q : Reader VLval) → Lefts room more p q → Reading room more (47 ∷ 45 ∷ []) (45 ∷ []) (next_lvals p) (next_lvals q) (flat_list flat_next_lval) (Holds (list_all fits_next_lval))
unfolding next_lvals
next_lvals_rule room more p q inner = each_rule (is_mark (codes ",")) (47 ∷ []) (45 ∷ []) comma_sorted refl refl refl refl next_lval_some (next_lval_rule room more p q inner)

abbrev make_lval_name : VToken × Option VSelect → VLval
make_lval_name p = VLval.Name p.0 p.1

abbrev LvalName : VToken × Option VSelect → Type 0
LvalName p = (is_name p.0 ≡ true) × (fits_option fits_select p.1 ≡ true)

abbrev make_lval_join : VToken × (VLval × (List VNextLval × VToken)) → VLval
make_lval_join p = VLval.Join p.0 p.1.0 p.1.1.0 p.1.1.1

abbrev LvalJoin : VToken × (VLval × (List VNextLval × VToken)) → Type 0
LvalJoin p = (is_mark (codes "{") p.0 ≡ true) × ((fits_lval p.1.0 ≡ true) × ((list_all fits_next_lval p.1.1.0 ≡ true) × (is_mark (codes "}") p.1.1.1 ≡ true)))

lval_fits : (x : VLval) → Image make_lval_name LvalName x ⊎ Image make_lval_join LvalJoin x → fits_lval x ≡ true
lval_fits x (inl (p, (e, h))) = subst (λ y. fits_lval y ≡ true) e (fits_lval_Name p.0 p.1 ∙ both2 h)
lval_fits x (inr (p, (e, h))) = subst (λ y. fits_lval y ≡ true) e (fits_lval_Join p.0 p.1.0 p.1.1.0 p.1.1.1 ∙ both4 h)

fits_lvals : (x : VLval) → fits_lval x ≡ true → Image make_lval_name LvalName x ⊎ Image make_lval_join LvalJoin x
fits_lvals =
    by_lval (λ x. fits_lval x ≡ true → Image make_lval_name LvalName x ⊎ Image make_lval_join LvalJoin x)
    (λ n s h. inl ((n, s), (refl, fit2 (sym (fits_lval_Name n s) ∙ h))))
    (λ o f m c h. inr ((o, (f, (m, c))), (refl, fit4 (sym (fits_lval_Join o f m c) ∙ h))))

lval_of_rule : (room more : ℕ) → room ≤ more → (p q : Reader VLval) → Lefts room more p q → Lefts (suc room) (suc more) (on is_name (lval_name (expr room)) (lval_join p)) (on is_name (lval_name (expr more)) (lval_join q))
unfolding lval_name lval_join
lval_of_rule room more le p q inner =
    fitting_rule (Holds fits_lval) lval_fits fits_lvals
    (or_rule is_name (1 ∷ []) name_sorted refl refl refl
    (image_rule make_lval_name flat_lval (λ a h. flat_lval_Name a.0 a.1)
    (then_step_rule refl (λ a h. some_token a) (name_rule (suc room) (suc more) (42 ∷ 47 ∷ 45 ∷ 48 ∷ 60 ∷ [])) (λ _. any_select_rule room more _ _ (47 ∷ 45 ∷ 48 ∷ 60 ∷ []) refl refl (expr_rule room more le))))
    (image_rule make_lval_join flat_lval (λ a h. flat_lval_Join a.0 a.1.0 a.1.1.0 a.1.1.1)
    (then_step_rule refl (λ a h. some_token a) (open_brace_rule (suc room) (suc more) (1 ∷ 44 ∷ [])) (λ _. then_rule refl (wider_rule (1 ∷ 44 ∷ []) (47 ∷ 45 ∷ []) refl refl inner)
    (λ _. then_rule refl (next_lvals_rule room more p q inner) (λ _. close_brace_rule room more (47 ∷ 45 ∷ 48 ∷ 60 ∷ [])))))))

some_lval : VLval
unfolding is_token is_quoted
some_lval = VLval.Name (token_of Name (codes "a") refl) None

some_lval_fits : fits_lval some_lval ≡ true
unfolding some_lval token_of is_token is_quoted
some_lval_fits = fits_lval_Name _ None

pub lval_rule : (room more : ℕ) → room ≤ more → Lefts room more (lval room) (lval more)
unfolding lval
lval_rule zero zero le = record { rule = no_room_rule some_lval some_lval_fits }
lval_rule zero (suc more) le = record { rule = sunk_rule (lval_of_rule more more (omega arith) (lval more) (lval more) (lval_rule more more (omega arith))).rule }
lval_rule (suc room) (suc more) le = lval_of_rule room more (omega arith) (lval room) (lval more) (lval_rule room more (omega arith))
lval_rule (suc room) zero le = absurd (omega arith)

-- ---- rows without statements

abbrev make_ev : (Option VToken) × (VToken) → VEv
make_ev p = record { edge = p.0; name = p.1 }

pub ev_rule : (room more : ℕ) → Reading room more (31 ∷ 32 ∷ 1 ∷ []) (30 ∷ 47 ∷ 41 ∷ []) ev ev flat_ev (Holds fits_ev)
unfolding ev
ev_rule room more =
    wider_rule (31 ∷ 32 ∷ 1 ∷ []) (30 ∷ 47 ∷ 41 ∷ []) refl refl
    (as_rule make_ev flat_ev (Holds fits_ev) (λ p h. (refl, both2 h)) (λ x h. ((x.edge, x.name), (refl, fit2 h)))
    (then_rule refl (any_rule is_edge (31 ∷ 32 ∷ []) is_edge_sorted refl refl refl (edge_rule room more (1 ∷ []))) (λ _. (name_rule room more (30 ∷ 47 ∷ 41 ∷ [])))))

abbrev make_next_ev : VToken × (VEv) → VNextEv
make_next_ev p = record { separator = p.0; event = p.1 }

pub next_ev_rule : (room more : ℕ) → Reading room more (30 ∷ 47 ∷ []) (30 ∷ 47 ∷ 41 ∷ []) next_ev next_ev flat_next_ev (Holds fits_next_ev)
unfolding next_ev
next_ev_rule room more =
    wider_rule (30 ∷ 47 ∷ []) (30 ∷ 47 ∷ 41 ∷ []) refl refl
    (as_rule make_next_ev flat_next_ev (Holds fits_next_ev) (λ p h. (refl, both2 h)) (λ x h. ((x.separator, x.event), (refl, fit2 h)))
    (then_rule refl (separator_rule room more (31 ∷ 32 ∷ 1 ∷ [])) (λ _. (wider_rule (31 ∷ 32 ∷ 1 ∷ []) (30 ∷ 47 ∷ 41 ∷ []) refl refl (ev_rule room more)))))

abbrev make_label : VToken × (VToken) → VLabel
make_label p = record { colon = p.0; name = p.1 }

pub label_rule : (room more : ℕ) → Reading room more (49 ∷ []) label_nexts label label flat_label (Holds fits_label)
unfolding label
label_rule room more =
    wider_rule (49 ∷ []) label_nexts refl refl
    (as_rule make_label flat_label (Holds fits_label) (λ p h. (refl, both2 h)) (λ x h. ((x.colon, x.name), (refl, fit2 h)))
    (then_rule refl (colon_rule room more (1 ∷ [])) (λ _. (name_rule room more label_nexts))))

abbrev make_if_head : VToken × (VToken × (VExpr × (VToken))) → VIfHead
make_if_head p = record { word = p.0; «open» = p.1.0; test = p.1.1.0; close = p.1.1.1 }

pub if_head_rule : (room more : ℕ) → room ≤ more → Reading room more (26 ∷ []) if_head_nexts (if_head room) (if_head more) flat_if_head (Holds fits_if_head)
unfolding if_head
if_head_rule room more le =
    wider_rule (26 ∷ []) if_head_nexts refl refl
    (as_rule make_if_head flat_if_head (Holds fits_if_head) (λ p h. (refl, both4 h)) (λ x h. ((x.word, (x.open, (x.test, x.close))), (refl, fit4 h)))
    (then_rule refl (if_word_rule room more (40 ∷ [])) (λ _. (then_rule refl (open_paren_rule room more expr_firsts) (λ _. (then_rule refl (wider_rule expr_firsts (41 ∷ []) refl refl (expr_rule room more le)) (λ _. (close_paren_rule room more if_head_nexts))))))))

-- ---- events

next_evs_rule : (room more : ℕ) → Reading room more (30 ∷ 47 ∷ 41 ∷ []) (41 ∷ []) next_evs next_evs (flat_list flat_next_ev) (Holds (list_all fits_next_ev))
unfolding next_evs
next_evs_rule room more = each_rule is_separator (30 ∷ 47 ∷ []) (41 ∷ []) is_separator_sorted refl refl refl refl (λ a h. omega arith) (next_ev_rule room more)

abbrev flat_event_end : EventEnd → Tokens
flat_event_end (inl (star, close)) = star ∷ (close ∷ [])
flat_event_end (inr (first, (more, close))) = flat_ev first ++ (flat_list flat_next_ev more ++ (close ∷ []))

abbrev Starred : VToken × VToken → Type 0
Starred p = (is_mark (codes "*") p.0 ≡ true) × (is_mark (codes ")") p.1 ≡ true)

abbrev Listed : VEv × (List VNextEv × VToken) → Type 0
Listed p = (fits_ev p.0 ≡ true) × ((list_all fits_next_ev p.1.0 ≡ true) × (is_mark (codes ")") p.1.1 ≡ true))

abbrev FitsEventEnd : EventEnd → Type 0
FitsEventEnd (inl p) = Starred p
FitsEventEnd (inr p) = Listed p

event_end_fits : (e : EventEnd) → Image inl Starred e ⊎ Image inr Listed e → FitsEventEnd e
event_end_fits e (inl (p, (q, h))) = subst FitsEventEnd q h
event_end_fits e (inr (p, (q, h))) = subst FitsEventEnd q h

fits_event_ends : (e : EventEnd) → FitsEventEnd e → Image inl Starred e ⊎ Image inr Listed e
fits_event_ends (inl p) h = inl (p, (refl, h))
fits_event_ends (inr p) h = inr (p, (refl, h))

event_end_rule : (room more : ℕ) → Reading room more (55 ∷ 31 ∷ 32 ∷ 1 ∷ []) stmt_firsts event_end event_end flat_event_end FitsEventEnd
unfolding event_end
event_end_rule room more =
    fitting_rule FitsEventEnd event_end_fits fits_event_ends
    (or_rule (is_mark (codes "*")) (55 ∷ []) star_sorted refl refl refl
    (image_rule inl flat_event_end (λ a h. refl) (then_rule refl (star_rule room more (41 ∷ [])) (λ _. close_paren_rule room more stmt_firsts)))
    (image_rule inr flat_event_end (λ a h. refl) (then_rule refl (ev_rule room more) (λ _. then_rule refl (next_evs_rule room more) (λ _. close_paren_rule room more stmt_firsts)))))

abbrev EventParts : VToken × EventEnd → Type 0
EventParts p = (is_mark (codes "(") p.0 ≡ true) × FitsEventEnd p.1

event_flat : (p : VToken × EventEnd) → EventParts p → flat_event (event_from p) ≡ p.0 ∷ flat_event_end p.1
event_flat (o, inl (s, c)) h = refl
event_flat (o, inr (f, (m, c))) h = refl

event_parts_fit : (p : VToken × EventEnd) → EventParts p → fits_event (event_from p) ≡ true
event_parts_fit (o, inl (s, c)) h = both3 h
event_parts_fit (o, inr (f, (m, c))) h = both4 h

abbrev EventKinds : VEvent → Type 0
EventKinds x = Image VEvent.Any (Holds (is_mark (codes "*"))) x ⊎ Image event_from EventParts x

event_fits : (x : VEvent) → EventKinds x → fits_event x ≡ true
event_fits x (inl (t, (e, h))) = subst (λ y. fits_event y ≡ true) e h
event_fits x (inr (p, (e, h))) = subst (λ y. fits_event y ≡ true) e (event_parts_fit p h)

fits_events : (x : VEvent) → fits_event x ≡ true → EventKinds x
fits_events (VEvent.Any t) h = inl (t, (refl, h))
fits_events (VEvent.AnyInBrackets o s c) h = inr ((o, inl (s, c)), (refl, fit3 h))
fits_events (VEvent.Listed o f m c) h = inr ((o, inr (f, (m, c))), (refl, fit4 h))

pub event_rule : (room more : ℕ) → Reading room more (55 ∷ 40 ∷ []) stmt_firsts event event flat_event (Holds fits_event)
unfolding event
event_rule room more =
    fitting_rule (Holds fits_event) event_fits fits_events
    (or_rule (is_mark (codes "*")) (55 ∷ []) star_sorted refl refl refl (image_rule VEvent.Any flat_event (λ t h. refl) (star_rule room more stmt_firsts))
    (image_rule event_from flat_event event_flat (then_rule refl (open_paren_rule room more (55 ∷ 31 ∷ 32 ∷ 1 ∷ [])) (λ _. event_end_rule room more))))

pub any_label_rule : (room more : ℕ) (N : List ℕ) → disjoint N (49 ∷ []) ≡ true → subset N label_nexts ≡ true → Reading room more (49 ∷ N) N any_label any_label (flat_option flat_label) (Holds (fits_option fits_label))
unfolding any_label
any_label_rule room more N away sub = any_rule (is_mark (codes ":")) (49 ∷ []) colon_sorted refl refl away (wider_rule (49 ∷ []) N refl sub (label_rule room more))

-- ---- statements

-- what reads the statements inside
abbrev Stmts : ℕ → ℕ → Reader VStmt → Reader VStmt → Type 0
Stmts room more p q = Ending room more stmt_firsts stmt_nexts ends_open p q flat_stmt (Holds fits_stmt)

lval_some : (x : VLval) → 0 < length (flat_lval x)
lval_some =
    by_lval (λ x. 0 < length (flat_lval x))
    (λ n s. rw (flat_lval_Name n s) (omega arith))
    (λ o f m c. rw (flat_lval_Join o f m c) (omega arith))

stmt_some : (x : VStmt) → fits_stmt x ≡ true → 0 < length (flat_stmt x)
stmt_some =
    by_stmt (λ x. fits_stmt x ≡ true → 0 < length (flat_stmt x))
    (λ s h. rw (flat_stmt_Empty s) (omega arith))
    (λ w l s e h. rw (flat_stmt_Block w l s e) (omega arith))
    (λ l m v s h. rw (flat_stmt_Assign l m v s, length-append (flat_lval l) (m ∷ (flat_expr v ++ (s ∷ [])))) (omega arith))
    (λ a b c h. rw (flat_stmt_If a b c) (omega arith))
    (λ w o s c i e h. rw (flat_stmt_Case w o s c i e) (omega arith))

stmts_rule : (room more : ℕ) (p q : Reader VStmt) → Stmts room more p q → Reading room more (46 ∷ 28 ∷ 1 ∷ 44 ∷ 26 ∷ 33 ∷ 36 ∷ 29 ∷ []) (29 ∷ []) (stmts p) (stmts q) (flat_list flat_stmt) (Holds (list_all fits_stmt))
unfolding stmts
stmts_rule room more p q inner = each_rule begins_stmt stmt_firsts (29 ∷ []) begins_stmt_sorted refl refl refl refl stmt_some (settled inner)

abbrev make_block : VToken × (Option VLabel × (List VStmt × VToken)) → VStmt
make_block p = VStmt.Block p.0 p.1.0 p.1.1.0 p.1.1.1

abbrev BlockParts : VToken × (Option VLabel × (List VStmt × VToken)) → Type 0
BlockParts p = (is_word (codes "begin") p.0 ≡ true) × ((fits_option fits_label p.1.0 ≡ true) × ((list_all fits_stmt p.1.1.0 ≡ true) × (is_word (codes "end") p.1.1.1 ≡ true)))

block_rule : (room more : ℕ) (p q : Reader VStmt) → Stmts room more p q → Reading (suc room) (suc more) (28 ∷ []) (27 ∷ stmt_nexts) (block p) (block q) flat_stmt (Image make_block BlockParts)
unfolding block
block_rule room more p q inner =
    image_rule make_block flat_stmt (λ a h. flat_stmt_Block a.0 a.1.0 a.1.1.0 a.1.1.1)
    (then_step_rule refl (λ a h. some_token a) (begin_word_rule (suc room) (suc more) label_nexts_begin)
    (λ _. then_rule refl (any_label_rule room more (46 ∷ 28 ∷ 1 ∷ 44 ∷ 26 ∷ 33 ∷ 36 ∷ 29 ∷ []) refl refl) (λ _. then_rule refl (stmts_rule room more p q inner) (λ _. end_word_rule room more (27 ∷ stmt_nexts)))))
  where
    label_nexts_begin : List ℕ
    label_nexts_begin = 49 ∷ 46 ∷ 28 ∷ 1 ∷ 44 ∷ 26 ∷ 33 ∷ 36 ∷ 29 ∷ []

abbrev make_assign : VLval × (VToken × (VExpr × VToken)) → VStmt
make_assign p = VStmt.Assign p.0 p.1.0 p.1.1.0 p.1.1.1

abbrev AssignParts : VLval × (VToken × (VExpr × VToken)) → Type 0
AssignParts p = (fits_lval p.0 ≡ true) × ((is_assigning p.1.0 ≡ true) × ((fits_expr p.1.1.0 ≡ true) × (is_mark (codes ";") p.1.1.1 ≡ true)))

assign_rule : (room more : ℕ) → room ≤ more → Reading room more (1 ∷ 44 ∷ []) (27 ∷ stmt_nexts) (assign room) (assign more) flat_stmt (Image make_assign AssignParts)
unfolding assign
assign_rule room more le =
    image_rule make_assign flat_stmt (λ a h. flat_stmt_Assign a.0 a.1.0 a.1.1.0 a.1.1.1)
    (then_rule refl (lval_rule room more le) (λ _. then_rule refl (assigning_rule room more expr_firsts) (λ _. then_rule refl (expr_rule room more le) (λ _. semi_rule room more (27 ∷ stmt_nexts)))))

-- ---- an `if`

abbrev make_else : VToken × VStmt → VElse
make_else p = roll-VElse (record { word = p.0; stmt = p.1 })

abbrev else_opens : VElse → Bool
else_opens x = (grade_else x).1

else_parts : (x : VElse) → fits_else x ≡ true → (p : VToken × VStmt) × ((make_else p ≡ x) × ((is_word (codes "else") p.0 ≡ true) × (fits_stmt p.1 ≡ true)))
else_parts x h =
    let o = out-VElse x in
    let e : fits_else (roll-VElse o) ≡ true = subst (λ y. fits_else y ≡ true) (sym (roll-out-VElse x)) h in
    ((o.word, o.stmt), (roll-out-VElse x, fit2 (sym (ap (λ g. g.0) (grade_else_roll o)) ∙ e)))

else_ending : (room more : ℕ) (p q : Reader VStmt) → Stmts room more p q → Ending room more (27 ∷ []) stmt_nexts else_opens (else_part p) (else_part q) flat_else (Holds fits_else)
unfolding else_part
else_ending room more p q inner =
    as_ending make_else flat_else (Holds fits_else) else_opens (λ a. ap (λ g. g.1) (grade_else_roll _)) (λ a h. (flat_else_roll _, ap (λ g. g.0) (grade_else_roll _) ∙ both2 h)) else_parts
    (then_ending refl (else_word_rule room more stmt_firsts) inner)

abbrev Branches : Type 0
Branches = VStmt × Option VElse

abbrev flat_branches : Branches → Tokens
flat_branches p = flat_stmt p.0 ++ flat_option flat_else p.1

abbrev FitsBranches : Branches → Type 0
FitsBranches p = Holds fits_stmt p.0 × ElseFits (Holds fits_else) (ends_open p.0) p.1

if_branches_ending : (room more : ℕ) (p q : Reader VStmt) → Stmts room more p q → Ending room more stmt_firsts stmt_nexts (branch_opens else_opens) (branches p) (branches q) flat_branches FitsBranches
unfolding branches any_else part
if_branches_ending room more p q inner =
    branches_ending ends_open else_opens p q (else_part p) (else_part q) flat_stmt flat_else (Holds fits_stmt) (Holds fits_else) room more stmt_firsts stmt_nexts refl inner (else_ending room more p q inner)

abbrev make_if : VIfHead × Branches → VStmt
make_if p = VStmt.If p.0 p.1.0 p.1.1

if_opens : (p : VIfHead × Branches) → ends_open (make_if p) ≡ branch_opens else_opens p.1
if_opens (h, (s, None)) = ap (λ g. g.1) (grade_stmt_If_alone h s)
if_opens (h, (s, Some e)) = ap (λ g. g.1) (grade_stmt_If_with h s e)

abbrev IfParts : VIfHead × Branches → Type 0
IfParts p = (fits_if_head p.0 ≡ true) × FitsBranches p.1

if_fits : (p : VIfHead × Branches) → IfParts p → fits_stmt (make_if p) ≡ true
if_fits (a, (s, None)) h = ap (λ g. g.0) (grade_stmt_If_alone a s) ∙ and_both _ _ h.0 h.1.0
if_fits (a, (s, Some e)) h = let d = else_there fits_else (ends_open s) e h.1.1 in ap (λ g. g.0) (grade_stmt_If_with a s e) ∙ both4 (h.0, (h.1.0, (d.0, d.1)))

if_parts : (a : VIfHead) (s : VStmt) (o : Option VElse) → fits_stmt (VStmt.If a s o) ≡ true → IfParts (a, (s, o))
if_parts a s None h = let g = fit2 (sym (ap (λ g. g.0) (grade_stmt_If_alone a s)) ∙ h) in (g.0, (g.1, no_else fits_else (ends_open s)))
if_parts a s (Some e) h = let g = fit4 (sym (ap (λ g. g.0) (grade_stmt_If_with a s e)) ∙ h) in (g.0, (g.1.0, there_else fits_else (ends_open s) e g.1.1.0 g.1.1.1))

conditional_ending : (room more : ℕ) → room ≤ more → (p q : Reader VStmt) → Stmts room more p q
    → Ending (suc room) (suc more) (26 ∷ []) stmt_nexts ends_open (conditional (suc room) p) (conditional (suc more) q) flat_stmt (Image make_if IfParts)
unfolding conditional
conditional_ending room more le p q inner =
    image_ending make_if flat_stmt ends_open if_opens (λ a h. flat_stmt_If a.0 a.1.0 a.1.1)
    (then_step_ending refl (λ a h. omega arith) (if_head_rule (suc room) (suc more) (omega arith)) (if_branches_ending room more p q inner))

-- ---- a `case`

abbrev fits_labelled : VCitem → Bool
fits_labelled x = fits_citem x && not (grade_citem x).1

abbrev fits_default : VCitem → Bool
fits_default x = fits_citem x && (grade_citem x).1

abbrev make_labels : VExpr × (List VNextExpr × (VToken × VStmt)) → VCitem
make_labels p = VCitem.Labels p.0 p.1.0 p.1.1.0 p.1.1.1

abbrev LabelParts : VExpr × (List VNextExpr × (VToken × VStmt)) → Type 0
LabelParts p = (fits_expr p.0 ≡ true) × ((list_all fits_next_expr p.1.0 ≡ true) × ((is_mark (codes ":") p.1.1.0 ≡ true) × (fits_stmt p.1.1.1 ≡ true)))

labels_fit : (x : VCitem) → Image make_labels LabelParts x → fits_labelled x ≡ true
labels_fit x (p, (e, h)) =
    subst (λ y. fits_labelled y ≡ true) e
    (and_both _ _ (ap (λ g. g.0) (grade_citem_Labels p.0 p.1.0 p.1.1.0 p.1.1.1) ∙ both4 h) (ap (λ g. not g.1) (grade_citem_Labels p.0 p.1.0 p.1.1.0 p.1.1.1)))

label_parts : (x : VCitem) → fits_labelled x ≡ true → Image make_labels LabelParts x
label_parts =
    by_citem (λ x. fits_labelled x ≡ true → Image make_labels LabelParts x)
    (λ f m c s h. ((f, (m, (c, s))), (refl, fit4 (sym (ap (λ g. g.0) (grade_citem_Labels f m c s)) ∙ and_left _ _ h))))
    (λ w c s h. absurd (not_both (sym (ap (λ g. not g.1) (grade_citem_Default w c s)) ∙ and_right _ _ h) refl))

abbrev make_default : VToken × (Option VToken × VStmt) → VCitem
make_default p = VCitem.Default p.0 p.1.0 p.1.1

abbrev DefaultParts : VToken × (Option VToken × VStmt) → Type 0
DefaultParts p = (is_word (codes "default") p.0 ≡ true) × ((fits_option (is_mark (codes ":")) p.1.0 ≡ true) × (fits_stmt p.1.1 ≡ true))

default_fits : (x : VCitem) → Image make_default DefaultParts x → fits_default x ≡ true
default_fits x (p, (e, h)) =
    subst (λ y. fits_default y ≡ true) e (and_both _ _ (ap (λ g. g.0) (grade_citem_Default p.0 p.1.0 p.1.1) ∙ both3 h) (ap (λ g. g.1) (grade_citem_Default p.0 p.1.0 p.1.1)))

default_parts : (x : VCitem) → fits_default x ≡ true → Image make_default DefaultParts x
default_parts =
    by_citem (λ x. fits_default x ≡ true → Image make_default DefaultParts x)
    (λ f m c s h. absurd (not_both (sym (ap (λ g. g.1) (grade_citem_Labels f m c s)) ∙ and_right _ _ h) refl))
    (λ w c s h. ((w, (c, s)), (refl, fit3 (sym (ap (λ g. g.0) (grade_citem_Default w c s)) ∙ and_left _ _ h))))

citem_some : (x : VCitem) → fits_labelled x ≡ true → 0 < length (flat_citem x)
citem_some =
    by_citem (λ x. fits_labelled x ≡ true → 0 < length (flat_citem x))
    (λ f m c s h. rw (flat_citem_Labels f m c s, length-append (flat_expr f) (flat_list flat_next_expr m ++ (c ∷ flat_stmt s))) (labels_some f (flat_list flat_next_expr m ++ (c ∷ flat_stmt s))))
    (λ w c s h. rw (flat_citem_Default w c s) (omega arith))
  where
    labels_some : (f : VExpr) (ts : Tokens) → 0 < length (flat_expr f) + length ts
    labels_some f ts = omega (arith, some_flat f)

labelled_rule : (room more : ℕ) → room ≤ more → (p q : Reader VStmt) → Stmts room more p q → Reading room more expr_firsts citem_nexts (labelled (suc room) p) (labelled (suc more) q) flat_citem (Holds fits_labelled)
unfolding labelled
labelled_rule room more le p q inner =
    fitting_rule (Holds fits_labelled) labels_fit label_parts
    (image_rule make_labels flat_citem (λ a h. flat_citem_Labels a.0 a.1.0 a.1.1.0 a.1.1.1)
    (then_rule refl (lower_rule (expr_rule (suc room) (suc more) (omega arith))) (λ _. then_rule refl (next_exprs_rule room more _ _ (49 ∷ []) refl refl (lower_rule (expr_rule (suc room) (suc more) (omega arith))))
    (λ _. then_rule refl (colon_rule room more stmt_firsts) (λ _. wider_rule stmt_firsts citem_nexts refl refl (settled inner))))))

all_labelled_rule : (room more : ℕ) (N : List ℕ) → disjoint N expr_firsts ≡ true → subset (expr_firsts ++ N) citem_nexts ≡ true → room ≤ more → (p q : Reader VStmt) → Stmts room more p q
    → Reading room more (expr_firsts ++ N) N (all_labelled (suc room) p) (all_labelled (suc more) q) (flat_list flat_citem) (Holds (list_all fits_labelled))
unfolding all_labelled
all_labelled_rule room more N away sub le p q inner = each_rule begins_expr expr_firsts N begins_expr_sorted refl refl away sub citem_some (labelled_rule room more le p q inner)

default_item_rule : (room more : ℕ) (p q : Reader VStmt) → Stmts room more p q → Reading room more (35 ∷ []) citem_nexts (default_item p) (default_item q) flat_citem (Holds fits_default)
unfolding default_item
default_item_rule room more p q inner =
    fitting_rule (Holds fits_default) default_fits default_parts
    (image_rule make_default flat_citem (λ a h. flat_citem_Default a.0 a.1.0 a.1.1)
    (then_rule refl (default_word_rule room more (49 ∷ 46 ∷ 28 ∷ 1 ∷ 44 ∷ 26 ∷ 33 ∷ 36 ∷ [])) (λ _. then_rule refl (any_rule (is_mark (codes ":")) (49 ∷ []) colon_sorted refl refl refl (colon_rule room more stmt_firsts))
    (λ _. wider_rule stmt_firsts citem_nexts refl refl (settled inner)))))

abbrev WithDefault : Type 0
WithDefault = VCitem × List VCitem

abbrev flat_with_default : WithDefault → Tokens
flat_with_default p = flat_citem p.0 ++ flat_list flat_citem p.1

abbrev fits_with_default : WithDefault → Bool
fits_with_default p = fits_default p.0 && list_all fits_labelled p.1

default_and_more_rule : (room more : ℕ) → room ≤ more → (p q : Reader VStmt) → Stmts room more p q
    → Reading room more (35 ∷ []) (34 ∷ []) (default_and_more (suc room) p) (default_and_more (suc more) q) flat_with_default (Holds fits_with_default)
unfolding default_and_more
default_and_more_rule room more le p q inner =
    fitting_rule (Holds fits_with_default) (λ a h. both2 h) (λ a h. fit2 h)
    (then_rule refl (default_item_rule room more p q inner) (λ _. all_labelled_rule room more (34 ∷ []) refl refl le p q inner))

-- a case's items: at most one is a default
abbrev CaseItems : Type 0
CaseItems = List VCitem × Option WithDefault

abbrev defaults : List VCitem → ℕ
defaults xs = count_true (map (λ g. g.1) (map grade_citem xs))

abbrev fits_citems : List VCitem → Bool
fits_citems xs = list_all fits_citem xs && nat_le (defaults xs) 1

abbrev FitsItems : CaseItems → Type 0
FitsItems p = (list_all fits_labelled p.0 ≡ true) × (fits_option fits_with_default p.1 ≡ true)

flat_join : (xs ys : List VCitem) → flat_list flat_citem (xs ++ ys) ≡ flat_list flat_citem xs ++ flat_list flat_citem ys
flat_join [] ys = refl
flat_join (x ∷ xs) ys = rw (flat_join xs ys) (simp append_assoc)

flat_three : (xs ys : List VCitem) (x : VCitem) → flat_list flat_citem (xs ++ x ∷ [] ++ ys) ≡ flat_list flat_citem xs ++ (flat_citem x ++ flat_list flat_citem ys)
flat_three xs ys x = flat_join (xs ++ x ∷ []) ys ∙ ap (λ ts. ts ++ flat_list flat_citem ys) (flat_join xs (x ∷ [])) ∙ simp (append_assoc, append-nil)

items_flat : (p : CaseItems) → flat_list flat_citem (citems_from p) ≡ flat_list flat_citem p.0 ++ flat_option flat_with_default p.1
items_flat (xs, None) = sym (append-nil (flat_list flat_citem xs))
items_flat (xs, Some (x, ys)) = flat_three xs ys x

labelled_fit : (xs : List VCitem) → list_all fits_labelled xs ≡ true → (list_all fits_citem xs ≡ true) × (defaults xs ≡ 0)
labelled_fit [] h = (refl, refl)
labelled_fit (x ∷ xs) h =
    let ih = labelled_fit xs (and_right _ _ h) in
    let out : (grade_citem x).1 ≡ false = not_true _ (and_right _ _ (and_left _ _ h)) in
    (and_both _ _ (and_left _ _ (and_left _ _ h)) ih.0, rw out ih.1)

all_join : (xs ys : List VCitem) → list_all fits_citem xs ≡ true → list_all fits_citem ys ≡ true → list_all fits_citem (xs ++ ys) ≡ true
all_join [] ys h g = g
all_join (x ∷ xs) ys h g = and_both _ _ (and_left _ _ h) (all_join xs ys (and_right _ _ h) g)

defaults_join : (xs ys : List VCitem) → defaults xs ≡ 0 → defaults (xs ++ ys) ≡ defaults ys
defaults_join [] ys h = refl
defaults_join (x ∷ xs) ys h = by_case (grade_citem x).1 (defaults_join xs ys) h
  where
    by_case : (b : Bool) → (defaults xs ≡ 0 → defaults (xs ++ ys) ≡ defaults ys) → cond b (defaults xs + 1) (defaults xs) ≡ 0 → cond b (defaults (xs ++ ys) + 1) (defaults (xs ++ ys)) ≡ defaults ys
    by_case true ih h = absurd (omega arith)
    by_case false ih h = ih h

small : (n m : ℕ) → n ≤ m → nat_le n m ≡ true
small n m le = grind (arith, nat_tests)

at_most : (n m : ℕ) → nat_le n m ≡ true → n ≤ m
at_most n m h = grind (arith, nat_tests)

one_default : (n m k : ℕ) → n ≡ m → m ≡ k + 1 → k ≡ 0 → nat_le n 1 ≡ true
one_default n m k e h i = small n 1 (omega arith)

items_fit : (p : CaseItems) → FitsItems p → fits_citems (citems_from p) ≡ true
items_fit (xs, None) h = let f = labelled_fit xs h.0 in and_both _ _ f.0 (small (defaults xs) 1 (omega (arith, f.1)))
items_fit (xs, Some (x, ys)) h =
    let f = labelled_fit xs h.0 in let g = labelled_fit ys (and_right _ _ h.1) in
    let d : (grade_citem x).1 ≡ true = and_right _ _ (and_left _ _ h.1) in
    let one : defaults (x ∷ ys) ≡ defaults ys + 1 = rw d refl in
    let all : list_all fits_citem (xs ++ (x ∷ ys)) ≡ true = all_join xs (x ∷ ys) f.0 (and_both _ _ (and_left _ _ (and_left _ _ h.1)) g.0) in
    let count : defaults (xs ++ (x ∷ ys)) ≡ defaults (x ∷ ys) = defaults_join xs (x ∷ ys) f.1 in
    rw (append_assoc xs (x ∷ []) ys) (and_both _ _ all (one_default (defaults (xs ++ (x ∷ ys))) (defaults (x ∷ ys)) (defaults ys) count one g.1))

fit_labelled : (xs : List VCitem) → list_all fits_citem xs ≡ true → defaults xs ≤ 0 → list_all fits_labelled xs ≡ true
fit_labelled [] h n = refl
fit_labelled (x ∷ xs) h n = by_case (grade_citem x).1 refl (fit_labelled xs (and_right _ _ h)) n
  where
    by_case : (b : Bool) → (grade_citem x).1 ≡ b → (defaults xs ≤ 0 → list_all fits_labelled xs ≡ true) → cond b (defaults xs + 1) (defaults xs) ≤ 0 → list_all fits_labelled (x ∷ xs) ≡ true
    by_case true e ih n = absurd (omega arith)
    by_case false e ih n = and_both _ _ (and_both _ _ (and_left _ _ h) (true_not _ e)) (ih n)

Split : List VCitem → Type 0
Split xs = (p : CaseItems) × ((citems_from p ≡ xs) × FitsItems p)

split_more : (x : VCitem) (xs : List VCitem) → fits_labelled x ≡ true → Split xs → Split (x ∷ xs)
unfolding Split
split_more x xs h ((before, None), (e, f)) = ((x ∷ before, None), (ap (λ ys. x ∷ ys) e, (and_both _ _ h f.0, f.1)))
split_more x xs h ((before, Some w), (e, f)) = ((x ∷ before, Some w), (ap (λ ys. x ∷ ys) e, (and_both _ _ h f.0, f.1)))

items_split : (xs : List VCitem) → list_all fits_citem xs ≡ true → defaults xs ≤ 1 → Split xs
unfolding Split
items_split [] h n = (([], None), (refl, (refl, refl)))
items_split (x ∷ xs) h n = by_case (grade_citem x).1 refl (items_split xs (and_right _ _ h)) n
  where
    by_case : (b : Bool) → (grade_citem x).1 ≡ b → (defaults xs ≤ 1 → Split xs) → cond b (defaults xs + 1) (defaults xs) ≤ 1 → Split (x ∷ xs)
    by_case true e ih n = (([], Some (x, xs)), (refl, (refl, and_both _ _ (and_both _ _ (and_left _ _ h) e) (fit_labelled xs (and_right _ _ h) (omega arith)))))
    by_case false e ih n = split_more x xs (and_both _ _ (and_left _ _ h) (true_not _ e)) (ih n)

split_items : (xs : List VCitem) → fits_citems xs ≡ true → (p : CaseItems) × ((citems_from p ≡ xs) × FitsItems p)
unfolding Split
split_items xs h = items_split xs (and_left _ _ h) (at_most (defaults xs) 1 (and_right _ _ h))

citems_rule : (room more : ℕ) → room ≤ more → (p q : Reader VStmt) → Stmts room more p q
    → Reading room more citem_nexts (34 ∷ []) (citems (suc room) p) (citems (suc more) q) (flat_list flat_citem) (Holds fits_citems)
unfolding citems
citems_rule room more le p q inner =
    wider_rule citem_nexts (34 ∷ []) refl refl
    (as_rule citems_from (flat_list flat_citem) (Holds fits_citems) (λ a h. (items_flat a, items_fit a h)) split_items
    (then_rule refl (all_labelled_rule room more (35 ∷ 34 ∷ []) refl refl le p q inner)
    (λ _. any_rule (is_word (codes "default")) (35 ∷ []) default_word_sorted refl refl refl (default_and_more_rule room more le p q inner))))

abbrev make_case : VToken × (VToken × (VExpr × (VToken × (List VCitem × VToken)))) → VStmt
make_case p = VStmt.Case p.0 p.1.0 p.1.1.0 p.1.1.1.0 p.1.1.1.1.0 p.1.1.1.1.1

abbrev CaseParts : VToken × (VToken × (VExpr × (VToken × (List VCitem × VToken)))) → Type 0
CaseParts p =
    (is_case_word p.0 ≡ true) × ((is_mark (codes "(") p.1.0 ≡ true) × ((fits_expr p.1.1.0 ≡ true) × ((is_mark (codes ")") p.1.1.1.0 ≡ true) × ((fits_citems p.1.1.1.1.0 ≡ true) × (is_word (codes "endcase") p.1.1.1.1.1 ≡ true)))))

cases_rule : (room more : ℕ) → room ≤ more → (p q : Reader VStmt) → Stmts room more p q → Reading (suc room) (suc more) (33 ∷ 36 ∷ []) (27 ∷ stmt_nexts) (cases (suc room) p) (cases (suc more) q) flat_stmt (Image make_case CaseParts)
unfolding cases
cases_rule room more le p q inner =
    image_rule make_case flat_stmt (λ a h. flat_stmt_Case a.0 a.1.0 a.1.1.0 a.1.1.1.0 a.1.1.1.1.0 a.1.1.1.1.1)
    (then_step_rule refl (λ a h. some_token a) (case_any_rule (suc room) (suc more) (40 ∷ [])) (λ _. then_rule refl (open_paren_rule room more expr_firsts)
    (λ _. then_rule refl (lower_rule (expr_rule (suc room) (suc more) (omega arith))) (λ _. then_rule refl (close_paren_rule room more citem_nexts)
    (λ _. then_rule refl (citems_rule room more le p q inner) (λ _. endcase_word_rule room more (27 ∷ stmt_nexts)))))))

case_fits : (p : VToken × (VToken × (VExpr × (VToken × (List VCitem × VToken))))) → CaseParts p → fits_stmt (make_case p) ≡ true
case_fits (w, (o, (s, (c, (i, e))))) h =
    ap (λ g. g.0) (grade_stmt_Case w o s c i e) ∙ both7 (h.0, (h.1.0, (h.1.1.0, (h.1.1.1.0, (and_left _ _ h.1.1.1.1.0, (and_right _ _ h.1.1.1.1.0, h.1.1.1.1.1))))))

case_parts : (w o : VToken) (s : VExpr) (c : VToken) (i : List VCitem) (e : VToken) → fits_stmt (VStmt.Case w o s c i e) ≡ true → CaseParts (w, (o, (s, (c, (i, e)))))
case_parts w o s c i e h =
    let g = fit7 (sym (ap (λ g. g.0) (grade_stmt_Case w o s c i e)) ∙ h) in
    (g.0, (g.1.0, (g.1.1.0, (g.1.1.1.0, (and_both _ _ g.1.1.1.1.0 g.1.1.1.1.1.0, g.1.1.1.1.1.1)))))

-- ---- every statement

abbrev StmtKinds : VStmt → Type 0
StmtKinds x =
    Image VStmt.Empty (Holds (is_mark (codes ";"))) x ⊎ (Image make_block BlockParts x ⊎ (Image make_if IfParts x ⊎ (Image make_case CaseParts x ⊎ Image make_assign AssignParts x)))

abbrev FitsStmt : VStmt → Type 0
FitsStmt x = fits_stmt x ≡ true

stmt_fits : (x : VStmt) → StmtKinds x → fits_stmt x ≡ true
stmt_fits x (inl (t, (e, h))) = subst FitsStmt e (ap (λ g. g.0) (grade_stmt_Empty t) ∙ h)
stmt_fits x (inr (inl (p, (e, h)))) = subst FitsStmt e (ap (λ g. g.0) (grade_stmt_Block p.0 p.1.0 p.1.1.0 p.1.1.1) ∙ both4 h)
stmt_fits x (inr (inr (inl (p, (e, h))))) = subst FitsStmt e (if_fits p h)
stmt_fits x (inr (inr (inr (inl (p, (e, h)))))) = subst FitsStmt e (case_fits p h)
stmt_fits x (inr (inr (inr (inr (p, (e, h)))))) = subst FitsStmt e (ap (λ g. g.0) (grade_stmt_Assign p.0 p.1.0 p.1.1.0 p.1.1.1) ∙ both4 h)

fits_stmts : (x : VStmt) → fits_stmt x ≡ true → StmtKinds x
fits_stmts =
    by_stmt (λ x. fits_stmt x ≡ true → StmtKinds x)
    (λ t h. inl (t, (refl, sym (ap (λ g. g.0) (grade_stmt_Empty t)) ∙ h)))
    (λ w l s e h. inr (inl ((w, (l, (s, e))), (refl, fit4 (sym (ap (λ g. g.0) (grade_stmt_Block w l s e)) ∙ h)))))
    (λ l m v s h. inr (inr (inr (inr ((l, (m, (v, s))), (refl, fit4 (sym (ap (λ g. g.0) (grade_stmt_Assign l m v s)) ∙ h)))))))
    (λ a s o h. inr (inr (inl ((a, (s, o)), (refl, if_parts a s o h)))))
    (λ w o s c i e h. inr (inr (inr (inl ((w, (o, (s, (c, (i, e))))), (refl, case_parts w o s c i e h))))))

stmt_of_ending : (room more : ℕ) → room ≤ more → (p q : Reader VStmt) → Stmts room more p q → Stmts (suc room) (suc more) (stmt_of (suc room) p) (stmt_of (suc more) q)
unfolding stmt_of
stmt_of_ending room more le p q inner =
    wider_ending stmt_firsts stmt_nexts refl refl
    (fitting_ending (Holds fits_stmt) stmt_fits fits_stmts
    (or_ending (is_mark (codes ";")) (46 ∷ []) semi_sorted refl refl refl (always ends_open (image_rule VStmt.Empty flat_stmt (λ t h. flat_stmt_Empty t) (semi_rule (suc room) (suc more) (27 ∷ stmt_nexts))))
    (or_ending (is_word (codes "begin")) (28 ∷ []) begin_word_sorted refl refl refl (always ends_open (block_rule room more p q inner))
    (or_ending (is_word (codes "if")) (26 ∷ []) if_word_sorted refl refl refl (conditional_ending room more le p q inner)
    (or_ending is_case_word (33 ∷ 36 ∷ []) is_case_word_sorted refl refl refl (always ends_open (cases_rule room more le p q inner)) (always ends_open (assign_rule (suc room) (suc more) (omega arith))))))))

some_stmt : VStmt
unfolding is_token is_quoted
some_stmt = VStmt.Empty (token_of Mark (codes ";") refl)

some_stmt_fits : fits_stmt some_stmt ≡ true
unfolding some_stmt token_of is_token is_quoted
some_stmt_fits = ap (λ g. g.0) (grade_stmt_Empty _)

pub stmt_ending : (room more : ℕ) → room ≤ more → Ending room more stmt_firsts stmt_nexts ends_open (stmt room) (stmt more) flat_stmt (Holds fits_stmt)
unfolding stmt
stmt_ending zero zero le = no_room_ending some_stmt some_stmt_fits
stmt_ending zero (suc more) le = sunk_ending (stmt_of_ending more more (omega arith) (stmt more) (stmt more) (stmt_ending more more (omega arith)))
stmt_ending (suc room) (suc more) le = stmt_of_ending room more (omega arith) (stmt room) (stmt more) (stmt_ending room more (omega arith))
stmt_ending (suc room) zero le = absurd (omega arith)
