-- The laws of modules and their items.
use Rattle.std.proofs.Common.{◌≡◌, ℕ, zero, suc, ◌<◌, ◌≤◌, Bool, true, ◌&&◌, List, [], ◌∷◌, ◌++◌, length, Option, Some, None, codes, refl, sym, ◌∙◌, ◌⊎◌, inl, inr, ap, subst, length-append, arith}
use Rattle.std.specs.List.{list_all}
use Rattle.vlog_tree.specs.declared.token.VTokenKind.TheVariants.{Name, Mark, Word}
use Rattle.vlog_tree.specs.declared.token.VToken.{VToken}
use Rattle.vlog_tree.specs.declared.tree_expressions.VExpr.{VExpr}
use Rattle.vlog_tree.specs.declared.tree_expressions.VNextExpr.{VNextExpr}
use Rattle.vlog_tree.specs.declared.tree_expressions.VLval.{VLval}
use Rattle.vlog_tree.specs.declared.tree_statements.VEvent.{VEvent}
use Rattle.vlog_tree.specs.declared.tree_statements.VLabel.{VLabel}
use Rattle.vlog_tree.specs.declared.tree_statements.VIfHead.{VIfHead}
use Rattle.vlog_tree.specs.declared.tree_statements.VStmt.{VStmt}
use Rattle.vlog_tree.specs.declared.tree_modules.VDir.{VDir}
use Rattle.vlog_tree.specs.declared.tree_modules.VKind.{VKind}
use Rattle.vlog_tree.specs.declared.tree_modules.VRange.{VRange}
use Rattle.vlog_tree.specs.declared.tree_modules.VType.{VType}
use Rattle.vlog_tree.specs.declared.tree_modules.VAssigned.{VAssigned}
use Rattle.vlog_tree.specs.declared.tree_modules.VNet.{VNet}
use Rattle.vlog_tree.specs.declared.tree_modules.VNextNet.{VNextNet}
use Rattle.vlog_tree.specs.declared.tree_modules.VConstant.{VConstant}
use Rattle.vlog_tree.specs.declared.tree_modules.VNextConstant.{VNextConstant}
use Rattle.vlog_tree.specs.declared.tree_modules.VDriver.{VDriver}
use Rattle.vlog_tree.specs.declared.tree_modules.VNextDriver.{VNextDriver}
use Rattle.vlog_tree.specs.declared.tree_modules.VNextName.{VNextName}
use Rattle.vlog_tree.specs.declared.tree_modules.VPdec.{VPdec}
use Rattle.vlog_tree.specs.declared.tree_modules.VNextPdec.{VNextPdec}
use Rattle.vlog_tree.specs.declared.tree_modules.VPdecs.{VPdecs}
use Rattle.vlog_tree.specs.declared.tree_modules.VPortHead.{VPortHead}
use Rattle.vlog_tree.specs.declared.tree_modules.VNextPort.{VNextPort}
use Rattle.vlog_tree.specs.declared.tree_modules.VPorts.{VPorts}
use Rattle.vlog_tree.specs.declared.tree_modules.VPortList.{VPortList}
use Rattle.vlog_tree.specs.declared.tree_modules.VConn.{VConn}
use Rattle.vlog_tree.specs.declared.tree_modules.VNextConn.{VNextConn}
use Rattle.vlog_tree.specs.declared.tree_modules.VConns.{VConns}
use Rattle.vlog_tree.specs.declared.tree_modules.VOverrides.{VOverrides}
use Rattle.vlog_tree.specs.declared.tree_modules.VInstance.{VInstance}
use Rattle.vlog_tree.specs.declared.tree_modules.VForHead.{VForHead}
use Rattle.vlog_tree.specs.declared.tree_modules.VMitem.{VMitem}
use Rattle.vlog_tree.specs.declared.tree_modules.VMitem.TheVariants as VMitem
use Rattle.vlog_tree.specs.declared.tree_modules.VGbody.{VGbody}
use Rattle.vlog_tree.specs.declared.tree_modules.VGbody.TheVariants as VGbody
use Rattle.vlog_tree.specs.declared.tree_modules.VGelse.{VGelse, out-VGelse, roll-VGelse, roll-out-VGelse}
use Rattle.vlog_tree.specs.declared.tree_modules.VModule.{VModule}
use Rattle.vlog_tree.specs.Spelling.{is_token, is_quoted}
use Rattle.vlog_tree.specs.Terminals.{Tokens, is_mark, is_word, is_name, is_constant_word}
use Rattle.vlog_tree.specs.Parts.{flat_option, flat_list, fits_option}
use Rattle.vlog_tree.specs.Expressions.{fits_expr, fits_next_expr}
use Rattle.vlog_tree.specs.Statements.{fits_event, fits_label, fits_if_head, fits_stmt}
use Rattle.vlog_tree.specs.Modules.{flat_dir, fits_dir, flat_kind, fits_kind, flat_range, fits_range, flat_type, fits_type, flat_assigned, fits_assigned, flat_net, fits_net, flat_next_net, fits_next_net, flat_constant, fits_constant, flat_next_constant, fits_next_constant, flat_driver, fits_driver, flat_next_driver, fits_next_driver, flat_next_name, fits_next_name, flat_pdec, fits_pdec, flat_next_pdec, fits_next_pdec, flat_pdecs, fits_pdecs, flat_port_head, fits_port_head, flat_next_port, fits_next_port, flat_ports, fits_ports, flat_port_list, fits_port_list, flat_conn, fits_conn, flat_next_conn, fits_next_conn, flat_conns, fits_conns, flat_overrides, fits_overrides, flat_instance, fits_instance, flat_for_head, fits_for_head, flat_module, fits_module, flat_gbody, fits_gbody, flat_mitem, fits_mitem, flat_gelse, grade_gelse, fits_gelse, item_ends_open, body_ends_open, is_named_block}
use Rattle.vlog_tree.specs.ReadExpressions.{Reader, word, begins_expr}
use Rattle.vlog_tree.specs.ReadModules.{dir, kind, range, shape, assigned, net, next_net, constant, next_constant, driver, next_driver, next_name, pdec, next_pdec, pdecs, port_head, next_port, ports, port_list, conn, next_conn, conns, overrides, instance, for_head, is_dir, is_net_kind, begins_ports, begins_conns, port_item, net_item, constant_item, genvar_item, assign_item, always_item, initial_item, begins_mitem, mitems, region, body_block, named_block, for_item, gbody, gelse, any_gelse, gbranches, gconditional, mitem_of, mitem, module_, modules}
use Rattle.vlog_tree.proofs.FoldsModules.{flat_gbody_Item, flat_gbody_Block, grade_gbody_Item, grade_gbody_Block, by_gbody, flat_mitem_Ports, flat_mitem_Nets, flat_mitem_Constants, flat_mitem_Genvars, flat_mitem_Assigns, flat_mitem_Always, flat_mitem_Initial, flat_mitem_Generate, flat_mitem_Instance, flat_mitem_For, flat_mitem_If, grade_mitem_Ports, grade_mitem_Nets, grade_mitem_Constants, grade_mitem_Genvars, grade_mitem_Assigns, grade_mitem_Always, grade_mitem_Initial, grade_mitem_Generate, grade_mitem_Instance, grade_mitem_For, grade_mitem_If_alone, grade_mitem_If_with, by_mitem, flat_gelse_roll, grade_gelse_roll}
use Rattle.vlog_tree.proofs.Sorts.{and_both, and_left, and_right, not_both, subset, disjoint, always_word_sorted, assign_word_sorted, begin_word_sorted, begins_conns_sorted, begins_expr_sorted, begins_mitem_sorted, begins_ports_sorted, comma_sorted, equals_sorted, for_word_sorted, generate_word_sorted, genvar_word_sorted, hash_sorted, if_word_sorted, initial_word_sorted, input_word_sorted, is_constant_word_sorted, is_dir_sorted, is_net_kind_sorted, module_word_sorted, name_sorted, open_bracket_sorted, open_paren_sorted, parameter_word_sorted, signed_word_sorted, wire_word_sorted}
use Rattle.vlog_tree.proofs.Conjunctions.{both2, both3, both4, both5, both7, both8, fit2, fit3, fit4, fit5, fit7, fit8}
use Rattle.vlog_tree.proofs.Sets.{expr_firsts, mitem_nexts, stmt_firsts, mitem_firsts, gbody_firsts, conns_firsts}
use Rattle.vlog_tree.proofs.Build.{Reading, Holds, Image, then_rule, then_step_rule, as_rule, any_rule, each_rule, or_rule, image_rule, fitting_rule, wider_rule}
use Rattle.vlog_tree.proofs.Endings.{Ending, always, settled, then_ending, then_step_ending, as_ending, image_ending, or_ending, fitting_ending, wider_ending, sunk_ending, no_room_ending, ElseFits, branch_opens, branches_ending, part, else_there, there_else, no_else}
use Rattle.vlog_tree.proofs.TokenRules.{token_of, open_paren_rule, close_paren_rule, open_bracket_rule, close_bracket_rule, semi_rule, comma_rule, equals_rule, colon_rule, hash_rule, dot_rule, at_rule, module_word_rule, endmodule_word_rule, parameter_word_rule, input_word_rule, output_word_rule, wire_word_rule, reg_word_rule, signed_word_rule, genvar_word_rule, assign_word_rule, always_word_rule, initial_word_rule, generate_word_rule, endgenerate_word_rule, for_word_rule, else_word_rule, begin_word_rule, end_word_rule, name_rule, constant_any_rule}
use Rattle.vlog_tree.proofs.RuleExpressions.{next_exprs_rule}
use Rattle.vlog_tree.proofs.RuleLevels.{expr_rule}
use Rattle.vlog_tree.proofs.RuleStatements.{lval_rule, label_rule, any_label_rule, if_head_rule, event_rule, stmt_ending}

some_token : (t : VToken) → 0 < length (t ∷ [])
some_token t = omega arith

abbrev dir_kinds : VDir → Type 0
dir_kinds x = Image VDir.Input (λ p. (is_word (codes "input") p ≡ true)) x ⊎ (Image VDir.Output (λ p. (is_word (codes "output") p ≡ true)) x)

dir_fits : (x : VDir) → dir_kinds x → fits_dir x ≡ true
dir_fits x (inl (p, (e, h))) = subst (λ y. fits_dir y ≡ true) e h
dir_fits x (inr (p, (e, h))) = subst (λ y. fits_dir y ≡ true) e h

fits_dirs : (x : VDir) → fits_dir x ≡ true → dir_kinds x
fits_dirs (VDir.Input word) h = inl (word, (refl, h))
fits_dirs (VDir.Output word) h = inr (word, (refl, h))

pub dir_rule : (room more : ℕ) → Reading room more (13 ∷ 14 ∷ []) (15 ∷ 16 ∷ 17 ∷ 42 ∷ 1 ∷ []) dir dir flat_dir (Holds fits_dir)
unfolding dir
dir_rule room more =
    wider_rule (13 ∷ 14 ∷ []) (15 ∷ 16 ∷ 17 ∷ 42 ∷ 1 ∷ []) refl refl
    (fitting_rule (Holds fits_dir) dir_fits fits_dirs
    (or_rule (is_word (codes "input")) (13 ∷ []) input_word_sorted refl refl refl (image_rule VDir.Input flat_dir (λ p h. refl) (input_word_rule room more (15 ∷ 16 ∷ 17 ∷ 42 ∷ 1 ∷ [])))
    (image_rule VDir.Output flat_dir (λ p h. refl) (output_word_rule room more (15 ∷ 16 ∷ 17 ∷ 42 ∷ 1 ∷ [])))))

abbrev kind_kinds : VKind → Type 0
kind_kinds x = Image VKind.Wire (λ p. (is_word (codes "wire") p ≡ true)) x ⊎ (Image VKind.Reg (λ p. (is_word (codes "reg") p ≡ true)) x)

kind_fits : (x : VKind) → kind_kinds x → fits_kind x ≡ true
kind_fits x (inl (p, (e, h))) = subst (λ y. fits_kind y ≡ true) e h
kind_fits x (inr (p, (e, h))) = subst (λ y. fits_kind y ≡ true) e h

fits_kinds : (x : VKind) → fits_kind x ≡ true → kind_kinds x
fits_kinds (VKind.Wire word) h = inl (word, (refl, h))
fits_kinds (VKind.Reg word) h = inr (word, (refl, h))

pub kind_rule : (room more : ℕ) → Reading room more (15 ∷ 16 ∷ []) (17 ∷ 42 ∷ 1 ∷ []) kind kind flat_kind (Holds fits_kind)
unfolding kind
kind_rule room more =
    wider_rule (15 ∷ 16 ∷ []) (17 ∷ 42 ∷ 1 ∷ []) refl refl
    (fitting_rule (Holds fits_kind) kind_fits fits_kinds
    (or_rule (is_word (codes "wire")) (15 ∷ []) wire_word_sorted refl refl refl (image_rule VKind.Wire flat_kind (λ p h. refl) (wire_word_rule room more (17 ∷ 42 ∷ 1 ∷ [])))
    (image_rule VKind.Reg flat_kind (λ p h. refl) (reg_word_rule room more (17 ∷ 42 ∷ 1 ∷ [])))))

abbrev make_range : VToken × (VExpr × (VToken × (VExpr × (VToken)))) → VRange
make_range p = record { «open» = p.0; high = p.1.0; colon = p.1.1.0; low = p.1.1.1.0; close = p.1.1.1.1 }

pub range_rule : (room more : ℕ) → room ≤ more → Reading room more (42 ∷ []) (1 ∷ []) (range room) (range more) flat_range (Holds fits_range)
unfolding range
range_rule room more le =
    wider_rule (42 ∷ []) (1 ∷ []) refl refl
    (as_rule make_range flat_range (Holds fits_range) (λ p h. (refl, both5 h)) (λ x h. ((x.open, (x.high, (x.colon, (x.low, x.close)))), (refl, fit5 h)))
    (then_rule refl (open_bracket_rule room more expr_firsts) (λ _. (then_rule refl (wider_rule expr_firsts (49 ∷ []) refl refl (expr_rule room more le)) (λ _. (then_rule refl (colon_rule room more expr_firsts) (λ _. (then_rule refl (wider_rule expr_firsts (43 ∷ []) refl refl (expr_rule room more le)) (λ _. (close_bracket_rule room more (1 ∷ [])))))))))))

abbrev make_type : (Option VToken) × ((Option VRange)) → VType
make_type p = record { signed = p.0; range = p.1 }

pub shape_rule : (room more : ℕ) → room ≤ more → Reading room more (17 ∷ 42 ∷ 1 ∷ []) (1 ∷ []) (shape room) (shape more) flat_type (Holds fits_type)
unfolding shape
shape_rule room more le =
    wider_rule (17 ∷ 42 ∷ 1 ∷ []) (1 ∷ []) refl refl
    (as_rule make_type flat_type (Holds fits_type) (λ p h. (refl, both2 h)) (λ x h. ((x.signed, x.range), (refl, fit2 h)))
    (then_rule refl (any_rule (is_word (codes "signed")) (17 ∷ []) signed_word_sorted refl refl refl (signed_word_rule room more (42 ∷ 1 ∷ []))) (λ _. (any_rule (is_mark (codes "[")) (42 ∷ []) open_bracket_sorted refl refl refl (wider_rule (42 ∷ []) (1 ∷ []) refl refl (range_rule room more le))))))

abbrev make_assigned : VToken × (VExpr) → VAssigned
make_assigned p = record { equals = p.0; value = p.1 }

pub assigned_rule : (room more : ℕ) → room ≤ more → Reading room more (48 ∷ []) (47 ∷ 46 ∷ []) (assigned room) (assigned more) flat_assigned (Holds fits_assigned)
unfolding assigned
assigned_rule room more le =
    wider_rule (48 ∷ []) (47 ∷ 46 ∷ []) refl refl
    (as_rule make_assigned flat_assigned (Holds fits_assigned) (λ p h. (refl, both2 h)) (λ x h. ((x.equals, x.value), (refl, fit2 h)))
    (then_rule refl (equals_rule room more expr_firsts) (λ _. (wider_rule expr_firsts (47 ∷ 46 ∷ []) refl refl (expr_rule room more le)))))

abbrev make_net : VToken × ((Option VAssigned)) → VNet
make_net p = record { name = p.0; value = p.1 }

pub net_rule : (room more : ℕ) → room ≤ more → Reading room more (1 ∷ []) (47 ∷ 46 ∷ []) (net room) (net more) flat_net (Holds fits_net)
unfolding net
net_rule room more le =
    wider_rule (1 ∷ []) (47 ∷ 46 ∷ []) refl refl
    (as_rule make_net flat_net (Holds fits_net) (λ p h. (refl, both2 h)) (λ x h. ((x.name, x.value), (refl, fit2 h)))
    (then_rule refl (name_rule room more (48 ∷ 47 ∷ 46 ∷ [])) (λ _. (any_rule (is_mark (codes "=")) (48 ∷ []) equals_sorted refl refl refl (wider_rule (48 ∷ []) (47 ∷ 46 ∷ []) refl refl (assigned_rule room more le))))))

abbrev make_next_net : VToken × (VNet) → VNextNet
make_next_net p = record { comma = p.0; net = p.1 }

pub next_net_rule : (room more : ℕ) → room ≤ more → Reading room more (47 ∷ []) (47 ∷ 46 ∷ []) (next_net room) (next_net more) flat_next_net (Holds fits_next_net)
unfolding next_net
next_net_rule room more le =
    wider_rule (47 ∷ []) (47 ∷ 46 ∷ []) refl refl
    (as_rule make_next_net flat_next_net (Holds fits_next_net) (λ p h. (refl, both2 h)) (λ x h. ((x.comma, x.net), (refl, fit2 h)))
    (then_rule refl (comma_rule room more (1 ∷ [])) (λ _. (wider_rule (1 ∷ []) (47 ∷ 46 ∷ []) refl refl (net_rule room more le)))))

abbrev make_constant : VToken × (VToken × (VExpr)) → VConstant
make_constant p = record { name = p.0; equals = p.1.0; value = p.1.1 }

pub constant_rule : (room more : ℕ) → room ≤ more → Reading room more (1 ∷ []) (46 ∷ 41 ∷ 47 ∷ []) (constant room) (constant more) flat_constant (Holds fits_constant)
unfolding constant
constant_rule room more le =
    wider_rule (1 ∷ []) (46 ∷ 41 ∷ 47 ∷ []) refl refl
    (as_rule make_constant flat_constant (Holds fits_constant) (λ p h. (refl, both3 h)) (λ x h. ((x.name, (x.equals, x.value)), (refl, fit3 h)))
    (then_rule refl (name_rule room more (48 ∷ [])) (λ _. (then_rule refl (equals_rule room more expr_firsts) (λ _. (wider_rule expr_firsts (46 ∷ 41 ∷ 47 ∷ []) refl refl (expr_rule room more le)))))))

abbrev make_next_constant : VToken × (VConstant) → VNextConstant
make_next_constant p = record { comma = p.0; constant = p.1 }

pub next_constant_rule : (room more : ℕ) → room ≤ more → Reading room more (47 ∷ []) (47 ∷ 46 ∷ []) (next_constant room) (next_constant more) flat_next_constant (Holds fits_next_constant)
unfolding next_constant
next_constant_rule room more le =
    wider_rule (47 ∷ []) (47 ∷ 46 ∷ []) refl refl
    (as_rule make_next_constant flat_next_constant (Holds fits_next_constant) (λ p h. (refl, both2 h)) (λ x h. ((x.comma, x.constant), (refl, fit2 h)))
    (then_rule refl (comma_rule room more (1 ∷ [])) (λ _. (wider_rule (1 ∷ []) (47 ∷ 46 ∷ []) refl refl (constant_rule room more le)))))

abbrev make_driver : VLval × (VToken × (VExpr)) → VDriver
make_driver p = record { left = p.0; equals = p.1.0; value = p.1.1 }

pub driver_rule : (room more : ℕ) → room ≤ more → Reading room more (1 ∷ 44 ∷ []) (47 ∷ 46 ∷ []) (driver room) (driver more) flat_driver (Holds fits_driver)
unfolding driver
driver_rule room more le =
    wider_rule (1 ∷ 44 ∷ []) (47 ∷ 46 ∷ []) refl refl
    (as_rule make_driver flat_driver (Holds fits_driver) (λ p h. (refl, both3 h)) (λ x h. ((x.left, (x.equals, x.value)), (refl, fit3 h)))
    (then_rule refl (wider_rule (1 ∷ 44 ∷ []) (48 ∷ []) refl refl (lval_rule room more le)) (λ _. (then_rule refl (equals_rule room more expr_firsts) (λ _. (wider_rule expr_firsts (47 ∷ 46 ∷ []) refl refl (expr_rule room more le)))))))

abbrev make_next_driver : VToken × (VDriver) → VNextDriver
make_next_driver p = record { comma = p.0; driver = p.1 }

pub next_driver_rule : (room more : ℕ) → room ≤ more → Reading room more (47 ∷ []) (47 ∷ 46 ∷ []) (next_driver room) (next_driver more) flat_next_driver (Holds fits_next_driver)
unfolding next_driver
next_driver_rule room more le =
    wider_rule (47 ∷ []) (47 ∷ 46 ∷ []) refl refl
    (as_rule make_next_driver flat_next_driver (Holds fits_next_driver) (λ p h. (refl, both2 h)) (λ x h. ((x.comma, x.driver), (refl, fit2 h)))
    (then_rule refl (comma_rule room more (1 ∷ 44 ∷ [])) (λ _. (wider_rule (1 ∷ 44 ∷ []) (47 ∷ 46 ∷ []) refl refl (driver_rule room more le)))))

abbrev make_next_name : VToken × (VToken) → VNextName
make_next_name p = record { comma = p.0; name = p.1 }

pub next_name_rule : (room more : ℕ) → Reading room more (47 ∷ []) (47 ∷ 46 ∷ 41 ∷ []) next_name next_name flat_next_name (Holds fits_next_name)
unfolding next_name
next_name_rule room more =
    wider_rule (47 ∷ []) (47 ∷ 46 ∷ 41 ∷ []) refl refl
    (as_rule make_next_name flat_next_name (Holds fits_next_name) (λ p h. (refl, both2 h)) (λ x h. ((x.comma, x.name), (refl, fit2 h)))
    (then_rule refl (comma_rule room more (1 ∷ [])) (λ _. (name_rule room more (47 ∷ 46 ∷ 41 ∷ [])))))

abbrev make_pdec : (Option VToken) × (VType × (VConstant)) → VPdec
make_pdec p = record { word = p.0; shape = p.1.0; constant = p.1.1 }

pub pdec_rule : (room more : ℕ) → room ≤ more → Reading room more (12 ∷ 17 ∷ 42 ∷ 1 ∷ []) (47 ∷ 41 ∷ []) (pdec room) (pdec more) flat_pdec (Holds fits_pdec)
unfolding pdec
pdec_rule room more le =
    wider_rule (12 ∷ 17 ∷ 42 ∷ 1 ∷ []) (47 ∷ 41 ∷ []) refl refl
    (as_rule make_pdec flat_pdec (Holds fits_pdec) (λ p h. (refl, both3 h)) (λ x h. ((x.word, (x.shape, x.constant)), (refl, fit3 h)))
    (then_rule refl (any_rule (is_word (codes "parameter")) (12 ∷ []) parameter_word_sorted refl refl refl (parameter_word_rule room more (17 ∷ 42 ∷ 1 ∷ []))) (λ _. (then_rule refl (wider_rule (17 ∷ 42 ∷ 1 ∷ []) (1 ∷ []) refl refl (shape_rule room more le)) (λ _. (wider_rule (1 ∷ []) (47 ∷ 41 ∷ []) refl refl (constant_rule room more le)))))))

abbrev make_next_pdec : VToken × (VPdec) → VNextPdec
make_next_pdec p = record { comma = p.0; pdec = p.1 }

pub next_pdec_rule : (room more : ℕ) → room ≤ more → Reading room more (47 ∷ []) (47 ∷ 41 ∷ []) (next_pdec room) (next_pdec more) flat_next_pdec (Holds fits_next_pdec)
unfolding next_pdec
next_pdec_rule room more le =
    wider_rule (47 ∷ []) (47 ∷ 41 ∷ []) refl refl
    (as_rule make_next_pdec flat_next_pdec (Holds fits_next_pdec) (λ p h. (refl, both2 h)) (λ x h. ((x.comma, x.pdec), (refl, fit2 h)))
    (then_rule refl (comma_rule room more (12 ∷ 17 ∷ 42 ∷ 1 ∷ [])) (λ _. (wider_rule (12 ∷ 17 ∷ 42 ∷ 1 ∷ []) (47 ∷ 41 ∷ []) refl refl (pdec_rule room more le)))))

abbrev make_pdecs : VToken × (VToken × (VPdec × ((List VNextPdec) × (VToken)))) → VPdecs
make_pdecs p = record { hash = p.0; «open» = p.1.0; first = p.1.1.0; more = p.1.1.1.0; close = p.1.1.1.1 }

pub pdecs_rule : (room more : ℕ) → room ≤ more → Reading room more (52 ∷ []) (40 ∷ 46 ∷ []) (pdecs room) (pdecs more) flat_pdecs (Holds fits_pdecs)
unfolding pdecs
pdecs_rule room more le =
    wider_rule (52 ∷ []) (40 ∷ 46 ∷ []) refl refl
    (as_rule make_pdecs flat_pdecs (Holds fits_pdecs) (λ p h. (refl, both5 h)) (λ x h. ((x.hash, (x.open, (x.first, (x.more, x.close)))), (refl, fit5 h)))
    (then_rule refl (hash_rule room more (40 ∷ [])) (λ _. (then_rule refl (open_paren_rule room more (12 ∷ 17 ∷ 42 ∷ 1 ∷ [])) (λ _. (then_rule refl (wider_rule (12 ∷ 17 ∷ 42 ∷ 1 ∷ []) (47 ∷ 41 ∷ []) refl refl (pdec_rule room more le)) (λ _. (then_rule refl (each_rule (is_mark (codes ",")) (47 ∷ []) (41 ∷ []) comma_sorted refl refl refl refl (λ a h. omega arith) (next_pdec_rule room more le)) (λ _. (close_paren_rule room more (40 ∷ 46 ∷ [])))))))))))

abbrev make_port_head : VDir × ((Option VKind) × (VType)) → VPortHead
make_port_head p = record { dir = p.0; kind = p.1.0; shape = p.1.1 }

pub port_head_rule : (room more : ℕ) → room ≤ more → Reading room more (13 ∷ 14 ∷ []) (1 ∷ []) (port_head room) (port_head more) flat_port_head (Holds fits_port_head)
unfolding port_head
port_head_rule room more le =
    wider_rule (13 ∷ 14 ∷ []) (1 ∷ []) refl refl
    (as_rule make_port_head flat_port_head (Holds fits_port_head) (λ p h. (refl, both3 h)) (λ x h. ((x.dir, (x.kind, x.shape)), (refl, fit3 h)))
    (then_rule refl (wider_rule (13 ∷ 14 ∷ []) (15 ∷ 16 ∷ 17 ∷ 42 ∷ 1 ∷ []) refl refl (dir_rule room more)) (λ _. (then_rule refl (any_rule is_net_kind (15 ∷ 16 ∷ []) is_net_kind_sorted refl refl refl (wider_rule (15 ∷ 16 ∷ []) (17 ∷ 42 ∷ 1 ∷ []) refl refl (kind_rule room more))) (λ _. (wider_rule (17 ∷ 42 ∷ 1 ∷ []) (1 ∷ []) refl refl (shape_rule room more le)))))))

abbrev make_next_port : VToken × ((Option VPortHead) × (VToken)) → VNextPort
make_next_port p = record { comma = p.0; head = p.1.0; name = p.1.1 }

pub next_port_rule : (room more : ℕ) → room ≤ more → Reading room more (47 ∷ []) (47 ∷ 41 ∷ []) (next_port room) (next_port more) flat_next_port (Holds fits_next_port)
unfolding next_port
next_port_rule room more le =
    wider_rule (47 ∷ []) (47 ∷ 41 ∷ []) refl refl
    (as_rule make_next_port flat_next_port (Holds fits_next_port) (λ p h. (refl, both3 h)) (λ x h. ((x.comma, (x.head, x.name)), (refl, fit3 h)))
    (then_rule refl (comma_rule room more (13 ∷ 14 ∷ 1 ∷ [])) (λ _. (then_rule refl (any_rule is_dir (13 ∷ 14 ∷ []) is_dir_sorted refl refl refl (wider_rule (13 ∷ 14 ∷ []) (1 ∷ []) refl refl (port_head_rule room more le))) (λ _. (name_rule room more (47 ∷ 41 ∷ [])))))))

abbrev make_ports_names : VToken × ((List VNextName)) → VPorts
make_ports_names p = VPorts.Names p.0 p.1

abbrev Fits_ports_names : VToken × ((List VNextName)) → Type 0
Fits_ports_names p = (is_name p.0 ≡ true) × ((list_all fits_next_name p.1 ≡ true))

abbrev make_ports_declared : VPortHead × (VToken × ((List VNextPort))) → VPorts
make_ports_declared p = VPorts.Declared p.0 p.1.0 p.1.1

abbrev Fits_ports_declared : VPortHead × (VToken × ((List VNextPort))) → Type 0
Fits_ports_declared p = (fits_port_head p.0 ≡ true) × ((is_name p.1.0 ≡ true) × ((list_all fits_next_port p.1.1 ≡ true)))

abbrev ports_kinds : VPorts → Type 0
ports_kinds x = Image make_ports_names Fits_ports_names x ⊎ (Image make_ports_declared Fits_ports_declared x)

ports_fits : (x : VPorts) → ports_kinds x → fits_ports x ≡ true
ports_fits x (inl (p, (e, h))) = subst (λ y. fits_ports y ≡ true) e (both2 h)
ports_fits x (inr (p, (e, h))) = subst (λ y. fits_ports y ≡ true) e (both3 h)

fits_portss : (x : VPorts) → fits_ports x ≡ true → ports_kinds x
fits_portss (VPorts.Names first more) h = inl ((first, more), (refl, fit2 h))
fits_portss (VPorts.Declared head first more) h = inr ((head, (first, more)), (refl, fit3 h))

pub ports_rule : (room more : ℕ) → room ≤ more → Reading room more (1 ∷ 13 ∷ 14 ∷ []) (41 ∷ []) (ports room) (ports more) flat_ports (Holds fits_ports)
unfolding ports
ports_rule room more le =
    wider_rule (1 ∷ 13 ∷ 14 ∷ []) (41 ∷ []) refl refl
    (fitting_rule (Holds fits_ports) ports_fits fits_portss
    (or_rule is_name (1 ∷ []) name_sorted refl refl refl (image_rule make_ports_names flat_ports (λ p h. refl) (then_rule refl (name_rule room more (47 ∷ 41 ∷ [])) (λ _. (each_rule (is_mark (codes ",")) (47 ∷ []) (41 ∷ []) comma_sorted refl refl refl refl (λ a h. omega arith) (next_name_rule room more)))))
    (image_rule make_ports_declared flat_ports (λ p h. refl) (then_rule refl (wider_rule (13 ∷ 14 ∷ []) (1 ∷ []) refl refl (port_head_rule room more le)) (λ _. (then_rule refl (name_rule room more (47 ∷ 41 ∷ [])) (λ _. (each_rule (is_mark (codes ",")) (47 ∷ []) (41 ∷ []) comma_sorted refl refl refl refl (λ a h. omega arith) (next_port_rule room more le)))))))))

abbrev make_port_list : VToken × ((Option VPorts) × (VToken)) → VPortList
make_port_list p = record { «open» = p.0; ports = p.1.0; close = p.1.1 }

pub port_list_rule : (room more : ℕ) → room ≤ more → Reading room more (40 ∷ []) (46 ∷ []) (port_list room) (port_list more) flat_port_list (Holds fits_port_list)
unfolding port_list
port_list_rule room more le =
    wider_rule (40 ∷ []) (46 ∷ []) refl refl
    (as_rule make_port_list flat_port_list (Holds fits_port_list) (λ p h. (refl, both3 h)) (λ x h. ((x.open, (x.ports, x.close)), (refl, fit3 h)))
    (then_rule refl (open_paren_rule room more (1 ∷ 13 ∷ 14 ∷ 41 ∷ [])) (λ _. (then_rule refl (any_rule begins_ports (1 ∷ 13 ∷ 14 ∷ []) begins_ports_sorted refl refl refl (wider_rule (1 ∷ 13 ∷ 14 ∷ []) (41 ∷ []) refl refl (ports_rule room more le))) (λ _. (close_paren_rule room more (46 ∷ [])))))))

abbrev make_conn : VToken × (VToken × (VToken × ((Option VExpr) × (VToken)))) → VConn
make_conn p = record { dot = p.0; name = p.1.0; «open» = p.1.1.0; value = p.1.1.1.0; close = p.1.1.1.1 }

pub conn_rule : (room more : ℕ) → room ≤ more → Reading room more (53 ∷ []) (47 ∷ 41 ∷ []) (conn room) (conn more) flat_conn (Holds fits_conn)
unfolding conn
conn_rule room more le =
    wider_rule (53 ∷ []) (47 ∷ 41 ∷ []) refl refl
    (as_rule make_conn flat_conn (Holds fits_conn) (λ p h. (refl, both5 h)) (λ x h. ((x.dot, (x.name, (x.open, (x.value, x.close)))), (refl, fit5 h)))
    (then_rule refl (dot_rule room more (1 ∷ [])) (λ _. (then_rule refl (name_rule room more (40 ∷ [])) (λ _. (then_rule refl (open_paren_rule room more (2 ∷ 1 ∷ 40 ∷ 44 ∷ 3 ∷ 58 ∷ 68 ∷ 63 ∷ 64 ∷ 65 ∷ 41 ∷ [])) (λ _. (then_rule refl (any_rule begins_expr expr_firsts begins_expr_sorted refl refl refl (wider_rule expr_firsts (41 ∷ []) refl refl (expr_rule room more le))) (λ _. (close_paren_rule room more (47 ∷ 41 ∷ [])))))))))))

abbrev make_next_conn : VToken × (VConn) → VNextConn
make_next_conn p = record { comma = p.0; conn = p.1 }

pub next_conn_rule : (room more : ℕ) → room ≤ more → Reading room more (47 ∷ []) (47 ∷ 41 ∷ []) (next_conn room) (next_conn more) flat_next_conn (Holds fits_next_conn)
unfolding next_conn
next_conn_rule room more le =
    wider_rule (47 ∷ []) (47 ∷ 41 ∷ []) refl refl
    (as_rule make_next_conn flat_next_conn (Holds fits_next_conn) (λ p h. (refl, both2 h)) (λ x h. ((x.comma, x.conn), (refl, fit2 h)))
    (then_rule refl (comma_rule room more (53 ∷ [])) (λ _. (wider_rule (53 ∷ []) (47 ∷ 41 ∷ []) refl refl (conn_rule room more le)))))

abbrev make_conns_ordered : VExpr × ((List VNextExpr)) → VConns
make_conns_ordered p = VConns.Ordered p.0 p.1

abbrev Fits_conns_ordered : VExpr × ((List VNextExpr)) → Type 0
Fits_conns_ordered p = (fits_expr p.0 ≡ true) × ((list_all fits_next_expr p.1 ≡ true))

abbrev make_conns_named : VConn × ((List VNextConn)) → VConns
make_conns_named p = VConns.Named p.0 p.1

abbrev Fits_conns_named : VConn × ((List VNextConn)) → Type 0
Fits_conns_named p = (fits_conn p.0 ≡ true) × ((list_all fits_next_conn p.1 ≡ true))

abbrev conns_kinds : VConns → Type 0
conns_kinds x = Image make_conns_ordered Fits_conns_ordered x ⊎ (Image make_conns_named Fits_conns_named x)

conns_fits : (x : VConns) → conns_kinds x → fits_conns x ≡ true
conns_fits x (inl (p, (e, h))) = subst (λ y. fits_conns y ≡ true) e (both2 h)
conns_fits x (inr (p, (e, h))) = subst (λ y. fits_conns y ≡ true) e (both2 h)

fits_connss : (x : VConns) → fits_conns x ≡ true → conns_kinds x
fits_connss (VConns.Ordered first more) h = inl ((first, more), (refl, fit2 h))
fits_connss (VConns.Named first more) h = inr ((first, more), (refl, fit2 h))

pub conns_rule : (room more : ℕ) → room ≤ more → Reading room more conns_firsts (41 ∷ []) (conns room) (conns more) flat_conns (Holds fits_conns)
unfolding conns
conns_rule room more le =
    wider_rule conns_firsts (41 ∷ []) refl refl
    (fitting_rule (Holds fits_conns) conns_fits fits_connss
    (or_rule begins_expr expr_firsts begins_expr_sorted refl refl refl (image_rule make_conns_ordered flat_conns (λ p h. refl) (then_rule refl (wider_rule expr_firsts (47 ∷ 41 ∷ []) refl refl (expr_rule room more le)) (λ _. (next_exprs_rule room more _ _ (41 ∷ []) refl refl (expr_rule room more le)))))
    (image_rule make_conns_named flat_conns (λ p h. refl) (then_rule refl (wider_rule (53 ∷ []) (47 ∷ 41 ∷ []) refl refl (conn_rule room more le)) (λ _. (each_rule (is_mark (codes ",")) (47 ∷ []) (41 ∷ []) comma_sorted refl refl refl refl (λ a h. omega arith) (next_conn_rule room more le)))))))

abbrev make_overrides : VToken × (VToken × (VConns × (VToken))) → VOverrides
make_overrides p = record { hash = p.0; «open» = p.1.0; conns = p.1.1.0; close = p.1.1.1 }

pub overrides_rule : (room more : ℕ) → room ≤ more → Reading room more (52 ∷ []) (1 ∷ []) (overrides room) (overrides more) flat_overrides (Holds fits_overrides)
unfolding overrides
overrides_rule room more le =
    wider_rule (52 ∷ []) (1 ∷ []) refl refl
    (as_rule make_overrides flat_overrides (Holds fits_overrides) (λ p h. (refl, both4 h)) (λ x h. ((x.hash, (x.open, (x.conns, x.close))), (refl, fit4 h)))
    (then_rule refl (hash_rule room more (40 ∷ [])) (λ _. (then_rule refl (open_paren_rule room more conns_firsts) (λ _. (then_rule refl (wider_rule conns_firsts (41 ∷ []) refl refl (conns_rule room more le)) (λ _. (close_paren_rule room more (1 ∷ [])))))))))

abbrev make_instance : VToken × ((Option VOverrides) × (VToken × (VToken × ((Option VConns) × (VToken × (VToken)))))) → VInstance
make_instance p = record { module_name = p.0; overrides = p.1.0; name = p.1.1.0; «open» = p.1.1.1.0; conns = p.1.1.1.1.0; close = p.1.1.1.1.1.0; semi = p.1.1.1.1.1.1 }

pub instance_rule : (room more : ℕ) → room ≤ more → Reading room more (1 ∷ []) (27 ∷ 13 ∷ 14 ∷ 15 ∷ 16 ∷ 12 ∷ 18 ∷ 19 ∷ 20 ∷ 21 ∷ 22 ∷ 23 ∷ 1 ∷ 25 ∷ 26 ∷ 24 ∷ 29 ∷ 11 ∷ []) (instance room) (instance more) flat_instance (Holds fits_instance)
unfolding instance
instance_rule room more le =
    wider_rule (1 ∷ []) (27 ∷ 13 ∷ 14 ∷ 15 ∷ 16 ∷ 12 ∷ 18 ∷ 19 ∷ 20 ∷ 21 ∷ 22 ∷ 23 ∷ 1 ∷ 25 ∷ 26 ∷ 24 ∷ 29 ∷ 11 ∷ []) refl refl
    (as_rule make_instance flat_instance (Holds fits_instance) (λ p h. (refl, both7 h)) (λ x h. ((x.module_name, (x.overrides, (x.name, (x.open, (x.conns, (x.close, x.semi)))))), (refl, fit7 h)))
    (then_rule refl (name_rule room more (52 ∷ 1 ∷ [])) (λ _. (then_rule refl (any_rule (is_mark (codes "#")) (52 ∷ []) hash_sorted refl refl refl (wider_rule (52 ∷ []) (1 ∷ []) refl refl (overrides_rule room more le))) (λ _. (then_rule refl (name_rule room more (40 ∷ [])) (λ _. (then_rule refl (open_paren_rule room more (2 ∷ 1 ∷ 40 ∷ 44 ∷ 3 ∷ 58 ∷ 68 ∷ 63 ∷ 64 ∷ 65 ∷ 53 ∷ 41 ∷ [])) (λ _. (then_rule refl (any_rule begins_conns conns_firsts begins_conns_sorted refl refl refl (wider_rule conns_firsts (41 ∷ []) refl refl (conns_rule room more le))) (λ _. (then_rule refl (close_paren_rule room more (46 ∷ [])) (λ _. (semi_rule room more (27 ∷ 13 ∷ 14 ∷ 15 ∷ 16 ∷ 12 ∷ 18 ∷ 19 ∷ 20 ∷ 21 ∷ 22 ∷ 23 ∷ 1 ∷ 25 ∷ 26 ∷ 24 ∷ 29 ∷ 11 ∷ [])))))))))))))))

abbrev make_for_head : VToken × (VToken × (VConstant × (VToken × (VExpr × (VToken × (VConstant × (VToken))))))) → VForHead
make_for_head p = record { word = p.0; «open» = p.1.0; start = p.1.1.0; first_semi = p.1.1.1.0; test = p.1.1.1.1.0; second_semi = p.1.1.1.1.1.0; step = p.1.1.1.1.1.1.0; close = p.1.1.1.1.1.1.1 }

pub for_head_rule : (room more : ℕ) → room ≤ more → Reading room more (25 ∷ []) (28 ∷ []) (for_head room) (for_head more) flat_for_head (Holds fits_for_head)
unfolding for_head
for_head_rule room more le =
    wider_rule (25 ∷ []) (28 ∷ []) refl refl
    (as_rule make_for_head flat_for_head (Holds fits_for_head) (λ p h. (refl, both8 h)) (λ x h. ((x.word, (x.open, (x.start, (x.first_semi, (x.test, (x.second_semi, (x.step, x.close))))))), (refl, fit8 h)))
    (then_rule refl (for_word_rule room more (40 ∷ [])) (λ _. (then_rule refl (open_paren_rule room more (1 ∷ [])) (λ _. (then_rule refl (wider_rule (1 ∷ []) (46 ∷ []) refl refl (constant_rule room more le)) (λ _. (then_rule refl (semi_rule room more expr_firsts) (λ _. (then_rule refl (wider_rule expr_firsts (46 ∷ []) refl refl (expr_rule room more le)) (λ _. (then_rule refl (semi_rule room more (1 ∷ [])) (λ _. (then_rule refl (wider_rule (1 ∷ []) (41 ∷ []) refl refl (constant_rule room more le)) (λ _. (close_paren_rule room more (28 ∷ [])))))))))))))))))

-- ---- items without items inside

abbrev make_port_item : VPortHead × (VToken × ((List VNextName) × (VToken))) → VMitem
make_port_item p = VMitem.Ports p.0 p.1.0 p.1.1.0 p.1.1.1

abbrev Fits_port_item : VPortHead × (VToken × ((List VNextName) × (VToken))) → Type 0
Fits_port_item p = (fits_port_head p.0 ≡ true) × ((is_name p.1.0 ≡ true) × ((list_all fits_next_name p.1.1.0 ≡ true) × ((is_mark (codes ";") p.1.1.1 ≡ true))))

port_item_rule : (room more : ℕ) → room ≤ more → Reading room more (13 ∷ 14 ∷ []) (27 ∷ mitem_nexts) (port_item room) (port_item more) flat_mitem (Image make_port_item Fits_port_item)
unfolding port_item
port_item_rule room more le =
    image_rule make_port_item flat_mitem (λ a h. flat_mitem_Ports a.0 a.1.0 a.1.1.0 a.1.1.1)
    (then_rule refl (wider_rule (13 ∷ 14 ∷ []) (1 ∷ []) refl refl (port_head_rule room more le)) (λ _. (then_rule refl (name_rule room more (47 ∷ 46 ∷ [])) (λ _. (then_rule refl (each_rule (is_mark (codes ",")) (47 ∷ []) (46 ∷ []) comma_sorted refl refl refl refl (λ a h. omega arith) (next_name_rule room more)) (λ _. (semi_rule room more (27 ∷ mitem_nexts))))))))

abbrev make_net_item : VKind × (VType × (VNet × ((List VNextNet) × (VToken)))) → VMitem
make_net_item p = VMitem.Nets p.0 p.1.0 p.1.1.0 p.1.1.1.0 p.1.1.1.1

abbrev Fits_net_item : VKind × (VType × (VNet × ((List VNextNet) × (VToken)))) → Type 0
Fits_net_item p = (fits_kind p.0 ≡ true) × ((fits_type p.1.0 ≡ true) × ((fits_net p.1.1.0 ≡ true) × ((list_all fits_next_net p.1.1.1.0 ≡ true) × ((is_mark (codes ";") p.1.1.1.1 ≡ true)))))

net_item_rule : (room more : ℕ) → room ≤ more → Reading room more (15 ∷ 16 ∷ []) (27 ∷ mitem_nexts) (net_item room) (net_item more) flat_mitem (Image make_net_item Fits_net_item)
unfolding net_item
net_item_rule room more le =
    image_rule make_net_item flat_mitem (λ a h. flat_mitem_Nets a.0 a.1.0 a.1.1.0 a.1.1.1.0 a.1.1.1.1)
    (then_rule refl (wider_rule (15 ∷ 16 ∷ []) (17 ∷ 42 ∷ 1 ∷ []) refl refl (kind_rule room more)) (λ _. (then_rule refl (wider_rule (17 ∷ 42 ∷ 1 ∷ []) (1 ∷ []) refl refl (shape_rule room more le)) (λ _. (then_rule refl (wider_rule (1 ∷ []) (47 ∷ 46 ∷ []) refl refl (net_rule room more le)) (λ _. (then_rule refl (each_rule (is_mark (codes ",")) (47 ∷ []) (46 ∷ []) comma_sorted refl refl refl refl (λ a h. omega arith) (next_net_rule room more le)) (λ _. (semi_rule room more (27 ∷ mitem_nexts))))))))))

abbrev make_constant_item : VToken × (VType × (VConstant × ((List VNextConstant) × (VToken)))) → VMitem
make_constant_item p = VMitem.Constants p.0 p.1.0 p.1.1.0 p.1.1.1.0 p.1.1.1.1

abbrev Fits_constant_item : VToken × (VType × (VConstant × ((List VNextConstant) × (VToken)))) → Type 0
Fits_constant_item p = (is_constant_word p.0 ≡ true) × ((fits_type p.1.0 ≡ true) × ((fits_constant p.1.1.0 ≡ true) × ((list_all fits_next_constant p.1.1.1.0 ≡ true) × ((is_mark (codes ";") p.1.1.1.1 ≡ true)))))

constant_item_rule : (room more : ℕ) → room ≤ more → Reading room more (12 ∷ 18 ∷ []) (27 ∷ mitem_nexts) (constant_item room) (constant_item more) flat_mitem (Image make_constant_item Fits_constant_item)
unfolding constant_item
constant_item_rule room more le =
    image_rule make_constant_item flat_mitem (λ a h. flat_mitem_Constants a.0 a.1.0 a.1.1.0 a.1.1.1.0 a.1.1.1.1)
    (then_rule refl (constant_any_rule room more (17 ∷ 42 ∷ 1 ∷ [])) (λ _. (then_rule refl (wider_rule (17 ∷ 42 ∷ 1 ∷ []) (1 ∷ []) refl refl (shape_rule room more le)) (λ _. (then_rule refl (wider_rule (1 ∷ []) (47 ∷ 46 ∷ []) refl refl (constant_rule room more le)) (λ _. (then_rule refl (each_rule (is_mark (codes ",")) (47 ∷ []) (46 ∷ []) comma_sorted refl refl refl refl (λ a h. omega arith) (next_constant_rule room more le)) (λ _. (semi_rule room more (27 ∷ mitem_nexts))))))))))

abbrev make_genvar_item : VToken × (VToken × ((List VNextName) × (VToken))) → VMitem
make_genvar_item p = VMitem.Genvars p.0 p.1.0 p.1.1.0 p.1.1.1

abbrev Fits_genvar_item : VToken × (VToken × ((List VNextName) × (VToken))) → Type 0
Fits_genvar_item p = (is_word (codes "genvar") p.0 ≡ true) × ((is_name p.1.0 ≡ true) × ((list_all fits_next_name p.1.1.0 ≡ true) × ((is_mark (codes ";") p.1.1.1 ≡ true))))

genvar_item_rule : (room more : ℕ) → Reading room more (19 ∷ []) (27 ∷ mitem_nexts) genvar_item genvar_item flat_mitem (Image make_genvar_item Fits_genvar_item)
unfolding genvar_item
genvar_item_rule room more =
    image_rule make_genvar_item flat_mitem (λ a h. flat_mitem_Genvars a.0 a.1.0 a.1.1.0 a.1.1.1)
    (then_rule refl (genvar_word_rule room more (1 ∷ [])) (λ _. (then_rule refl (name_rule room more (47 ∷ 46 ∷ [])) (λ _. (then_rule refl (each_rule (is_mark (codes ",")) (47 ∷ []) (46 ∷ []) comma_sorted refl refl refl refl (λ a h. omega arith) (next_name_rule room more)) (λ _. (semi_rule room more (27 ∷ mitem_nexts))))))))

abbrev make_assign_item : VToken × (VDriver × ((List VNextDriver) × (VToken))) → VMitem
make_assign_item p = VMitem.Assigns p.0 p.1.0 p.1.1.0 p.1.1.1

abbrev Fits_assign_item : VToken × (VDriver × ((List VNextDriver) × (VToken))) → Type 0
Fits_assign_item p = (is_word (codes "assign") p.0 ≡ true) × ((fits_driver p.1.0 ≡ true) × ((list_all fits_next_driver p.1.1.0 ≡ true) × ((is_mark (codes ";") p.1.1.1 ≡ true))))

assign_item_rule : (room more : ℕ) → room ≤ more → Reading room more (20 ∷ []) (27 ∷ mitem_nexts) (assign_item room) (assign_item more) flat_mitem (Image make_assign_item Fits_assign_item)
unfolding assign_item
assign_item_rule room more le =
    image_rule make_assign_item flat_mitem (λ a h. flat_mitem_Assigns a.0 a.1.0 a.1.1.0 a.1.1.1)
    (then_rule refl (assign_word_rule room more (1 ∷ 44 ∷ [])) (λ _. (then_rule refl (wider_rule (1 ∷ 44 ∷ []) (47 ∷ 46 ∷ []) refl refl (driver_rule room more le)) (λ _. (then_rule refl (each_rule (is_mark (codes ",")) (47 ∷ []) (46 ∷ []) comma_sorted refl refl refl refl (λ a h. omega arith) (next_driver_rule room more le)) (λ _. (semi_rule room more (27 ∷ mitem_nexts))))))))

abbrev make_always : VToken × (VToken × (VEvent × VStmt)) → VMitem
make_always p = VMitem.Always p.0 p.1.0 p.1.1.0 p.1.1.1

abbrev AlwaysParts : VToken × (VToken × (VEvent × VStmt)) → Type 0
AlwaysParts p = (is_word (codes "always") p.0 ≡ true) × ((is_mark (codes "@") p.1.0 ≡ true) × ((fits_event p.1.1.0 ≡ true) × (fits_stmt p.1.1.1 ≡ true)))

always_ending : (room more : ℕ) → room ≤ more → Ending room more (21 ∷ []) mitem_nexts item_ends_open (always_item room) (always_item more) flat_mitem (Image make_always AlwaysParts)
unfolding always_item
always_ending room more le =
    image_ending make_always flat_mitem item_ends_open (λ a. ap (λ g. g.1) (grade_mitem_Always a.0 a.1.0 a.1.1.0 a.1.1.1)) (λ a h. flat_mitem_Always a.0 a.1.0 a.1.1.0 a.1.1.1)
    (then_ending refl (always_word_rule room more (54 ∷ [])) (then_ending refl (at_rule room more (55 ∷ 40 ∷ [])) (then_ending refl (event_rule room more) (wider_ending stmt_firsts mitem_nexts refl refl (stmt_ending room more le)))))

abbrev make_initial : VToken × VStmt → VMitem
make_initial p = VMitem.Initial p.0 p.1

abbrev InitialParts : VToken × VStmt → Type 0
InitialParts p = (is_word (codes "initial") p.0 ≡ true) × (fits_stmt p.1 ≡ true)

initial_ending : (room more : ℕ) → room ≤ more → Ending room more (22 ∷ []) mitem_nexts item_ends_open (initial_item room) (initial_item more) flat_mitem (Image make_initial InitialParts)
unfolding initial_item
initial_ending room more le =
    image_ending make_initial flat_mitem item_ends_open (λ a. ap (λ g. g.1) (grade_mitem_Initial a.0 a.1)) (λ a h. flat_mitem_Initial a.0 a.1)
    (then_ending refl (initial_word_rule room more stmt_firsts) (wider_ending stmt_firsts mitem_nexts refl refl (stmt_ending room more le)))

-- ---- items with items inside

-- what reads the items inside
abbrev Items : ℕ → ℕ → Reader VMitem → Reader VMitem → Type 0
Items room more p q = Ending room more mitem_firsts mitem_nexts item_ends_open p q flat_mitem (Holds fits_mitem)

some_after : (ts us : Tokens) → 0 < length us → 0 < length (ts ++ us)
some_after ts us some = rw (length-append ts us) (omega (arith, some))

mitem_some : (x : VMitem) → fits_mitem x ≡ true → 0 < length (flat_mitem x)
mitem_some =
    by_mitem (λ x. fits_mitem x ≡ true → 0 < length (flat_mitem x))
    (λ a b c d h. rw (flat_mitem_Ports a b c d) (some_after (flat_port_head a) _ (omega arith)))
    (λ a b c d e h. rw (flat_mitem_Nets a b c d e) (some_after (flat_kind a) _ (some_after (flat_type b) _ (omega arith))))
    (λ a b c d e h. rw (flat_mitem_Constants a b c d e) (omega arith))
    (λ a b c d h. rw (flat_mitem_Genvars a b c d) (omega arith))
    (λ a b c d h. rw (flat_mitem_Assigns a b c d) (omega arith))
    (λ a b c d h. rw (flat_mitem_Always a b c d) (omega arith))
    (λ a b h. rw (flat_mitem_Initial a b) (omega arith))
    (λ a b c h. rw (flat_mitem_Generate a b c) (omega arith))
    (λ a h. rw (flat_mitem_Instance a) (omega arith))
    (λ a b h. rw (flat_mitem_For a b) (omega arith))
    (λ a b c h. rw (flat_mitem_If a b c) (omega arith))

mitems_rule : (room more : ℕ) (p q : Reader VMitem) (N : List ℕ) → disjoint N mitem_firsts ≡ true → subset (mitem_firsts ++ N) mitem_nexts ≡ true → Items room more p q
    → Reading room more (mitem_firsts ++ N) N (mitems p) (mitems q) (flat_list flat_mitem) (Holds (list_all fits_mitem))
unfolding mitems
mitems_rule room more p q N away sub inner = each_rule begins_mitem mitem_firsts N begins_mitem_sorted refl refl away sub mitem_some (settled inner)

abbrev make_region : VToken × (List VMitem × VToken) → VMitem
make_region p = VMitem.Generate p.0 p.1.0 p.1.1

abbrev RegionParts : VToken × (List VMitem × VToken) → Type 0
RegionParts p = (is_word (codes "generate") p.0 ≡ true) × ((list_all fits_mitem p.1.0 ≡ true) × (is_word (codes "endgenerate") p.1.1 ≡ true))

region_rule : (room more : ℕ) (p q : Reader VMitem) → Items room more p q → Reading (suc room) (suc more) (23 ∷ []) (27 ∷ mitem_nexts) (region p) (region q) flat_mitem (Image make_region RegionParts)
unfolding region
region_rule room more p q inner =
    image_rule make_region flat_mitem (λ a h. flat_mitem_Generate a.0 a.1.0 a.1.1)
    (then_step_rule refl (λ a h. some_token a) (generate_word_rule (suc room) (suc more) (mitem_firsts ++ 24 ∷ []))
    (λ _. then_rule refl (mitems_rule room more p q (24 ∷ []) refl refl inner) (λ _. endgenerate_word_rule room more (27 ∷ mitem_nexts))))

-- ---- bodies

abbrev BodyParts : Type 0
BodyParts = VToken × (Option VLabel × (List VMitem × VToken))

abbrev make_body : BodyParts → VGbody
make_body p = VGbody.Block p.0 p.1.0 p.1.1.0 p.1.1.1

abbrev FitsBody : BodyParts → Type 0
FitsBody p = (is_word (codes "begin") p.0 ≡ true) × ((fits_option fits_label p.1.0 ≡ true) × ((list_all fits_mitem p.1.1.0 ≡ true) × (is_word (codes "end") p.1.1.1 ≡ true)))

body_block_rule : (room more : ℕ) (p q : Reader VMitem) → Items room more p q → Reading room more (28 ∷ []) (27 ∷ mitem_nexts) (body_block p) (body_block q) flat_gbody (Image make_body FitsBody)
unfolding body_block
body_block_rule room more p q inner =
    image_rule make_body flat_gbody (λ a h. flat_gbody_Block a.0 a.1.0 a.1.1.0 a.1.1.1)
    (then_rule refl (begin_word_rule room more (49 ∷ (mitem_firsts ++ 29 ∷ []))) (λ _. then_rule refl (any_label_rule room more (mitem_firsts ++ 29 ∷ []) refl refl)
    (λ _. then_rule refl (mitems_rule room more p q (29 ∷ []) refl refl inner) (λ _. end_word_rule room more (27 ∷ mitem_nexts)))))

abbrev NamedParts : Type 0
NamedParts = VToken × (VLabel × (List VMitem × VToken))

abbrev make_named : NamedParts → VGbody
make_named p = VGbody.Block p.0 (Some p.1.0) p.1.1.0 p.1.1.1

abbrev FitsNamed : NamedParts → Type 0
FitsNamed p = (is_word (codes "begin") p.0 ≡ true) × ((fits_label p.1.0 ≡ true) × ((list_all fits_mitem p.1.1.0 ≡ true) × (is_word (codes "end") p.1.1.1 ≡ true)))

abbrev fits_named : VGbody → Bool
fits_named b = fits_gbody b && is_named_block b

named_fits : (b : VGbody) → Image make_named FitsNamed b → fits_named b ≡ true
named_fits b (p, (e, h)) =
    subst (λ y. fits_named y ≡ true) e
    (and_both _ _ (ap (λ g. g.0) (grade_gbody_Block p.0 (Some p.1.0) p.1.1.0 p.1.1.1) ∙ both4 h) (ap (λ g. g.1.1) (grade_gbody_Block p.0 (Some p.1.0) p.1.1.0 p.1.1.1)))

fits_nameds : (b : VGbody) → fits_named b ≡ true → Image make_named FitsNamed b
fits_nameds =
    by_gbody (λ b. fits_named b ≡ true → Image make_named FitsNamed b)
    (λ i h. absurd (not_both (sym (ap (λ g. g.1.1) (grade_gbody_Item i)) ∙ and_right _ _ h) refl))
    named_of
  where
    named_of : (w : VToken) (l : Option VLabel) (i : List VMitem) (e : VToken) → fits_named (VGbody.Block w l i e) ≡ true → Image make_named FitsNamed (VGbody.Block w l i e)
    named_of w None i e h = absurd (not_both (sym (ap (λ g. g.1.1) (grade_gbody_Block w None i e)) ∙ and_right _ _ h) refl)
    named_of w (Some l) i e h = ((w, (l, (i, e))), (refl, fit4 (sym (ap (λ g. g.0) (grade_gbody_Block w (Some l) i e)) ∙ and_left _ _ h)))

named_block_rule : (room more : ℕ) (p q : Reader VMitem) → Items room more p q → Reading room more (28 ∷ []) (27 ∷ mitem_nexts) (named_block p) (named_block q) flat_gbody (Holds fits_named)
unfolding named_block
named_block_rule room more p q inner =
    fitting_rule (Holds fits_named) named_fits fits_nameds
    (image_rule make_named flat_gbody (λ a h. flat_gbody_Block a.0 (Some a.1.0) a.1.1.0 a.1.1.1)
    (then_rule refl (begin_word_rule room more (49 ∷ [])) (λ _. then_rule refl (wider_rule (49 ∷ []) (mitem_firsts ++ 29 ∷ []) refl refl (label_rule room more))
    (λ _. then_rule refl (mitems_rule room more p q (29 ∷ []) refl refl inner) (λ _. end_word_rule room more (27 ∷ mitem_nexts))))))

abbrev make_loop : VForHead × VGbody → VMitem
make_loop p = VMitem.For p.0 p.1

abbrev LoopParts : VForHead × VGbody → Type 0
LoopParts p = (fits_for_head p.0 ≡ true) × (fits_named p.1 ≡ true)

for_item_rule : (room more : ℕ) → room ≤ more → (p q : Reader VMitem) → Items room more p q → Reading (suc room) (suc more) (25 ∷ []) (27 ∷ mitem_nexts) (for_item (suc room) p) (for_item (suc more) q) flat_mitem (Image make_loop LoopParts)
unfolding for_item
for_item_rule room more le p q inner =
    image_rule make_loop flat_mitem (λ a h. flat_mitem_For a.0 a.1)
    (then_step_rule refl (λ a h. omega arith) (for_head_rule (suc room) (suc more) (omega arith)) (λ _. named_block_rule room more p q inner))

loop_fits : (p : VForHead × VGbody) → LoopParts p → fits_mitem (make_loop p) ≡ true
loop_fits p h = ap (λ g. g.0) (grade_mitem_For p.0 p.1) ∙ both3 (h.0, (and_left _ _ h.1, and_right _ _ h.1))

loop_parts : (a : VForHead) (b : VGbody) → fits_mitem (VMitem.For a b) ≡ true → LoopParts (a, b)
loop_parts a b h = let g = fit3 (sym (ap (λ g. g.0) (grade_mitem_For a b)) ∙ h) in (g.0, and_both _ _ g.1.0 g.1.1)

abbrev BodyKinds : VGbody → Type 0
BodyKinds b = Image make_body FitsBody b ⊎ Image VGbody.Item (Holds fits_mitem) b

body_fits : (b : VGbody) → BodyKinds b → fits_gbody b ≡ true
body_fits b (inl (p, (e, h))) = subst (λ y. fits_gbody y ≡ true) e (ap (λ g. g.0) (grade_gbody_Block p.0 p.1.0 p.1.1.0 p.1.1.1) ∙ both4 h)
body_fits b (inr (i, (e, h))) = subst (λ y. fits_gbody y ≡ true) e (ap (λ g. g.0) (grade_gbody_Item i) ∙ h)

fits_bodies : (b : VGbody) → fits_gbody b ≡ true → BodyKinds b
fits_bodies =
    by_gbody (λ b. fits_gbody b ≡ true → BodyKinds b)
    (λ i h. inr (i, (refl, sym (ap (λ g. g.0) (grade_gbody_Item i)) ∙ h)))
    (λ w l i e h. inl ((w, (l, (i, e))), (refl, fit4 (sym (ap (λ g. g.0) (grade_gbody_Block w l i e)) ∙ h))))

gbody_ending : (room more : ℕ) (p q : Reader VMitem) → Items room more p q → Ending room more gbody_firsts mitem_nexts body_ends_open (gbody p) (gbody q) flat_gbody (Holds fits_gbody)
unfolding gbody
gbody_ending room more p q inner =
    wider_ending gbody_firsts mitem_nexts refl refl
    (fitting_ending (Holds fits_gbody) body_fits fits_bodies
    (or_ending (is_word (codes "begin")) (28 ∷ []) begin_word_sorted refl refl refl (always body_ends_open (body_block_rule room more p q inner))
    (image_ending VGbody.Item flat_gbody body_ends_open (λ i. ap (λ g. g.1.0) (grade_gbody_Item i)) (λ i h. flat_gbody_Item i) inner)))

-- ---- an `if`

abbrev make_gelse : VToken × VGbody → VGelse
make_gelse p = roll-VGelse (record { word = p.0; body = p.1 })

abbrev gelse_opens : VGelse → Bool
gelse_opens x = (grade_gelse x).1

gelse_parts : (x : VGelse) → fits_gelse x ≡ true → (p : VToken × VGbody) × ((make_gelse p ≡ x) × ((is_word (codes "else") p.0 ≡ true) × (fits_gbody p.1 ≡ true)))
gelse_parts x h =
    let o = out-VGelse x in
    let e : fits_gelse (roll-VGelse o) ≡ true = subst (λ y. fits_gelse y ≡ true) (sym (roll-out-VGelse x)) h in
    ((o.word, o.body), (roll-out-VGelse x, fit2 (sym (ap (λ g. g.0) (grade_gelse_roll o)) ∙ e)))

gelse_ending : (room more : ℕ) (p q : Reader VMitem) → Items room more p q → Ending room more (27 ∷ []) mitem_nexts gelse_opens (gelse p) (gelse q) flat_gelse (Holds fits_gelse)
unfolding gelse
gelse_ending room more p q inner =
    as_ending make_gelse flat_gelse (Holds fits_gelse) gelse_opens (λ a. ap (λ g. g.1) (grade_gelse_roll _)) (λ a h. (flat_gelse_roll _, ap (λ g. g.0) (grade_gelse_roll _) ∙ both2 h)) gelse_parts
    (then_ending refl (else_word_rule room more gbody_firsts) (gbody_ending room more p q inner))

abbrev Branches : Type 0
Branches = VGbody × Option VGelse

abbrev flat_branches : Branches → Tokens
flat_branches p = flat_gbody p.0 ++ flat_option flat_gelse p.1

abbrev FitsBranches : Branches → Type 0
FitsBranches p = Holds fits_gbody p.0 × ElseFits (Holds fits_gelse) (body_ends_open p.0) p.1

gbranches_ending : (room more : ℕ) (p q : Reader VMitem) → Items room more p q → Ending room more gbody_firsts mitem_nexts (branch_opens gelse_opens) (gbranches p) (gbranches q) flat_branches FitsBranches
unfolding gbranches any_gelse part
gbranches_ending room more p q inner =
    branches_ending body_ends_open gelse_opens (gbody p) (gbody q) (gelse p) (gelse q) flat_gbody flat_gelse (Holds fits_gbody) (Holds fits_gelse) room more gbody_firsts mitem_nexts refl (gbody_ending room more p q inner) (gelse_ending room more p q inner)

abbrev make_if : VIfHead × Branches → VMitem
make_if p = VMitem.If p.0 p.1.0 p.1.1

if_opens : (p : VIfHead × Branches) → item_ends_open (make_if p) ≡ branch_opens gelse_opens p.1
if_opens (h, (s, None)) = ap (λ g. g.1) (grade_mitem_If_alone h s)
if_opens (h, (s, Some e)) = ap (λ g. g.1) (grade_mitem_If_with h s e)

abbrev IfParts : VIfHead × Branches → Type 0
IfParts p = (fits_if_head p.0 ≡ true) × FitsBranches p.1

if_fits : (p : VIfHead × Branches) → IfParts p → fits_mitem (make_if p) ≡ true
if_fits (a, (s, None)) h = ap (λ g. g.0) (grade_mitem_If_alone a s) ∙ and_both _ _ h.0 h.1.0
if_fits (a, (s, Some e)) h = let d = else_there fits_gelse (body_ends_open s) e h.1.1 in ap (λ g. g.0) (grade_mitem_If_with a s e) ∙ both4 (h.0, (h.1.0, (d.0, d.1)))

if_parts : (a : VIfHead) (s : VGbody) (o : Option VGelse) → fits_mitem (VMitem.If a s o) ≡ true → IfParts (a, (s, o))
if_parts a s None h = let g = fit2 (sym (ap (λ g. g.0) (grade_mitem_If_alone a s)) ∙ h) in (g.0, (g.1, no_else fits_gelse (body_ends_open s)))
if_parts a s (Some e) h = let g = fit4 (sym (ap (λ g. g.0) (grade_mitem_If_with a s e)) ∙ h) in (g.0, (g.1.0, there_else fits_gelse (body_ends_open s) e g.1.1.0 g.1.1.1))

gconditional_ending : (room more : ℕ) → room ≤ more → (p q : Reader VMitem) → Items room more p q
    → Ending (suc room) (suc more) (26 ∷ []) mitem_nexts item_ends_open (gconditional (suc room) p) (gconditional (suc more) q) flat_mitem (Image make_if IfParts)
unfolding gconditional
gconditional_ending room more le p q inner =
    image_ending make_if flat_mitem item_ends_open if_opens (λ a h. flat_mitem_If a.0 a.1.0 a.1.1)
    (then_step_ending refl (λ a h. omega arith) (if_head_rule (suc room) (suc more) (omega arith)) (gbranches_ending room more p q inner))

-- ---- every item

abbrev ItemKinds : VMitem → Type 0
ItemKinds x =
    Image make_port_item Fits_port_item x ⊎ (Image make_net_item Fits_net_item x ⊎ (Image make_constant_item Fits_constant_item x ⊎ (Image make_genvar_item Fits_genvar_item x
    ⊎ (Image make_assign_item Fits_assign_item x ⊎ (Image make_always AlwaysParts x ⊎ (Image make_initial InitialParts x ⊎ (Image make_region RegionParts x
    ⊎ (Image make_loop LoopParts x ⊎ (Image make_if IfParts x ⊎ Image VMitem.Instance (Holds fits_instance) x)))))))))

abbrev FitsItem : VMitem → Type 0
FitsItem x = fits_mitem x ≡ true

item_fits : (x : VMitem) → ItemKinds x → fits_mitem x ≡ true
item_fits x (inl (p, (e, h))) = subst FitsItem e (ap (λ g. g.0) (grade_mitem_Ports p.0 p.1.0 p.1.1.0 p.1.1.1) ∙ both4 h)
item_fits x (inr (inl (p, (e, h)))) = subst FitsItem e (ap (λ g. g.0) (grade_mitem_Nets p.0 p.1.0 p.1.1.0 p.1.1.1.0 p.1.1.1.1) ∙ both5 h)
item_fits x (inr (inr (inl (p, (e, h))))) = subst FitsItem e (ap (λ g. g.0) (grade_mitem_Constants p.0 p.1.0 p.1.1.0 p.1.1.1.0 p.1.1.1.1) ∙ both5 h)
item_fits x (inr (inr (inr (inl (p, (e, h)))))) = subst FitsItem e (ap (λ g. g.0) (grade_mitem_Genvars p.0 p.1.0 p.1.1.0 p.1.1.1) ∙ both4 h)
item_fits x (inr (inr (inr (inr (inl (p, (e, h))))))) = subst FitsItem e (ap (λ g. g.0) (grade_mitem_Assigns p.0 p.1.0 p.1.1.0 p.1.1.1) ∙ both4 h)
item_fits x (inr (inr (inr (inr (inr (inl (p, (e, h)))))))) = subst FitsItem e (ap (λ g. g.0) (grade_mitem_Always p.0 p.1.0 p.1.1.0 p.1.1.1) ∙ both4 h)
item_fits x (inr (inr (inr (inr (inr (inr (inl (p, (e, h))))))))) = subst FitsItem e (ap (λ g. g.0) (grade_mitem_Initial p.0 p.1) ∙ both2 h)
item_fits x (inr (inr (inr (inr (inr (inr (inr (inl (p, (e, h)))))))))) = subst FitsItem e (ap (λ g. g.0) (grade_mitem_Generate p.0 p.1.0 p.1.1) ∙ both3 h)
item_fits x (inr (inr (inr (inr (inr (inr (inr (inr (inl (p, (e, h))))))))))) = subst FitsItem e (loop_fits p h)
item_fits x (inr (inr (inr (inr (inr (inr (inr (inr (inr (inl (p, (e, h)))))))))))) = subst FitsItem e (if_fits p h)
item_fits x (inr (inr (inr (inr (inr (inr (inr (inr (inr (inr (p, (e, h)))))))))))) = subst FitsItem e (ap (λ g. g.0) (grade_mitem_Instance p) ∙ h)

fits_items : (x : VMitem) → fits_mitem x ≡ true → ItemKinds x
fits_items =
    by_mitem (λ x. fits_mitem x ≡ true → ItemKinds x)
    (λ a b c d h. inl ((a, (b, (c, d))), (refl, fit4 (sym (ap (λ g. g.0) (grade_mitem_Ports a b c d)) ∙ h))))
    (λ a b c d e h. inr (inl ((a, (b, (c, (d, e)))), (refl, fit5 (sym (ap (λ g. g.0) (grade_mitem_Nets a b c d e)) ∙ h)))))
    (λ a b c d e h. inr (inr (inl ((a, (b, (c, (d, e)))), (refl, fit5 (sym (ap (λ g. g.0) (grade_mitem_Constants a b c d e)) ∙ h))))))
    (λ a b c d h. inr (inr (inr (inl ((a, (b, (c, d))), (refl, fit4 (sym (ap (λ g. g.0) (grade_mitem_Genvars a b c d)) ∙ h)))))))
    (λ a b c d h. inr (inr (inr (inr (inl ((a, (b, (c, d))), (refl, fit4 (sym (ap (λ g. g.0) (grade_mitem_Assigns a b c d)) ∙ h))))))))
    (λ a b c d h. inr (inr (inr (inr (inr (inl ((a, (b, (c, d))), (refl, fit4 (sym (ap (λ g. g.0) (grade_mitem_Always a b c d)) ∙ h)))))))))
    (λ a b h. inr (inr (inr (inr (inr (inr (inl ((a, b), (refl, fit2 (sym (ap (λ g. g.0) (grade_mitem_Initial a b)) ∙ h))))))))))
    (λ a b c h. inr (inr (inr (inr (inr (inr (inr (inl ((a, (b, c)), (refl, fit3 (sym (ap (λ g. g.0) (grade_mitem_Generate a b c)) ∙ h)))))))))))
    (λ a h. inr (inr (inr (inr (inr (inr (inr (inr (inr (inr (a, (refl, sym (ap (λ g. g.0) (grade_mitem_Instance a)) ∙ h))))))))))))
    (λ a b h. inr (inr (inr (inr (inr (inr (inr (inr (inl ((a, b), (refl, loop_parts a b h)))))))))))
    (λ a b c h. inr (inr (inr (inr (inr (inr (inr (inr (inr (inl ((a, (b, c)), (refl, if_parts a b c h))))))))))))

mitem_of_ending : (room more : ℕ) → room ≤ more → (p q : Reader VMitem) → Items room more p q → Items (suc room) (suc more) (mitem_of (suc room) p) (mitem_of (suc more) q)
unfolding mitem_of
mitem_of_ending room more le p q inner =
    let le' : suc room ≤ suc more = omega arith in
    wider_ending mitem_firsts mitem_nexts refl refl
    (fitting_ending (Holds fits_mitem) item_fits fits_items
    (or_ending is_dir (13 ∷ 14 ∷ []) is_dir_sorted refl refl refl (always item_ends_open (port_item_rule (suc room) (suc more) le'))
    (or_ending is_net_kind (15 ∷ 16 ∷ []) is_net_kind_sorted refl refl refl (always item_ends_open (net_item_rule (suc room) (suc more) le'))
    (or_ending is_constant_word (12 ∷ 18 ∷ []) is_constant_word_sorted refl refl refl (always item_ends_open (constant_item_rule (suc room) (suc more) le'))
    (or_ending (is_word (codes "genvar")) (19 ∷ []) genvar_word_sorted refl refl refl (always item_ends_open (genvar_item_rule (suc room) (suc more)))
    (or_ending (is_word (codes "assign")) (20 ∷ []) assign_word_sorted refl refl refl (always item_ends_open (assign_item_rule (suc room) (suc more) le'))
    (or_ending (is_word (codes "always")) (21 ∷ []) always_word_sorted refl refl refl (always_ending (suc room) (suc more) le')
    (or_ending (is_word (codes "initial")) (22 ∷ []) initial_word_sorted refl refl refl (initial_ending (suc room) (suc more) le')
    (or_ending (is_word (codes "generate")) (23 ∷ []) generate_word_sorted refl refl refl (always item_ends_open (region_rule room more p q inner))
    (or_ending (is_word (codes "for")) (25 ∷ []) for_word_sorted refl refl refl (always item_ends_open (for_item_rule room more le p q inner))
    (or_ending (is_word (codes "if")) (26 ∷ []) if_word_sorted refl refl refl (gconditional_ending room more le p q inner)
    (always item_ends_open (image_rule VMitem.Instance flat_mitem (λ a h. flat_mitem_Instance a) (instance_rule (suc room) (suc more) le'))))))))))))))

some_item : VMitem
unfolding is_token is_quoted
some_item = VMitem.Genvars (token_of Word (codes "genvar") refl) (token_of Name (codes "a") refl) [] (token_of Mark (codes ";") refl)

some_item_fits : fits_mitem some_item ≡ true
unfolding some_item token_of is_token is_quoted
some_item_fits = ap (λ g. g.0) (grade_mitem_Genvars _ _ [] _)

mitem_ending : (room more : ℕ) → room ≤ more → Items room more (mitem room) (mitem more)
unfolding mitem
mitem_ending zero zero le = no_room_ending some_item some_item_fits
mitem_ending zero (suc more) le = sunk_ending (mitem_of_ending more more (omega arith) (mitem more) (mitem more) (mitem_ending more more (omega arith)))
mitem_ending (suc room) (suc more) le = mitem_of_ending room more (omega arith) (mitem room) (mitem more) (mitem_ending room more (omega arith))
mitem_ending (suc room) zero le = absurd (omega arith)

-- ---- modules

abbrev make_module : VToken × (VToken × ((Option VPdecs) × ((Option VPortList) × (VToken × ((List VMitem) × (VToken)))))) → VModule
make_module p = record { word = p.0; name = p.1.0; parameters = p.1.1.0; ports = p.1.1.1.0; semi = p.1.1.1.1.0; items = p.1.1.1.1.1.0; end = p.1.1.1.1.1.1 }

module_rule : (room more : ℕ) → room ≤ more → Reading room more (10 ∷ []) (10 ∷ 0 ∷ []) (module_ room) (module_ more) flat_module (Holds fits_module)
unfolding module_
module_rule room more le =
    as_rule make_module flat_module (Holds fits_module) (λ p h. (refl, both7 h)) (λ x h. ((x.word, (x.name, (x.parameters, (x.ports, (x.semi, (x.items, x.end)))))), (refl, fit7 h)))
    (then_rule refl (module_word_rule room more (1 ∷ [])) (λ _. (then_rule refl (name_rule room more (52 ∷ 40 ∷ 46 ∷ [])) (λ _. (then_rule refl (any_rule (is_mark (codes "#")) (52 ∷ []) hash_sorted refl refl refl (wider_rule (52 ∷ []) (40 ∷ 46 ∷ []) refl refl (pdecs_rule room more le))) (λ _. (then_rule refl (any_rule (is_mark (codes "(")) (40 ∷ []) open_paren_sorted refl refl refl (wider_rule (40 ∷ []) (46 ∷ []) refl refl (port_list_rule room more le))) (λ _. (then_rule refl (semi_rule room more (13 ∷ 14 ∷ 15 ∷ 16 ∷ 12 ∷ 18 ∷ 19 ∷ 20 ∷ 21 ∷ 22 ∷ 23 ∷ 1 ∷ 25 ∷ 26 ∷ 11 ∷ [])) (λ _. (then_rule refl (mitems_rule room more _ _ (11 ∷ []) refl refl (mitem_ending room more le)) (λ _. (endmodule_word_rule room more (10 ∷ 0 ∷ []))))))))))))))

pub modules_rule : (room more : ℕ) → room ≤ more → Reading room more (10 ∷ 0 ∷ []) (0 ∷ []) (modules room) (modules more) (flat_list flat_module) (Holds (list_all fits_module))
unfolding modules
modules_rule room more le = each_rule (is_word (codes "module")) (10 ∷ []) (0 ∷ []) module_word_sorted refl refl refl refl (λ a h. omega arith) (module_rule room more le)
