-- What is read where only so much may stand in one another is what is read without that limit.
use Rattle.std.proofs.Common.{◌≡◌, ℕ, zero, suc, ◌+◌, ◌-◌, ◌≤◌, nat_lt, Bool, true, false, cond, List, [], ◌∷◌, ◌++◌, length, Some, None, Ok, Err, codes, refl, sym, ◌∙◌, ap, subst, arith}
use Rattle.std.proofs.lemmas.Bool.{lt-ltb}
use Rattle.parsing.specs.Parser.{Refused, Sunk, Outcome, and_then, pure, sees, seq, form, expect, on, optional, many, many_from, finish}
use Rattle.vlog_tree.specs.declared.token.VToken.{VToken}
use Rattle.vlog_tree.specs.declared.tree_modules.VMitem.{VMitem}
use Rattle.vlog_tree.specs.declared.tree_modules.VMitem.TheVariants as VMitem
use Rattle.vlog_tree.specs.declared.tree_modules.VGbody.{VGbody}
use Rattle.vlog_tree.specs.declared.tree_modules.VGbody.TheVariants as VGbody
use Rattle.vlog_tree.specs.declared.tree_modules.VGelse.{roll-VGelse}
use Rattle.vlog_tree.specs.declared.tree_modules.VModule.{VModule}
use Rattle.vlog_tree.specs.declared.tree_statements.VStmt.{VStmt}
use Rattle.vlog_tree.specs.declared.tree_statements.VStmt.TheVariants as VStmt
use Rattle.vlog_tree.specs.declared.tree_statements.VElse.{roll-VElse}
use Rattle.vlog_tree.specs.declared.tree_statements.VCitem.{VCitem}
use Rattle.vlog_tree.specs.Terminals.{Tokens, is_mark, is_word, is_name, is_constant_word, is_case_word}
use Rattle.vlog_tree.specs.Statements.{ends_open}
use Rattle.vlog_tree.specs.Modules.{body_ends_open}
use Rattle.vlog_tree.specs.ReadExpressions.{Reader, mark, word, expr, next_exprs, begins_expr}
use Rattle.vlog_tree.specs.ReadStatements.{event, label, any_label, if_head, begins_stmt, stmts, block, assign, else_part, any_else, branches, conditional, labelled, all_labelled, default_item, default_and_more, citems_from, citems, cases, stmt_of, stmt}
use Rattle.vlog_tree.specs.ReadModules.{pdecs, port_list, for_head, is_dir, is_net_kind, port_item, net_item, constant_item, genvar_item, assign_item, always_item, initial_item, instance, begins_mitem, mitems, region, body_block, named_block, for_item, gbody, gelse, any_gelse, gbranches, gconditional, mitem_of, mitem, module_, modules, source}
use Rattle.vlog_parse.specs.Nesting.{statement_levels, none, stmt_in, always_in, initial_in, mitem_with, mitem_in, module_in, modules_in, source_in}

abbrev pub AgreesAt : {A : Type 0} → Outcome VToken A → Outcome VToken A → Type 0
AgreesAt (Ok x) o = o ≡ Ok x
AgreesAt (Err Sunk) o = o ≡ Err Sunk
AgreesAt (Err (Refused rest)) o = Unit {0}

-- What the first reads the second reads too, and the first has no room left only where the second has none.
pub record Agrees {A : Type 0} (p q : Reader A) : Type 0 where
  pub at : (ts : Tokens) → AgreesAt (p ts) (q ts)

at_same : {A : Type 0} (o : Outcome VToken A) → AgreesAt o o
at_same (Ok x) = refl
at_same (Err Sunk) = refl
at_same (Err (Refused rest)) = tt

same : {A : Type 0} (p : Reader A) → Agrees p p
same p = record { at = λ ts. at_same (p ts) }

at_then : {A B : Type 0} (f g : A → Reader B) (o o' : Outcome VToken A) → AgreesAt o o' → ((a : A) (rest : Tokens) → AgreesAt (f a rest) (g a rest)) → AgreesAt (and_then o f) (and_then o' g)
at_then f g (Ok p) o' h k = subst (λ x. AgreesAt (f p.0 p.1) (and_then x g)) (sym h) (k p.0 p.1)
at_then f g (Err Sunk) o' h k = ap (λ x. and_then x g) h
at_then f g (Err (Refused rest)) o' h k = tt

both : {A B : Type 0} {p q : Reader A} {k l : A → Reader B} → Agrees p q → ((a : A) → Agrees (k a) (l a)) → Agrees {A = A × B} (seq p k) (seq q l)
both {A = A} {B = B} {p = p} {q = q} {k = k} {l = l} h g = record {
  at = λ ts.
      at_then {A = A} {B = A × B} (λ a rest. and_then (k a rest) (λ b more. Ok ((a, b), more))) (λ a rest. and_then (l a rest) (λ b more. Ok ((a, b), more))) (p ts) (q ts) (h.at ts)
      (λ a rest. at_then {A = B} {B = A × B} (λ b more. Ok ((a, b), more)) (λ b more. Ok ((a, b), more)) (k a rest) (l a rest) ((g a).at rest) (λ b more. refl));
}

formed : {A B : Type 0} {p q : Reader A} (into : A → B) → Agrees p q → Agrees (form into p) (form into q)
formed {A = A} {B = B} {p = p} {q = q} into h = record { at = λ ts. at_then {A = A} {B = B} (λ a rest. Ok (into a, rest)) (λ a rest. Ok (into a, rest)) (p ts) (q ts) (h.at ts) (λ a rest. refl) }

at_cond : {A : Type 0} (b : Bool) (x x' y y' : Outcome VToken A) → AgreesAt x x' → AgreesAt y y' → AgreesAt (cond b x y) (cond b x' y')
at_cond true x x' y y' h g = h
at_cond false x x' y y' h g = g

either : {A : Type 0} {p q p' q' : Reader A} (test : VToken → Bool) → Agrees p q → Agrees p' q' → Agrees (on test p p') (on test q q')
either {p = p} {q = q} {p' = p'} {q' = q'} test h g = record { at = λ ts. at_cond (sees test ts) (p ts) (q ts) (p' ts) (q' ts) (h.at ts) (g.at ts) }

maybe : {A : Type 0} {p q : Reader A} (test : VToken → Bool) → Agrees p q → Agrees (optional test p) (optional test q)
maybe test h = either test (formed Some h) (same (pure None))

at_many : {A : Type 0} (test : VToken → Bool) (p q : Reader A) → Agrees p q → (n : ℕ) (found : List A) (ts : Tokens) → AgreesAt (many_from test p n found ts) (many_from test q n found ts)
unfolding many_from
at_many test p q h zero found ts = refl
at_many test p q h (suc n) found ts =
    at_cond (sees test ts) _ _ _ _ (at_then (λ x. many_from test p n (found ++ x ∷ [])) (λ x. many_from test q n (found ++ x ∷ [])) (p ts) (q ts) (h.at ts) (λ x rest. at_many test p q h n (found ++ x ∷ []) rest)) refl

each : {A : Type 0} {p q : Reader A} (test : VToken → Bool) → Agrees p q → Agrees (many test p) (many test q)
unfolding many
each {p = p} {q = q} test h = record { at = λ ts. at_many test p q h (length ts) [] ts }

chosen : {A : Type 0} {p q p' q' : Reader A} (b : Bool) → Agrees p q → Agrees p' q' → Agrees (cond b p p') (cond b q q')
chosen true h g = h
chosen false h g = g

-- ---- statements

module _ (p q : Reader VStmt) (h : Agrees p q) where
  stmts_agree : Agrees (stmts p) (stmts q)
  unfolding stmts
  stmts_agree = each begins_stmt h

  block_agree : Agrees (block p) (block q)
  unfolding block
  block_agree = formed (λ p. VStmt.Block p.0 p.1.0 p.1.1.0 p.1.1.1) (both (same (word (codes "begin"))) (λ _. both (same any_label) (λ _. both stmts_agree (λ _. same (word (codes "end"))))))

  else_agree : Agrees (else_part p) (else_part q)
  unfolding else_part
  else_agree = formed (λ p. roll-VElse (record { word = p.0; stmt = p.1 })) (both (same (word (codes "else"))) (λ _. h))

  any_else_agree : (branch : VStmt) → Agrees (any_else p branch) (any_else q branch)
  unfolding any_else
  any_else_agree branch = chosen (ends_open branch) (same (λ ts. Ok (None, ts))) (maybe (is_word (codes "else")) else_agree)

  branches_agree : Agrees (branches p) (branches q)
  unfolding branches
  branches_agree = both h any_else_agree

  conditional_agree : (room : ℕ) → Agrees (conditional room p) (conditional room q)
  unfolding conditional
  conditional_agree room = formed (λ p. VStmt.If p.0 p.1.0 p.1.1) (both (same (if_head room)) (λ _. branches_agree))

  labelled_agree : (room : ℕ) → Agrees (labelled room p) (labelled room q)
  unfolding labelled
  labelled_agree room = formed (λ p. VCitem.Labels p.0 p.1.0 p.1.1.0 p.1.1.1) (both (same (expr room)) (λ _. both (same (next_exprs (expr room))) (λ _. both (same (mark (codes ":"))) (λ _. h))))

  all_labelled_agree : (room : ℕ) → Agrees (all_labelled room p) (all_labelled room q)
  unfolding all_labelled
  all_labelled_agree room = each begins_expr (labelled_agree room)

  default_agree : Agrees (default_item p) (default_item q)
  unfolding default_item
  default_agree = formed (λ p. VCitem.Default p.0 p.1.0 p.1.1) (both (same (word (codes "default"))) (λ _. both (same (optional (is_mark (codes ":")) (mark (codes ":")))) (λ _. h)))

  default_and_more_agree : (room : ℕ) → Agrees (default_and_more room p) (default_and_more room q)
  unfolding default_and_more
  default_and_more_agree room = both default_agree (λ _. all_labelled_agree room)

  citems_agree : (room : ℕ) → Agrees (citems room p) (citems room q)
  unfolding citems
  citems_agree room = formed citems_from (both (all_labelled_agree room) (λ _. maybe (is_word (codes "default")) (default_and_more_agree room)))

  cases_agree : (room : ℕ) → Agrees (cases room p) (cases room q)
  unfolding cases
  cases_agree room =
      formed (λ p. VStmt.Case p.0 p.1.0 p.1.1.0 p.1.1.1.0 p.1.1.1.1.0 p.1.1.1.1.1)
      (both (same (expect is_case_word)) (λ _. both (same (mark (codes "("))) (λ _. both (same (expr room)) (λ _. both (same (mark (codes ")"))) (λ _. both (citems_agree room) (λ _. same (word (codes "endcase"))))))))

  stmt_of_agree : (room : ℕ) → Agrees (stmt_of room p) (stmt_of room q)
  unfolding stmt_of
  stmt_of_agree room =
      either (is_mark (codes ";")) (same (form VStmt.Empty (mark (codes ";")))) (either (is_word (codes "begin")) block_agree (either (is_word (codes "if")) (conditional_agree room)
      (either is_case_word (cases_agree room) (same (assign room)))))

none_agrees : {A : Type 0} (q : Reader A) → Agrees none q
none_agrees q = record { at = λ ts. tt }

pub stmt_agrees : (room levels : ℕ) → Agrees (stmt_in room levels) (stmt room)
unfolding stmt_in stmt
stmt_agrees zero levels = same _
stmt_agrees (suc room) zero = none_agrees _
stmt_agrees (suc room) (suc levels) = stmt_of_agree (stmt_in room levels) (stmt room) (stmt_agrees room levels) (suc room)

-- ---- items

module _ (p q : Reader VMitem) (h : Agrees p q) where
  mitems_agree : Agrees (mitems p) (mitems q)
  unfolding mitems
  mitems_agree = each begins_mitem h

  region_agree : Agrees (region p) (region q)
  unfolding region
  region_agree = formed (λ p. VMitem.Generate p.0 p.1.0 p.1.1) (both (same (word (codes "generate"))) (λ _. both mitems_agree (λ _. same (word (codes "endgenerate")))))

  body_block_agree : Agrees (body_block p) (body_block q)
  unfolding body_block
  body_block_agree = formed (λ p. VGbody.Block p.0 p.1.0 p.1.1.0 p.1.1.1) (both (same (word (codes "begin"))) (λ _. both (same any_label) (λ _. both mitems_agree (λ _. same (word (codes "end"))))))

  named_block_agree : Agrees (named_block p) (named_block q)
  unfolding named_block
  named_block_agree = formed (λ p. VGbody.Block p.0 (Some p.1.0) p.1.1.0 p.1.1.1) (both (same (word (codes "begin"))) (λ _. both (same label) (λ _. both mitems_agree (λ _. same (word (codes "end"))))))

  for_agree : (room : ℕ) → Agrees (for_item room p) (for_item room q)
  unfolding for_item
  for_agree room = formed (λ p. VMitem.For p.0 p.1) (both (same (for_head room)) (λ _. named_block_agree))

  gbody_agree : Agrees (gbody p) (gbody q)
  unfolding gbody
  gbody_agree = either (is_word (codes "begin")) body_block_agree (formed VGbody.Item h)

  gelse_agree : Agrees (gelse p) (gelse q)
  unfolding gelse
  gelse_agree = formed (λ p. roll-VGelse (record { word = p.0; body = p.1 })) (both (same (word (codes "else"))) (λ _. gbody_agree))

  any_gelse_agree : (branch : VGbody) → Agrees (any_gelse p branch) (any_gelse q branch)
  unfolding any_gelse
  any_gelse_agree branch = chosen (body_ends_open branch) (same (λ ts. Ok (None, ts))) (maybe (is_word (codes "else")) gelse_agree)

  gbranches_agree : Agrees (gbranches p) (gbranches q)
  unfolding gbranches
  gbranches_agree = both gbody_agree any_gelse_agree

  gconditional_agree : (room : ℕ) → Agrees (gconditional room p) (gconditional room q)
  unfolding gconditional
  gconditional_agree room = formed (λ p. VMitem.If p.0 p.1.0 p.1.1) (both (same (if_head room)) (λ _. gbranches_agree))

always_agree : (p q : Reader VStmt) → Agrees p q → Agrees (always_in p) (always_in q)
unfolding always_in
always_agree p q h = formed (λ p. VMitem.Always p.0 p.1.0 p.1.1.0 p.1.1.1) (both (same (word (codes "always"))) (λ _. both (same (mark (codes "@"))) (λ _. both (same event) (λ _. h))))

initial_agree : (p q : Reader VStmt) → Agrees p q → Agrees (initial_in p) (initial_in q)
unfolding initial_in
initial_agree p q h = formed (λ p. VMitem.Initial p.0 p.1) (both (same (word (codes "initial"))) (λ _. h))

mitem_agree : (room : ℕ) (b c : Reader VStmt) (p q : Reader VMitem) → Agrees b c → Agrees p q → Agrees (mitem_with room b p) (mitem_with room c q)
unfolding mitem_with
mitem_agree room b c p q g h =
    either is_dir (same (port_item room)) (either is_net_kind (same (net_item room)) (either is_constant_word (same (constant_item room)) (either (is_word (codes "genvar")) (same genvar_item)
    (either (is_word (codes "assign")) (same (assign_item room)) (either (is_word (codes "always")) (always_agree b c g) (either (is_word (codes "initial")) (initial_agree b c g)
    (either (is_word (codes "generate")) (region_agree p q h) (either (is_word (codes "for")) (for_agree p q h room) (either (is_word (codes "if")) (gconditional_agree p q h room)
    (same (form VMitem.Instance (instance room))))))))))))

-- the grammar's item is the one whose statements are the grammar's
mitem_is : (room : ℕ) (inner : Reader VMitem) → mitem_of room inner ≡ mitem_with room (stmt room) inner
unfolding mitem_of mitem_with always_item always_in initial_item initial_in
mitem_is room inner = refl

mitem_by : (b : Bool) (room levels : ℕ) → Agrees (mitem_in room (levels - 1)) (mitem room)
    → Agrees (cond b (mitem_with (suc room) (stmt_in (suc room) (levels - 1)) (mitem_in room (levels - 1))) none) (mitem_of (suc room) (mitem room))
mitem_by true room levels h =
    subst (λ r. Agrees (mitem_with (suc room) (stmt_in (suc room) (levels - 1)) (mitem_in room (levels - 1))) r) (sym (mitem_is (suc room) (mitem room)))
    (mitem_agree (suc room) (stmt_in (suc room) (levels - 1)) (stmt (suc room)) (mitem_in room (levels - 1)) (mitem room) (stmt_agrees (suc room) (levels - 1)) h)
mitem_by false room levels h = none_agrees _

mitem_agrees : (room levels : ℕ) → Agrees (mitem_in room levels) (mitem room)
unfolding mitem_in mitem
mitem_agrees zero levels = same _
mitem_agrees (suc room) levels = mitem_by (nat_lt statement_levels levels) room levels (mitem_agrees room (levels - 1))

-- ---- modules

module_agrees : (room levels : ℕ) → Agrees (module_in room levels) (module_ room)
unfolding module_in module_
module_agrees room levels =
    formed (λ p. record { word = p.0; name = p.1.0; parameters = p.1.1.0; ports = p.1.1.1.0; semi = p.1.1.1.1.0; items = p.1.1.1.1.1.0; end = p.1.1.1.1.1.1 })
    (both (same (word (codes "module"))) (λ _. both (same (expect is_name)) (λ _. both (same (optional (is_mark (codes "#")) (pdecs room))) (λ _. both (same (optional (is_mark (codes "(")) (port_list room)))
    (λ _. both (same (mark (codes ";"))) (λ _. both (mitems_agree (mitem_in room levels) (mitem room) (mitem_agrees room levels)) (λ _. same (word (codes "endmodule")))))))))

source_agrees : (room levels : ℕ) → Agrees (source_in room levels) (source room)
unfolding source_in modules_in source modules
source_agrees room levels = formed (λ p. p.0) (both (each (is_word (codes "module")) (module_agrees room levels)) (λ _. same finish))

pub source_reads : (room levels : ℕ) (ts : Tokens) (xs : List VModule) (rest : Tokens) → source_in room levels ts ≡ Ok (xs, rest) → source room ts ≡ Ok (xs, rest)
source_reads room levels ts xs rest e = subst (λ o. AgreesAt o (source room ts)) e ((source_agrees room levels).at ts)

pub source_sinks : (room levels : ℕ) (ts : Tokens) → source_in room levels ts ≡ Err Sunk → source room ts ≡ Err Sunk
source_sinks room levels ts e = subst (λ o. AgreesAt o (source room ts)) e ((source_agrees room levels).at ts)

-- ---- with as many levels as there is room, there is no limit

stmt_whole : (room levels : ℕ) → room ≤ levels → stmt_in room levels ≡ stmt room
unfolding stmt_in stmt
stmt_whole zero levels le = refl
stmt_whole (suc room) zero le = absurd (omega arith)
stmt_whole (suc room) (suc levels) le = ap (stmt_of (suc room)) (stmt_whole room levels (omega arith))

mitem_whole : (room levels : ℕ) → room + statement_levels ≤ levels → mitem_in room levels ≡ mitem room
unfolding mitem_in mitem
mitem_whole zero levels le = refl
mitem_whole (suc room) levels le =
    let below : room + statement_levels ≤ levels - 1 = omega arith in
    let some : suc room ≤ levels - 1 = omega arith in
    rw (lt-ltb statement_levels levels (omega arith))
    (ap (λ b. mitem_with (suc room) b (mitem_in room (levels - 1))) (stmt_whole (suc room) (levels - 1) some)
    ∙ ap (mitem_with (suc room) (stmt (suc room))) (mitem_whole room (levels - 1) below) ∙ sym (mitem_is (suc room) (mitem room)))

pub source_whole : (room levels : ℕ) → room + statement_levels ≤ levels → source_in room levels ≡ source room
unfolding source_in modules_in module_in source modules module_
source_whole room levels le = ap whole (mitem_whole room levels le)
  where
    whole : Reader VMitem → Reader (List VModule)
    whole = λ item. form (λ p. p.0) (seq (many (is_word (codes "module")) (form (λ p. record { word = p.0; name = p.1.0; parameters = p.1.1.0; ports = p.1.1.1.0; semi = p.1.1.1.1.0; items = p.1.1.1.1.1.0; end = p.1.1.1.1.1.1 }) (seq (word (codes "module")) (λ _. (seq (expect is_name) (λ _. (seq (optional (is_mark (codes "#")) (pdecs room)) (λ _. (seq (optional (is_mark (codes "(")) (port_list room)) (λ _. (seq (mark (codes ";")) (λ _. (seq (mitems item) (λ _. (word (codes "endmodule")))))))))))))))) (λ _. finish))
