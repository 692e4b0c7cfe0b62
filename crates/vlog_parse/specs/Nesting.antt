-- The grammar's rows, read from left to right, where only so many items and statements may stand in one another.
use Rattle.std.specs.Prelude.{ℕ, zero, suc, ◌-◌, nat_lt, if◌then◌else◌, List, Err, codes}
use Rattle.parsing.specs.Parser.{Refused, seq, form, expect, on, optional, many, sunk, finish}
use Rattle.vlog_tree.specs.Terminals.{is_mark, is_word, is_name, is_constant_word}
use Rattle.vlog_tree.specs.declared.tree_modules.VMitem.{VMitem}
use Rattle.vlog_tree.specs.declared.tree_modules.VModule.{VModule}
use Rattle.vlog_tree.specs.declared.tree_statements.VStmt.{VStmt}
use Rattle.vlog_tree.specs.ReadExpressions.{Reader, mark, word}
use Rattle.vlog_tree.specs.ReadStatements.{event, stmt_of}
use Rattle.vlog_tree.specs.ReadModules.{pdecs, port_list, is_dir, is_net_kind, port_item, net_item, constant_item, genvar_item, assign_item, instance, region, for_item, gconditional, mitems}

-- How many items and statements may stand in one another, and of these at least how many are statements.
abbrev pub most_levels : ℕ
most_levels = 2112

abbrev pub statement_levels : ℕ
statement_levels = 1056

-- Where the limit is reached, no token can stand.
abbrev pub none : {A : Type 0} → Reader A
none = λ ts. Err (Refused ts)

-- A statement where it and those in it may stand in one another so many deep.
unfoldable pub stmt_in : ℕ → ℕ → Reader VStmt
stmt_in zero levels = sunk
stmt_in (suc room) zero = none
stmt_in (suc room) (suc levels) = stmt_of (suc room) (stmt_in room levels)

unfoldable pub always_in : Reader VStmt → Reader VMitem
always_in body = form (λ p. VMitem.Always p.0 p.1.0 p.1.1.0 p.1.1.1) (seq (word (codes "always")) (λ _. (seq (mark (codes "@")) (λ _. (seq event (λ _. body))))))

unfoldable pub initial_in : Reader VStmt → Reader VMitem
initial_in body = form (λ p. VMitem.Initial p.0 p.1) (seq (word (codes "initial")) (λ _. body))

-- An item whose statements are read by `body` and whose own items are read by `inner`.
unfoldable pub mitem_with : ℕ → Reader VStmt → Reader VMitem → Reader VMitem
mitem_with room body inner =
    on is_dir (port_item room) (on is_net_kind (net_item room) (on is_constant_word (constant_item room) (on (is_word (codes "genvar")) genvar_item
    (on (is_word (codes "assign")) (assign_item room) (on (is_word (codes "always")) (always_in body) (on (is_word (codes "initial")) (initial_in body)
    (on (is_word (codes "generate")) (region inner) (on (is_word (codes "for")) (for_item room inner) (on (is_word (codes "if")) (gconditional room inner)
    (form VMitem.Instance (instance room)))))))))))

-- An item where it and the items and statements in it may stand in one another so many deep.
unfoldable pub mitem_in : ℕ → ℕ → Reader VMitem
mitem_in zero levels = sunk
mitem_in (suc room) levels =
    if nat_lt statement_levels levels then mitem_with (suc room) (stmt_in (suc room) (levels - 1)) (mitem_in room (levels - 1)) else none

unfoldable pub module_in : ℕ → ℕ → Reader VModule
module_in room levels =
    form (λ p. record { word = p.0; name = p.1.0; parameters = p.1.1.0; ports = p.1.1.1.0; semi = p.1.1.1.1.0; items = p.1.1.1.1.1.0; end = p.1.1.1.1.1.1 }) (seq (word (codes "module")) (λ _. (seq (expect is_name) (λ _. (seq (optional (is_mark (codes "#")) (pdecs room)) (λ _. (seq (optional (is_mark (codes "(")) (port_list room)) (λ _. (seq (mark (codes ";")) (λ _. (seq (mitems (mitem_in room levels)) (λ _. (word (codes "endmodule"))))))))))))))

unfoldable pub modules_in : ℕ → ℕ → Reader (List VModule)
modules_in room levels = many (is_word (codes "module")) (module_in room levels)

-- All the tokens.
unfoldable pub source_in : ℕ → ℕ → Reader (List VModule)
source_in room levels = form (λ p. p.0) (seq (modules_in room levels) (λ _. finish))
