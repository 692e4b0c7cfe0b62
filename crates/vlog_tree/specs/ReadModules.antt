-- The rows of modules and their items as functions on lists of tokens.
use Rattle.std.specs.Prelude.{Bool, true, false, ◌||◌, ◌++◌, ℕ, zero, suc, List, [], ◌∷◌, Option, Some, None, ◌⊎◌, codes}
use Rattle.std.proofs.Common.{inl, inr}
use Rattle.parsing.specs.Parser.{Parser, seq, form, expect, on, optional, many, sunk, finish}
use Rattle.vlog_tree.specs.declared.token.VToken.{VToken}
use Rattle.vlog_tree.specs.Terminals.{is_mark, is_word, is_name, is_number, is_function, is_unary, is_level, is_edge, is_separator, is_assigning, is_case_word, is_constant_word}
use Rattle.vlog_tree.specs.declared.tree_modules.VDir.{VDir}
use Rattle.vlog_tree.specs.declared.tree_modules.VDir.TheVariants as VDir
use Rattle.vlog_tree.specs.declared.tree_modules.VKind.{VKind}
use Rattle.vlog_tree.specs.declared.tree_modules.VKind.TheVariants as VKind
use Rattle.vlog_tree.specs.declared.tree_modules.VRange.{VRange}
use Rattle.vlog_tree.specs.declared.tree_modules.VType.{VType}
use Rattle.vlog_tree.specs.declared.tree_modules.VAssigned.{VAssigned}
use Rattle.vlog_tree.specs.declared.tree_modules.VNet.{VNet}
use Rattle.vlog_tree.specs.declared.tree_modules.VNextNet.{VNextNet}
use Rattle.vlog_tree.specs.declared.tree_modules.VConstant.{VConstant}
use Rattle.vlog_tree.specs.declared.tree_modules.VNextConstant.{VNextConstant}
use Rattle.vlog_tree.specs.declared.tree_modules.VDriver.{VDriver}
use Rattle.vlog_tree.specs.declared.tree_modules.VNextDriver.{VNextDriver}
use Rattle.vlog_tree.specs.declared.tree_modules.VNextName.{VNextName}
use Rattle.vlog_tree.specs.declared.tree_modules.VPdec.{VPdec}
use Rattle.vlog_tree.specs.declared.tree_modules.VNextPdec.{VNextPdec}
use Rattle.vlog_tree.specs.declared.tree_modules.VPdecs.{VPdecs}
use Rattle.vlog_tree.specs.declared.tree_modules.VPortHead.{VPortHead}
use Rattle.vlog_tree.specs.declared.tree_modules.VNextPort.{VNextPort}
use Rattle.vlog_tree.specs.declared.tree_modules.VPorts.{VPorts}
use Rattle.vlog_tree.specs.declared.tree_modules.VPorts.TheVariants as VPorts
use Rattle.vlog_tree.specs.declared.tree_modules.VPortList.{VPortList}
use Rattle.vlog_tree.specs.declared.tree_modules.VConn.{VConn}
use Rattle.vlog_tree.specs.declared.tree_modules.VNextConn.{VNextConn}
use Rattle.vlog_tree.specs.declared.tree_modules.VConns.{VConns}
use Rattle.vlog_tree.specs.declared.tree_modules.VConns.TheVariants as VConns
use Rattle.vlog_tree.specs.declared.tree_modules.VOverrides.{VOverrides}
use Rattle.vlog_tree.specs.declared.tree_modules.VInstance.{VInstance}
use Rattle.vlog_tree.specs.declared.tree_modules.VForHead.{VForHead}
use Rattle.vlog_tree.specs.declared.tree_modules.VMitem.{VMitem}
use Rattle.vlog_tree.specs.declared.tree_modules.VMitem.TheVariants as VMitem
use Rattle.vlog_tree.specs.declared.tree_modules.VGbody.{VGbody}
use Rattle.vlog_tree.specs.declared.tree_modules.VGbody.TheVariants as VGbody
use Rattle.vlog_tree.specs.declared.tree_modules.VGelse.{VGelse, roll-VGelse}
use Rattle.vlog_tree.specs.declared.tree_modules.VModule.{VModule}
use Rattle.vlog_tree.specs.declared.tree_expressions.VExpr.{VExpr}
use Rattle.vlog_tree.specs.declared.tree_expressions.VExpr.TheVariants as VExpr
use Rattle.vlog_tree.specs.declared.tree_expressions.VNextExpr.{VNextExpr, roll-VNextExpr}
use Rattle.vlog_tree.specs.declared.tree_expressions.VLval.{VLval}
use Rattle.vlog_tree.specs.declared.tree_expressions.VLval.TheVariants as VLval
use Rattle.vlog_tree.specs.declared.tree_statements.VStmt.{VStmt}
use Rattle.vlog_tree.specs.declared.tree_statements.VStmt.TheVariants as VStmt
use Rattle.vlog_tree.specs.declared.tree_statements.VEvent.{VEvent}
use Rattle.vlog_tree.specs.declared.tree_statements.VEvent.TheVariants as VEvent
use Rattle.vlog_tree.specs.declared.tree_statements.VLabel.{VLabel}
use Rattle.vlog_tree.specs.declared.tree_statements.VIfHead.{VIfHead}
use Rattle.std.specs.Prelude.{cond, Result, Ok}
use Rattle.vlog_tree.specs.Modules.{item_ends_open, body_ends_open}
use Rattle.vlog_tree.specs.ReadExpressions.{Reader, mark, word, expr, lval, next_exprs, begins_expr, begins_lval}
use Rattle.vlog_tree.specs.ReadStatements.{event, label, any_label, if_head, stmt}

unfoldable pub dir : Reader VDir
dir = on (is_word (codes "input")) (form VDir.Input (word (codes "input"))) (form VDir.Output (word (codes "output")))

unfoldable pub kind : Reader VKind
kind = on (is_word (codes "wire")) (form VKind.Wire (word (codes "wire"))) (form VKind.Reg (word (codes "reg")))

unfoldable pub range : ℕ → Reader VRange
range room = form (λ p. record { «open» = p.0; high = p.1.0; colon = p.1.1.0; low = p.1.1.1.0; close = p.1.1.1.1 }) (seq (mark (codes "[")) (λ _. (seq (expr room) (λ _. (seq (mark (codes ":")) (λ _. (seq (expr room) (λ _. (mark (codes "]"))))))))))

unfoldable pub shape : ℕ → Reader VType
shape room = form (λ p. record { signed = p.0; range = p.1 }) (seq (optional (is_word (codes "signed")) (word (codes "signed"))) (λ _. (optional (is_mark (codes "[")) (range room))))

unfoldable pub assigned : ℕ → Reader VAssigned
assigned room = form (λ p. record { equals = p.0; value = p.1 }) (seq (mark (codes "=")) (λ _. (expr room)))

unfoldable pub net : ℕ → Reader VNet
net room = form (λ p. record { name = p.0; value = p.1 }) (seq (expect is_name) (λ _. (optional (is_mark (codes "=")) (assigned room))))

unfoldable pub next_net : ℕ → Reader VNextNet
next_net room = form (λ p. record { comma = p.0; net = p.1 }) (seq (mark (codes ",")) (λ _. (net room)))

unfoldable pub constant : ℕ → Reader VConstant
constant room = form (λ p. record { name = p.0; equals = p.1.0; value = p.1.1 }) (seq (expect is_name) (λ _. (seq (mark (codes "=")) (λ _. (expr room)))))

unfoldable pub next_constant : ℕ → Reader VNextConstant
next_constant room = form (λ p. record { comma = p.0; constant = p.1 }) (seq (mark (codes ",")) (λ _. (constant room)))

unfoldable pub driver : ℕ → Reader VDriver
driver room = form (λ p. record { left = p.0; equals = p.1.0; value = p.1.1 }) (seq (lval room) (λ _. (seq (mark (codes "=")) (λ _. (expr room)))))

unfoldable pub next_driver : ℕ → Reader VNextDriver
next_driver room = form (λ p. record { comma = p.0; driver = p.1 }) (seq (mark (codes ",")) (λ _. (driver room)))

unfoldable pub next_name : Reader VNextName
next_name = form (λ p. record { comma = p.0; name = p.1 }) (seq (mark (codes ",")) (λ _. (expect is_name)))

unfoldable pub pdec : ℕ → Reader VPdec
pdec room = form (λ p. record { word = p.0; shape = p.1.0; constant = p.1.1 }) (seq (optional (is_word (codes "parameter")) (word (codes "parameter"))) (λ _. (seq (shape room) (λ _. (constant room)))))

unfoldable pub next_pdec : ℕ → Reader VNextPdec
next_pdec room = form (λ p. record { comma = p.0; pdec = p.1 }) (seq (mark (codes ",")) (λ _. (pdec room)))

unfoldable pub pdecs : ℕ → Reader VPdecs
pdecs room = form (λ p. record { hash = p.0; «open» = p.1.0; first = p.1.1.0; more = p.1.1.1.0; close = p.1.1.1.1 }) (seq (mark (codes "#")) (λ _. (seq (mark (codes "(")) (λ _. (seq (pdec room) (λ _. (seq (many (is_mark (codes ",")) (next_pdec room)) (λ _. (mark (codes ")"))))))))))

unfoldable pub is_net_kind : VToken → Bool
is_net_kind t = is_word (codes "wire") t || is_word (codes "reg") t

unfoldable pub port_head : ℕ → Reader VPortHead
port_head room = form (λ p. record { dir = p.0; kind = p.1.0; shape = p.1.1 }) (seq dir (λ _. (seq (optional is_net_kind kind) (λ _. (shape room)))))

unfoldable pub is_dir : VToken → Bool
is_dir t = is_word (codes "input") t || is_word (codes "output") t

unfoldable pub next_port : ℕ → Reader VNextPort
next_port room = form (λ p. record { comma = p.0; head = p.1.0; name = p.1.1 }) (seq (mark (codes ",")) (λ _. (seq (optional is_dir (port_head room)) (λ _. (expect is_name)))))

unfoldable pub ports : ℕ → Reader VPorts
ports room = on is_name (form (λ p. VPorts.Names p.0 p.1) (seq (expect is_name) (λ _. (many (is_mark (codes ",")) next_name)))) (form (λ p. VPorts.Declared p.0 p.1.0 p.1.1) (seq (port_head room) (λ _. (seq (expect is_name) (λ _. (many (is_mark (codes ",")) (next_port room)))))))

unfoldable pub begins_ports : VToken → Bool
begins_ports t = is_name t || is_dir t

unfoldable pub port_list : ℕ → Reader VPortList
port_list room = form (λ p. record { «open» = p.0; ports = p.1.0; close = p.1.1 }) (seq (mark (codes "(")) (λ _. (seq (optional begins_ports (ports room)) (λ _. (mark (codes ")"))))))

unfoldable pub conn : ℕ → Reader VConn
conn room = form (λ p. record { dot = p.0; name = p.1.0; «open» = p.1.1.0; value = p.1.1.1.0; close = p.1.1.1.1 }) (seq (mark (codes ".")) (λ _. (seq (expect is_name) (λ _. (seq (mark (codes "(")) (λ _. (seq (optional begins_expr (expr room)) (λ _. (mark (codes ")"))))))))))

unfoldable pub next_conn : ℕ → Reader VNextConn
next_conn room = form (λ p. record { comma = p.0; conn = p.1 }) (seq (mark (codes ",")) (λ _. (conn room)))

unfoldable pub conns : ℕ → Reader VConns
conns room = on begins_expr (form (λ p. VConns.Ordered p.0 p.1) (seq (expr room) (λ _. (next_exprs (expr room))))) (form (λ p. VConns.Named p.0 p.1) (seq (conn room) (λ _. (many (is_mark (codes ",")) (next_conn room)))))

unfoldable pub begins_conns : VToken → Bool
begins_conns t = begins_expr t || is_mark (codes ".") t

unfoldable pub overrides : ℕ → Reader VOverrides
overrides room = form (λ p. record { hash = p.0; «open» = p.1.0; conns = p.1.1.0; close = p.1.1.1 }) (seq (mark (codes "#")) (λ _. (seq (mark (codes "(")) (λ _. (seq (conns room) (λ _. (mark (codes ")"))))))))

unfoldable pub instance : ℕ → Reader VInstance
instance room = form (λ p. record { module_name = p.0; overrides = p.1.0; name = p.1.1.0; «open» = p.1.1.1.0; conns = p.1.1.1.1.0; close = p.1.1.1.1.1.0; semi = p.1.1.1.1.1.1 }) (seq (expect is_name) (λ _. (seq (optional (is_mark (codes "#")) (overrides room)) (λ _. (seq (expect is_name) (λ _. (seq (mark (codes "(")) (λ _. (seq (optional begins_conns (conns room)) (λ _. (seq (mark (codes ")")) (λ _. (mark (codes ";"))))))))))))))

unfoldable pub for_head : ℕ → Reader VForHead
for_head room = form (λ p. record { word = p.0; «open» = p.1.0; start = p.1.1.0; first_semi = p.1.1.1.0; test = p.1.1.1.1.0; second_semi = p.1.1.1.1.1.0; step = p.1.1.1.1.1.1.0; close = p.1.1.1.1.1.1.1 }) (seq (word (codes "for")) (λ _. (seq (mark (codes "(")) (λ _. (seq (constant room) (λ _. (seq (mark (codes ";")) (λ _. (seq (expr room) (λ _. (seq (mark (codes ";")) (λ _. (seq (constant room) (λ _. (mark (codes ")"))))))))))))))))

-- ---- items, whose own items are read by `inner`

unfoldable pub port_item : ℕ → Reader VMitem
port_item room = form (λ p. VMitem.Ports p.0 p.1.0 p.1.1.0 p.1.1.1) (seq (port_head room) (λ _. (seq (expect is_name) (λ _. (seq (many (is_mark (codes ",")) next_name) (λ _. (mark (codes ";"))))))))

unfoldable pub net_item : ℕ → Reader VMitem
net_item room = form (λ p. VMitem.Nets p.0 p.1.0 p.1.1.0 p.1.1.1.0 p.1.1.1.1) (seq kind (λ _. (seq (shape room) (λ _. (seq (net room) (λ _. (seq (many (is_mark (codes ",")) (next_net room)) (λ _. (mark (codes ";"))))))))))

unfoldable pub constant_item : ℕ → Reader VMitem
constant_item room = form (λ p. VMitem.Constants p.0 p.1.0 p.1.1.0 p.1.1.1.0 p.1.1.1.1) (seq (expect is_constant_word) (λ _. (seq (shape room) (λ _. (seq (constant room) (λ _. (seq (many (is_mark (codes ",")) (next_constant room)) (λ _. (mark (codes ";"))))))))))

unfoldable pub genvar_item : Reader VMitem
genvar_item = form (λ p. VMitem.Genvars p.0 p.1.0 p.1.1.0 p.1.1.1) (seq (word (codes "genvar")) (λ _. (seq (expect is_name) (λ _. (seq (many (is_mark (codes ",")) next_name) (λ _. (mark (codes ";"))))))))

unfoldable pub assign_item : ℕ → Reader VMitem
assign_item room = form (λ p. VMitem.Assigns p.0 p.1.0 p.1.1.0 p.1.1.1) (seq (word (codes "assign")) (λ _. (seq (driver room) (λ _. (seq (many (is_mark (codes ",")) (next_driver room)) (λ _. (mark (codes ";"))))))))

unfoldable pub always_item : ℕ → Reader VMitem
always_item room = form (λ p. VMitem.Always p.0 p.1.0 p.1.1.0 p.1.1.1) (seq (word (codes "always")) (λ _. (seq (mark (codes "@")) (λ _. (seq event (λ _. (stmt room)))))))

unfoldable pub initial_item : ℕ → Reader VMitem
initial_item room = form (λ p. VMitem.Initial p.0 p.1) (seq (word (codes "initial")) (λ _. (stmt room)))

unfoldable pub begins_mitem : VToken → Bool
begins_mitem t =
    is_dir t || is_net_kind t || is_constant_word t || is_word (codes "genvar") t || is_word (codes "assign") t || is_word (codes "always") t || is_word (codes "initial") t
    || is_word (codes "generate") t || is_name t || is_word (codes "for") t || is_word (codes "if") t

unfoldable pub mitems : Reader VMitem → Reader (List VMitem)
mitems inner = many begins_mitem inner

unfoldable pub region : Reader VMitem → Reader VMitem
region inner = form (λ p. VMitem.Generate p.0 p.1.0 p.1.1) (seq (word (codes "generate")) (λ _. seq (mitems inner) (λ _. word (codes "endgenerate"))))

unfoldable pub body_block : Reader VMitem → Reader VGbody
body_block inner =
    form (λ p. VGbody.Block p.0 p.1.0 p.1.1.0 p.1.1.1) (seq (word (codes "begin")) (λ _. seq any_label (λ _. seq (mitems inner) (λ _. word (codes "end")))))

-- a loop's body has a name
unfoldable pub named_block : Reader VMitem → Reader VGbody
named_block inner =
    form (λ p. VGbody.Block p.0 (Some p.1.0) p.1.1.0 p.1.1.1) (seq (word (codes "begin")) (λ _. seq label (λ _. seq (mitems inner) (λ _. word (codes "end")))))

unfoldable pub for_item : ℕ → Reader VMitem → Reader VMitem
for_item room inner = form (λ p. VMitem.For p.0 p.1) (seq (for_head room) (λ _. named_block inner))

unfoldable pub gbody : Reader VMitem → Reader VGbody
gbody inner = on (is_word (codes "begin")) (body_block inner) (form VGbody.Item inner)

unfoldable pub gelse : Reader VMitem → Reader VGelse
gelse inner = form (λ p. roll-VGelse (record { word = p.0; body = p.1 })) (seq (word (codes "else")) (λ _. gbody inner))

-- an `else` after this body is of the `if` before it, where the body doesn't end in an `if` without one
unfoldable pub any_gelse : Reader VMitem → VGbody → Reader (Option VGelse)
any_gelse inner branch = cond (body_ends_open branch) (λ ts. Ok (None, ts)) (optional (is_word (codes "else")) (gelse inner))

unfoldable pub gbranches : Reader VMitem → Reader (VGbody × Option VGelse)
gbranches inner = seq (gbody inner) (λ branch. any_gelse inner branch)

unfoldable pub gconditional : ℕ → Reader VMitem → Reader VMitem
gconditional room inner = form (λ p. VMitem.If p.0 p.1.0 p.1.1) (seq (if_head room) (λ _. gbranches inner))

unfoldable pub mitem_of : ℕ → Reader VMitem → Reader VMitem
mitem_of room inner =
    on is_dir (port_item room) (on is_net_kind (net_item room) (on is_constant_word (constant_item room) (on (is_word (codes "genvar")) genvar_item
    (on (is_word (codes "assign")) (assign_item room) (on (is_word (codes "always")) (always_item room) (on (is_word (codes "initial")) (initial_item room)
    (on (is_word (codes "generate")) (region inner) (on (is_word (codes "for")) (for_item room inner) (on (is_word (codes "if")) (gconditional room inner)
    (form VMitem.Instance (instance room)))))))))))

unfoldable pub mitem : ℕ → Reader VMitem
mitem zero = sunk
mitem (suc room) = mitem_of (suc room) (mitem room)

unfoldable pub module_ : ℕ → Reader VModule
module_ room =
    form (λ p. record { word = p.0; name = p.1.0; parameters = p.1.1.0; ports = p.1.1.1.0; semi = p.1.1.1.1.0; items = p.1.1.1.1.1.0; end = p.1.1.1.1.1.1 }) (seq (word (codes "module")) (λ _. (seq (expect is_name) (λ _. (seq (optional (is_mark (codes "#")) (pdecs room)) (λ _. (seq (optional (is_mark (codes "(")) (port_list room)) (λ _. (seq (mark (codes ";")) (λ _. (seq (mitems (mitem room)) (λ _. (word (codes "endmodule"))))))))))))))

unfoldable pub modules : ℕ → Reader (List VModule)
modules room = many (is_word (codes "module")) (module_ room)

-- all the tokens
unfoldable pub source : ℕ → Reader (List VModule)
source room = form (λ p. p.0) (seq (modules room) (λ _. finish))
