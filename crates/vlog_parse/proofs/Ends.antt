-- Which statements and items end in an `if` without an `else`.
use Rattle.std.proofs.Common.{◌≡◌, Bool, true, false, List, Option, Some, None, sym, ◌∙◌, ap}
use Rattle.vlog_tree.specs.declared.token.VToken.{VToken}
use Rattle.vlog_tree.specs.declared.tree_expressions.VExpr.{VExpr}
use Rattle.vlog_tree.specs.declared.tree_expressions.VLval.{VLval}
use Rattle.vlog_tree.specs.declared.tree_statements.VCitem.{VCitem}
use Rattle.vlog_tree.specs.declared.tree_statements.VLabel.{VLabel}
use Rattle.vlog_tree.specs.declared.tree_statements.VIfHead.{VIfHead}
use Rattle.vlog_tree.specs.declared.tree_statements.VStmt.{VStmt}
use Rattle.vlog_tree.specs.declared.tree_statements.VStmt.TheVariants as VStmt
use Rattle.vlog_tree.specs.declared.tree_statements.VElse.{VElse, out-VElse, roll-out-VElse}
use Rattle.vlog_tree.specs.declared.tree_statements.VEvent.{VEvent}
use Rattle.vlog_tree.specs.declared.tree_modules.VPortHead.{VPortHead}
use Rattle.vlog_tree.specs.declared.tree_modules.VNextName.{VNextName}
use Rattle.vlog_tree.specs.declared.tree_modules.VKind.{VKind}
use Rattle.vlog_tree.specs.declared.tree_modules.VType.{VType}
use Rattle.vlog_tree.specs.declared.tree_modules.VNet.{VNet}
use Rattle.vlog_tree.specs.declared.tree_modules.VNextNet.{VNextNet}
use Rattle.vlog_tree.specs.declared.tree_modules.VConstant.{VConstant}
use Rattle.vlog_tree.specs.declared.tree_modules.VNextConstant.{VNextConstant}
use Rattle.vlog_tree.specs.declared.tree_modules.VDriver.{VDriver}
use Rattle.vlog_tree.specs.declared.tree_modules.VNextDriver.{VNextDriver}
use Rattle.vlog_tree.specs.declared.tree_modules.VInstance.{VInstance}
use Rattle.vlog_tree.specs.declared.tree_modules.VForHead.{VForHead}
use Rattle.vlog_tree.specs.declared.tree_modules.VMitem.{VMitem}
use Rattle.vlog_tree.specs.declared.tree_modules.VMitem.TheVariants as VMitem
use Rattle.vlog_tree.specs.declared.tree_modules.VGbody.{VGbody}
use Rattle.vlog_tree.specs.declared.tree_modules.VGbody.TheVariants as VGbody
use Rattle.vlog_tree.specs.declared.tree_modules.VGelse.{VGelse, out-VGelse, roll-out-VGelse}
use Rattle.vlog_tree.specs.Statements.{ends_open, grade_else}
use Rattle.vlog_tree.specs.Modules.{item_ends_open, body_ends_open, grade_gelse}
use Rattle.vlog_tree.proofs.FoldsModules.{grade_gbody_Item, grade_gbody_Block, grade_mitem_Ports, grade_mitem_Nets, grade_mitem_Constants, grade_mitem_Genvars, grade_mitem_Assigns, grade_mitem_Always, grade_mitem_Initial, grade_mitem_Generate, grade_mitem_Instance, grade_mitem_For, grade_mitem_If_alone, grade_mitem_If_with, grade_gelse_roll}
use Rattle.vlog_tree.proofs.FoldsStatements.{grade_stmt_Empty, grade_stmt_Block, grade_stmt_Assign, grade_stmt_If_alone, grade_stmt_If_with, grade_stmt_Case, grade_else_roll}

abbrev open_part : Bool × Bool → Bool
open_part g = g.1

pub open_empty : (semi : VToken) → ends_open (VStmt.Empty semi) ≡ false
open_empty semi = ap open_part (grade_stmt_Empty semi)

pub open_block : (word : VToken) (label : Option VLabel) (stmts : List VStmt) (end : VToken) → ends_open (VStmt.Block word label stmts end) ≡ false
open_block word label stmts end = ap open_part (grade_stmt_Block word label stmts end)

pub open_assign : (left : VLval) (mark : VToken) (value : VExpr) (semi : VToken) → ends_open (VStmt.Assign left mark value semi) ≡ false
open_assign left mark value semi = ap open_part (grade_stmt_Assign left mark value semi)

pub open_case : (word open_ : VToken) (selector : VExpr) (close : VToken) (items : List VCitem) (end : VToken) → ends_open (VStmt.Case word open_ selector close items end) ≡ false
open_case word open_ selector close items end = ap open_part (grade_stmt_Case word open_ selector close items end)

pub open_if : (head : VIfHead) (branch : VStmt) → ends_open (VStmt.If head branch None) ≡ true
open_if head branch = ap open_part (grade_stmt_If_alone head branch)

pub open_else : (head : VIfHead) (branch : VStmt) (other : VElse) → ends_open (VStmt.If head branch (Some other)) ≡ ends_open (out-VElse other).stmt
open_else head branch other =
    ap open_part (grade_stmt_If_with head branch other) ∙ (ap (λ e. (grade_else e).1) (sym (roll-out-VElse other)) ∙ ap open_part (grade_else_roll (out-VElse other)))

abbrev body_part : Bool × (Bool × Bool) → Bool
body_part g = g.1.0

pub open_ports : (head : VPortHead) (first : VToken) (more : List VNextName) (semi : VToken) → item_ends_open (VMitem.Ports head first more semi) ≡ false
open_ports head first more semi = ap open_part (grade_mitem_Ports head first more semi)

pub open_nets : (kind : VKind) (shape : VType) (first : VNet) (more : List VNextNet) (semi : VToken) → item_ends_open (VMitem.Nets kind shape first more semi) ≡ false
open_nets kind shape first more semi = ap open_part (grade_mitem_Nets kind shape first more semi)

pub open_constants : (word : VToken) (shape : VType) (first : VConstant) (more : List VNextConstant) (semi : VToken) → item_ends_open (VMitem.Constants word shape first more semi) ≡ false
open_constants word shape first more semi = ap open_part (grade_mitem_Constants word shape first more semi)

pub open_genvars : (word : VToken) (first : VToken) (more : List VNextName) (semi : VToken) → item_ends_open (VMitem.Genvars word first more semi) ≡ false
open_genvars word first more semi = ap open_part (grade_mitem_Genvars word first more semi)

pub open_assigns : (word : VToken) (first : VDriver) (more : List VNextDriver) (semi : VToken) → item_ends_open (VMitem.Assigns word first more semi) ≡ false
open_assigns word first more semi = ap open_part (grade_mitem_Assigns word first more semi)

pub open_always : (word : VToken) (at : VToken) (event : VEvent) (stmt : VStmt) → item_ends_open (VMitem.Always word at event stmt) ≡ ends_open stmt
open_always word at event stmt = ap open_part (grade_mitem_Always word at event stmt)

pub open_initial : (word : VToken) (stmt : VStmt) → item_ends_open (VMitem.Initial word stmt) ≡ ends_open stmt
open_initial word stmt = ap open_part (grade_mitem_Initial word stmt)

pub open_generate : (word : VToken) (items : List VMitem) (end : VToken) → item_ends_open (VMitem.Generate word items end) ≡ false
open_generate word items end = ap open_part (grade_mitem_Generate word items end)

pub open_instance : (instance : VInstance) → item_ends_open (VMitem.Instance instance) ≡ false
open_instance instance = ap open_part (grade_mitem_Instance instance)

pub open_for : (head : VForHead) (body : VGbody) → item_ends_open (VMitem.For head body) ≡ false
open_for head body = ap open_part (grade_mitem_For head body)

pub open_item_if : (head : VIfHead) (branch : VGbody) → item_ends_open (VMitem.If head branch None) ≡ true
open_item_if head branch = ap open_part (grade_mitem_If_alone head branch)

pub open_item_else : (head : VIfHead) (branch : VGbody) (other : VGelse) → item_ends_open (VMitem.If head branch (Some other)) ≡ body_ends_open (out-VGelse other).body
open_item_else head branch other =
    ap open_part (grade_mitem_If_with head branch other) ∙ (ap (λ e. (grade_gelse e).1) (sym (roll-out-VGelse other)) ∙ ap open_part (grade_gelse_roll (out-VGelse other)))

pub open_body_item : (item : VMitem) → body_ends_open (VGbody.Item item) ≡ item_ends_open item
open_body_item item = ap body_part (grade_gbody_Item item)

pub open_body_block : (word : VToken) (label : Option VLabel) (items : List VMitem) (end : VToken) → body_ends_open (VGbody.Block word label items end) ≡ false
open_body_block word label items end = ap body_part (grade_gbody_Block word label items end)
