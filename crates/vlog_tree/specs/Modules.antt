-- The tokens of modules and their items, part by part, and which of them fit the grammar (IEEE 1364-2005, clause 12, A.1 to A.4).
use Rattle.std.specs.Prelude.{◌≡◌, Bool, true, false, ◌&&◌, not, ◌++◌, [], ◌∷◌, Some, None, is_some, codes}
use Rattle.std.specs.List.{list_all}
use Rattle.vlog_tree.specs.Terminals.{Tokens, is_mark, is_word, is_name, is_constant_word}
use Rattle.vlog_tree.specs.Parts.{flat_option, flat_list, flat_token, joined, fits_option}
use Rattle.vlog_tree.specs.Expressions.{flat_expr, fits_expr, flat_next_expr, fits_next_expr, flat_lval, fits_lval}
use Rattle.vlog_tree.specs.Statements.{flat_stmt, fits_stmt, flat_event, fits_event, flat_label, fits_label, flat_if_head, fits_if_head, ends_open}
use Rattle.vlog_tree.specs.declared.tree_modules.VlogFile.{VlogFile}
use Rattle.vlog_tree.specs.declared.tree_modules.VDir.{VDir}
use Rattle.vlog_tree.specs.declared.tree_modules.VKind.{VKind}
use Rattle.vlog_tree.specs.declared.tree_modules.VRange.{VRange}
use Rattle.vlog_tree.specs.declared.tree_modules.VType.{VType}
use Rattle.vlog_tree.specs.declared.tree_modules.VAssigned.{VAssigned}
use Rattle.vlog_tree.specs.declared.tree_modules.VNet.{VNet}
use Rattle.vlog_tree.specs.declared.tree_modules.VNextNet.{VNextNet}
use Rattle.vlog_tree.specs.declared.tree_modules.VConstant.{VConstant}
use Rattle.vlog_tree.specs.declared.tree_modules.VNextConstant.{VNextConstant}
use Rattle.vlog_tree.specs.declared.tree_modules.VDriver.{VDriver}
use Rattle.vlog_tree.specs.declared.tree_modules.VNextDriver.{VNextDriver}
use Rattle.vlog_tree.specs.declared.tree_modules.VNextName.{VNextName}
use Rattle.vlog_tree.specs.declared.tree_modules.VPdec.{VPdec}
use Rattle.vlog_tree.specs.declared.tree_modules.VNextPdec.{VNextPdec}
use Rattle.vlog_tree.specs.declared.tree_modules.VPdecs.{VPdecs}
use Rattle.vlog_tree.specs.declared.tree_modules.VPortHead.{VPortHead}
use Rattle.vlog_tree.specs.declared.tree_modules.VNextPort.{VNextPort}
use Rattle.vlog_tree.specs.declared.tree_modules.VPorts.{VPorts}
use Rattle.vlog_tree.specs.declared.tree_modules.VPortList.{VPortList}
use Rattle.vlog_tree.specs.declared.tree_modules.VConn.{VConn}
use Rattle.vlog_tree.specs.declared.tree_modules.VNextConn.{VNextConn}
use Rattle.vlog_tree.specs.declared.tree_modules.VConns.{VConns}
use Rattle.vlog_tree.specs.declared.tree_modules.VOverrides.{VOverrides}
use Rattle.vlog_tree.specs.declared.tree_modules.VInstance.{VInstance}
use Rattle.vlog_tree.specs.declared.tree_modules.VForHead.{VForHead}
use Rattle.vlog_tree.specs.declared.tree_modules.VMitem.{VMitem}
use Rattle.vlog_tree.specs.declared.tree_modules.VGbody.TheOpen.{VGbody-F, VMitem-F, VGelse-F}
use Rattle.vlog_tree.specs.declared.tree_modules.VGbody.TheFolds.{fold-VGbody, fold-VMitem, fold-VGelse}
use Rattle.vlog_tree.specs.declared.tree_modules.VGbody.{VGbody}
use Rattle.vlog_tree.specs.declared.tree_modules.VGelse.{VGelse}
use Rattle.vlog_tree.specs.declared.tree_modules.VModule.{VModule}

abbrev pub flat_dir : VDir → Tokens
flat_dir (VDir.Input word) = word ∷ []
flat_dir (VDir.Output word) = word ∷ []

abbrev pub fits_dir : VDir → Bool
fits_dir (VDir.Input word) = is_word (codes "input") word
fits_dir (VDir.Output word) = is_word (codes "output") word

abbrev pub flat_kind : VKind → Tokens
flat_kind (VKind.Wire word) = word ∷ []
flat_kind (VKind.Reg word) = word ∷ []

abbrev pub fits_kind : VKind → Bool
fits_kind (VKind.Wire word) = is_word (codes "wire") word
fits_kind (VKind.Reg word) = is_word (codes "reg") word

abbrev pub flat_range : VRange → Tokens
flat_range v = v.open ∷ flat_expr v.high ++ (v.colon ∷ flat_expr v.low ++ (v.close ∷ []))

abbrev pub fits_range : VRange → Bool
fits_range v = is_mark (codes "[") v.open && fits_expr v.high && is_mark (codes ":") v.colon && fits_expr v.low && is_mark (codes "]") v.close

abbrev pub flat_type : VType → Tokens
flat_type v = flat_option flat_token v.signed ++ (flat_option flat_range v.range)

abbrev pub fits_type : VType → Bool
fits_type v = fits_option (is_word (codes "signed")) v.signed && fits_option fits_range v.range

abbrev pub flat_assigned : VAssigned → Tokens
flat_assigned v = v.equals ∷ flat_expr v.value

abbrev pub fits_assigned : VAssigned → Bool
fits_assigned v = is_mark (codes "=") v.equals && fits_expr v.value

abbrev pub flat_net : VNet → Tokens
flat_net v = v.name ∷ flat_option flat_assigned v.value

abbrev pub fits_net : VNet → Bool
fits_net v = is_name v.name && fits_option fits_assigned v.value

abbrev pub flat_next_net : VNextNet → Tokens
flat_next_net v = v.comma ∷ flat_net v.net

abbrev pub fits_next_net : VNextNet → Bool
fits_next_net v = is_mark (codes ",") v.comma && fits_net v.net

abbrev pub flat_constant : VConstant → Tokens
flat_constant v = v.name ∷ v.equals ∷ flat_expr v.value

abbrev pub fits_constant : VConstant → Bool
fits_constant v = is_name v.name && is_mark (codes "=") v.equals && fits_expr v.value

abbrev pub flat_next_constant : VNextConstant → Tokens
flat_next_constant v = v.comma ∷ flat_constant v.constant

abbrev pub fits_next_constant : VNextConstant → Bool
fits_next_constant v = is_mark (codes ",") v.comma && fits_constant v.constant

abbrev pub flat_driver : VDriver → Tokens
flat_driver v = flat_lval v.left ++ (v.equals ∷ flat_expr v.value)

abbrev pub fits_driver : VDriver → Bool
fits_driver v = fits_lval v.left && is_mark (codes "=") v.equals && fits_expr v.value

abbrev pub flat_next_driver : VNextDriver → Tokens
flat_next_driver v = v.comma ∷ flat_driver v.driver

abbrev pub fits_next_driver : VNextDriver → Bool
fits_next_driver v = is_mark (codes ",") v.comma && fits_driver v.driver

abbrev pub flat_next_name : VNextName → Tokens
flat_next_name v = v.comma ∷ v.name ∷ []

abbrev pub fits_next_name : VNextName → Bool
fits_next_name v = is_mark (codes ",") v.comma && is_name v.name

abbrev pub flat_pdec : VPdec → Tokens
flat_pdec v = flat_option flat_token v.word ++ (flat_type v.shape ++ (flat_constant v.constant))

abbrev pub fits_pdec : VPdec → Bool
fits_pdec v = fits_option (is_word (codes "parameter")) v.word && fits_type v.shape && fits_constant v.constant

abbrev pub flat_next_pdec : VNextPdec → Tokens
flat_next_pdec v = v.comma ∷ flat_pdec v.pdec

abbrev pub fits_next_pdec : VNextPdec → Bool
fits_next_pdec v = is_mark (codes ",") v.comma && fits_pdec v.pdec

abbrev pub flat_pdecs : VPdecs → Tokens
flat_pdecs v = v.hash ∷ v.open ∷ flat_pdec v.first ++ (flat_list flat_next_pdec v.more ++ (v.close ∷ []))

abbrev pub fits_pdecs : VPdecs → Bool
fits_pdecs v = is_mark (codes "#") v.hash && is_mark (codes "(") v.open && fits_pdec v.first && list_all fits_next_pdec v.more && is_mark (codes ")") v.close

abbrev pub flat_port_head : VPortHead → Tokens
flat_port_head v = flat_dir v.dir ++ (flat_option flat_kind v.kind ++ (flat_type v.shape))

abbrev pub fits_port_head : VPortHead → Bool
fits_port_head v = fits_dir v.dir && fits_option fits_kind v.kind && fits_type v.shape

abbrev pub flat_next_port : VNextPort → Tokens
flat_next_port v = v.comma ∷ flat_option flat_port_head v.head ++ (v.name ∷ [])

abbrev pub fits_next_port : VNextPort → Bool
fits_next_port v = is_mark (codes ",") v.comma && fits_option fits_port_head v.head && is_name v.name

abbrev pub flat_ports : VPorts → Tokens
flat_ports (VPorts.Names first more) = first ∷ flat_list flat_next_name more
flat_ports (VPorts.Declared head first more) = flat_port_head head ++ (first ∷ flat_list flat_next_port more)

abbrev pub fits_ports : VPorts → Bool
fits_ports (VPorts.Names first more) = is_name first && list_all fits_next_name more
fits_ports (VPorts.Declared head first more) = fits_port_head head && is_name first && list_all fits_next_port more

abbrev pub flat_port_list : VPortList → Tokens
flat_port_list v = v.open ∷ flat_option flat_ports v.ports ++ (v.close ∷ [])

abbrev pub fits_port_list : VPortList → Bool
fits_port_list v = is_mark (codes "(") v.open && fits_option fits_ports v.ports && is_mark (codes ")") v.close

abbrev pub flat_conn : VConn → Tokens
flat_conn v = v.dot ∷ v.name ∷ v.open ∷ flat_option flat_expr v.value ++ (v.close ∷ [])

abbrev pub fits_conn : VConn → Bool
fits_conn v = is_mark (codes ".") v.dot && is_name v.name && is_mark (codes "(") v.open && fits_option fits_expr v.value && is_mark (codes ")") v.close

abbrev pub flat_next_conn : VNextConn → Tokens
flat_next_conn v = v.comma ∷ flat_conn v.conn

abbrev pub fits_next_conn : VNextConn → Bool
fits_next_conn v = is_mark (codes ",") v.comma && fits_conn v.conn

abbrev pub flat_conns : VConns → Tokens
flat_conns (VConns.Ordered first more) = flat_expr first ++ (flat_list flat_next_expr more)
flat_conns (VConns.Named first more) = flat_conn first ++ (flat_list flat_next_conn more)

abbrev pub fits_conns : VConns → Bool
fits_conns (VConns.Ordered first more) = fits_expr first && list_all fits_next_expr more
fits_conns (VConns.Named first more) = fits_conn first && list_all fits_next_conn more

abbrev pub flat_overrides : VOverrides → Tokens
flat_overrides v = v.hash ∷ v.open ∷ flat_conns v.conns ++ (v.close ∷ [])

abbrev pub fits_overrides : VOverrides → Bool
fits_overrides v = is_mark (codes "#") v.hash && is_mark (codes "(") v.open && fits_conns v.conns && is_mark (codes ")") v.close

abbrev pub flat_instance : VInstance → Tokens
flat_instance v = v.module_name ∷ flat_option flat_overrides v.overrides ++ (v.name ∷ v.open ∷ flat_option flat_conns v.conns ++ (v.close ∷ v.semi ∷ []))

abbrev pub fits_instance : VInstance → Bool
fits_instance v = is_name v.module_name && fits_option fits_overrides v.overrides && is_name v.name && is_mark (codes "(") v.open && fits_option fits_conns v.conns && is_mark (codes ")") v.close && is_mark (codes ";") v.semi

abbrev pub flat_for_head : VForHead → Tokens
flat_for_head v = v.word ∷ v.open ∷ flat_constant v.start ++ (v.first_semi ∷ flat_expr v.test ++ (v.second_semi ∷ flat_constant v.step ++ (v.close ∷ [])))

abbrev pub fits_for_head : VForHead → Bool
fits_for_head v = is_word (codes "for") v.word && is_mark (codes "(") v.open && fits_constant v.start && is_mark (codes ";") v.first_semi && fits_expr v.test && is_mark (codes ";") v.second_semi && fits_constant v.step && is_mark (codes ")") v.close

abbrev pub flat_gbody_layer : VGbody-F Tokens Tokens Tokens → Tokens
flat_gbody_layer (VGbody-F.Item item) = item
flat_gbody_layer (VGbody-F.Block word label items end) = word ∷ flat_option flat_label label ++ (joined items ++ (end ∷ []))

abbrev pub flat_mitem_layer : VMitem-F Tokens Tokens Tokens → Tokens
flat_mitem_layer (VMitem-F.Ports head first more semi) = flat_port_head head ++ (first ∷ flat_list flat_next_name more ++ (semi ∷ []))
flat_mitem_layer (VMitem-F.Nets kind shape first more semi) = flat_kind kind ++ (flat_type shape ++ (flat_net first ++ (flat_list flat_next_net more ++ (semi ∷ []))))
flat_mitem_layer (VMitem-F.Constants word shape first more semi) = word ∷ flat_type shape ++ (flat_constant first ++ (flat_list flat_next_constant more ++ (semi ∷ [])))
flat_mitem_layer (VMitem-F.Genvars word first more semi) = word ∷ first ∷ flat_list flat_next_name more ++ (semi ∷ [])
flat_mitem_layer (VMitem-F.Assigns word first more semi) = word ∷ flat_driver first ++ (flat_list flat_next_driver more ++ (semi ∷ []))
flat_mitem_layer (VMitem-F.Always word at event stmt) = word ∷ at ∷ flat_event event ++ (flat_stmt stmt)
flat_mitem_layer (VMitem-F.Initial word stmt) = word ∷ flat_stmt stmt
flat_mitem_layer (VMitem-F.Generate word items end) = word ∷ joined items ++ (end ∷ [])
flat_mitem_layer (VMitem-F.Instance instance) = flat_instance instance
flat_mitem_layer (VMitem-F.For head body) = flat_for_head head ++ (body)
flat_mitem_layer (VMitem-F.If head branch other) = flat_if_head head ++ (branch ++ (flat_option (λ ts. ts) other))

abbrev pub flat_gelse_layer : VGelse-F Tokens Tokens Tokens → Tokens
flat_gelse_layer v = v.word ∷ v.body

abbrev pub flat_gbody : VGbody → Tokens
flat_gbody = fold-VGbody Tokens Tokens Tokens flat_gbody_layer flat_mitem_layer flat_gelse_layer

abbrev pub flat_mitem : VMitem → Tokens
flat_mitem = fold-VMitem Tokens Tokens Tokens flat_gbody_layer flat_mitem_layer flat_gelse_layer

abbrev pub flat_gelse : VGelse → Tokens
flat_gelse = fold-VGelse Tokens Tokens Tokens flat_gbody_layer flat_mitem_layer flat_gelse_layer

abbrev pub grade_gbody_layer : VGbody-F (Bool × (Bool × Bool)) (Bool × Bool) (Bool × Bool) → Bool × (Bool × Bool)
grade_gbody_layer (VGbody-F.Item item) = (item.0, (item.1, false))
grade_gbody_layer (VGbody-F.Block word label items end) =
    (is_word (codes "begin") word && fits_option fits_label label && list_all (λ g. g.0) items && is_word (codes "end") end, (false, is_some label))

abbrev pub grade_mitem_layer : VMitem-F (Bool × (Bool × Bool)) (Bool × Bool) (Bool × Bool) → Bool × Bool
grade_mitem_layer (VMitem-F.Ports head first more semi) = (fits_port_head head && is_name first && list_all fits_next_name more && is_mark (codes ";") semi, false)
grade_mitem_layer (VMitem-F.Nets kind shape first more semi) = (fits_kind kind && fits_type shape && fits_net first && list_all fits_next_net more && is_mark (codes ";") semi, false)
grade_mitem_layer (VMitem-F.Constants word shape first more semi) = (is_constant_word word && fits_type shape && fits_constant first && list_all fits_next_constant more && is_mark (codes ";") semi, false)
grade_mitem_layer (VMitem-F.Genvars word first more semi) = (is_word (codes "genvar") word && is_name first && list_all fits_next_name more && is_mark (codes ";") semi, false)
grade_mitem_layer (VMitem-F.Assigns word first more semi) = (is_word (codes "assign") word && fits_driver first && list_all fits_next_driver more && is_mark (codes ";") semi, false)
grade_mitem_layer (VMitem-F.Always word at event stmt) =
    (is_word (codes "always") word && is_mark (codes "@") at && fits_event event && fits_stmt stmt, ends_open stmt)
grade_mitem_layer (VMitem-F.Initial word stmt) = (is_word (codes "initial") word && fits_stmt stmt, ends_open stmt)
grade_mitem_layer (VMitem-F.Generate word items end) = (is_word (codes "generate") word && list_all (λ g. g.0) items && is_word (codes "endgenerate") end, false)
grade_mitem_layer (VMitem-F.Instance instance) = (fits_instance instance, false)
grade_mitem_layer (VMitem-F.For head body) = (fits_for_head head && body.0 && body.1.1, false)
grade_mitem_layer (VMitem-F.If head branch None) = (fits_if_head head && branch.0, true)
grade_mitem_layer (VMitem-F.If head branch (Some other)) = (fits_if_head head && branch.0 && not branch.1.0 && other.0, other.1)

abbrev pub grade_gelse_layer : VGelse-F (Bool × (Bool × Bool)) (Bool × Bool) (Bool × Bool) → Bool × Bool
grade_gelse_layer v = (is_word (codes "else") v.word && v.body.0, v.body.1.0)

abbrev pub grade_gbody : VGbody → Bool × (Bool × Bool)
grade_gbody = fold-VGbody (Bool × (Bool × Bool)) (Bool × Bool) (Bool × Bool) grade_gbody_layer grade_mitem_layer grade_gelse_layer

abbrev pub grade_mitem : VMitem → Bool × Bool
grade_mitem = fold-VMitem (Bool × (Bool × Bool)) (Bool × Bool) (Bool × Bool) grade_gbody_layer grade_mitem_layer grade_gelse_layer

abbrev pub grade_gelse : VGelse → Bool × Bool
grade_gelse = fold-VGelse (Bool × (Bool × Bool)) (Bool × Bool) (Bool × Bool) grade_gbody_layer grade_mitem_layer grade_gelse_layer

abbrev pub fits_gbody : VGbody → Bool
fits_gbody v = (grade_gbody v).0

abbrev pub fits_mitem : VMitem → Bool
fits_mitem v = (grade_mitem v).0

abbrev pub fits_gelse : VGelse → Bool
fits_gelse v = (grade_gelse v).0

abbrev pub flat_module : VModule → Tokens
flat_module v = v.word ∷ v.name ∷ flat_option flat_pdecs v.parameters ++ (flat_option flat_port_list v.ports ++ (v.semi ∷ flat_list flat_mitem v.items ++ (v.end ∷ [])))

abbrev pub fits_module : VModule → Bool
fits_module v = is_word (codes "module") v.word && is_name v.name && fits_option fits_pdecs v.parameters && fits_option fits_port_list v.ports && is_mark (codes ";") v.semi && list_all fits_mitem v.items && is_word (codes "endmodule") v.end

-- The item, or the body, ends in an `if` without an `else`: the next `else` would be that one's.
abbrev pub item_ends_open : VMitem → Bool
item_ends_open v = (grade_mitem v).1

abbrev pub body_ends_open : VGbody → Bool
body_ends_open v = (grade_gbody v).1.0

-- A block with a name.
abbrev pub is_named_block : VGbody → Bool
is_named_block v = (grade_gbody v).1.1

-- The tokens of a tree, in order.
abbrev pub flat : VlogFile → Tokens
flat f = flat_list flat_module f.modules

-- A tree of the grammar: each token is the word, mark, name or number of its row, an operand of a lower level stands in brackets, binary operators
-- associate to the left and `?:` to the right, an `else` belongs to the nearest `if` without one, a case has at most one default, a `for` a named `begin`.
abbrev pub fits : VlogFile → Bool
fits f = list_all fits_module f.modules

-- A reading of tokens: a tree that fits, whose tokens are these.
pub record IsReading (tokens : Tokens) (file : VlogFile) : Type 0 where
  pub fitting : fits file ≡ true
  pub same_tokens : flat file ≡ tokens

-- Two fitting trees with equal tokens are equal.
abbrev pub HasAtMostOneReading : Type 0
HasAtMostOneReading = (f g : VlogFile) → fits f ≡ true → fits g ≡ true → flat f ≡ flat g → f ≡ g
