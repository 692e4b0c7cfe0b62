-- The grammar as a function on lists of tokens, rule by rule. Each choice goes by the next token.
use Rattle.std.specs.Prelude.{ℕ, zero, suc, Bool, ◌||◌, List, [], ◌∷◌, Option, Some, None, codes}
use Rattle.bit_base.specs.declared.place.Place.{Place}
use Rattle.parsing.specs.Parser.{Parser, seq, form, expect, on, optional, many, sunk, finish}
use Rattle.rdl_tree.specs.declared.token.RdlTokenKind.TheVariants.{Num, Str}
use Rattle.rdl_tree.specs.declared.token.RdlToken.{RdlToken}
use Rattle.rdl_tree.specs.declared.tree.RdlItem.{RdlItem}
use Rattle.rdl_tree.specs.declared.tree.RdlItem.TheVariants as item
use Rattle.rdl_tree.specs.declared.tree.RdlDef.{RdlDef, roll-RdlDef}
use Rattle.rdl_tree.specs.declared.tree.RdlKind.{RdlKind}
use Rattle.rdl_tree.specs.declared.tree.RdlKind.TheVariants.{Addrmap, Regfile, Reg, Field}
use Rattle.rdl_tree.specs.declared.tree.RdlUse.{RdlUse}
use Rattle.rdl_tree.specs.declared.tree.RdlInsts.{RdlInsts}
use Rattle.rdl_tree.specs.declared.tree.RdlNextInst.{RdlNextInst}
use Rattle.rdl_tree.specs.declared.tree.RdlInst.{RdlInst}
use Rattle.rdl_tree.specs.declared.tree.RdlRange.{RdlRange}
use Rattle.rdl_tree.specs.declared.tree.RdlMarked.{RdlMarked}
use Rattle.rdl_tree.specs.declared.tree.RdlProp.{RdlProp}
use Rattle.rdl_tree.specs.declared.tree.RdlAssigned.{RdlAssigned}
use Rattle.rdl_tree.specs.declared.tree.RdlValue.{RdlValue}
use Rattle.rdl_tree.specs.declared.tree.RdlValue.TheVariants as value
use Rattle.rdl_tree.specs.declared.tree.RdlSignal.{RdlSignal}
use Rattle.rdl_tree.specs.declared.tree.RdlPath.{RdlPath}
use Rattle.rdl_tree.specs.declared.tree.RdlNextStep.{RdlNextStep}
use Rattle.rdl_tree.specs.declared.tree.RdlStep.{RdlStep}
use Rattle.rdl_tree.specs.declared.tree.RdlIndex.{RdlIndex}
use Rattle.rdl_tree.specs.declared.tree.RdlEnum.{RdlEnum}
use Rattle.rdl_tree.specs.declared.tree.RdlEntry.{RdlEntry}
use Rattle.rdl_tree.specs.declared.tree.RdlEntryBody.{RdlEntryBody}
use Rattle.rdl_tree.specs.declared.tree.RdlEntryProp.{RdlEntryProp}
use Rattle.rdl_parse.specs.declared.items.Tail.{Tail}
use Rattle.rdl_parse.specs.declared.items.Tail.TheVariants.{Use, Path, Prop}
use Rattle.rdl_tree.specs.Tree.{is_kind, is_text, is_name}

abbrev pub Reader : Type 0 → Type 0
Reader A = Parser RdlToken A

abbrev pub mark : List ℕ → Reader RdlToken
mark bytes = expect (is_text bytes)

abbrev pub number : Reader RdlToken
number = expect (is_kind Num)

abbrev pub name : Reader RdlToken
name = expect is_name

unfoldable pub marked : List ℕ → Reader RdlMarked
marked bytes = form (λ p. record { mark = p.0; number = p.1 }) (seq (mark bytes) (λ _. number))

unfoldable pub any_marked : List ℕ → Reader (Option RdlMarked)
any_marked bytes = optional (is_text bytes) (marked bytes)

-- ---- paths

unfoldable pub index : Reader RdlIndex
index = form (λ p. record { «open» = p.0; number = p.1.0; close = p.1.1 }) (seq (mark (codes "[")) (λ _. seq number (λ _. mark (codes "]"))))

unfoldable pub any_index : Reader (Option RdlIndex)
any_index = optional (is_text (codes "[")) index

unfoldable pub step : Reader RdlStep
step = form (λ p. record { name = p.0; index = p.1 }) (seq name (λ _. any_index))

unfoldable pub next_step : Reader RdlNextStep
next_step = form (λ p. record { dot = p.0; step = p.1 }) (seq (mark (codes ".")) (λ _. step))

unfoldable pub next_steps : Reader (List RdlNextStep)
next_steps = many (is_text (codes ".")) next_step

unfoldable pub path : Reader RdlPath
path = form (λ p. record { first = p.0; more = p.1 }) (seq step (λ _. next_steps))

-- ---- properties

unfoldable pub signal : Reader RdlSignal
signal = form (λ p. record { arrow = p.0; name = p.1 }) (seq (mark (codes "->")) (λ _. name))

unfoldable pub any_signal : Reader (Option RdlSignal)
any_signal = optional (is_text (codes "->")) signal

unfoldable pub reference : Reader RdlValue
reference = form (λ p. value.Reference p.0 p.1) (seq path (λ _. any_signal))

unfoldable pub value_of : Reader RdlValue
value_of =
    on (is_kind Num) (form value.Num number) (on (is_kind Str) (form value.Str (expect (is_kind Str)))
    (on (is_text (codes "true")) (form value.True (mark (codes "true"))) (on (is_text (codes "false")) (form value.False (mark (codes "false"))) reference)))

unfoldable pub assigned : Reader RdlAssigned
assigned = form (λ p. record { equals = p.0; value = p.1 }) (seq (mark (codes "=")) (λ _. value_of))

unfoldable pub any_assigned : Reader (Option RdlAssigned)
any_assigned = optional (is_text (codes "=")) assigned

unfoldable pub prop : Reader RdlProp
prop = form (λ p. record { name = p.0; value = p.1 }) (seq name (λ _. any_assigned))

-- ---- instances

unfoldable pub range : Reader RdlRange
range =
    form (λ p. record { «open» = p.0; first = p.1.0; second = p.1.1.0; close = p.1.1.1 })
    (seq (mark (codes "[")) (λ _. seq number (λ _. seq (any_marked (codes ":")) (λ _. mark (codes "]")))))

unfoldable pub any_range : Reader (Option RdlRange)
any_range = optional (is_text (codes "[")) range

unfoldable pub inst : Reader RdlInst
inst =
    form (λ p. record { name = p.0; range = p.1.0; reset = p.1.1.0; address = p.1.1.1.0; stride = p.1.1.1.1.0; alignment = p.1.1.1.1.1 })
    (seq name (λ _. seq any_range (λ _. seq (any_marked (codes "=")) (λ _. seq (any_marked (codes "@")) (λ _. seq (any_marked (codes "+=")) (λ _. any_marked (codes "%=")))))))

unfoldable pub next_inst : Reader RdlNextInst
next_inst = form (λ p. record { comma = p.0; inst = p.1 }) (seq (mark (codes ",")) (λ _. inst))

unfoldable pub next_insts : Reader (List RdlNextInst)
next_insts = many (is_text (codes ",")) next_inst

unfoldable pub insts : Reader RdlInsts
insts = form (λ p. record { first = p.0; more = p.1 }) (seq inst (λ _. next_insts))

-- a definition without a name has an instance
unfoldable pub insts_after : Option RdlToken → Reader (Option RdlInsts)
insts_after None = form Some insts
insts_after (Some _) = optional is_name insts

-- ---- enumerations

unfoldable pub entry_prop : Reader RdlEntryProp
entry_prop = form (λ p. record { prop = p.0; semi = p.1 }) (seq prop (λ _. mark (codes ";")))

unfoldable pub entry_props : Reader (List RdlEntryProp)
entry_props = many is_name entry_prop

unfoldable pub entry_body : Reader RdlEntryBody
entry_body = form (λ p. record { «open» = p.0; props = p.1.0; close = p.1.1 }) (seq (mark (codes "{")) (λ _. seq entry_props (λ _. mark (codes "}"))))

unfoldable pub any_body : Reader (Option RdlEntryBody)
any_body = optional (is_text (codes "{")) entry_body

unfoldable pub entry : Reader RdlEntry
entry =
    form (λ p. record { name = p.0; value = p.1.0; body = p.1.1.0; semi = p.1.1.1 })
    (seq name (λ _. seq (any_marked (codes "=")) (λ _. seq any_body (λ _. mark (codes ";")))))

unfoldable pub entries : Reader (List RdlEntry)
entries = many is_name entry

unfoldable pub enumeration : Reader RdlEnum
enumeration =
    form (λ p. record { word = p.0; name = p.1.0; «open» = p.1.1.0; entries = p.1.1.1.0; close = p.1.1.1.1.0; semi = p.1.1.1.1.1 })
    (seq (mark (codes "enum")) (λ _. seq name (λ _. seq (mark (codes "{")) (λ _. seq entries (λ _. seq (mark (codes "}")) (λ _. mark (codes ";")))))))

-- ---- items that begin with a name

unfoldable pub use_tail : Reader Tail
use_tail = form (λ p. Use p.0 p.1) (seq insts (λ _. mark (codes ";")))

unfoldable pub path_tail : Reader Tail
path_tail =
    form (λ p. Path p.0 p.1.0 p.1.1.0 p.1.1.1.0 p.1.1.1.1)
    (seq any_index (λ _. seq next_steps (λ _. seq (mark (codes "->")) (λ _. seq prop (λ _. mark (codes ";"))))))

unfoldable pub prop_tail : Reader Tail
prop_tail = form (λ p. Prop p.0 p.1) (seq any_assigned (λ _. mark (codes ";")))

unfoldable pub is_path_tail : RdlToken → Bool
is_path_tail t = is_text (codes "[") t || is_text (codes ".") t || is_text (codes "->") t

-- what comes after the name: instances of a type, the rest of a path and the assignment to it, or the rest of a property
unfoldable pub after_name : Reader Tail
after_name = on is_name use_tail (on is_path_tail path_tail prop_tail)

abbrev pub named_item : RdlToken → Tail → RdlItem
named_item name (Use insts semi) = item.Use (record { name = name; insts = insts; semi = semi })
named_item name (Path index more arrow prop semi) = item.Dynamic (record { first = record { name = name; index = index }; more = more }) arrow prop semi
named_item name (Prop value semi) = item.Prop (record { name = name; value = value }) semi

unfoldable pub named : Reader RdlItem
named = form (λ p. named_item p.0 p.1) (seq name (λ _. after_name))

-- ---- items

unfoldable pub is_kind_word : RdlToken → Bool
is_kind_word t = is_text (codes "addrmap") t || is_text (codes "regfile") t || is_text (codes "reg") t || is_text (codes "field") t

unfoldable pub kind : Reader RdlKind
kind =
    on (is_text (codes "addrmap")) (form Addrmap (mark (codes "addrmap"))) (on (is_text (codes "regfile")) (form Regfile (mark (codes "regfile")))
    (on (is_text (codes "reg")) (form Reg (mark (codes "reg"))) (form Field (mark (codes "field")))))

unfoldable pub default_prop : Reader RdlItem
default_prop = form (λ p. item.Default p.0 p.1.0 p.1.1) (seq (mark (codes "default")) (λ _. seq prop (λ _. mark (codes ";"))))

unfoldable pub any_name : Reader (Option RdlToken)
any_name = optional is_name name

-- what stands behind the braces of a definition with this name
unfoldable pub ending : Option RdlToken → Reader (Option RdlInsts × RdlToken)
ending name = seq (insts_after name) (λ _. mark (codes ";"))

-- what stands between the braces of a definition is read by `inner`
unfoldable pub definition : Reader (List RdlItem) → Reader RdlDef
definition inner =
    form (λ p. roll-RdlDef (record { kind = p.0; name = p.1.0; «open» = p.1.1.0; items = p.1.1.1.0; close = p.1.1.1.1.0; insts = p.1.1.1.1.1.0; semi = p.1.1.1.1.1.1 }))
    (seq kind (λ _. seq any_name (λ name. seq (mark (codes "{")) (λ _. seq inner (λ _. seq (mark (codes "}")) (λ _. ending name))))))

unfoldable pub item_of : Reader (List RdlItem) → Reader RdlItem
item_of inner =
    on is_kind_word (form item.Def (definition inner)) (on (is_text (codes "default")) default_prop (on (is_text (codes "enum")) (form item.Enum enumeration) named))

unfoldable pub begins_item : RdlToken → Bool
begins_item t = is_kind_word t || is_text (codes "default") t || is_text (codes "enum") t || is_name t

-- items within items, down to so many levels
unfoldable pub items : ℕ → Reader (List RdlItem)
items zero = sunk
items (suc room) = many begins_item (item_of (items room))

-- all the tokens
unfoldable pub whole : ℕ → Reader (List RdlItem)
whole room = form (λ p. p.0) (seq (items room) (λ _. finish))

-- where the next token stands, or the end
abbrev pub place_of : List RdlToken → Place → Place
place_of [] end = end
place_of (t ∷ ts) end = t.place
