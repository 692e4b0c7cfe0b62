-- What a name means (SystemRDL 2.0, clause 5.1.4, "Scoping and namespaces"): types and enumerations share one namespace in a
-- body. A name means the definition of that name that stands last before it in the innermost body that has one before it;
-- a definition doesn't stand before what is inside of it.
use Rattle.std.specs.Prelude.{Bool, false, if◌then◌else◌, ℕ, List, [], ◌∷◌, ◌++◌, Option, Some, None}
use Rattle.rdl_tree.specs.declared.token.RdlToken.{RdlToken}
use Rattle.rdl_tree.specs.declared.tree.RdlItem.{RdlItem, out-RdlItem}
use Rattle.rdl_tree.specs.declared.tree.RdlItem.TheOpen.{RdlItem-F}
use Rattle.rdl_tree.specs.declared.tree.RdlDef.{RdlDef, out-RdlDef}
use Rattle.rdl_tree.specs.Tree.{is_text}
use Rattle.rdl_text.specs.declared.scope.Meaning.{Meaning}
use Rattle.rdl_text.specs.declared.scope.Meaning.TheVariants as meaning
use Rattle.rdl_text.specs.Lists.{or_else}
use Rattle.rdl_text.specs.Chains.{Chain}
use Rattle.rdl_text.specs.Components.{Component}

abbrev pub is_named : List ℕ → Option RdlToken → Bool
is_named name None = false
is_named name (Some t) = is_text name t

-- what one item, with these before it in its body, makes the name mean
abbrev pub named_by : Chain → List RdlItem → List ℕ → RdlItem-F RdlItem RdlDef → Option Meaning
named_by outer before name (RdlItem-F.Def d) =
    if is_named name (out-RdlDef d).name then Some (meaning.Type (record { definition = d; chain = outer ++ before ∷ [] })) else None
named_by outer before name (RdlItem-F.Enum e) = if is_text name e.name then Some meaning.Values else None
named_by outer before name _ = None

-- the latest of these items that does
abbrev pub named_in : Chain → List RdlItem → List ℕ → List RdlItem → Option Meaning
named_in outer before name [] = None
named_in outer before name (x ∷ xs) = or_else (named_in outer (before ++ x ∷ []) name xs) (named_by outer before name (out-RdlItem x))

abbrev pub meaning_from : Chain → List ℕ → Chain → Option Meaning
meaning_from outer name [] = None
meaning_from outer name (before ∷ inner) = or_else (meaning_from (outer ++ before ∷ []) name inner) (named_in outer [] name before)

abbrev pub meaning_of : Chain → List ℕ → Option Meaning
meaning_of chain name = meaning_from [] name chain

-- the component of a type's name
abbrev pub type_in : Option Meaning → Option Component
type_in (Some (meaning.Type c)) = Some c
type_in _ = None

abbrev pub type_of : Chain → List ℕ → Option Component
type_of chain name = type_in (meaning_of chain name)
