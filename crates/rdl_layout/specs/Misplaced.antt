-- What is misplaced by itself, and where (SystemRDL 2.0, clauses 5.1.2.2 and 10 to 13): an instance that ends beyond 2^32, a
-- component in which nothing stands, a register that isn't at a multiple of the bus bytes, and of its fields the first that is
-- outside of it, across bus words or on one before. A refusal stands at the instance's name, for the top at its definition.
use Rattle.std.specs.Prelude.{ℕ, ◌/◌, ◌%◌, Bool, true, false, not, ◌&&◌, ◌==◌, if◌then◌else◌, List, [], ◌∷◌, ◌++◌, Option, Some, None}
use Rattle.bit_base.specs.declared.place.Place.{Place}
use Rattle.rdl_tree.specs.declared.tree.RdlDef.{out-RdlDef}
use Rattle.rdl_tree.specs.Tree.{flat_kind}
use Rattle.rdl_text.specs.declared.instance.Body.{Body}
use Rattle.rdl_text.specs.declared.instance.Body.TheVariants as body
use Rattle.rdl_text.specs.Components.{Component}
use Rattle.rdl_text.specs.Instances.{kind_of}
use Rattle.rdl_text.specs.Names.{place_if}
use Rattle.rdl_values.specs.OneInstance.{Instance}
use Rattle.rdl_values.specs.OneFrame.{Frame, Trail}
use Rattle.rdl_values.specs.Instances.{instances_of}
use Rattle.rdl_values.specs.Frames.{targets_of}
use Rattle.rdl_values.specs.Values.{here_of}
use Rattle.rdl_effects.specs.Registers.{regwidth_at, accesswidth_at}
use Rattle.rdl_layout.specs.Sizes.{reach}
use Rattle.rdl_layout.specs.Laid.{size_in}
use Rattle.rdl_layout.specs.Walks.{Gives}
use Rattle.rdl_layout.specs.Bits.{misplaced_in}

abbrev pub place_by : Component → Option Frame → Place
place_by c None = (flat_kind (out-RdlDef c.definition).kind).place
place_by c (Some f) = f.inst.name.place

abbrev pub is_beyond : ℕ → ℕ → Bool
is_beyond address size = reach address 0 0 size == 4294967297

-- the top has no address
abbrev pub is_instance : Trail → Bool
is_instance [] = false
is_instance (f ∷ fs) = true

abbrev pub is_none_of : List Instance → Bool
is_none_of [] = true
is_none_of (i ∷ is) = false

abbrev pub is_off : ℕ → ℕ → Bool
is_off address access = if access / 8 == 0 then false else not (address % (access / 8) == 0)

abbrev pub place_of : Option Place → List Place
place_of None = []
place_of (Some p) = p ∷ []

abbrev pub first_field : Trail → Component → Option Place
first_field t c = misplaced_in t (targets_of (out-RdlDef c.definition).items) (regwidth_at t) (accesswidth_at t) [] 0 (instances_of c)

abbrev pub in_register : Body → ℕ → Trail → Component → Place → List Place
in_register body.Reg address t c p = place_if (is_off address (accesswidth_at t)) p ++ place_of (first_field t c)
in_register _ address t c p = []

abbrev pub misplaced_by : ℕ → Trail → Component → Place → List Place
misplaced_by address t c p =
    (place_if (is_instance t && is_beyond address (size_in 65 t c)) p ++ place_if (is_none_of (instances_of c)) p) ++ in_register (kind_of c) address t c p

abbrev pub misplaced_at : Gives Place
misplaced_at address t c = misplaced_by address t c (place_by c (here_of t))
