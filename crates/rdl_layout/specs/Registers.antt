-- The registers of a description, in the order of their instances: where each stands, its bits, those of its accesses, and the
-- place of its instance in the text.
use Rattle.std.specs.Prelude.{ℕ, List, [], ◌∷◌, Option, Some, None}
use Rattle.bit_base.specs.declared.place.Place.{Place}
use Rattle.rdl_tree.specs.declared.tree.RdlFile.{RdlFile}
use Rattle.rdl_text.specs.declared.instance.Body.{Body}
use Rattle.rdl_text.specs.declared.instance.Body.TheVariants as body
use Rattle.rdl_text.specs.Components.{Component}
use Rattle.rdl_values.specs.OneFrame.{Frame, Trail}
use Rattle.rdl_values.specs.Instances.{top_of}
use Rattle.rdl_values.specs.Values.{here_of}
use Rattle.rdl_effects.specs.Registers.{regwidth_at, accesswidth_at}
use Rattle.rdl_layout.specs.declared.register.Register.{Register}
use Rattle.rdl_layout.specs.Bits.{bits_at}
use Rattle.rdl_layout.specs.Walks.{Gives, over}
use Rattle.rdl_layout.specs.Misplaced.{misplaced_at}

abbrev pub register_by : Body → ℕ → Trail → Component → Frame → List Register
register_by body.Reg address t c f = record {
  place = f.inst.name.place;
  address = address;
  width = regwidth_at t;
  access = accesswidth_at t;
  bits = bits_at t c;
} ∷ []
register_by _ address t c f = []

-- the top itself is no register
abbrev pub register_here : ℕ → Trail → Component → Option Frame → List Register
register_here address t c None = []
register_here address t c (Some f) = register_by f.kind address t c f

abbrev pub register_at : Gives Register
register_at address t c = register_here address t c (here_of t)

-- what the components below a top give, the top first
abbrev pub below : {A : Type 0} → Gives A → Option Component → List A
below give None = []
below give (Some c) = over give 65 0 [] c

abbrev pub registers_below : Option Component → List Register
registers_below top = below register_at top

abbrev pub misplaced_below : Option Component → List Place
misplaced_below top = below misplaced_at top

abbrev pub registers_of : RdlFile → List Register
registers_of file = registers_below (top_of file)

-- the places of what is misplaced by itself
abbrev pub misplaced_of : RdlFile → List Place
misplaced_of file = misplaced_below (top_of file)
