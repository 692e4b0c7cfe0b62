-- What effective values are refused for at one instance, and where: properties that exclude each other and values of its own at
-- its name, and references at the assignments of its body.
use Rattle.std.specs.Prelude.{Bool, false, List, [], ◌∷◌, ◌++◌, Option, Some, None}
use Rattle.bit_base.specs.declared.place.Place.{Place}
use Rattle.rdl_tree.specs.declared.tree.RdlDef.{out-RdlDef}
use Rattle.rdl_text.specs.declared.instance.Body.{Body}
use Rattle.rdl_text.specs.declared.instance.Body.TheVariants as body
use Rattle.rdl_text.specs.Components.{Component}
use Rattle.rdl_text.specs.Names.{place_if}
use Rattle.rdl_values.specs.OneFrame.{Target, Frame, Trail}
use Rattle.rdl_values.specs.Frames.{targets_of}
use Rattle.rdl_values.specs.Values.{here_of}
use Rattle.rdl_effects.specs.declared.effect.Effect.{Effect}
use Rattle.rdl_effects.specs.declared.effect.Effect.TheVariants as effect
use Rattle.rdl_effects.specs.Fields.{is_torn, is_misvalued_field}
use Rattle.rdl_effects.specs.Registers.{is_narrow}
use Rattle.rdl_effects.specs.References.{is_misreferred}

abbrev pub is_torn_of : Body → Trail → Bool
is_torn_of body.Field t = is_torn t
is_torn_of _ t = false

abbrev pub is_misvalued_of : Body → Trail → Bool
is_misvalued_of body.Field t = is_misvalued_field t
is_misvalued_of body.Reg t = is_narrow t
is_misvalued_of _ t = false

abbrev pub is_refused_of : Effect → Body → Trail → Bool
is_refused_of effect.Properties kind t = is_torn_of kind t
is_refused_of effect.Values kind t = is_misvalued_of kind t

-- of the instance itself; the top is none
abbrev pub refused_here : Effect → Trail → Option Frame → List Place
refused_here e t None = []
refused_here e t (Some f) = place_if (is_refused_of e f.kind t) f.inst.name.place

-- of the assignments to paths in its body
abbrev pub misreferred : Trail → Component → List Target → List Place
misreferred t c [] = []
misreferred t c (x ∷ xs) = place_if (is_misreferred t c x.path x.prop) x.path.first.name.place ++ misreferred t c xs

abbrev pub refused_in : Effect → Trail → Component → List Place
refused_in effect.Properties t c = []
refused_in effect.Values t c = misreferred t c (targets_of (out-RdlDef c.definition).items)

abbrev pub refused_at : Effect → Trail → Component → List Place
refused_at e t c = refused_here e t (here_of t) ++ refused_in e t c
