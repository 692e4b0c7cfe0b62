-- The map of a description that fits and that nothing refuses is valid.
use Rattle.std.proofs.Common.{◌≡◌, inr, true, not, [], refl, ap}
use Rattle.rdl_tree.specs.declared.tree.RdlFile.{RdlFile}
use Rattle.rdl_tree.specs.Tree.{fits}
use Rattle.rdl_values.specs.Instances.{top_of}
use Rattle.rdl_map.specs.declared.map.Parts.{Parts}
use Rattle.rdl_map.specs.Maps.{IsMapOf}
use Rattle.rdl_elab.specs.Refusals.{IsFine}
use Rattle.rdl_regmap.specs.Laws.{IsOrderly}
use Rattle.rdl_regmap.specs.RegMaps.{IsValid}
use Rattle.rdl_regmap.proofs.Has.{OptionCase, option_case}
use Rattle.rdl_regmap.proofs.MapTold.{AreParts, parts_are}
use Rattle.rdl_regmap.proofs.Made.{IsMap}
use Rattle.rdl_regmap.proofs.Orderly.{no_top, orderly}
use Rattle.rdl_regmap.proofs.Spelled.{FitsComponent, top_is_fitting}
use Rattle.rdl_regmap.proofs.Distinct.{one_place, have_paths}
use Rattle.rdl_regmap.proofs.Wide.{are_wide}

pub valid : (file : RdlFile) (m : Parts) → fits file ≡ true → IsFine file → IsMapOf file m → IsValid m
valid file m fit fine is = elim (option_case (top_of file)) [
  | OptionCase.IsNone e ↦ absurd (fine.names file.end (inr (ap not (no_top [] file.items e), refl)))
  | OptionCase.IsSome top e ↦
      let parts : AreParts top m.words.items is.given = parts_are file top m.words.items is.given fine e is.words is.order in
      let all : IsMap top m.words.items is.given m.fields.items = record { parts = parts; from = is.fields } in
      let f : FitsComponent top = top_is_fitting file top fit e in
      let o : IsOrderly m = orderly file m fine is in
      record {
        bus = o.bus;
        in_words = o.in_words;
        fits = o.fits;
        in_range = o.in_range;
        distinct = record { paths = one_place top m.words.items is.given m.fields.items all f; signals = o.own_inputs.signals };
        paths = have_paths top m.words.items is.given m.fields.items all f;
        widths = are_wide top m.words.items is.given m.fields.items m.inputs.items all f is.inputs o.own_inputs;
        wires = o.wires;
        counters = o.counters;
        interrupts = o.interrupts;
        members = o.members;
        small = o.small;
      }
]
