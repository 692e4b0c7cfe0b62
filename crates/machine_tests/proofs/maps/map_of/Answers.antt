use Rattle.std.proofs.Common.{rules, ◌≡◌, List, [], ◌∷◌, subst, sym, ℕ}
use Rattle.field_policies.specs.declared.field.Field.{Field}
use Rattle.field_policies.specs.declared.signal.HwInput.{HwInput}
use Rattle.field_policies.specs.Maps.{IsBus, AreInWords, AreResets, AreInRange, AreDistinct, HavePaths, AreWide, AreWires, AreCounters, AreInterrupts, AreMembers, IsSmall}
use Rattle.machine_tests.specs.OneField.{inputs}
use Rattle.machine_tests.proofs.OneFieldLemmas.{one_bus, one_in_words, one_resets, one_in_range, one_distinct, one_path, one_wide, one_wires, one_counters, one_interrupts, one_members, one_small}
use Rattle.machine_tests.proofs.maps.map_of.Goals as goal

pub invariant_of-result : goal.invariant_of-result
invariant_of-result c =
    let words : c.in_ok-words.words.items ≡ 0 ∷ [] = search rules in
    let fields : c.push.new.self.items ≡ c.args.field ∷ [] = search rules in
    let ins : c.in_ok-inputs.inputs.items ≡ inputs c.args.field.width = search rules in
    let path : HavePaths c.push.new.self.items = subst HavePaths (sym fields) (one_path c.args.field c.requires) in
    record {
      bus = subst (IsBus 32) (sym words) one_bus;
      in_words = subst (λ (ws : List ℕ). AreInWords 32 ws c.push.new.self.items) (sym words) (subst (AreInWords 32 (0 ∷ [])) (sym fields) (one_in_words c.args.field c.requires));
      fits = subst AreResets (sym fields) (one_resets c.args.field c.requires);
      in_range = subst (λ (is : List HwInput). AreInRange c.push.new.self.items is) (sym ins) (subst (λ (fs : List Field). AreInRange fs (inputs c.args.field.width)) (sym fields) (one_in_range c.args.field c.requires));
      distinct = subst (λ (is : List HwInput). AreDistinct c.push.new.self.items is) (sym ins) (subst (λ (fs : List Field). AreDistinct fs (inputs c.args.field.width)) (sym fields) (one_distinct c.args.field));
      paths = ∣ path ∣₁;
      widths = subst (λ (is : List HwInput). AreWide c.push.new.self.items is) (sym ins) (subst (λ (fs : List Field). AreWide fs (inputs c.args.field.width)) (sym fields) (one_wide c.args.field c.requires));
      wires = subst AreWires (sym fields) (one_wires c.args.field c.requires);
      counters = subst AreCounters (sym fields) (one_counters c.args.field c.requires);
      interrupts = subst AreInterrupts (sym fields) (one_interrupts c.args.field c.requires);
      members = subst AreMembers (sym fields) (one_members c.args.field c.requires);
      small = subst (λ (ws : List ℕ). IsSmall ws c.push.new.self.items) (sym words) (subst (IsSmall (0 ∷ [])) (sym fields) (one_small c.args.field c.requires));
    }
