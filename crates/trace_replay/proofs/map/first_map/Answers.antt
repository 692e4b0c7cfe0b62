use Rattle.std.proofs.Common.{rules, ◌≡◌, List, ℕ, [], ◌∷◌, subst, sym}
use Rattle.field_policies.specs.declared.field.Field.{Field}
use Rattle.field_policies.specs.declared.signal.HwInput.{HwInput}
use Rattle.field_policies.specs.Maps.{IsBus, AreInWords, AreResets, AreInRange, AreDistinct, HavePaths, AreWide, AreWires, AreCounters, AreInterrupts, AreMembers, IsSmall}
use Rattle.trace_replay.specs.Blocks.{first_field}
use Rattle.trace_replay.proofs.FirstMap.{first_bus, first_in_words, first_resets, first_in_range, first_distinct, first_paths, first_wide, first_wires, first_counters, first_interrupts, first_members, first_small}
use Rattle.trace_replay.proofs.map.first_map.Goals as goal

pub invariant_of-result : goal.invariant_of-result
invariant_of-result c =
    let words : c.in_ok-words.words.items ≡ 0 ∷ [] = search rules in
    let fields : c.push.new.self.items ≡ first_field c.args.reset ∷ [] = search rules in
    let none : c.new.result.items ≡ [] = search rules in
    let path : HavePaths c.push.new.self.items = subst HavePaths (sym fields) (first_paths c.args.reset) in
    record {
      bus = subst (IsBus 8) (sym words) first_bus;
      in_words = subst (λ (ws : List ℕ). AreInWords 8 ws c.push.new.self.items) (sym words) (subst (AreInWords 8 (0 ∷ [])) (sym fields) (first_in_words c.args.reset));
      fits = subst AreResets (sym fields) (first_resets c.args.reset c.ranges.reset.fits);
      in_range = subst (λ (is : List HwInput). AreInRange c.push.new.self.items is) (sym none) (subst (λ (fs : List Field). AreInRange fs []) (sym fields) (first_in_range c.args.reset));
      distinct = subst (λ (is : List HwInput). AreDistinct c.push.new.self.items is) (sym none) (subst (λ (fs : List Field). AreDistinct fs []) (sym fields) (first_distinct c.args.reset));
      paths = ∣ path ∣₁;
      widths = subst (λ (is : List HwInput). AreWide c.push.new.self.items is) (sym none) (subst (λ (fs : List Field). AreWide fs []) (sym fields) (first_wide c.args.reset));
      wires = subst AreWires (sym fields) (first_wires c.args.reset);
      counters = subst AreCounters (sym fields) (first_counters c.args.reset);
      interrupts = subst AreInterrupts (sym fields) (first_interrupts c.args.reset);
      members = subst AreMembers (sym fields) (first_members c.args.reset);
      small = subst (λ (ws : List ℕ). IsSmall ws c.push.new.self.items) (sym words) (subst (IsSmall (0 ∷ [])) (sym fields) (first_small c.args.reset));
    }
