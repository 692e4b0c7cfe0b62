-- Nets and items that fit each other, as elaboration makes them.
use Rattle.std.specs.Prelude.{◌≡◌, ◌<◌, ℕ, true, List, length, Some, slice_get}
use Rattle.std.specs.List.{list_all}
use Rattle.flat_design.specs.declared.net.Net.{Net}
use Rattle.flat_design.specs.declared.item.FlatItem.{FlatItem}
use Rattle.flat_design.specs.Bits.{bits_in}
use Rattle.flat_design.specs.Systems.{targets_of}
use Rattle.flat_orders.specs.Orders.{among}
use Rattle.flat_rules.specs.Fits.{item_fits}
use Rattle.flat_raw.specs.Assigned.{item_nets, assigned_nets, clocked_nets, AreTargets}
use Rattle.flat_raw.specs.Nets.{has_width, has_places, AreInRow, kind_fits}
use Rattle.flat_raw.specs.Paths.{has_path, HaveOwnPaths}

-- the nets alone
pub record AreFit (nets : List Net) : Type 0 where
  -- 1 to 1,024 bits each, at places below 2^32, one net after the other, fewer than 2^32 bits in all
  pub widths : list_all has_width nets ≡ true
  pub places : list_all has_places nets ≡ true
  pub in_row : AreInRow nets
  pub few_bits : bits_in nets < 4294967296
  -- paths without blanks and `=`, each once
  pub paths : list_all has_path nets ≡ true
  pub own_paths : HaveOwnPaths nets

-- the items with the nets
pub record FitNets (nets : List Net) (items : List FlatItem) : Type 0 where
  pub few_items : length items < 4294967296
  -- net numbers, selects, sizes, signs, constant indexes, events and labels
  pub fits : list_all (item_fits nets) items ≡ true
  -- the kinds of the nets, by the items that assign them
  pub kinds : (k : ℕ) (n : Net) → slice_get nets k ≡ Some n → kind_fits n.kind (among k (assigned_nets items)) (among k (clocked_nets items)) ≡ true
  pub targets : (k : ℕ) (x : FlatItem) → slice_get items k ≡ Some x → AreTargets (length nets) (targets_of x) (item_nets x)

pub record IsRaw (nets : List Net) (items : List FlatItem) : Type 0 where
  pub nets_fit : AreFit nets
  pub items_fit : FitNets nets items
