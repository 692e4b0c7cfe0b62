-- Paths of nets, which traces and port files name.
use Rattle.std.specs.Prelude.{◌≡◌, ℕ, Bool, true, false, not, ◌&&◌, ◌||◌, ◌==◌, List, [], ◌∷◌, Some, slice_get, length}
use Rattle.std.specs.List.{list_all}
use Rattle.flat_design.specs.declared.net.Net.{Net}
use Rattle.flat_raw.specs.Nets.{is_hidden}

-- no blank (space, tab, carriage return, line feed) and no `=`
abbrev pub is_path_byte : ℕ → Bool
is_path_byte b = not ((b == 32) || ((b == 9) || ((b == 13) || ((b == 10) || (b == 61)))))

abbrev pub is_path : List ℕ → Bool
is_path path = not (length path == 0) && list_all is_path_byte path

-- a hidden net needs none
abbrev pub has_path : Net → Bool
has_path n = is_hidden n.kind || is_path n.path

-- no two nets have the same path, hidden ones apart
abbrev pub HaveOwnPaths : List Net → Type 0
HaveOwnPaths nets = (j k : ℕ) (m n : Net) → slice_get nets j ≡ Some m → slice_get nets k ≡ Some n → is_hidden m.kind ≡ false → is_hidden n.kind ≡ false → m.path ≡ n.path → j ≡ k
