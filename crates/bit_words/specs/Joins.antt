-- Words made of words (IEEE 1364-2005, 5.1.14, concatenations).
use Rattle.std.specs.Prelude.{ℕ, zero, suc, List, [], ◌++◌, Bool}

-- the word so many times
abbrev pub repeated : ℕ → List Bool → List Bool
repeated zero a = []
repeated (suc count) a = a ++ repeated count a
