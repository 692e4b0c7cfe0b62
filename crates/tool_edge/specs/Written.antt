-- The bytes that a sink was given.
use Rattle.std.specs.Prelude.{◌≡◌, ℕ, List, ◌++◌, take, Option}
use Rattle.std.specs.Option.{option_map}

-- the told bytes with these appended
abbrev pub after_put : Option (List ℕ) → List ℕ → Option (List ℕ)
after_put told bytes = option_map (λ before. before ++ bytes) told

-- a prefix of these bytes is appended
abbrev pub AppendsPart : Option (List ℕ) → List ℕ → Option (List ℕ) → Type 0
AppendsPart old bytes new = (n : ℕ) × (new ≡ after_put old (take n bytes))
