-- Words moved by places, toward the last place or toward the first. (Within the crate: both shifts in one word.)
use Rattle.std.specs.Prelude.{ℕ, ◌-◌, Bool, if◌then◌else◌, List, ◌++◌, length, take, drop, replicate, min}

-- moved up (left) or down (right) by so many places, the fill coming in
abbrev pub moved_by : {A : Type 0} → Bool → ℕ → A → List A → List A
moved_by left places fill a =
    if left then replicate (min places (length a)) fill ++ take (length a - places) a else (drop places a ++ replicate (min places (length a)) fill)
