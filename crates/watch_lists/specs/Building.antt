-- Adding a clause to the watches.
use Rattle.std.specs.Prelude.{ℕ, not, ◌&&◌, eqb, List, [], ◌∷◌, ◌++◌, slice_set}
use Rattle.std.specs.List.{filter}
use Rattle.lemma_checker.specs.declared.literal.Literal.{Literal}
use Rattle.watch_lists.specs.declared.watch.Watch.{Watch}
use Rattle.watch_lists.specs.Watching.{list_at}

-- the clause's literals, these two first
abbrev pub with_first : List Literal → Literal → Literal → List Literal
with_first c first second = first ∷ second ∷ filter (λ x. not (eqb x.0 first.0) && not (eqb x.0 second.0)) c

-- the lists with a watch more in two of them
abbrev pub with_both : List (List Watch) → ℕ → ℕ → Watch → Watch → List (List Watch)
with_both lists first second w v = slice_set (slice_set lists first (list_at lists first ++ w ∷ [])) second (list_at lists second ++ v ∷ [])
