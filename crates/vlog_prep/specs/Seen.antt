-- What the code's progress stands for. No public contract cites it.
use Rattle.std.specs.Prelude.{◌≡◌, ℕ, ◌<◌, ◌-◌, List, reverse, Option, Some, None, option_map, Result, Ok, Err}
use Rattle.bit_base.specs.declared.place.Place.{Place}
use Rattle.vlog_tree.specs.declared.fault.VlogFault.{VlogFault}
use Rattle.vlog_tree.specs.declared.fault.VlogFault.TheVariants.{NoMemory, At}
use Rattle.vlog_prep.specs.declared.piece.Piece.{Piece}
use Rattle.vlog_prep.specs.declared.progress.Progress.{Progress}
use Rattle.vlog_prep.specs.Table.{found}
use Rattle.vlog_prep.specs.Reading.{State, Outcome, where_read, expanded, expansion, Own, read_by}
use denote.Ref.{Bor}

abbrev pub seen : Progress → State
seen p = record { macros = found p.macros; conditions = reverse p.conditions; tokens = p.tokens; count = p.count; substituted = p.substituted }

abbrev pub named : Option (Bor (List ℕ)) → Option (List ℕ)
named name = option_map (λ r. r.now) name

-- The code gives this outcome, but for want of memory.
abbrev pub Follows : {A : Type 0} → Outcome → Result A VlogFault → State → Type 0
Follows outcome (Ok done) new = outcome ≡ Ok new
Follows outcome (Err NoMemory) new = Unit {0}
Follows outcome (Err (At code place names path)) new = outcome ≡ Err (At code place names path)

-- The use of a macro, where macros may nest so many levels deep.
abbrev pub used : ℕ → Place → List ℕ → State → Outcome
used levels place name s = where_read s (expanded (expansion levels place) place (s.macros name) s)

-- What is still to be read of the use of a macro: nothing, or its pieces.
abbrev pub IsUse : ℕ → Place → List ℕ → State → Result (Option (Bor (List Piece))) VlogFault → State → Type 0
IsUse levels place name s (Ok None) new = used levels place name s ≡ Ok new
IsUse levels place name s (Ok (Some body)) new = (0 < levels) × (used levels place name s ≡ read_by (expansion (levels - 1)) (Some place) Own body.now new)
IsUse levels place name s (Err NoMemory) new = Unit {0}
IsUse levels place name s (Err (At code here names path)) new = used levels place name s ≡ Err (At code here names path)

-- The pieces have the same meaning as those that are left.
abbrev pub Goes : ℕ → Option Place → List Piece → State → Result (Bor (List Piece)) VlogFault → State → Type 0
Goes levels at pieces s (Ok rest) new = read_by (expansion levels) at Own pieces s ≡ read_by (expansion levels) at Own rest.now new
Goes levels at pieces s (Err NoMemory) new = Unit {0}
Goes levels at pieces s (Err (At code place names path)) new = read_by (expansion levels) at Own pieces s ≡ Err (At code place names path)
