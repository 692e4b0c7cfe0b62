-- Which names were met. No public contract cites it.
use Rattle.std.specs.Prelude.{◌≡◌, Bool, ◌||◌, bytes_eq}
use Rattle.std.specs.HashSet.{contains_by}
use Rattle.vlog_parse.specs.Top.{Name, Names, is_among}
use Rattle.vlog_parse.specs.declared.top.Met.{Met}

abbrev pub has : Met → Name → Bool
has m q = contains_by (λ k. bytes_eq q k.now) m.names

-- These names are met beside those that were.
abbrev pub Meets : Met → Names → Met → Type 0
Meets old names new = (q : Name) → has new q ≡ (has old q || is_among names q)
