-- Tests of one token.
use Rattle.std.specs.Prelude.{ℕ, Bool, List, bytes_eq}
use denote.Enum.Bare.{sameb}
use Rattle.vlog_tree.specs.contracts.token.VTokenKind.{the_type}
use Rattle.vlog_tree.specs.declared.token.VTokenKind.{VTokenKind}
use Rattle.vlog_tree.specs.declared.token.VToken.{VToken}

abbrev pub is_kind : VTokenKind → VToken → Bool
is_kind kind t = sameb the_type t.kind kind

-- The mark, the word or the name with these bytes.
abbrev pub is_text : List ℕ → VToken → Bool
is_text bytes t = bytes_eq t.text bytes
