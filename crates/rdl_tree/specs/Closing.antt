-- Which byte closes a string or a comment.
use Rattle.std.specs.Prelude.{ℕ, Bool}
use Rattle.rdl_tree.specs.declared.lengths.Closing.{Closing}
use Rattle.rdl_tree.specs.declared.lengths.Closing.TheVariants.{Str, Comment}
use Rattle.rdl_tree.specs.Spelling.{closes_string, closes_comment}

abbrev pub closes : Closing → ℕ → ℕ → Bool
closes Str = closes_string
closes Comment = closes_comment
