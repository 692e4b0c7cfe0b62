-- What the pass that looks for the first limit carries along. No public contract cites it.
use Rattle.std.specs.Prelude.{ℕ, ◌+◌, ◌<◌, ◌≤◌, ◌^◌, ◌==◌, nat_lt, Bool, ◌&&◌, ◌||◌, not, if◌then◌else◌, codes}
use Rattle.vlog_tree.specs.declared.token.VToken.{VToken}
use Rattle.vlog_tree.specs.Terminals.{Tokens, is_mark}
use Rattle.vlog_parse.specs.declared.depth.Counts.{Counts}
use Rattle.vlog_parse.specs.Depth.{open_with, bracket_with, is_module, is_semi, is_else, begins_process, open_after, brackets_after, since_module, is_in_header, unended, elses}

abbrev pub ends_part : Counts → VToken → Bool
ends_part before t = is_semi t || (is_mark (codes ",") t && before.in_header && (before.brackets == 1))

abbrev pub brackets_with : Counts → VToken → ℕ
brackets_with before t = if is_module t then 0 else bracket_with before.brackets t

abbrev pub is_in_header_with : Counts → VToken → Bool
is_in_header_with before t = is_module t || (before.in_header && not (is_semi t))

abbrev pub unended_with : Counts → VToken → ℕ
unended_with before t = if ends_part before t then 0 else before.unended + 1

abbrev pub elses_with : Counts → VToken → ℕ
elses_with before t = if begins_process t then 0 else if is_else t then before.elses + 1 else before.elses

unfoldable pub counts_with : Counts → VToken → Counts
counts_with before t = record {
  nested = open_with before.nested t;
  brackets = brackets_with before t;
  in_header = is_in_header_with before t;
  unended = unended_with before t;
  elses = elses_with before t;
}

-- No limit is exceeded, and one bracket more can be counted.
pub record IsSmall (c : Counts) : Type 0 where
  pub nested_is : c.nested ≤ 64
  pub brackets_are : c.brackets + 1 < 2 ^ 64
  pub unended_is : c.unended ≤ 2048
  pub elses_are : c.elses ≤ 1024

abbrev pub is_over : Counts → Bool
is_over c = nat_lt 64 c.nested || nat_lt 2048 c.unended || nat_lt 1024 c.elses

-- What is counted after these tokens.
abbrev pub counts_after : Tokens → Counts
counts_after ts = record { nested = open_after ts; brackets = brackets_after (since_module ts); in_header = is_in_header ts; unended = unended ts; elses = elses ts }
