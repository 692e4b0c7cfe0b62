-- What an item begins with, test by test.
use Rattle.std.proofs.Common.{◌≡◌, ◌||◌, List, [], ◌∷◌, codes, refl}
use Rattle.parsing.specs.Parser.{sees}
use Rattle.vlog_tree.specs.declared.token.VToken.{VToken}
use Rattle.vlog_tree.specs.Terminals.{is_word, is_name, is_constant_word}
use Rattle.vlog_tree.specs.ReadModules.{is_dir, is_net_kind, begins_mitem}

pub begins_any : (ts : List VToken) → sees begins_mitem ts
    ≡ (sees is_dir ts || sees is_net_kind ts || sees is_constant_word ts || sees (is_word (codes "genvar")) ts || sees (is_word (codes "assign")) ts || sees (is_word (codes "always")) ts
    || sees (is_word (codes "initial")) ts || sees (is_word (codes "generate")) ts || sees is_name ts || sees (is_word (codes "for")) ts || sees (is_word (codes "if")) ts)
unfolding begins_mitem
begins_any [] = refl
begins_any (t ∷ ts) = refl
