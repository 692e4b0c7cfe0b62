use Rattle.std.proofs.Common.{ℕ, ◌-◌, ◌<◌, ◌≡◌, ◌∙◌, List, [], length, arith}
use Rattle.parsing.specs.Parser.{many_from}
use Rattle.parsing.proofs.Turns.{deeper, many_start}
use Rattle.rdl_tree.specs.declared.token.RdlToken.{RdlToken}
use Rattle.rdl_tree.specs.declared.tree.RdlItem.{RdlItem}
use Rattle.rdl_parse.specs.Grammar.{items, item_of, begins_item}
use Rattle.rdl_parse.proofs.items.+items.Goals as goal

items_start : (room : ℕ) (ts : List RdlToken) (found : List RdlItem) (n : ℕ) → found ≡ [] → n ≡ length ts → 0 < room → items room ts ≡ many_from begins_item (item_of (items (room - 1))) (n - 0) found ts
unfolding items
items_start room ts found n e h some = rw (e, h) (deeper (λ n. items n ts) room some ∙ many_start begins_item (item_of (items (room - 1))) ts)

pub items-loop-turn-init : goal.items-loop-turn-init
items-loop-turn-init t c = items_start c.args.room c.args.tokens.now c.new-found.result c.len-turn-end.result c.new-found.ensures c.len-turn-end.ensures (omega arith)
