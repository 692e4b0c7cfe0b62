use Rattle.std.proofs.Common.{◌++◌, ◌∷◌, [], ℕ, List, refl, ap, ◌∙◌}
use Rattle.watch_lists.proofs.BuildLemmas.{empty_holds}
use Rattle.watch_lists.proofs.watches.Watches.empty.Goals as goal

pub returns : goal.returns
returns c = empty_holds (record { literals = c.new.result; starts = c.push.new.self; lists = c.in_ok-lists.lists; short = c.new-2.result; looked = 0 }) c.args.vars c.new.ensures.items (c.in_ok-push.ensures.items ∙ ap (λ (q : List ℕ). q ++ 0 ∷ []) c.new-starts.ensures.items) c.in_ok-lists.ensures c.new-2.ensures.items refl
