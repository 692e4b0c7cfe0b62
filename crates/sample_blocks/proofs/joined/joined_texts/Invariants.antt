use Rattle.std.proofs.Common.{◌≡◌, ◌++◌, [], map, drop}
use Rattle.std.specs.Prelude.{fold}
use Rattle.sample_blocks.proofs.joined.joined_texts.Given as goal

abbrev pub invariant-loop-next : goal.invariant-loop-next
invariant-loop-next l = fold (λ text next. text ++ next) l.text.items (map (λ t. t.now) (drop l.next-index l.texts)) ≡ fold (λ text next. text ++ next) [] (map (λ t. t.now) l.texts)
