use Rattle.std.proofs.Common.{[], ◌∷◌, ◌++◌, codes, map, length}
use Rattle.std.specs.Fmt.{decimal}
use Rattle.cert_text.specs.Text.{clause_line}
use Rattle.cert_text.proofs.WriteLemmas.{behind}
use Rattle.cert_text.proofs.write.push_head.Goals as goal

pub returns-clause-text : goal.returns-clause-text
returns-clause-text c =
    let one = c.in_ok-push_line.ensures in
    let two = behind (codes "cert 1" ∷ []) ((codes "k " ++ decimal c.args.k) ∷ []) c.args.text.now.items c.push_line.new.text.items c.push_named.new.text.items one (rw c.from.ensures at c.in_ok-push_named.ensures) in
    let three = behind (codes "cert 1" ∷ (codes "k " ++ decimal c.args.k) ∷ []) ((codes "keep " ++ decimal (length c.args.set.now)) ∷ []) c.args.text.now.items c.push_named.new.text.items c.push_named-2.new.text.items two c.in_ok-push_named-2.ensures in
    let four = behind (codes "cert 1" ∷ (codes "k " ++ decimal c.args.k) ∷ (codes "keep " ++ decimal (length c.args.set.now)) ∷ []) (map clause_line c.args.set.now) c.args.text.now.items c.push_named-2.new.text.items c.push_clauses.new.text.items three c.in_ok-push_clauses.ensures.text in
    behind (codes "cert 1" ∷ (codes "k " ++ decimal c.args.k) ∷ (codes "keep " ++ decimal (length c.args.set.now)) ∷ map clause_line c.args.set.now) (codes "q keep" ∷ []) c.args.text.now.items c.push_clauses.new.text.items c.push_line-2.new.text.items four c.in_ok-push_line-2.ensures
