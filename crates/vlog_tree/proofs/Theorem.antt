-- Two fitting trees with equal tokens are equal: each is what the grammar's function gives.
use Rattle.std.proofs.Common.{◌≡◌, ℕ, suc, ◌<◌, true, List, [], ◌++◌, length, Ok, refl, sym, ◌∙◌, ap, append-nil, arith}
use Rattle.std.specs.List.{list_all}
use Rattle.parsing.proofs.Steps.{ok_same}
use Rattle.vlog_tree.specs.declared.tree_modules.VlogFile.{VlogFile}
use Rattle.vlog_tree.specs.declared.tree_modules.VModule.{VModule}
use Rattle.vlog_tree.specs.Parts.{flat_list}
use Rattle.vlog_tree.specs.Modules.{flat_module, fits_module, HasAtMostOneReading}
use Rattle.vlog_tree.specs.ReadModules.{modules}
use Rattle.vlog_tree.proofs.RuleModules.{modules_rule}

-- all the tokens of fitting modules are read, with room enough
pub reads_all : (m : ℕ) (xs : List VModule) → list_all fits_module xs ≡ true → length (flat_list flat_module xs) < m → modules m (flat_list flat_module xs) ≡ Ok (xs, [])
reads_all m xs fit short =
    let r = (modules_rule m m (omega arith)).rule in
    let e : modules m (flat_list flat_module xs ++ []) ≡ Ok (xs, []) = r.reads xs fit short [] refl in rw append-nil at e

one_list : (xs ys : List VModule) → list_all fits_module xs ≡ true → list_all fits_module ys ≡ true → flat_list flat_module xs ≡ flat_list flat_module ys → xs ≡ ys
one_list xs ys fit fit' e =
    let m = suc (length (flat_list flat_module xs)) in
    let short : length (flat_list flat_module ys) < suc (length (flat_list flat_module xs)) = rw e (omega arith) in
    let r = reads_all m xs fit (omega arith) in
    let r' = reads_all m ys fit' short in
    ap (λ p. p.0) (ok_same (sym r ∙ ap (modules m) e ∙ r'))

make_file : List VModule → VlogFile
make_file xs = record { modules = xs }

pub one_reading : HasAtMostOneReading
unfolding make_file
one_reading f g fit fit' e = ap make_file (one_list f.modules g.modules fit fit' e)
