-- What the labels of an arm cost together.
use Rattle.std.proofs.Common.{◌≡◌, ℕ, suc, ◌+◌, ◌*◌, List, [], ◌∷◌, length, map, sum, refl, sym, ◌∙◌, ap, arith, suc-mul}
use Rattle.std.specs.List.{sum_by}
use Rattle.std.proofs.lemmas.List.Sums.{sum-map, sum_by-cons}
use Rattle.flat_design.specs.declared.net.Net.{Net}
use Rattle.flat_design.specs.declared.stmt.FlatLabel.{FlatLabel}
use Rattle.flat_design.specs.declared.stmt.FlatArm.{FlatArm}
use Rattle.flat_design.specs.Prices.{load, price}
use Rattle.flat_loads.specs.Parts.{labels_cost, arm_cost, arm_load}
use Rattle.flat_loads.proofs.Loads.{arm_is}

by_labels : {A : Type 0} (c z : A → ℕ) (b : ℕ) (ls : List A) → sum_by (λ l. c l + (4 * z l + 3 * b)) ls ≡ sum_by c ls + (4 * sum_by z ls + 3 * (length ls * b))
by_labels c z b [] = omega arith
by_labels c z b (l ∷ ls) =
    let rest = by_labels c z b ls in
    let all = sum_by-cons (λ l. c l + (4 * z l + 3 * b)) l ls in
    let costs = sum_by-cons c l ls in
    let sizes = sum_by-cons z l ls in
    let times : suc (length ls) * b ≡ length ls * b + b = suc-mul (length ls) b in
    omega arith

labels_are : (nets : List Net) (bits : ℕ) (labels : List FlatLabel)
    → labels_cost nets bits labels ≡ sum (map (λ l. (price nets l.value).cost) labels) + (4 * sum (map (λ l. (price nets l.value).size) labels) + 3 * (length labels * bits))
labels_are nets bits labels =
    let c = λ (l : FlatLabel). (price nets l.value).cost in
    let z = λ (l : FlatLabel). (price nets l.value).size in
    sum-map (λ (l : FlatLabel). (price nets l.value).cost + (4 * (price nets l.value).size + 3 * bits)) labels ∙ by_labels c z bits labels
    ∙ (λ i. sym (sum-map c labels) i + (4 * sym (sum-map z labels) i + 3 * (length labels * bits)))

pub arm_cost_is : (nets : List Net) (bits : ℕ) (arm : FlatArm) → labels_cost nets bits arm.labels + (load nets arm.body).cost + 0 ≡ arm_cost bits (arm_load nets arm)
arm_cost_is nets bits arm = (let e = labels_are nets bits arm.labels in omega arith) ∙ ap (arm_cost bits) (sym (arm_is nets arm))
