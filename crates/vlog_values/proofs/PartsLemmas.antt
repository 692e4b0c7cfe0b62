-- Parts of a concatenation, one after the other.
use Rattle.std.proofs.Common.{◌≡◌, ℕ, suc, ◌+◌, ◌<◌, true, List, ◌∷◌, map, drop, length, get_or, Ok, Err, refl, sym, ◌∙◌, ap, add-one, arith}
use Rattle.std.proofs.Math.Seq.{drop-cons}
use Rattle.vlog_values.specs.declared.facts.Offence.{Offence}
use Rattle.vlog_values.specs.declared.facts.Stop.{Stop}
use Rattle.vlog_values.specs.declared.facts.Stop.TheVariants.{NoMemory, At}
use Rattle.vlog_values.specs.declared.sized.SizedExpr.{SizedExpr}
use Rattle.vlog_values.specs.Steps.{Outcome, Comes, ◌>>=◌}
use Rattle.vlog_values.specs.Places.{no_values}
use Rattle.vlog_values.specs.Outcomes.{below, parts_of}
use Rattle.vlog_values.specs.Constants.{read}
use Rattle.std.specs.Prelude.{Bool}

abbrev rest_of : List SizedExpr → ℕ → ℕ → List Bool → Outcome (List Bool)
rest_of es i k higher = parts_of (map read (drop i es)) k no_values true higher

parts_step : (es : List SizedExpr) (i k : ℕ) (higher : List Bool) (e : SizedExpr) → i < length es → e ≡ get_or es i e
    → rest_of es i k higher ≡ (below (read e) no_values true higher >>= rest_of es (i + 1) (k + 1))
parts_step es i k higher e h is =
    let split : drop i es ≡ e ∷ drop (i + 1) es = rw (add-one) (drop-cons es i e h ∙ ap (λ x. x ∷ drop (suc i) es) (sym is)) in
    ap (λ l. parts_of (map read l) k no_values true higher) split

after_ok : (p : Outcome (List Bool)) (next : List Bool → Outcome (List Bool)) (all : List Bool) → p ≡ Ok all → (p >>= next) ≡ next all
after_ok p next all h = rw h refl

after_err : (p : Outcome (List Bool)) (next : List Bool → Outcome (List Bool)) (o : Offence) → p ≡ Err o → (p >>= next) ≡ Err o
after_err p next o h = rw h refl

-- a part that is refused ends the whole
pub refused_part : (es : List SizedExpr) (i k : ℕ) (higher seen : List Bool) (e : SizedExpr) (whole : Outcome (List Bool)) (stop : Stop) → i < length es → e ≡ get_or es i e
    → rest_of es i k higher ≡ whole → seen ≡ higher → Comes (below (read e) no_values true seen) (Err stop) → Comes whole (Err stop)
refused_part es i k higher seen e whole NoMemory h is whole_is same stopped = tt
refused_part es i k higher seen e whole (At o) h is whole_is same stopped =
    sym whole_is ∙ ap (rest_of es i k) (sym same) ∙ parts_step es i k seen e h is ∙ after_err (below (read e) no_values true seen) (rest_of es (i + 1) (k + 1)) o stopped

pub next_part : (es : List SizedExpr) (i first : ℕ) (higher seen all : List Bool) (e : SizedExpr) (whole : Outcome (List Bool)) → i < length es → e ≡ get_or es i e
    → rest_of es i (first + i) higher ≡ whole → seen ≡ higher → below (read e) no_values true seen ≡ Ok all → rest_of es (i + 1) (first + (i + 1)) all ≡ whole
next_part es i first higher seen all e whole h is whole_is same came =
    let count : first + (i + 1) ≡ first + i + 1 = omega arith in
    ap (λ k. rest_of es (i + 1) k all) count
    ∙ sym (after_ok (below (read e) no_values true seen) (rest_of es (i + 1) (first + i + 1)) all came) ∙ sym (parts_step es i (first + i) seen e h is) ∙ ap (rest_of es i (first + i)) same ∙ whole_is
