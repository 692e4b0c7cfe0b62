-- The trail without literals.
use Rattle.std.proofs.Common.{◌≡◌, ℕ, ◌+◌, ◌*◌, Bool, false, List, [], length, replicate, refl, ap, ◌∙◌, sym, subst, inl, inr, arith, true≢false}
use Rattle.std.proofs.Math.Path.{fun_ext}
use Rattle.std.proofs.lemmas.Bool.{cases_lt}
use Rattle.std.proofs.lemmas.List.{get_or-replicate, get_or_past, length-replicate}
use Rattle.lemma_checker.specs.declared.literal.Literal.{Literal}
use Rattle.watch_lists.specs.declared.trail.Trail.{Trail}
use Rattle.watch_lists.specs.declared.watches.Watches.{Watches}
use Rattle.watch_lists.specs.Trails.{IsTrail}
use Rattle.watch_lists.specs.Watching.{IsPlain}
use Rattle.watch_lists.specs.Watches.{Holds, Fits}
use Rattle.watch_lists.proofs.FitLemmas.{first_fits}

pub trail_empty : (n : ℕ) (cs : List (List Literal)) → IsTrail n cs [] [] [] (replicate n false)
trail_empty n cs = record {
  size = length-replicate n false;
  same = fun_ext (λ l. elim (cases_lt l n) [ inl lt ↦ get_or-replicate n l false false lt | inr ge ↦ get_or_past (replicate n false) l false (omega (arith, ge, length-replicate n false)) ]);
  apart = record { apart = λ l h. absurd (true≢false (sym h)) };
  lengths = refl;
  once = record { once = λ p x is. absurd (cc) };
  named = λ l h. absurd (true≢false (sym h));
  known = λ p k is. absurd (cc);
  chosen = λ p is. absurd (cc);
  given = λ p k x c is. absurd (cc);
  inside = λ i a is. absurd (cc);
  rising = λ i j a b lt is. absurd (cc);
  settled = λ i a is. absurd (cc);
}

pub trail_start : (n : ℕ) (cs : List (List Literal)) (vs : List Bool) → vs ≡ replicate n false → IsTrail (length vs) cs [] [] [] vs
trail_start n cs vs e =
    let long : length vs ≡ n = ap length e ∙ length-replicate n false in
    subst (λ (m : ℕ). IsTrail m cs [] [] [] vs) (sym long) (subst (λ (ws : List Bool). IsTrail n cs [] [] [] ws) (sym e) (trail_empty n cs))

plain_empty : (n : ℕ) (cs : List (List Literal)) → IsPlain n [] [] [] (replicate n false) 0
plain_empty n cs =
    let tr : IsTrail n cs [] [] [] (replicate n false) = trail_empty n cs in
    record { size = tr.size; same = tr.same; apart = tr.apart; once = tr.once; named = tr.named; lengths = refl; inside = λ i a is. absurd (cc); within = omega arith }

-- it fits the watches
pub start_fits : (w : Watches) (vars : ℕ) (clauses : List (List Literal)) (t : Trail) → Holds w vars clauses → t.literals.items ≡ [] → t.reasons.items ≡ [] → t.starts.items ≡ [] → t.values.items ≡ replicate (2 * vars + 2) false → t.done ≡ 0 → Fits w t
start_fits w vars clauses t h literals reasons starts values done =
    let plain : IsPlain (2 * vars + 2) [] [] [] (replicate (2 * vars + 2) false) 0 = plain_empty (2 * vars + 2) clauses in
    let here : IsPlain (length w.lists.items) t.literals.items t.reasons.items t.starts.items t.values.items t.done = rw (h.size, literals, reasons, starts, values, done) plain in
    first_fits w vars clauses t h here starts done
