-- The solver's answers about a formula.
use Rattle.std.proofs.Common.{◌≡◌, ℕ, ◌<◌, ◌^◌, ◌∙◌, false, subst, arith}
use Rattle.lemma_checker.specs.declared.formula.Formula.{Formula}
use Rattle.lemma_checker.specs.Propagation.{DoesNotConflict, AreNew}
use Rattle.clause_solver.specs.declared.answer.Solved.{Solved}
use Rattle.clause_solver.specs.declared.answer.Solved.TheVariants as solved
use Rattle.clause_solver.specs.Solver.{all_of, SolvedIs, IsAboutFormula, IfSpent, IsFull}

-- an answer about a formula is one about each formula with the same variables and clauses
pub solved_same : (s : Solved) (f g : Formula) (n m : ℕ) → f.vars ≡ g.vars → f.clauses ≡ g.clauses → n ≡ m → SolvedIs s f n → SolvedIs s g m
solved_same (solved.Sat a) f g n m v k e h = record { same_vars = h.same_vars ∙ v; same_clauses = h.same_clauses ∙ k }
solved_same (solved.Unsat r) f g n m v k e h = record { same_vars = h.same_vars ∙ v; same_clauses = h.same_clauses ∙ k }
solved_same (solved.Spent l) f g n m v k e h = record {
  about = record { same_vars = h.about.same_vars ∙ v; same_clauses = h.about.same_clauses ∙ k };
  full = omega (arith, e, h.full);
  chains = h.chains;
  news = h.news;
  proper = h.proper;
  quiet = h.quiet;
  small = subst (λ (b : ℕ). b < 3 ^ l.formula.vars) e h.small;
}

-- the parts of an answer
pub about_of : (s : Solved) (f : Formula) (n : ℕ) → SolvedIs s f n → IsAboutFormula s f
about_of (solved.Sat a) f n h = h
about_of (solved.Unsat r) f n h = h
about_of (solved.Spent l) f n h = h.about

pub full_of : (s : Solved) (f : Formula) (n : ℕ) → SolvedIs s f n → IfSpent s (λ l. IsFull l n)
full_of (solved.Sat a) f n h = tt
full_of (solved.Unsat r) f n h = tt
full_of (solved.Spent l) f n h = record { full = h.full; chains = h.chains; proper = h.proper }

pub news_of : (s : Solved) (f : Formula) (n : ℕ) → SolvedIs s f n → IfSpent s (λ l. AreNew l.formula.clauses l.added)
news_of (solved.Sat a) f n h = tt
news_of (solved.Unsat r) f n h = tt
news_of (solved.Spent l) f n h = h.news

pub quiet_of : (s : Solved) (f : Formula) (n : ℕ) → SolvedIs s f n → IfSpent s (λ l. DoesNotConflict (all_of l) (λ _. false))
quiet_of (solved.Sat a) f n h = tt
quiet_of (solved.Unsat r) f n h = tt
quiet_of (solved.Spent l) f n h = h.quiet

pub small_of : (s : Solved) (f : Formula) (n : ℕ) → SolvedIs s f n → IfSpent s (λ l. n < 3 ^ l.formula.vars)
small_of (solved.Sat a) f n h = tt
small_of (solved.Unsat r) f n h = tt
small_of (solved.Spent l) f n h = h.small
