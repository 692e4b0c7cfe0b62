-- Propagation finds no false clause exactly where unit propagation does not conflict.
use Rattle.std.proofs.Common.{◌≡◌, ℕ, zero, suc, true, List, length, take, Option, Some, None, IfSome, IfNone, ◌↔◌, refl, ap, ◌∙◌, true≢false}
use Rattle.std.specs.Option.{IsNone}
use Rattle.lemma_checker.specs.declared.literal.Literal.{Literal}
use Rattle.lemma_checker.specs.Clauses.{opposite, has, set_of}
use Rattle.lemma_checker.specs.Propagation.{IsClosed, IsInEachClosed, IsPropagation, DoesNotConflict}
use Rattle.watch_lists.specs.Trails.{IsSettled}
use Rattle.watch_lists.specs.Scans.{IsConflictNumber, ToldIs}
use Rattle.watch_lists.proofs.Lists.{has_front}

-- what was there is still there
front_in : (t u : List Literal) → take (length t) u ≡ t → (l : ℕ) → has l t ≡ true → has l u ≡ true
front_in t u front l h = has_front (length t) u l (ap (has l) front ∙ h)

-- nothing is left to do: the literals are closed
pub settled_closed : (cs : List (List Literal)) (t u : List Literal) → IsSettled cs (set_of u) → take (length t) u ≡ t → IsClosed cs (set_of t) (set_of u)
settled_closed cs t u settled front = record { start = λ l h. front_in t u front l h; unit = λ i c l is others. (settled.quiet i c is).unit l others }

pub settled_given : (cs : List (List Literal)) (t u : List Literal) → IsSettled cs (set_of u) → IsInEachClosed cs (set_of t) (set_of u) → take (length t) u ≡ t → IsPropagation cs (set_of t) (set_of u)
settled_given cs t u settled least front = record { closed = settled_closed cs t u settled front; least = least }

settled_free : (cs : List (List Literal)) (t u : List Literal) → IsSettled cs (set_of u) → take (length t) u ≡ t → DoesNotConflict cs (set_of t)
settled_free cs t u settled front = record {
  set = set_of u;
  closed = settled_closed cs t u settled front;
  free = record { apart = settled.apart; clause = λ i c is false_in. (settled.quiet i c is).not_false false_in };
}

-- a clause that is false in the least set is false in each closed one
conflict_kept : (cs : List (List Literal)) (t u : List Literal) (k : ℕ) → IsConflictNumber cs k (set_of u) → IsInEachClosed cs (set_of t) (set_of u) → DoesNotConflict cs (set_of t) → ⊥
conflict_kept cs t u zero found least d = absurd (cc (found.is))
conflict_kept cs t u (suc k) found least d = d.free.clause k found.clause found.is (record { each = λ m h. least.inside d.set d.closed (opposite m) (found.conflict.each m h) })

pub closed_exactly : (o : Option ℕ) (cs : List (List Literal)) (t u : List Literal) → ToldIs o cs (set_of u) → IsInEachClosed cs (set_of t) (set_of u) → take (length t) u ≡ t → IsNone o ↔ DoesNotConflict cs (set_of t)
closed_exactly None cs t u told least front = (λ e. settled_free cs t u told front, λ d. refl)
closed_exactly (Some k) cs t u told least front = (λ e. absurd (true≢false e), λ d. absurd (conflict_kept cs t u k told least d))

-- where the clauses are told by a predicate
pub given_of : (o : Option ℕ) (P : ℕ → List (List Literal) → Type 0) (t u : List Literal) → ((vars : ℕ) (cs : List (List Literal)) → P vars cs → ToldIs o cs (set_of u)) → ((vars : ℕ) (cs : List (List Literal)) → P vars cs → IsInEachClosed cs (set_of t) (set_of u)) → ((vars : ℕ) (cs : List (List Literal)) → P vars cs → take (length t) u ≡ t) → IfNone o ((vars : ℕ) (cs : List (List Literal)) → P vars cs → IsPropagation cs (set_of t) (set_of u))
given_of None P t u told least front = λ vars cs h. settled_given cs t u (told vars cs h) (least vars cs h) (front vars cs h)
given_of (Some k) P t u told least front = tt

pub conflict_of : (o : Option ℕ) (P : ℕ → List (List Literal) → Type 0) (u : List Literal) → ((vars : ℕ) (cs : List (List Literal)) → P vars cs → ToldIs o cs (set_of u)) → IfSome o (λ k. (vars : ℕ) (cs : List (List Literal)) → P vars cs → IsConflictNumber cs k (set_of u))
conflict_of None P u told = tt
conflict_of (Some k) P u told = told
