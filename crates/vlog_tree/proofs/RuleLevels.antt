-- The laws of the levels of operators, and of expressions.
use Rattle.std.proofs.Common.{◌≡◌, ℕ, zero, suc, ◌+◌, ◌<◌, ◌≤◌, Bool, true, false, cond, ◌&&◌, ◌==◌, nat_le, nat_lt, bytes_eq, List, [], ◌∷◌, ◌++◌, length, Option, Some, None, codes, refl, sym, ◌∙◌, ◌⊎◌, inl, inr, ap, subst, append_assoc, append-nil, length-append, arith}
use Rattle.std.proofs.lemmas.Bool.Decides.{nat_tests}
use Rattle.std.specs.List.{list_all, list_any}
use Rattle.std.proofs.lemmas.Bool.{eqb-true, eq-eqb}
use Rattle.parsing.specs.Parser.{seq}
use Rattle.parsing.proofs.Rules.{sunk_rule, no_room_rule}
use Rattle.vlog_tree.specs.declared.token.VTokenKind.TheVariants.{Number, Mark}
use Rattle.vlog_tree.specs.declared.token.VToken.{VToken}
use Rattle.vlog_tree.specs.declared.tree_expressions.VExpr.{VExpr}
use Rattle.vlog_tree.specs.declared.tree_expressions.VExpr.TheVariants as VExpr
use Rattle.vlog_tree.specs.declared.tree_expressions.VPrim.{VPrim}
use Rattle.vlog_tree.specs.Tokens.{is_kind}
use Rattle.vlog_tree.specs.Spelling.{is_token, is_quoted}
use Rattle.vlog_tree.specs.Terminals.{Tokens, is_mark, is_unary, is_binary, level_of, is_level, level_among, binary_levels}
use Rattle.vlog_tree.specs.Parts.{flat_option, flat_list, fits_option}
use Rattle.vlog_tree.specs.Expressions.{fits_to, fits_below, flat_expr, grade_expr, fits_expr, flat_prim, fits_prim}
use Rattle.vlog_tree.specs.ReadExpressions.{Reader, mark, operand_of, chain, step, chained, upto, choice_from, choice, operand, expr}
use Rattle.vlog_tree.proofs.FoldsExpressions.{fits_prim_Number, flat_expr_Prim, flat_expr_Unary, flat_expr_Binary, flat_expr_Choice, grade_expr_Prim, grade_expr_Unary, grade_expr_Binary, grade_expr_Choice, by_expr, flat_prim_Number, flat_prim_Name, flat_prim_Group, flat_prim_Join, flat_prim_Repeat, flat_prim_Call, by_prim}
use Rattle.vlog_tree.proofs.Sorts.{and_both, and_left, and_right, not_both, Sorted, subset, disjoint, among, unary_sorted, query_sorted, level_sorted}
use Rattle.vlog_tree.proofs.Conjunctions.{fit2, fit3, fit4, fit5, both3, both4, both5}
use Rattle.vlog_tree.proofs.Sets.{expr_firsts, expr_nexts, nexts_0, nexts_1, nexts_2, nexts_3, nexts_4, nexts_5, nexts_6, nexts_7, nexts_8, nexts_9, nexts_10, nexts_11}
use Rattle.vlog_tree.proofs.Build.{Reading, Holds, Image, token_rule, then_rule, then_step_rule, as_rule, any_rule, each_rule, or_rule, image_rule, fitting_rule, wider_rule}
use Rattle.vlog_tree.proofs.TokenRules.{token_of, colon_rule, query_rule, unary_rule}
use Rattle.vlog_tree.proofs.RuleExpressions.{Inner, prim_rule}

-- fits where an operator may be of this level
abbrev pub fits_at : ℕ → VExpr → Bool
fits_at level e = fits_to level (grade_expr e)

-- ---- operands

abbrev make_unary : VToken × VExpr → VExpr
make_unary p = VExpr.Unary p.0 p.1

abbrev UnaryParts : VToken × VExpr → Type 0
UnaryParts p = (is_unary p.0 ≡ true) × (fits_at 0 p.1 ≡ true)

abbrev OperandKinds : VExpr → Type 0
OperandKinds e = Image make_unary UnaryParts e ⊎ Image VExpr.Prim (Holds fits_prim) e

abbrev FitsAt : ℕ → VExpr → Type 0
FitsAt level e = fits_at level e ≡ true

operand_fits : (e : VExpr) → OperandKinds e → FitsAt 0 e
operand_fits e (inl (p, (q, h))) = subst (FitsAt 0) q (ap (fits_to 0) (grade_expr_Unary p.0 p.1) ∙ and_both _ _ (and_both _ _ h.0 h.1) refl)
operand_fits e (inr (x, (q, h))) = subst (FitsAt 0) q (ap (fits_to 0) (grade_expr_Prim x) ∙ and_both _ _ h refl)

no_level : (n : ℕ) → nat_lt 0 n ≡ true → nat_le n 0 ≡ true → ⊥
no_level n h e = grind (arith, nat_tests)

fits_operands : (e : VExpr) → FitsAt 0 e → OperandKinds e
unfolding is_binary
fits_operands =
    by_expr (λ e. FitsAt 0 e → OperandKinds e)
    (λ x h. inr (x, (refl, and_left _ _ (sym (ap (fits_to 0) (grade_expr_Prim x)) ∙ h))))
    (λ o e h. inl ((o, e), (refl, fit2 (and_left _ _ (sym (ap (fits_to 0) (grade_expr_Unary o e)) ∙ h)))))
    (λ l o r h. let g = sym (ap (fits_to 0) (grade_expr_Binary l o r)) ∙ h in absurd (no_level (level_of o) (fit3 (and_left _ _ g)).0 (and_right _ _ g)))
    (λ t q y c n h. let g = sym (ap (fits_to 0) (grade_expr_Choice t q y c n)) ∙ h in absurd (not_both (and_right _ _ g) refl))

some_token : (t : VToken) → 0 < length (t ∷ [])
some_token t = omega arith

operand_of_rule : (room more : ℕ) (again again' p q : Reader VExpr) → Reading room more expr_firsts nexts_0 again again' flat_expr (Holds (fits_at 0)) → Inner room more p q
    → Reading (suc room) (suc more) expr_firsts nexts_0 (operand_of again p) (operand_of again' q) flat_expr (Holds (fits_at 0))
unfolding operand_of
operand_of_rule room more again again' p q rule inner =
    wider_rule expr_firsts nexts_0 refl refl
    (fitting_rule (Holds (fits_at 0)) operand_fits fits_operands
    (or_rule is_unary (58 ∷ 68 ∷ 63 ∷ 64 ∷ 65 ∷ []) unary_sorted refl refl refl
    (image_rule make_unary flat_expr (λ a h. flat_expr_Unary a.0 a.1) (then_step_rule refl (λ a h. some_token a) (unary_rule (suc room) (suc more) expr_firsts) (λ _. rule)))
    (image_rule VExpr.Prim flat_expr (λ x h. flat_expr_Prim x) (prim_rule room more p q inner))))

-- ---- operands with operators of one level between them

abbrev Step : Type 0
Step = VToken × VExpr

abbrev flat_step : Step → Tokens
flat_step s = s.0 ∷ flat_expr s.1

abbrev fits_step : ℕ → Step → Bool
fits_step level s = is_level (suc level) s.0 && fits_at level s.1

abbrev Chain : Type 0
Chain = VExpr × List Step

abbrev FitsChain : ℕ → Chain → Type 0
FitsChain level p = (fits_at level p.0 ≡ true) × (list_all (fits_step level) p.1 ≡ true)

chain_of : Chain → VExpr
chain_of p = chain p.0 p.1

chain_flat : (left : VExpr) (steps : List Step) → flat_expr (chain left steps) ≡ flat_expr left ++ flat_list flat_step steps
chain_flat left [] = sym (append-nil (flat_expr left))
chain_flat left (s ∷ steps) = chain_flat (VExpr.Binary left s.0 s.1) steps ∙ rw (flat_expr_Binary left s.0 s.1) (simp append_assoc)

level_is : (level : ℕ) (t : VToken) → is_level level t ≡ true → level_of t ≡ level
unfolding is_level
level_is level t h = eqb-true (level_of t) level h

is_level_of : (level : ℕ) (t : VToken) → level_of t ≡ level → is_level level t ≡ true
unfolding is_level
is_level_of level t h = eq-eqb (level_of t) level h

positive : (n level : ℕ) → n ≡ suc level → nat_lt 0 n ≡ true
positive n level e = grind (arith, nat_tests)

at_most_self : (n m : ℕ) → n ≡ m → nat_le n m ≡ true
at_most_self n m e = grind (arith, nat_tests)

below_next : (n level m : ℕ) → nat_le n level ≡ true → m ≡ suc level → nat_lt n m ≡ true
below_next n level m h e = grind (arith, nat_tests)

from_below : (n level m : ℕ) → nat_lt n m ≡ true → m ≡ suc level → nat_le n level ≡ true
from_below n level m h e = grind (arith, nat_tests)

up_next : (n level : ℕ) → nat_le n level ≡ true → nat_le n (suc level) ≡ true
up_next n level h = grind (arith, nat_tests)

binary_at : (level : ℕ) (t : VToken) → is_level (suc level) t ≡ true → is_binary t ≡ true
unfolding is_binary
binary_at level t h = positive (level_of t) level (level_is (suc level) t h)

-- a step to the left gives an expression of the level
step_fits : (level : ℕ) (left : VExpr) (s : Step) → fits_at (suc level) left ≡ true → fits_step level s ≡ true → fits_at (suc level) (VExpr.Binary left s.0 s.1) ≡ true
step_fits level left s h g =
    let at : level_of s.0 ≡ suc level = level_is (suc level) s.0 (and_left _ _ g) in
    let left_ok : fits_to (level_of s.0) (grade_expr left) ≡ true = subst (λ n. fits_to n (grade_expr left) ≡ true) (sym at) h in
    let right_ok : fits_below (level_of s.0) (grade_expr s.1) ≡ true =
    and_both _ _ (and_left _ _ (and_right _ _ g)) (below_next (grade_expr s.1).1 level (level_of s.0) (and_right _ _ (and_right _ _ g)) at) in
    ap (fits_to (suc level)) (grade_expr_Binary left s.0 s.1) ∙ and_both _ _ (both3 (binary_at level s.0 (and_left _ _ g), (left_ok, right_ok))) (at_most_self (level_of s.0) (suc level) at)

chain_fits : (level : ℕ) (left : VExpr) (steps : List Step) → fits_at (suc level) left ≡ true → list_all (fits_step level) steps ≡ true → fits_at (suc level) (chain left steps) ≡ true
chain_fits level left [] h all = h
chain_fits level left (s ∷ steps) h all = chain_fits level (VExpr.Binary left s.0 s.1) steps (step_fits level left s h (and_left _ _ all)) (and_right _ _ all)

looser : (level : ℕ) (e : VExpr) → fits_at level e ≡ true → fits_at (suc level) e ≡ true
looser level e h = and_both _ _ (and_left _ _ h) (up_next (grade_expr e).1 level (and_right _ _ h))

chain_end : (left : VExpr) (steps : List Step) (s : Step) → chain left (steps ++ s ∷ []) ≡ VExpr.Binary (chain left steps) s.0 s.1
chain_end left [] s = refl
chain_end left (x ∷ steps) s = chain_end (VExpr.Binary left x.0 x.1) steps s

all_end : (level : ℕ) (steps : List Step) (s : Step) → list_all (fits_step level) steps ≡ true → fits_step level s ≡ true → list_all (fits_step level) (steps ++ s ∷ []) ≡ true
all_end level [] s all h = and_both _ _ h refl
all_end level (x ∷ steps) s all h = and_both _ _ (and_left _ _ all) (all_end level steps s (and_right _ _ all) h)

-- an expression of the level is a chain of operands of the level below
Unchained : ℕ → VExpr → Type 0
Unchained level e = (p : Chain) × ((chain_of p ≡ e) × FitsChain level p)

unchained_alone : (level : ℕ) (e : VExpr) → fits_at level e ≡ true → Unchained level e
unfolding Unchained chain_of
unchained_alone level e h = ((e, []), (refl, (h, refl)))

tighter : (n level : ℕ) → nat_le n (suc level) ≡ true → (n == suc level) ≡ false → nat_le n level ≡ true
tighter n level h e = grind (arith, nat_tests)

unchain_step : (level : ℕ) (l : VExpr) (o : VToken) (r : VExpr) → level_of o ≡ suc level → fits_below (level_of o) (grade_expr r) ≡ true → Unchained level l → Unchained level (VExpr.Binary l o r)
unfolding Unchained chain_of
unchain_step level l o r at right ((first, steps), (e, (fit, all))) =
    let s : fits_step level (o, r) ≡ true = and_both _ _ (is_level_of (suc level) o at) (and_both _ _ (and_left _ _ right) (from_below (grade_expr r).1 level (level_of o) (and_right _ _ right) at)) in
    ((first, steps ++ (o, r) ∷ []), (chain_end first steps (o, r) ∙ ap (λ x. VExpr.Binary x o r) e, (fit, all_end level steps (o, r) all s)))

unchain_binary : (level : ℕ) (l : VExpr) (o : VToken) (r : VExpr) → (fits_at (suc level) l ≡ true → Unchained level l) → fits_at (suc level) (VExpr.Binary l o r) ≡ true → (b : Bool) → (level_of o == suc level) ≡ b → Unchained level (VExpr.Binary l o r)
unchain_binary level l o r ih h true e =
    let g = fit3 (and_left _ _ (sym (ap (fits_to (suc level)) (grade_expr_Binary l o r)) ∙ h)) in
    let at : level_of o ≡ suc level = eqb-true (level_of o) (suc level) e in
    unchain_step level l o r at g.1.1 (ih (subst (λ n. fits_to n (grade_expr l) ≡ true) at g.1.0))
unchain_binary level l o r ih h false e =
    let g = sym (ap (fits_to (suc level)) (grade_expr_Binary l o r)) ∙ h in
    unchained_alone level (VExpr.Binary l o r) (ap (fits_to level) (grade_expr_Binary l o r) ∙ and_both _ _ (and_left _ _ g) (tighter (level_of o) level (and_right _ _ g) e))

no_choice : (level : ℕ) → level < 11 → nat_le 12 (suc level) ≡ true → ⊥
no_choice level below h = grind (arith, nat_tests)

zero_le : (n : ℕ) → nat_le 0 n ≡ true
zero_le n = grind (arith, nat_tests)

unchain : (level : ℕ) → level < 11 → (n : ℕ) (e : VExpr) → length (flat_expr e) < n → fits_at (suc level) e ≡ true → Unchained level e
unchain level below zero e short h = absurd (omega arith)
unchain level below (suc n) e short h =
    by_expr (λ e. length (flat_expr e) < suc n → fits_at (suc level) e ≡ true → Unchained level e)
    (λ x short h. unchained_alone level (VExpr.Prim x) (ap (fits_to level) (grade_expr_Prim x) ∙ and_both _ _ (and_left _ _ (sym (ap (fits_to (suc level)) (grade_expr_Prim x)) ∙ h)) (zero_le level)))
    (λ o e short h. unchained_alone level (VExpr.Unary o e) (ap (fits_to level) (grade_expr_Unary o e) ∙ and_both _ _ (and_left _ _ (sym (ap (fits_to (suc level)) (grade_expr_Unary o e)) ∙ h)) (zero_le level)))
    (λ l o r short h.
    let long : length (flat_expr (VExpr.Binary l o r)) ≡ length (flat_expr l) + suc (length (flat_expr r)) = rw (flat_expr_Binary l o r) (length-append (flat_expr l) (o ∷ flat_expr r)) in
    unchain_binary level l o r (λ g. unchain level below n l (omega arith) g) h (level_of o == suc level) refl)
    (λ t q y c m short h. absurd (no_choice level below (and_right _ _ (sym (ap (fits_to (suc level)) (grade_expr_Choice t q y c m)) ∙ h))))
    e short h

step_some : (level : ℕ) (s : Step) → fits_step level s ≡ true → 0 < length (flat_step s)
step_some level s h = omega arith

abbrev id_step : Step → Step
id_step s = s

step_rule : (level room more : ℕ) (T N : List ℕ) (p q : Reader VExpr) → Sorted (is_level (suc level)) T → subset T T ≡ true → (some : VToken) → is_level (suc level) some ≡ true
    → Reading room more expr_firsts N p q flat_expr (Holds (fits_at level)) → Reading room more T N (step (suc level) p) (step (suc level) q) flat_step (Holds (fits_step level))
unfolding step
step_rule level room more T N p q sorted self some is rule =
    fitting_rule (Holds (fits_step level)) (λ s h. and_both _ _ h.0 h.1) (λ s h. (and_left _ _ h, and_right _ _ h))
    (then_rule refl (token_rule (is_level (suc level)) T expr_firsts sorted self some is) (λ _. rule))

chained_rule : (level room more : ℕ) (T N N' : List ℕ) (p q : Reader VExpr) → level < 11 → Sorted (is_level (suc level)) T → subset T T ≡ true → among T 0 ≡ false → disjoint N' T ≡ true → subset (T ++ N') N ≡ true
    → (some : VToken) → is_level (suc level) some ≡ true → Reading room more expr_firsts N p q flat_expr (Holds (fits_at level))
    → Reading room more expr_firsts N' (chained (suc level) p) (chained (suc level) q) flat_expr (Holds (fits_at (suc level)))
unfolding chained chain_of Unchained
chained_rule level room more T N N' p q below sorted self no_end away sub some is rule =
    as_rule chain_of flat_expr (Holds (fits_at (suc level))) (λ a h. (chain_flat a.0 a.1, chain_fits level a.0 a.1 (looser level a.0 h.0) h.1)) (λ e h. unchain level below (suc (length (flat_expr e))) e (omega arith) h)
    (then_rule sub rule (λ _. each_rule (is_level (suc level)) T N' sorted no_end self away sub (step_some level) (step_rule level room more T N p q sorted self some is rule)))

module _ (room more : ℕ) (p q : Reader VExpr) (rule : Reading room more expr_firsts nexts_0 p q flat_expr (Holds (fits_at 0))) where
  rule_1 : Reading room more expr_firsts nexts_1 (upto p 1) (upto q 1) flat_expr (Holds (fits_at 1))
  unfolding upto token_of is_token is_quoted is_level level_of
  rule_1 = chained_rule 0 room more (56 ∷ []) nexts_0 nexts_1 _ _ (omega arith) (level_sorted 1 (56 ∷ []) refl refl refl) refl refl refl refl (token_of Mark (codes "**") refl) refl rule

  rule_2 : Reading room more expr_firsts nexts_2 (upto p 2) (upto q 2) flat_expr (Holds (fits_at 2))
  unfolding upto token_of is_token is_quoted is_level level_of
  rule_2 = chained_rule 1 room more (55 ∷ 57 ∷ []) nexts_1 nexts_2 _ _ (omega arith) (level_sorted 2 (55 ∷ 57 ∷ []) refl refl refl) refl refl refl refl (token_of Mark (codes "*") refl) refl rule_1

  rule_3 : Reading room more expr_firsts nexts_3 (upto p 3) (upto q 3) flat_expr (Holds (fits_at 3))
  unfolding upto token_of is_token is_quoted is_level level_of
  rule_3 = chained_rule 2 room more (58 ∷ []) nexts_2 nexts_3 _ _ (omega arith) (level_sorted 3 (58 ∷ []) refl refl refl) refl refl refl refl (token_of Mark (codes "+") refl) refl rule_2

  rule_4 : Reading room more expr_firsts nexts_4 (upto p 4) (upto q 4) flat_expr (Holds (fits_at 4))
  unfolding upto token_of is_token is_quoted is_level level_of
  rule_4 = chained_rule 3 room more (59 ∷ []) nexts_3 nexts_4 _ _ (omega arith) (level_sorted 4 (59 ∷ []) refl refl refl) refl refl refl refl (token_of Mark (codes "<<") refl) refl rule_3

  rule_5 : Reading room more expr_firsts nexts_5 (upto p 5) (upto q 5) flat_expr (Holds (fits_at 5))
  unfolding upto token_of is_token is_quoted is_level level_of
  rule_5 = chained_rule 4 room more (60 ∷ 61 ∷ []) nexts_4 nexts_5 _ _ (omega arith) (level_sorted 5 (60 ∷ 61 ∷ []) refl refl refl) refl refl refl refl (token_of Mark (codes "<") refl) refl rule_4

  rule_6 : Reading room more expr_firsts nexts_6 (upto p 6) (upto q 6) flat_expr (Holds (fits_at 6))
  unfolding upto token_of is_token is_quoted is_level level_of
  rule_6 = chained_rule 5 room more (62 ∷ []) nexts_5 nexts_6 _ _ (omega arith) (level_sorted 6 (62 ∷ []) refl refl refl) refl refl refl refl (token_of Mark (codes "==") refl) refl rule_5

  rule_7 : Reading room more expr_firsts nexts_7 (upto p 7) (upto q 7) flat_expr (Holds (fits_at 7))
  unfolding upto token_of is_token is_quoted is_level level_of
  rule_7 = chained_rule 6 room more (63 ∷ []) nexts_6 nexts_7 _ _ (omega arith) (level_sorted 7 (63 ∷ []) refl refl refl) refl refl refl refl (token_of Mark (codes "&") refl) refl rule_6

  rule_8 : Reading room more expr_firsts nexts_8 (upto p 8) (upto q 8) flat_expr (Holds (fits_at 8))
  unfolding upto token_of is_token is_quoted is_level level_of
  rule_8 = chained_rule 7 room more (64 ∷ []) nexts_7 nexts_8 _ _ (omega arith) (level_sorted 8 (64 ∷ []) refl refl refl) refl refl refl refl (token_of Mark (codes "^") refl) refl rule_7

  rule_9 : Reading room more expr_firsts nexts_9 (upto p 9) (upto q 9) flat_expr (Holds (fits_at 9))
  unfolding upto token_of is_token is_quoted is_level level_of
  rule_9 = chained_rule 8 room more (65 ∷ []) nexts_8 nexts_9 _ _ (omega arith) (level_sorted 9 (65 ∷ []) refl refl refl) refl refl refl refl (token_of Mark (codes "|") refl) refl rule_8

  rule_10 : Reading room more expr_firsts nexts_10 (upto p 10) (upto q 10) flat_expr (Holds (fits_at 10))
  unfolding upto token_of is_token is_quoted is_level level_of
  rule_10 = chained_rule 9 room more (66 ∷ []) nexts_9 nexts_10 _ _ (omega arith) (level_sorted 10 (66 ∷ []) refl refl refl) refl refl refl refl (token_of Mark (codes "&&") refl) refl rule_9

  rule_11 : Reading room more expr_firsts nexts_11 (upto p 11) (upto q 11) flat_expr (Holds (fits_at 11))
  unfolding upto token_of is_token is_quoted is_level level_of
  rule_11 = chained_rule 10 room more (67 ∷ []) nexts_10 nexts_11 _ _ (omega arith) (level_sorted 11 (67 ∷ []) refl refl refl) refl refl refl refl (token_of Mark (codes "||") refl) refl rule_10

-- ---- a choice

abbrev Branches : Type 0
Branches = VToken × (VExpr × (VToken × VExpr))

abbrev flat_branches : Branches → Tokens
flat_branches p = p.0 ∷ (flat_expr p.1.0 ++ (p.1.1.0 ∷ flat_expr p.1.1.1))

abbrev fits_branches : Branches → Bool
fits_branches p = is_mark (codes "?") p.0 && fits_expr p.1.0 && is_mark (codes ":") p.1.1.0 && fits_expr p.1.1.1

abbrev FitsChoice : VExpr × Option Branches → Type 0
FitsChoice p = (fits_at 11 p.0 ≡ true) × (fits_option fits_branches p.1 ≡ true)

branches_rule : (room more : ℕ) (p q : Reader VExpr) → Inner room more p q
    → Reading room more (51 ∷ []) expr_nexts (seq (mark (codes "?")) (λ _. seq p (λ _. seq (mark (codes ":")) (λ _. p)))) (seq (mark (codes "?")) (λ _. seq q (λ _. seq (mark (codes ":")) (λ _. q)))) flat_branches (Holds fits_branches)
branches_rule room more p q inner =
    fitting_rule (Holds fits_branches) (λ a h. both4 h) (λ a h. fit4 h)
    (then_rule refl (query_rule room more expr_firsts) (λ _. then_rule refl inner (λ _. then_rule refl (colon_rule room more expr_firsts) (λ _. inner))))

choice_fits : (p : VExpr × Option Branches) → FitsChoice p → (flat_expr (choice_from p) ≡ flat_expr p.0 ++ flat_option flat_branches p.1) × (fits_expr (choice_from p) ≡ true)
choice_fits (t, None) h = (sym (append-nil (flat_expr t)), and_left _ _ h.0)
choice_fits (t, Some (q, (y, (c, n)))) h =
    let g = fit4 h.1 in
    (flat_expr_Choice t q y c n, ap (λ x. x.0) (grade_expr_Choice t q y c n) ∙ both5 (and_both _ _ (and_left _ _ h.0) (at_top (grade_expr t).1 (and_right _ _ h.0)), (g.0, (g.1.0, (g.1.1.0, g.1.1.1)))))
  where
    at_top : (n : ℕ) → nat_le n 11 ≡ true → nat_lt n 12 ≡ true
    at_top n h = grind (arith, nat_tests)

Chosen : VExpr → Type 0
Chosen e = (p : VExpr × Option Branches) × ((choice_from p ≡ e) × FitsChoice p)

alone : (e : VExpr) → fits_at 11 e ≡ true → Chosen e
unfolding Chosen
alone e h = ((e, None), (refl, (h, refl)))

within : (levels : List (List (List ℕ))) (n m : ℕ) → n + length levels ≤ suc m → (w : List ℕ) → level_among levels n w ≤ m
within [] n m le w = omega arith
within (xs ∷ more) n m le w = by_test (within more (n + 1) m (omega arith) w) (list_any (bytes_eq w) xs)
  where
    by_test : level_among more (n + 1) w ≤ m → (b : Bool) → cond b n (level_among more (n + 1) w) ≤ m
    by_test ih true = omega arith
    by_test ih false = ih

level_small : (t : VToken) → nat_le (level_of t) 11 ≡ true
unfolding level_of
level_small t = by_test (is_kind Mark t) (within binary_levels 1 11 (omega arith) t.text)
  where
    by_test : (b : Bool) → level_among binary_levels 1 t.text ≤ 11 → nat_le (cond b (level_among binary_levels 1 t.text) 0) 11 ≡ true
    by_test true le = grind (arith, nat_tests)
    by_test false le = refl

under_top : (n : ℕ) → nat_lt n 12 ≡ true → nat_le n 11 ≡ true
under_top n h = grind (arith, nat_tests)

choice_parts : (e : VExpr) → fits_expr e ≡ true → Chosen e
unfolding Chosen
choice_parts =
    by_expr (λ e. fits_expr e ≡ true → Chosen e)
    (λ x h. alone (VExpr.Prim x) (ap (fits_to 11) (grade_expr_Prim x) ∙ and_both _ _ (sym (ap (λ g. g.0) (grade_expr_Prim x)) ∙ h) refl))
    (λ o e h. alone (VExpr.Unary o e) (ap (fits_to 11) (grade_expr_Unary o e) ∙ and_both _ _ (sym (ap (λ g. g.0) (grade_expr_Unary o e)) ∙ h) refl))
    (λ l o r h. alone (VExpr.Binary l o r) (ap (fits_to 11) (grade_expr_Binary l o r) ∙ and_both _ _ (sym (ap (λ g. g.0) (grade_expr_Binary l o r)) ∙ h) (level_small o)))
    (λ t q y c n h.
    let g = fit5 (sym (ap (λ g. g.0) (grade_expr_Choice t q y c n)) ∙ h) in
    ((t, Some (q, (y, (c, n)))), (refl, (and_both _ _ (and_left _ _ g.0) (under_top (grade_expr t).1 (and_right _ _ g.0)), both4 (g.1.0, (g.1.1.0, (g.1.1.1.0, g.1.1.1.1)))))))

-- the test takes a token, so what comes after it needs less room
prim_some : (x : VPrim) → 0 < length (flat_prim x)
prim_some =
    by_prim (λ x. 0 < length (flat_prim x))
    (λ t. rw (flat_prim_Number t) (omega arith))
    (λ t s. rw (flat_prim_Name t s) (omega arith))
    (λ o e c. rw (flat_prim_Group o e c) (omega arith))
    (λ o e m c. rw (flat_prim_Join o e m c) (omega arith))
    (λ o e i f m k c. rw (flat_prim_Repeat o e i f m k c) (omega arith))
    (λ t o e c. rw (flat_prim_Call t o e c) (omega arith))

pub some_flat : (e : VExpr) → 0 < length (flat_expr e)
some_flat =
    by_expr (λ e. 0 < length (flat_expr e))
    (λ x. rw (flat_expr_Prim x) (prim_some x))
    (λ o e. rw (flat_expr_Unary o e) (omega arith))
    (λ l o r. rw (flat_expr_Binary l o r, length-append (flat_expr l) (o ∷ flat_expr r)) (omega arith))
    (λ t q y c n. rw (flat_expr_Choice t q y c n, length-append (flat_expr t) (q ∷ (flat_expr y ++ (c ∷ flat_expr n)))) (omega arith))

choice_rule : (room more : ℕ) (t t' p q : Reader VExpr) → Reading (suc room) (suc more) expr_firsts nexts_11 t t' flat_expr (Holds (fits_at 11)) → Inner room more p q
    → Inner (suc room) (suc more) (choice t p) (choice t' q)
unfolding choice Chosen
choice_rule room more t t' p q test inner =
    as_rule choice_from flat_expr (Holds fits_expr) choice_fits choice_parts
    (then_step_rule refl (λ e h. some_flat e) test
    (λ _. wider_rule (51 ∷ expr_nexts) expr_nexts refl refl (any_rule (is_mark (codes "?")) (51 ∷ []) query_sorted refl refl refl (branches_rule room more p q inner))))

-- ---- operands and expressions

abbrev Both : ℕ → ℕ → Type 0
Both room more = Reading room more expr_firsts nexts_0 (operand room) (operand more) flat_expr (Holds (fits_at 0)) × Inner room more (expr room) (expr more)

some_expr : VExpr
unfolding is_token is_quoted
some_expr = VExpr.Prim (VPrim.Number (token_of Number (codes "0") refl))

some_fits : fits_expr some_expr ≡ true
unfolding some_expr token_of is_token is_quoted
some_fits = ap (λ g. g.0) (grade_expr_Prim _) ∙ fits_prim_Number _

some_fits_at : fits_at 0 some_expr ≡ true
unfolding some_expr token_of is_token is_quoted
some_fits_at = ap (fits_to 0) (grade_expr_Prim _) ∙ and_both _ _ (fits_prim_Number _) refl

next_both : (room more : ℕ) → Both room more → Both (suc room) (suc more)
unfolding operand expr
next_both room more (again, inner) =
    let rule = operand_of_rule room more (operand room) (operand more) (expr room) (expr more) again inner in
    (rule, choice_rule room more _ _ (expr room) (expr more) (rule_11 (suc room) (suc more) _ _ rule) inner)

both_rules : (room more : ℕ) → room ≤ more → Both room more
unfolding operand expr
both_rules zero zero le = (record { rule = no_room_rule some_expr some_fits_at }, record { rule = no_room_rule some_expr some_fits })
both_rules zero (suc more) le =
    let r = next_both more more (both_rules more more (omega arith)) in
    (record { rule = sunk_rule r.0.rule }, record { rule = sunk_rule r.1.rule })
both_rules (suc room) (suc more) le = next_both room more (both_rules room more (omega arith))
both_rules (suc room) zero le = absurd (omega arith)

pub expr_rule : (room more : ℕ) → room ≤ more → Inner room more (expr room) (expr more)
expr_rule room more le = (both_rules room more le).1
