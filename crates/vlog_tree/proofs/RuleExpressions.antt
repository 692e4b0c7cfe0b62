-- The laws of the rows of expressions.
use Rattle.std.proofs.Common.{◌≡◌, ℕ, suc, ◌<◌, true, List, [], ◌∷◌, ◌++◌, length, Option, codes, refl, sym, ◌∙◌, ◌⊎◌, inl, inr, subst, arith}
use Rattle.std.specs.List.{list_all}
use Rattle.vlog_tree.specs.declared.token.VToken.{VToken}
use Rattle.vlog_tree.specs.declared.tree_expressions.VExpr.{VExpr}
use Rattle.vlog_tree.specs.declared.tree_expressions.VPrim.{VPrim}
use Rattle.vlog_tree.specs.declared.tree_expressions.VPrim.TheVariants as VPrim
use Rattle.vlog_tree.specs.declared.tree_expressions.VSelect.{VSelect}
use Rattle.vlog_tree.specs.declared.tree_expressions.VNextExpr.{VNextExpr, out-VNextExpr, roll-VNextExpr, roll-out-VNextExpr}
use Rattle.vlog_tree.specs.Terminals.{Tokens, is_mark, is_name, is_number, is_function}
use Rattle.vlog_tree.specs.Parts.{flat_option, flat_list, fits_option}
use Rattle.vlog_tree.specs.Expressions.{flat_expr, fits_expr, flat_prim, fits_prim, flat_select, fits_select, flat_next_expr, fits_next_expr}
use Rattle.vlog_tree.specs.ReadExpressions.{Reader, next_expr, next_exprs, SelectEnd, select_from, select_end, select, any_select, BracedEnd, braced_from, braced_end, braced, named, group, call, prim}
use Rattle.vlog_tree.proofs.FoldsExpressions.{flat_next_expr_roll, fits_next_expr_roll, flat_select_Bit, flat_select_Range, flat_select_Upward, fits_select_Bit, fits_select_Range, fits_select_Upward, by_select, flat_prim_Number, flat_prim_Name, flat_prim_Group, flat_prim_Join, flat_prim_Repeat, flat_prim_Call, fits_prim_Number, fits_prim_Name, fits_prim_Group, fits_prim_Join, fits_prim_Repeat, fits_prim_Call, by_prim}
use Rattle.vlog_tree.proofs.Sorts.{subset, disjoint, number_sorted, name_sorted, open_paren_sorted, open_bracket_sorted, open_brace_sorted, colon_sorted, upward_sorted, comma_sorted}
use Rattle.vlog_tree.proofs.Conjunctions.{fit2, fit3, fit4, fit5, fit7, both2, both3, both4, both5, both7}
use Rattle.vlog_tree.proofs.Sets.{expr_firsts, expr_nexts, prim_firsts, select_nexts, nexts_0}
use Rattle.vlog_tree.proofs.Build.{Reading, Holds, Image, then_rule, then_step_rule, as_rule, any_rule, each_rule, or_rule, image_rule, fitting_rule, wider_rule}
use Rattle.vlog_tree.proofs.TokenRules.{comma_rule, colon_rule, upward_rule, open_paren_rule, close_paren_rule, open_bracket_rule, close_bracket_rule, open_brace_rule, close_brace_rule, number_rule, name_rule, function_rule}

-- what reads the expressions inside
abbrev pub Inner : ℕ → ℕ → Reader VExpr → Reader VExpr → Type 0
Inner room more p q = Reading room more expr_firsts expr_nexts p q flat_expr (Holds fits_expr)

-- ---- further expressions

abbrev make_next_expr : VToken × VExpr → VNextExpr
make_next_expr p = roll-VNextExpr (record { comma = p.0; expr = p.1 })

next_expr_parts : (x : VNextExpr) → fits_next_expr x ≡ true → (p : VToken × VExpr) × ((make_next_expr p ≡ x) × ((is_mark (codes ",") p.0 ≡ true) × (fits_expr p.1 ≡ true)))
next_expr_parts x h =
    let o = out-VNextExpr x in
    let e : fits_next_expr (roll-VNextExpr o) ≡ true = subst (λ y. fits_next_expr y ≡ true) (sym (roll-out-VNextExpr x)) h in
    ((o.comma, o.expr), (roll-out-VNextExpr x, fit2 (sym (fits_next_expr_roll o) ∙ e)))

next_expr_some : (x : VNextExpr) → fits_next_expr x ≡ true → 0 < length (flat_next_expr x)
next_expr_some x h = subst (λ y. 0 < length (flat_next_expr y)) (roll-out-VNextExpr x) (rw (flat_next_expr_roll (out-VNextExpr x)) (omega arith))

pub next_expr_rule : (room more : ℕ) (p q : Reader VExpr) → Inner room more p q → Reading room more (47 ∷ []) (47 ∷ 45 ∷ 49 ∷ 41 ∷ []) (next_expr p) (next_expr q) flat_next_expr (Holds fits_next_expr)
unfolding next_expr
next_expr_rule room more p q inner =
    as_rule make_next_expr flat_next_expr (Holds fits_next_expr) (λ a h. (flat_next_expr_roll _, fits_next_expr_roll _ ∙ both2 h)) next_expr_parts
    (then_rule refl (comma_rule room more expr_firsts) (λ _. wider_rule expr_firsts (47 ∷ 45 ∷ 49 ∷ 41 ∷ []) refl refl inner))

pub next_exprs_rule : (room more : ℕ) (p q : Reader VExpr) (N : List ℕ) → disjoint N (47 ∷ []) ≡ true → subset (47 ∷ N) (47 ∷ 45 ∷ 49 ∷ 41 ∷ []) ≡ true → Inner room more p q
    → Reading room more (47 ∷ N) N (next_exprs p) (next_exprs q) (flat_list flat_next_expr) (Holds (list_all fits_next_expr))
unfolding next_exprs
next_exprs_rule room more p q N away sub inner = each_rule (is_mark (codes ",")) (47 ∷ []) N comma_sorted refl refl away sub next_expr_some (next_expr_rule room more p q inner)

-- ---- selects

abbrev flat_select_end : SelectEnd → Tokens
flat_select_end (inl (colon, (low, close))) = colon ∷ (flat_expr low ++ (close ∷ []))
flat_select_end (inr (inl (upward, (width, close)))) = upward ∷ (flat_expr width ++ (close ∷ []))
flat_select_end (inr (inr close)) = close ∷ []

abbrev FitsSelectEnd : SelectEnd → Type 0
FitsSelectEnd (inl (colon, (low, close))) = (is_mark (codes ":") colon ≡ true) × ((fits_expr low ≡ true) × (is_mark (codes "]") close ≡ true))
FitsSelectEnd (inr (inl (upward, (width, close)))) = (is_mark (codes "+:") upward ≡ true) × ((fits_expr width ≡ true) × (is_mark (codes "]") close ≡ true))
FitsSelectEnd (inr (inr close)) = is_mark (codes "]") close ≡ true

abbrev Ranged : List ℕ → VToken × (VExpr × VToken) → Type 0
Ranged bytes p = (is_mark bytes p.0 ≡ true) × ((fits_expr p.1.0 ≡ true) × (is_mark (codes "]") p.1.1 ≡ true))

abbrev EndKinds : SelectEnd → Type 0
EndKinds e = Image inl (Ranged (codes ":")) e ⊎ (Image (λ p. inr (inl p)) (Ranged (codes "+:")) e ⊎ Image (λ p. inr (inr p)) (Holds (is_mark (codes "]"))) e)

end_fits : (e : SelectEnd) → EndKinds e → FitsSelectEnd e
end_fits e (inl (p, (q, h))) = subst FitsSelectEnd q h
end_fits e (inr (inl (p, (q, h)))) = subst FitsSelectEnd q h
end_fits e (inr (inr (p, (q, h)))) = subst FitsSelectEnd q h

fits_ends : (e : SelectEnd) → FitsSelectEnd e → EndKinds e
fits_ends (inl p) h = inl (p, (refl, h))
fits_ends (inr (inl p)) h = inr (inl (p, (refl, h)))
fits_ends (inr (inr t)) h = inr (inr (t, (refl, h)))

select_end_rule : (room more : ℕ) (p q : Reader VExpr) → Inner room more p q → Reading room more (49 ∷ 50 ∷ 43 ∷ []) select_nexts (select_end p) (select_end q) flat_select_end FitsSelectEnd
unfolding select_end
select_end_rule room more p q inner =
    fitting_rule FitsSelectEnd end_fits fits_ends
    (or_rule (is_mark (codes ":")) (49 ∷ []) colon_sorted refl refl refl
    (image_rule inl flat_select_end (λ a h. refl) (then_rule refl (colon_rule room more expr_firsts) (λ _. then_rule refl inner (λ _. close_bracket_rule room more select_nexts))))
    (or_rule (is_mark (codes "+:")) (50 ∷ []) upward_sorted refl refl refl
    (image_rule (λ a. inr (inl a)) flat_select_end (λ a h. refl) (then_rule refl (upward_rule room more expr_firsts) (λ _. then_rule refl inner (λ _. close_bracket_rule room more select_nexts))))
    (image_rule (λ a. inr (inr a)) flat_select_end (λ a h. refl) (close_bracket_rule room more select_nexts))))

abbrev SelectParts : Type 0
SelectParts = VToken × (VExpr × SelectEnd)

abbrev FitsSelectParts : SelectParts → Type 0
FitsSelectParts p = (is_mark (codes "[") p.0 ≡ true) × ((fits_expr p.1.0 ≡ true) × FitsSelectEnd p.1.1)

select_same : (p : SelectParts) → FitsSelectParts p → (flat_select (select_from p) ≡ p.0 ∷ (flat_expr p.1.0 ++ flat_select_end p.1.1)) × (fits_select (select_from p) ≡ true)
select_same (o, (e, inl (c, (l, k)))) h = (flat_select_Range o e c l k, fits_select_Range o e c l k ∙ both5 h)
select_same (o, (e, inr (inl (c, (l, k))))) h = (flat_select_Upward o e c l k, fits_select_Upward o e c l k ∙ both5 h)
select_same (o, (e, inr (inr k))) h = (flat_select_Bit o e k, fits_select_Bit o e k ∙ both3 h)

select_parts : (x : VSelect) → fits_select x ≡ true → (p : SelectParts) × ((select_from p ≡ x) × FitsSelectParts p)
select_parts =
    by_select (λ x. fits_select x ≡ true → (p : SelectParts) × ((select_from p ≡ x) × FitsSelectParts p))
    (λ o e k h. ((o, (e, inr (inr k))), (refl, fit3 (sym (fits_select_Bit o e k) ∙ h))))
    (λ o e c l k h. ((o, (e, inl (c, (l, k)))), (refl, fit5 (sym (fits_select_Range o e c l k) ∙ h))))
    (λ o e c l k h. ((o, (e, inr (inl (c, (l, k))))), (refl, fit5 (sym (fits_select_Upward o e c l k) ∙ h))))

select_rule : (room more : ℕ) (p q : Reader VExpr) → Inner room more p q → Reading room more (42 ∷ []) select_nexts (select p) (select q) flat_select (Holds fits_select)
unfolding select
select_rule room more p q inner =
    as_rule select_from flat_select (Holds fits_select) select_same select_parts
    (then_rule refl (open_bracket_rule room more expr_firsts) (λ _. then_rule refl inner (λ _. select_end_rule room more p q inner)))

pub any_select_rule : (room more : ℕ) (p q : Reader VExpr) (N : List ℕ) → disjoint N (42 ∷ []) ≡ true → subset N select_nexts ≡ true → Inner room more p q
    → Reading room more (42 ∷ N) N (any_select p) (any_select q) (flat_option flat_select) (Holds (fits_option fits_select))
unfolding any_select
any_select_rule room more p q N away sub inner =
    any_rule (is_mark (codes "[")) (42 ∷ []) open_bracket_sorted refl refl away (wider_rule (42 ∷ []) N refl sub (select_rule room more p q inner))

-- ---- primaries

abbrev flat_braced_end : BracedEnd → Tokens
flat_braced_end (inl (o, (first, (more, (k, c))))) = o ∷ (flat_expr first ++ (flat_list flat_next_expr more ++ (k ∷ (c ∷ []))))
flat_braced_end (inr (more, c)) = flat_list flat_next_expr more ++ (c ∷ [])

abbrev Repeated : VToken × (VExpr × (List VNextExpr × (VToken × VToken))) → Type 0
Repeated p =
    (is_mark (codes "{") p.0 ≡ true) × ((fits_expr p.1.0 ≡ true) × ((list_all fits_next_expr p.1.1.0 ≡ true) × ((is_mark (codes "}") p.1.1.1.0 ≡ true) × (is_mark (codes "}") p.1.1.1.1 ≡ true))))

abbrev Joined : List VNextExpr × VToken → Type 0
Joined p = (list_all fits_next_expr p.0 ≡ true) × (is_mark (codes "}") p.1 ≡ true)

abbrev FitsBracedEnd : BracedEnd → Type 0
FitsBracedEnd (inl p) = Repeated p
FitsBracedEnd (inr p) = Joined p

braced_end_fits : (e : BracedEnd) → Image inl Repeated e ⊎ Image inr Joined e → FitsBracedEnd e
braced_end_fits e (inl (p, (q, h))) = subst FitsBracedEnd q h
braced_end_fits e (inr (p, (q, h))) = subst FitsBracedEnd q h

fits_braced_ends : (e : BracedEnd) → FitsBracedEnd e → Image inl Repeated e ⊎ Image inr Joined e
fits_braced_ends (inl p) h = inl (p, (refl, h))
fits_braced_ends (inr p) h = inr (p, (refl, h))

braced_end_rule : (room more : ℕ) (p q : Reader VExpr) → Inner room more p q → Reading room more (44 ∷ 47 ∷ 45 ∷ []) nexts_0 (braced_end p) (braced_end q) flat_braced_end FitsBracedEnd
unfolding braced_end
braced_end_rule room more p q inner =
    fitting_rule FitsBracedEnd braced_end_fits fits_braced_ends
    (or_rule (is_mark (codes "{")) (44 ∷ []) open_brace_sorted refl refl refl
    (image_rule inl flat_braced_end (λ a h. refl)
    (then_rule refl (open_brace_rule room more expr_firsts) (λ _. then_rule refl inner (λ _. then_rule refl (next_exprs_rule room more p q (45 ∷ []) refl refl inner)
    (λ _. then_rule refl (close_brace_rule room more (45 ∷ [])) (λ _. close_brace_rule room more nexts_0))))))
    (image_rule inr flat_braced_end (λ a h. refl) (then_rule refl (next_exprs_rule room more p q (45 ∷ []) refl refl inner) (λ _. close_brace_rule room more nexts_0))))

abbrev BracedParts : Type 0
BracedParts = VToken × (VExpr × BracedEnd)

abbrev FitsBracedParts : BracedParts → Type 0
FitsBracedParts p = (is_mark (codes "{") p.0 ≡ true) × ((fits_expr p.1.0 ≡ true) × FitsBracedEnd p.1.1)

abbrev flat_braced : BracedParts → Tokens
flat_braced p = p.0 ∷ (flat_expr p.1.0 ++ flat_braced_end p.1.1)

braced_flat : (p : BracedParts) → FitsBracedParts p → flat_prim (braced_from p) ≡ flat_braced p
braced_flat (o, (e, inl (i, (f, (m, (k, c)))))) h = flat_prim_Repeat o e i f m k c
braced_flat (o, (e, inr (m, c))) h = flat_prim_Join o e m c

braced_fits : (p : BracedParts) → FitsBracedParts p → fits_prim (braced_from p) ≡ true
braced_fits (o, (e, inl (i, (f, (m, (k, c)))))) h = fits_prim_Repeat o e i f m k c ∙ both7 h
braced_fits (o, (e, inr (m, c))) h = fits_prim_Join o e m c ∙ both4 h

some_token : (t : VToken) → 0 < length (t ∷ [])
some_token t = omega arith

braced_rule : (room more : ℕ) (p q : Reader VExpr) → Inner room more p q → Reading (suc room) (suc more) (44 ∷ []) nexts_0 (braced p) (braced q) flat_prim (Image braced_from FitsBracedParts)
unfolding braced
braced_rule room more p q inner =
    image_rule braced_from flat_prim braced_flat
    (then_step_rule refl (λ a h. some_token a) (open_brace_rule (suc room) (suc more) expr_firsts) (λ _. then_rule refl inner (λ _. braced_end_rule room more p q inner)))

abbrev make_named : VToken × Option VSelect → VPrim
make_named p = VPrim.Name p.0 p.1

abbrev NamedParts : VToken × Option VSelect → Type 0
NamedParts p = (is_name p.0 ≡ true) × (fits_option fits_select p.1 ≡ true)

named_rule : (room more : ℕ) (p q : Reader VExpr) → Inner room more p q → Reading (suc room) (suc more) (1 ∷ []) nexts_0 (named p) (named q) flat_prim (Image make_named NamedParts)
unfolding named
named_rule room more p q inner =
    image_rule make_named flat_prim (λ a h. flat_prim_Name a.0 a.1)
    (then_step_rule refl (λ a h. some_token a) (name_rule (suc room) (suc more) (42 ∷ nexts_0)) (λ _. any_select_rule room more p q nexts_0 refl refl inner))

abbrev make_group : VToken × (VExpr × VToken) → VPrim
make_group p = VPrim.Group p.0 p.1.0 p.1.1

abbrev GroupParts : VToken × (VExpr × VToken) → Type 0
GroupParts p = (is_mark (codes "(") p.0 ≡ true) × ((fits_expr p.1.0 ≡ true) × (is_mark (codes ")") p.1.1 ≡ true))

group_rule : (room more : ℕ) (p q : Reader VExpr) → Inner room more p q → Reading (suc room) (suc more) (40 ∷ []) nexts_0 (group p) (group q) flat_prim (Image make_group GroupParts)
unfolding group
group_rule room more p q inner =
    image_rule make_group flat_prim (λ a h. flat_prim_Group a.0 a.1.0 a.1.1)
    (then_step_rule refl (λ a h. some_token a) (open_paren_rule (suc room) (suc more) expr_firsts) (λ _. then_rule refl inner (λ _. close_paren_rule room more nexts_0)))

abbrev make_call : VToken × (VToken × (VExpr × VToken)) → VPrim
make_call p = VPrim.Call p.0 p.1.0 p.1.1.0 p.1.1.1

abbrev CallParts : VToken × (VToken × (VExpr × VToken)) → Type 0
CallParts p = (is_function p.0 ≡ true) × ((is_mark (codes "(") p.1.0 ≡ true) × ((fits_expr p.1.1.0 ≡ true) × (is_mark (codes ")") p.1.1.1 ≡ true)))

call_rule : (room more : ℕ) (p q : Reader VExpr) → Inner room more p q → Reading (suc room) (suc more) (3 ∷ []) nexts_0 (call p) (call q) flat_prim (Image make_call CallParts)
unfolding call
call_rule room more p q inner =
    image_rule make_call flat_prim (λ a h. flat_prim_Call a.0 a.1.0 a.1.1.0 a.1.1.1)
    (then_step_rule refl (λ a h. some_token a) (function_rule (suc room) (suc more) (40 ∷ [])) (λ _. then_rule refl (open_paren_rule room more expr_firsts) (λ _. then_rule refl inner (λ _. close_paren_rule room more nexts_0))))

abbrev PrimKinds : VPrim → Type 0
PrimKinds x =
    Image VPrim.Number (Holds is_number) x ⊎ (Image make_named NamedParts x ⊎ (Image make_group GroupParts x ⊎ (Image braced_from FitsBracedParts x ⊎ Image make_call CallParts x)))

abbrev FitsPrim : VPrim → Type 0
FitsPrim x = fits_prim x ≡ true

prim_fits : (x : VPrim) → PrimKinds x → fits_prim x ≡ true
prim_fits x (inl (t, (e, h))) = subst FitsPrim e (fits_prim_Number t ∙ h)
prim_fits x (inr (inl (p, (e, h)))) = subst FitsPrim e (fits_prim_Name p.0 p.1 ∙ both2 h)
prim_fits x (inr (inr (inl (p, (e, h))))) = subst FitsPrim e (fits_prim_Group p.0 p.1.0 p.1.1 ∙ both3 h)
prim_fits x (inr (inr (inr (inl (p, (e, h)))))) = subst FitsPrim e (braced_fits p h)
prim_fits x (inr (inr (inr (inr (p, (e, h)))))) = subst FitsPrim e (fits_prim_Call p.0 p.1.0 p.1.1.0 p.1.1.1 ∙ both4 h)

fits_prims : (x : VPrim) → fits_prim x ≡ true → PrimKinds x
fits_prims =
    by_prim (λ x. fits_prim x ≡ true → PrimKinds x)
    (λ t h. inl (t, (refl, sym (fits_prim_Number t) ∙ h)))
    (λ t s h. inr (inl ((t, s), (refl, fit2 (sym (fits_prim_Name t s) ∙ h)))))
    (λ o e c h. inr (inr (inl ((o, (e, c)), (refl, fit3 (sym (fits_prim_Group o e c) ∙ h))))))
    (λ o e m c h. inr (inr (inr (inl ((o, (e, inr (m, c))), (refl, fit4 (sym (fits_prim_Join o e m c) ∙ h)))))))
    (λ o e i f m k c h. inr (inr (inr (inl ((o, (e, inl (i, (f, (m, (k, c)))))), (refl, fit7 (sym (fits_prim_Repeat o e i f m k c) ∙ h)))))))
    (λ t o e c h. inr (inr (inr (inr ((t, (o, (e, c))), (refl, fit4 (sym (fits_prim_Call t o e c) ∙ h)))))))

pub prim_rule : (room more : ℕ) (p q : Reader VExpr) → Inner room more p q → Reading (suc room) (suc more) prim_firsts nexts_0 (prim p) (prim q) flat_prim (Holds fits_prim)
unfolding prim
prim_rule room more p q inner =
    wider_rule prim_firsts nexts_0 refl refl
    (fitting_rule (Holds fits_prim) prim_fits fits_prims
    (or_rule is_number (2 ∷ []) number_sorted refl refl refl (image_rule VPrim.Number flat_prim (λ t h. flat_prim_Number t) (number_rule (suc room) (suc more) nexts_0))
    (or_rule is_name (1 ∷ []) name_sorted refl refl refl (named_rule room more p q inner)
    (or_rule (is_mark (codes "(")) (40 ∷ []) open_paren_sorted refl refl refl (group_rule room more p q inner)
    (or_rule (is_mark (codes "{")) (44 ∷ []) open_brace_sorted refl refl refl (braced_rule room more p q inner) (call_rule room more p q inner))))))
