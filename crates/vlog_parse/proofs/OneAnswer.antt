-- That the tokens determine what the reader answers, but for want of memory.
use Rattle.std.proofs.Common.{◌≡◌, ◌≢◌, [], ◌∷◌, ◌++◌, length, take, true, inl, inr, Result, Ok, Err, refl, sym, ◌∙◌, ap, subst, append_assoc, arith}
use Rattle.std.specs.List.{list_any}
use Rattle.std.proofs.lemmas.List.Folds.{list_any-append}
use Rattle.std.proofs.Math.Seq.{take-append_seam}
use Rattle.std.proofs.lemmas.List.{append_cancel_left}
use Rattle.parsing.proofs.Fronts.{IsBehind, two_fronts}
use Rattle.bit_base.specs.declared.place.Place.{Place}
use Rattle.vlog_tree.specs.declared.fault.VlogCode.TheVariants.{VlogSyntax, VlogDeep, VlogLeftOut}
use Rattle.vlog_tree.specs.declared.fault.VlogFault.{VlogFault}
use Rattle.vlog_tree.specs.declared.fault.VlogFault.TheVariants.{NoMemory, At}
use Rattle.vlog_tree.specs.declared.token.VToken.{VToken}
use Rattle.vlog_tree.specs.declared.token.VTokens.{VTokens}
use Rattle.vlog_tree.specs.declared.tree_modules.VlogFile.{VlogFile}
use Rattle.vlog_tree.specs.Terminals.{Tokens}
use Rattle.vlog_tree.specs.Modules.{IsReading}
use Rattle.vlog_tree.proofs.Theorem.{one_reading}
use Rattle.vlog_parse.specs.LeftOut.{is_left_out, HasNoneLeftOut, IsFirstLeftOut}
use Rattle.vlog_parse.specs.Depth.{IsShallow, IsFirstDeep}
use Rattle.vlog_parse.specs.Refusal.{Continues, HasNoReading, IsFirstImpossible, IsFirstFault, IsFirstNested, IsTooDeepAt, IsFlat, Answers, OneAnswer}
use Rattle.vlog_parse.proofs.Theorem.{continues_front}
use Rattle.vlog_parse.proofs.Cut.{nested_left, nested_length}
use Rattle.vlog_parse.proofs.Decided.{has_and_none, first_is_left_out, over_not_within, too_deep_not_flat}

-- ---- words that are left out

left_out_behind : (ts : Tokens) (p q : Place) (d : IsFirstLeftOut ts p) (e : IsFirstLeftOut ts q) → IsBehind d.front d.token e.front → ⊥
unfolding IsBehind
left_out_behind ts p q d e h =
    let found : list_any is_left_out e.front ≡ true =
    ap (list_any is_left_out) (h.1 ∙ append_assoc d.front (d.token ∷ []) h.0) ∙ list_any-append is_left_out d.front (d.token ∷ h.0) ∙ rw (d.none, d.left_out) refl in
    has_and_none e.front found e.none

left_out_same : (ts : Tokens) (p q : Place) → IsFirstLeftOut ts p → IsFirstLeftOut ts q → p ≡ q
left_out_same ts p q d e =
    elim (two_fronts d.front e.front d.token e.token d.more e.more (sym d.split ∙ e.split)) [
      | inl h ↦ absurd (left_out_behind ts p q d e h)
      | inr (inl h) ↦ absurd (left_out_behind ts q p e d h)
      | inr (inr same) ↦ d.here ∙ ap (λ t. t.place) same ∙ sym e.here
    ]

-- ---- too much is open or runs on, or too much stands in one another

deep_behind : (ts : Tokens) (p q : Place) (d : IsFirstDeep ts p) (e : IsFirstDeep ts q) → IsBehind d.front d.token e.front → ⊥
unfolding IsBehind
deep_behind ts p q d e h = over_not_within (d.front ++ d.token ∷ []) d.over (e.shallow (d.front ++ d.token ∷ []) h.0 h.1)

deep_same : (ts : Tokens) (p q : Place) → IsFirstDeep ts p → IsFirstDeep ts q → p ≡ q
deep_same ts p q d e =
    elim (two_fronts d.front e.front d.token e.token d.more e.more (sym d.split ∙ e.split)) [
      | inl h ↦ absurd (deep_behind ts p q d e h)
      | inr (inl h) ↦ absurd (deep_behind ts q p e d h)
      | inr (inr same) ↦ d.here ∙ ap (λ t. t.place) same ∙ sym e.here
    ]

deep_shallow : (ts : Tokens) (p : Place) → IsFirstDeep ts p → IsShallow ts → ⊥
deep_shallow ts p d h = over_not_within (d.front ++ d.token ∷ []) d.over (h (d.front ++ d.token ∷ []) d.more (d.split ∙ sym (append_assoc d.front (d.token ∷ []) d.more)))

same_token : (s t : VToken) (xs ys : Tokens) → s ∷ xs ≡ t ∷ ys → s ≡ t
same_token s t xs ys e = cc

nested_same : (ts : Tokens) (p q : Place) → IsFirstNested ts p → IsFirstNested ts q → p ≡ q
nested_same ts p q d e =
    let h = nested_left ts d.rest d.stops q e in
    let left : length (d.token ∷ d.more) ≡ length (e.token ∷ e.more) = sym d.left ∙ h in
    let long = nested_length ts p d in
    let long' = nested_length ts q e in
    let fronts : length d.front ≡ length e.front = omega (arith, left, long, long') in
    let same : d.front ≡ e.front =
    sym (take-append_seam d.front (d.token ∷ d.more)) ∙ ap (take (length d.front)) (sym d.split ∙ e.split) ∙ ap (λ n. take n (e.front ++ e.token ∷ e.more)) fronts
    ∙ take-append_seam e.front (e.token ∷ e.more) in
    let rest : d.token ∷ d.more ≡ e.token ∷ e.more = append_cancel_left e.front (d.token ∷ d.more) (e.token ∷ e.more) (ap (λ front. front ++ d.token ∷ d.more) (sym same) ∙ sym d.split ∙ e.split) in
    d.here ∙ ap (λ t. t.place) (same_token d.token e.token d.more e.more rest) ∙ sym e.here

too_deep_same : (ts : Tokens) (p q : Place) → IsTooDeepAt ts p → IsTooDeepAt ts q → p ≡ q
too_deep_same ts p q (inl d) (inl e) = deep_same ts p q d e
too_deep_same ts p q (inl d) (inr e) = absurd (deep_shallow ts p d e.0)
too_deep_same ts p q (inr d) (inl e) = absurd (deep_shallow ts q e d.0)
too_deep_same ts p q (inr d) (inr e) = nested_same ts p q d.1 e.1

-- ---- tokens without a reading

impossible_before : (front : Tokens) (t : VToken) (whole : Tokens) → IsBehind front t whole → Continues whole → Continues (front ++ t ∷ [])
unfolding IsBehind
impossible_before front t whole h c = continues_front (front ++ t ∷ []) h.0 (subst Continues h.1 c)

impossible_cut : (tokens : VTokens) (p : Place) (d : IsFirstImpossible tokens p) → Continues tokens.list → Continues (d.front ++ d.token ∷ [])
impossible_cut tokens p d c = continues_front (d.front ++ d.token ∷ []) d.more (subst Continues (d.split ∙ sym (append_assoc d.front (d.token ∷ []) d.more)) c)

fault_same : (tokens : VTokens) (p q : Place) → IsFirstFault tokens p → IsFirstFault tokens q → p ≡ q
fault_same tokens p q (inl d) (inl e) =
    elim (two_fronts d.front e.front d.token e.token d.more e.more (sym d.split ∙ e.split)) [
      | inl h ↦ absurd (d.none (impossible_before d.front d.token e.front h e.before))
      | inr (inl h) ↦ absurd (e.none (impossible_before e.front e.token d.front h d.before))
      | inr (inr same) ↦ d.here ∙ ap (λ t. t.place) same ∙ sym e.here
    ]
fault_same tokens p q (inl d) (inr c) = absurd (d.none (impossible_cut tokens p d c.before))
fault_same tokens p q (inr c) (inl d) = absurd (d.none (impossible_cut tokens q d c.before))
fault_same tokens p q (inr c) (inr d) = c.here ∙ sym d.here

-- ---- the answers but want of memory

data Says (tokens : VTokens) : Result VlogFile VlogFault → Type 0 where
  says_file : (f : VlogFile) → IsReading tokens.list f → HasNoneLeftOut tokens.list → IsShallow tokens.list → IsFlat tokens.list → Says tokens (Ok f)
  says_left_out : (place : Place) → IsFirstLeftOut tokens.list place → Says tokens (Err (At VlogLeftOut place [] []))
  says_deep : (place : Place) → HasNoneLeftOut tokens.list → IsTooDeepAt tokens.list place → Says tokens (Err (At VlogDeep place [] []))
  says_syntax : (place : Place) → HasNoneLeftOut tokens.list → IsShallow tokens.list → IsFlat tokens.list → HasNoReading tokens.list → IsFirstFault tokens place
      → Says tokens (Err (At VlogSyntax place [] []))

says : (tokens : VTokens) (a : Result VlogFile VlogFault) → Answers tokens a → a ≢ Err NoMemory → Says tokens a
says tokens (Ok f) h some = says_file f h.0 h.1.0 h.1.1.0 h.1.1.1
says tokens (Err NoMemory) h some = absurd (some refl)
says tokens (Err (At VlogLeftOut place names path)) h some = rw (h.1.0, h.1.1) (says_left_out place h.0)
says tokens (Err (At VlogDeep place names path)) h some = rw (h.1.0, h.1.1) (says_deep place h.0.0 h.0.1)
says tokens (Err (At VlogSyntax place names path)) h some = rw (h.1.0, h.1.1) (says_syntax place h.0.0 h.0.1.0.0 h.0.1.0.1 h.0.1.1.0 h.0.1.1.1)
says tokens (Err (At _ place names path)) h some = absurd h

left_out_not_none : (ts : Tokens) (place : Place) → IsFirstLeftOut ts place → HasNoneLeftOut ts → ⊥
left_out_not_none ts place d none = has_and_none ts (first_is_left_out ts place d) none

same_answer : (tokens : VTokens) (a b : Result VlogFile VlogFault) → Says tokens a → Says tokens b → a ≡ b
same_answer tokens _ _ (says_file f r n s l) (says_file g q m u k) = ap Ok (one_reading f g r.fitting q.fitting (r.same_tokens ∙ sym q.same_tokens))
same_answer tokens _ _ (says_file f r n s l) (says_left_out q e) = absurd (left_out_not_none tokens.list q e n)
same_answer tokens _ _ (says_file f r n s l) (says_deep q m e) = absurd (too_deep_not_flat tokens.list q e s l)
same_answer tokens _ _ (says_file f r n s l) (says_syntax q m u k none e) = absurd (none f r)
same_answer tokens _ _ (says_left_out p d) (says_file g q m u k) = absurd (left_out_not_none tokens.list p d m)
same_answer tokens _ _ (says_left_out p d) (says_left_out q e) = ap (λ place. Err (At VlogLeftOut place [] [])) (left_out_same tokens.list p q d e)
same_answer tokens _ _ (says_left_out p d) (says_deep q m e) = absurd (left_out_not_none tokens.list p d m)
same_answer tokens _ _ (says_left_out p d) (says_syntax q m u k none e) = absurd (left_out_not_none tokens.list p d m)
same_answer tokens _ _ (says_deep p n d) (says_file g q m u k) = absurd (too_deep_not_flat tokens.list p d u k)
same_answer tokens _ _ (says_deep p n d) (says_left_out q e) = absurd (left_out_not_none tokens.list q e n)
same_answer tokens _ _ (says_deep p n d) (says_deep q m e) = ap (λ place. Err (At VlogDeep place [] [])) (too_deep_same tokens.list p q d e)
same_answer tokens _ _ (says_deep p n d) (says_syntax q m u k none e) = absurd (too_deep_not_flat tokens.list p d u k)
same_answer tokens _ _ (says_syntax p n s l none d) (says_file g q m u k) = absurd (none g q)
same_answer tokens _ _ (says_syntax p n s l none d) (says_left_out q e) = absurd (left_out_not_none tokens.list q e n)
same_answer tokens _ _ (says_syntax p n s l none d) (says_deep q m e) = absurd (too_deep_not_flat tokens.list q e s l)
same_answer tokens _ _ (says_syntax p n s l none d) (says_syntax q m u k none' e) = ap (λ place. Err (At VlogSyntax place [] [])) (fault_same tokens p q d e)

pub law : OneAnswer
law tokens a b h g some_a some_b = same_answer tokens a b (says tokens a h some_a) (says tokens b g some_b)
