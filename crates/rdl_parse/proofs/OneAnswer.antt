-- That the tokens determine what the reader answers, but for want of memory.
use Rattle.std.proofs.Common.{◌≡◌, ◌≢◌, ◌<◌, ◌≤◌, List, [], ◌∷◌, ◌++◌, inl, inr, refl, sym, ◌∙◌, ap, subst, append_assoc, arith}
use Rattle.std.specs.Prelude.{Result, Ok, Err}
use Rattle.parsing.proofs.Fronts.{IsBehind, two_fronts}
use Rattle.bit_base.specs.declared.place.Place.{Place}
use Rattle.rdl_tree.specs.declared.fault.RdlCode.TheVariants.{RdlSyntax, RdlDeep}
use Rattle.rdl_tree.specs.declared.fault.RdlFault.{RdlFault}
use Rattle.rdl_tree.specs.declared.fault.RdlFault.TheVariants.{NoMemory, At}
use Rattle.rdl_tree.specs.declared.token.RdlToken.{RdlToken}
use Rattle.rdl_tree.specs.declared.token.RdlTokens.{RdlTokens}
use Rattle.rdl_tree.specs.declared.tree.RdlFile.{RdlFile}
use Rattle.rdl_tree.specs.Tree.{Tokens, IsReading}
use Rattle.rdl_parse.specs.Depth.{open_after, IsShallow, IsFirstDeep}
use Rattle.rdl_parse.specs.Refusal.{Continues, HasNoReading, IsFirstImpossible, IsFirstFault, Refuses, Answers, OneAnswer}
use Rattle.rdl_parse.proofs.Theorem.{one_reading}

-- ---- too many open brackets

deep_behind : (ts : Tokens) (p q : Place) (d : IsFirstDeep ts p) (e : IsFirstDeep ts q) → IsBehind d.front d.token e.front → ⊥
unfolding IsBehind
deep_behind ts p q d e h = let few : open_after (d.front ++ d.token ∷ []) ≤ 64 = e.shallow (d.front ++ d.token ∷ []) h.0 h.1 in let many = d.deep in omega arith

deep_same : (ts : Tokens) (p q : Place) → IsFirstDeep ts p → IsFirstDeep ts q → p ≡ q
deep_same ts p q d e =
    elim (two_fronts d.front e.front d.token e.token d.more e.more (sym d.split ∙ e.split)) [
      | inl h ↦ absurd (deep_behind ts p q d e h)
      | inr (inl h) ↦ absurd (deep_behind ts q p e d h)
      | inr (inr same) ↦ d.here ∙ ap (λ t. t.place) same ∙ sym e.here
    ]

deep_shallow : (ts : Tokens) (p : Place) → IsFirstDeep ts p → IsShallow ts → ⊥
deep_shallow ts p d h =
    let few : open_after (d.front ++ d.token ∷ []) ≤ 64 = h (d.front ++ d.token ∷ []) d.more (d.split ∙ sym (append_assoc d.front (d.token ∷ []) d.more)) in
    let many = d.deep in
    omega arith

-- ---- tokens without a reading

continues_front : (front more : Tokens) → Continues (front ++ more) → Continues front
continues_front front more (f, (fits, (ys, e))) = (f, (fits, (more ++ ys, e ∙ append_assoc front more ys)))

impossible_before : (front : Tokens) (t : RdlToken) (whole : Tokens) → IsBehind front t whole → Continues whole → Continues (front ++ t ∷ [])
unfolding IsBehind
impossible_before front t whole h c = continues_front (front ++ t ∷ []) h.0 (subst Continues h.1 c)

impossible_cut : (tokens : RdlTokens) (p : Place) (d : IsFirstImpossible tokens p) → Continues tokens.list → Continues (d.front ++ d.token ∷ [])
impossible_cut tokens p d c = continues_front (d.front ++ d.token ∷ []) d.more (subst Continues (d.split ∙ sym (append_assoc d.front (d.token ∷ []) d.more)) c)

fault_same : (tokens : RdlTokens) (p q : Place) → IsFirstFault tokens p → IsFirstFault tokens q → p ≡ q
fault_same tokens p q (inl d) (inl e) =
    elim (two_fronts d.front e.front d.token e.token d.more e.more (sym d.split ∙ e.split)) [
      | inl h ↦ absurd (d.none (impossible_before d.front d.token e.front h e.before))
      | inr (inl h) ↦ absurd (e.none (impossible_before e.front e.token d.front h d.before))
      | inr (inr same) ↦ d.here ∙ ap (λ t. t.place) same ∙ sym e.here
    ]
fault_same tokens p q (inl d) (inr c) = absurd (d.none (impossible_cut tokens p d c.before))
fault_same tokens p q (inr c) (inl d) = absurd (d.none (impossible_cut tokens q d c.before))
fault_same tokens p q (inr c) (inr d) = c.here ∙ sym d.here

-- ---- the answers but want of memory

data Says (tokens : RdlTokens) : Result RdlFile RdlFault → Type 0 where
  says_file : (f : RdlFile) → IsReading tokens f → IsShallow tokens.list → Says tokens (Ok f)
  says_deep : (place : Place) → IsFirstDeep tokens.list place → Says tokens (Err (At RdlDeep place))
  says_syntax : (place : Place) → IsShallow tokens.list → HasNoReading tokens → IsFirstFault tokens place → Says tokens (Err (At RdlSyntax place))

says : (tokens : RdlTokens) (a : Result RdlFile RdlFault) → Answers tokens a → a ≢ Err NoMemory → Says tokens a
says tokens (Ok f) h some = says_file f h.0 h.1
says tokens (Err NoMemory) h some = absurd (some refl)
says tokens (Err (At RdlDeep place)) h some = says_deep place h
says tokens (Err (At RdlSyntax place)) h some = says_syntax place h.0 h.1.0 h.1.1
says tokens (Err (At _ place)) h some = absurd h

same_answer : (tokens : RdlTokens) (a b : Result RdlFile RdlFault) → Says tokens a → Says tokens b → a ≡ b
same_answer tokens _ _ (says_file f r s) (says_file g q u) = ap Ok (one_reading f g r.fitting q.fitting (r.same_tokens ∙ sym q.same_tokens) (r.same_end ∙ sym q.same_end))
same_answer tokens _ _ (says_file f r s) (says_deep q d) = absurd (deep_shallow tokens.list q d s)
same_answer tokens _ _ (says_file f r s) (says_syntax q u none e) = absurd (none f r)
same_answer tokens _ _ (says_deep p d) (says_file g r s) = absurd (deep_shallow tokens.list p d s)
same_answer tokens _ _ (says_deep p d) (says_deep q e) = ap (λ place. Err (At RdlDeep place)) (deep_same tokens.list p q d e)
same_answer tokens _ _ (says_deep p d) (says_syntax q u none e) = absurd (deep_shallow tokens.list p d u)
same_answer tokens _ _ (says_syntax p s none d) (says_file g r u) = absurd (none g r)
same_answer tokens _ _ (says_syntax p s none d) (says_deep q e) = absurd (deep_shallow tokens.list q e s)
same_answer tokens _ _ (says_syntax p s none d) (says_syntax q u none' e) = ap (λ place. Err (At RdlSyntax place)) (fault_same tokens p q d e)

pub law : OneAnswer
law tokens a b h g some_a some_b = same_answer tokens a b (says tokens a h some_a) (says tokens b g some_b)
