-- Two answers to one description are equal.
use Rattle.std.proofs.Common.{◌≡◌, ℕ, zero, suc, ◌<◌, Ok, Err, inl, inr, refl, ap, sym, subst, ◌∙◌, arith}
use Rattle.std.proofs.lemmas.Bool.{cases_lt}
use Rattle.bit_base.specs.declared.place.Place.{Place}
use Rattle.bit_base.proofs.Places.{one_is_before}
use Rattle.rdl_tree.specs.declared.fault.RdlCode.{RdlCode}
use Rattle.rdl_tree.specs.declared.fault.RdlCode.TheVariants.{RdlByte, RdlSyntax, RdlDeep, RdlName, RdlProperty, RdlValue, RdlPlace, RdlSize, NoReset}
use Rattle.rdl_tree.specs.declared.fault.RdlFault.TheVariants.{NoMemory, At}
use Rattle.rdl_tree.specs.declared.tree.RdlFile.{RdlFile}
use Rattle.rdl_elab.specs.Refusals.{IsName, IsProperty, IsValue, IsPlace, IsSize, HasNone, IsFirst, IsFine, Refuses}
use Rattle.rdl_elab.specs.OneAnswer.{HasOneAnswer}

-- the conditions in the order of their codes
abbrev condition : ℕ → RdlFile → Place → Type 0
condition zero = IsName
condition (suc zero) = IsProperty
condition (suc (suc zero)) = IsValue
condition (suc (suc (suc zero))) = IsPlace
condition _ = IsSize

abbrev code_of : ℕ → RdlCode
code_of zero = RdlName
code_of (suc zero) = RdlProperty
code_of (suc (suc zero)) = RdlValue
code_of (suc (suc (suc zero))) = RdlPlace
code_of _ = RdlSize

record Found (file : RdlFile) (code : RdlCode) (p : Place) : Type 0 where
  at : ℕ
  coded : code ≡ code_of at
  first : IsFirst (condition at) file p
  lower : (k : ℕ) → k < at → HasNone (condition k) file

found : (file : RdlFile) (code : RdlCode) (p : Place) → Refuses file (At code p) → Found file code p
found file RdlName p h = record { at = 0; coded = refl; first = h; lower = λ k lt. absurd (omega (arith, lt)) }
found file RdlProperty p h = record { at = 1; coded = refl; first = h.1; lower = below }
  where
    below : (k : ℕ) → k < 1 → HasNone (condition k) file
    below zero lt = h.0
    below (suc k) lt = absurd (omega (arith, lt))
found file RdlValue p h = record { at = 2; coded = refl; first = h.2; lower = below }
  where
    below : (k : ℕ) → k < 2 → HasNone (condition k) file
    below zero lt = h.0
    below (suc zero) lt = h.1
    below (suc (suc k)) lt = absurd (omega (arith, lt))
found file RdlPlace p h = record { at = 3; coded = refl; first = h.3; lower = below }
  where
    below : (k : ℕ) → k < 3 → HasNone (condition k) file
    below zero lt = h.0
    below (suc zero) lt = h.1
    below (suc (suc zero)) lt = h.2
    below (suc (suc (suc k))) lt = absurd (omega (arith, lt))
found file RdlSize p h = record { at = 4; coded = refl; first = h.4; lower = below }
  where
    below : (k : ℕ) → k < 4 → HasNone (condition k) file
    below zero lt = h.0
    below (suc zero) lt = h.1
    below (suc (suc zero)) lt = h.2
    below (suc (suc (suc zero))) lt = h.3
    below (suc (suc (suc (suc k)))) lt = absurd (omega (arith, lt))
found file RdlByte p h = absurd h
found file RdlSyntax p h = absurd h
found file RdlDeep p h = absurd h
found file NoReset p h = absurd h

fine_has_none : (file : RdlFile) (k : ℕ) → IsFine file → HasNone (condition k) file
fine_has_none file zero h = h.names
fine_has_none file (suc zero) h = h.properties
fine_has_none file (suc (suc zero)) h = h.values
fine_has_none file (suc (suc (suc zero))) h = h.places
fine_has_none file (suc (suc (suc (suc k)))) h = h.sizes

same_at : (file : RdlFile) (c d : RdlCode) (p q : Place) (f : Found file c p) (g : Found file d q) → f.at ≡ g.at
same_at file c d p q f g = elim (cases_lt f.at g.at) [
  | inl lt ↦ absurd (g.lower f.at lt p f.first.here)
  | inr ge ↦ elim (cases_lt g.at f.at) [
    | inl lt ↦ absurd (f.lower g.at lt q g.first.here)
    | inr le ↦ omega (arith, ge, le)
  ]
]

same_refusal : (file : RdlFile) (c d : RdlCode) (p q : Place) → Refuses file (At c p) → Refuses file (At d q) → At c p ≡ At d q
same_refusal file c d p q a b =
    let f = found file c p a in
    let g = found file d q b in
    let same : f.at ≡ g.at = same_at file c d p q f g in
    let h : IsFirst (condition g.at) file p = subst (λ (k : ℕ). IsFirst (condition k) file p) same f.first in
    let place : p ≡ q = one_is_before p q (g.first.first p h.here) (h.first q g.first.here) in
    ap (λ x. At x p) (f.coded ∙ ap code_of same ∙ sym g.coded) ∙ ap (At d) place

pub one_answer : HasOneAnswer
one_answer file (Ok x) (Ok y) a b = refl
one_answer file (Ok x) (Err NoMemory) a b = absurd b
one_answer file (Ok x) (Err (At code p)) a b = let f = found file code p b in absurd (fine_has_none file f.at a p f.first.here)
one_answer file (Err NoMemory) y a b = absurd a
one_answer file (Err (At code p)) (Ok y) a b = let f = found file code p a in absurd (fine_has_none file f.at b p f.first.here)
one_answer file (Err (At code p)) (Err NoMemory) a b = absurd b
one_answer file (Err (At c p)) (Err (At d q)) a b = ap Err (same_refusal file c d p q a b)
