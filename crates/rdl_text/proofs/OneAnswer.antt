-- Two answers to one description are equal.
use Rattle.std.proofs.Common.{◌≡◌, Ok, Err, refl, ap, sym, subst, ◌∙◌}
use Rattle.bit_base.specs.declared.place.Place.{Place}
use Rattle.bit_base.proofs.Places.{one_is_before}
use Rattle.rdl_tree.specs.declared.fault.RdlCode.{RdlCode}
use Rattle.rdl_tree.specs.declared.fault.RdlCode.TheVariants.{RdlByte, RdlSyntax, RdlDeep, RdlName, RdlProperty, RdlValue, RdlPlace, RdlSize, NoReset}
use Rattle.rdl_tree.specs.declared.fault.RdlFault.TheVariants.{NoMemory, At}
use Rattle.rdl_tree.specs.declared.tree.RdlFile.{RdlFile}
use Rattle.rdl_text.specs.declared.text.Check.{Check}
use Rattle.rdl_text.specs.declared.text.Check.TheVariants.{Names, Properties, Values}
use Rattle.rdl_text.specs.Refusals.{HasNone, IsFirstFault, IsFine, Refuses}
use Rattle.rdl_text.specs.OneAnswer.{HasOneAnswer}

abbrev code_of : Check → RdlCode
code_of Names = RdlName
code_of Properties = RdlProperty
code_of Values = RdlValue

-- the checks before one have no fault
abbrev LowerHaveNone : Check → RdlFile → Type 0
LowerHaveNone Names file = Unit {0}
LowerHaveNone Properties file = HasNone Names file
LowerHaveNone Values file = HasNone Names file × HasNone Properties file

record Found (file : RdlFile) (code : RdlCode) (p : Place) : Type 0 where
  what : Check
  coded : code ≡ code_of what
  first : IsFirstFault what file p
  lower : LowerHaveNone what file

found : (file : RdlFile) (code : RdlCode) (p : Place) → Refuses file (At code p) → Found file code p
found file RdlName p h = record { what = Names; coded = refl; first = h; lower = tt }
found file RdlProperty p h = record { what = Properties; coded = refl; first = h.1; lower = h.0 }
found file RdlValue p h = record { what = Values; coded = refl; first = h.2; lower = (h.0, h.1) }
found file RdlByte p h = absurd h
found file RdlSyntax p h = absurd h
found file RdlDeep p h = absurd h
found file RdlPlace p h = absurd h
found file RdlSize p h = absurd h
found file NoReset p h = absurd h

fine_has_none : (file : RdlFile) (what : Check) → IsFine file → HasNone what file
fine_has_none file Names h = h.names
fine_has_none file Properties h = h.properties
fine_has_none file Values h = h.values

-- two checks that both have the first fault are one
same_check : (file : RdlFile) (c d : Check) (p q : Place) → IsFirstFault c file p → IsFirstFault d file q → LowerHaveNone c file → LowerHaveNone d file → c ≡ d
same_check file Names Names p q a b l m = refl
same_check file Names Properties p q a b l m = absurd (m p a.here)
same_check file Names Values p q a b l m = absurd (m.0 p a.here)
same_check file Properties Names p q a b l m = absurd (l q b.here)
same_check file Properties Properties p q a b l m = refl
same_check file Properties Values p q a b l m = absurd (m.1 p a.here)
same_check file Values Names p q a b l m = absurd (l.0 q b.here)
same_check file Values Properties p q a b l m = absurd (l.1 q b.here)
same_check file Values Values p q a b l m = refl

same_place : (file : RdlFile) (c : Check) (p q : Place) → IsFirstFault c file p → IsFirstFault c file q → p ≡ q
same_place file c p q a b = one_is_before p q (b.first p a.here) (a.first q b.here)

same_refusal : (file : RdlFile) (c d : RdlCode) (p q : Place) → Refuses file (At c p) → Refuses file (At d q) → At c p ≡ At d q
same_refusal file c d p q a b =
    let f = found file c p a in
    let g = found file d q b in
    let same : f.what ≡ g.what = same_check file f.what g.what p q f.first g.first f.lower g.lower in
    let place : p ≡ q = same_place file g.what p q (subst (λ w. IsFirstFault w file p) same f.first) g.first in
    ap (λ x. At x p) (f.coded ∙ ap code_of same ∙ sym g.coded) ∙ ap (At d) place

pub one_answer : HasOneAnswer
one_answer file (Ok x) (Ok y) a b = refl
one_answer file (Ok x) (Err NoMemory) a b = absurd b
one_answer file (Ok x) (Err (At code p)) a b = let f = found file code p b in absurd (fine_has_none file f.what a p f.first.here)
one_answer file (Err NoMemory) y a b = absurd a
one_answer file (Err (At code p)) (Ok y) a b = let f = found file code p a in absurd (fine_has_none file f.what b p f.first.here)
one_answer file (Err (At code p)) (Err NoMemory) a b = absurd b
one_answer file (Err (At c p)) (Err (At d q)) a b = ap Err (same_refusal file c d p q a b)
