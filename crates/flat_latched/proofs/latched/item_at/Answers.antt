use Rattle.std.proofs.Common.{◌≡◌, ◌∙◌, sym, ap, length, refl, arith, Bool, true, false, Some, inl, inr}
use Rattle.std.proofs.lemmas.Bool.{cases_lt}
use Rattle.std.specs.Prelude.{slice_get}
use Rattle.std.proofs.lemmas.Option.{slice_get_read, slice_get-get_or, slice_get_within}
use Rattle.flat_design.specs.Systems.{place_of}
use Rattle.flat_latched.proofs.Firsts.{some_same}
use Rattle.flat_latched.proofs.latched.item_at.Goals as goal

pub returns-then-is_at-clause-at : goal.returns-then-is_at-clause-at
returns-then-is_at-clause-at c = record {
  number = c.loop-k.k;
  there = slice_get_read c.args.items.now (length c.args.items.now) c.loop-k.k _ refl c.loop-k-test.true c.index-items-k.is;
  place = (c.is_at.ensures.0 c.if-is_at.true).0;
  net = slice_get-get_or c.args.found.now c.loop-k.k _ (omega arith) ∙ ap Some (c.is_at.ensures.0 c.if-is_at.true).1;
}

differ : (b : Bool) → b ≡ true → b ≡ false → ⊥
differ b h k = cc

pub loop-k-preserved : goal.loop-k-preserved
loop-k-preserved c x h less = elim (cases_lt h.number c.loop-k.k) [
  | inl before ↦ c.loop-k.invariant x h before
  | inr more ↦
      let e : h.number ≡ c.loop-k.k = omega arith in
      let here = slice_get_read c.args.items.now (length c.args.items.now) c.loop-k.k _ refl c.loop-k-test.true c.index-items-k.is in
      let there = slice_get-get_or c.args.found.now c.loop-k.k _ (omega arith) in
      differ c.is_at.result (c.is_at.ensures.1 (ap place_of (some_same (sym here ∙ ap (slice_get c.args.items.now) (sym e) ∙ h.there)) ∙ h.place, some_same (sym there ∙ ap (slice_get c.args.found.now) (sym e) ∙ h.net))) c.if-is_at.false
]

pub returns-clause-none : goal.returns-clause-none
returns-clause-none c x h = c.loop-k.invariant x h (let inside = slice_get_within c.args.items.now h.number x h.there in omega arith)
