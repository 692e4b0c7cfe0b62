use Rattle.std.proofs.Common.{◌≡◌, ◌⊎◌, ◌<◌, ℕ, List, length, drop, sym, ap, ◌∙◌, arith, inl, inr, refl}
use Rattle.std.proofs.lemmas.List.{take_rest, with_items_is}
use Rattle.lemma_checker.specs.declared.literal.Literal.{Literal}
use Rattle.watch_lists.specs.Watching.{lists_of}
use Rattle.watch_lists.specs.Visits.{AreWatching, IsGrown, RanIs, AreTrue}
use Rattle.std.specs.Vec.{with_items}
use Rattle.watch_lists.specs.declared.watches.Watches.{Watches}
use Rattle.watch_lists.specs.Watches.{Fits}
use Rattle.watch_lists.proofs.VisitLemmas.{grown_more}
use Rattle.watch_lists.proofs.WatchLists.{length_lists}
use Rattle.watch_lists.proofs.WatchesLemmas.{grown_fewer, fits_short, fits_next, holds_next, brief_from, trail_next, least_forced, short_all, told_of, watching_of, short_next, true_next}
use Rattle.watch_lists.proofs.watches.Watches.run.Goals as goal
use Rattle.watch_lists.proofs.watches.Watches.run.Goals.{then-trail-eq0, else-trail-eq0}

pub visit_short-requires-clause-brief : goal.visit_short-requires-clause-brief
visit_short-requires-clause-brief c = rw (c.as_slice.ensures.value, c.as_slice-2.ensures.value, c.deref.ensures.value, take_rest) (brief_from c.args.self.now.starts.items c.args.self.now.literals.items c.args.self.now.short.items c.if-trail-eq0.from c.requires.fits.short)

pub returns-in-Some-clause-trail : goal.returns-in-Some-clause-trail
returns-in-Some-clause-trail c = λ vars clauses h tr.
    let g = rw (c.as_slice.ensures.value, c.as_slice-2.ensures.value) at c.in_ok-number.ensures.grown in
    let w = rw (c.as_slice.ensures.value, c.as_slice-2.ensures.value, c.as_slice-3.ensures.value) at c.in_ok-number.ensures.watching in
    trail_next (length (lists_of c.args.self.now.lists.items)) clauses c.args.trail.now c.visit_short.new.trail tr (g.forced clauses h.held) g.levels c.requires.fits.watching.plain.size w.plain

pub returns-in-Some-clause-least : goal.returns-in-Some-clause-least
returns-in-Some-clause-least c = λ vars clauses h.
    let g = rw (c.as_slice.ensures.value, c.as_slice-2.ensures.value) at c.in_ok-number.ensures.grown in
    let w = rw (c.as_slice.ensures.value, c.as_slice-2.ensures.value, c.as_slice-3.ensures.value) at c.in_ok-number.ensures.watching in
    least_forced clauses c.args.trail.now.literals.items c.visit_short.new.trail.literals.items c.args.trail.now.reasons.items c.visit_short.new.trail.reasons.items w.plain.lengths (g.forced clauses h.held)

pub returns-in-Some-clause-stays_fitting : goal.returns-in-Some-clause-stays_fitting
returns-in-Some-clause-stays_fitting c =
    let g = rw (c.as_slice.ensures.value, c.as_slice-2.ensures.value) at c.in_ok-number.ensures.grown in
    let w = rw (c.as_slice.ensures.value, c.as_slice-2.ensures.value, c.as_slice-3.ensures.value) at c.in_ok-number.ensures.watching in
    fits_short c.args.self.now c.args.trail.now c.visit_short.new.trail c.requires.fits w g c.visit_short.ensures.done

pub returns-clause-told : goal.returns-clause-told
returns-clause-told c = λ vars clauses h.
    let lits : List Literal = c.args.self.now.literals.items in
    let starts : List ℕ = c.args.self.now.starts.items in
    let short : List ℕ = c.args.self.now.short.items in
    let g1 : IsGrown lits starts lits c.args.trail.now c.visit_short.new.trail = rw (c.as_slice.ensures.value, c.as_slice-2.ensures.value) at c.in_ok-number.ensures.grown in
    let m1 : AreTrue lits starts (drop c.if-trail-eq0.from short) c.visit_short.new.trail.literals.items = rw (c.as_slice.ensures.value, c.as_slice-2.ensures.value, c.deref.ensures.value, take_rest) at (rw c.in_default.is at c.in_ok-number.ensures.met) in
    let why : (c.if-trail-eq0.from ≡ 0) ⊎ ((c.if-trail-eq0.from ≡ c.args.self.now.looked) × (0 < c.args.trail.now.done)) = elim c.if-trail-eq0.branch [ then-trail-eq0 w ↦ inl w.from-is | else-trail-eq0 w ↦ inr (w.from-is, omega (arith, w.if-trail-eq0.false)) ] in
    let all : AreTrue lits starts short c.visit_short.new.trail.literals.items = short_all c.args.self.now c.args.trail.now c.visit_short.new.trail c.if-trail-eq0.from c.requires.fits g1 why m1 in
    let g2 : IsGrown lits starts c.visit_all.new.literals c.visit_short.new.trail c.visit_all.new.trail = rw (c.as_mut_slice.ensures.value, c.as_slice-4.ensures.value) at c.in_ok-told.ensures.grown in
    let ran : RanIs c.in_ok-told.told lits starts c.visit_all.new.literals (lists_of c.visit_all.new.lists) c.visit_all.new.trail = rw (c.as_mut_slice.ensures.value, c.as_slice-4.ensures.value) at c.in_ok-told.ensures.ran in
    told_of c.in_ok-told.told starts lits c.visit_all.new.literals (lists_of c.visit_all.new.lists) short c.visit_all.new.trail clauses ran (short_next starts lits c.visit_all.new.literals short g2.copies c.requires.fits.short) (true_next starts lits c.visit_all.new.literals short c.visit_short.new.trail.literals.items c.visit_all.new.trail.literals.items g2.copies c.requires.fits.short g2.front all) g2.copies h.held

pub returns-clause-only_appends : goal.returns-clause-only_appends
returns-clause-only_appends c = λ vars clauses h.
    let lits : List Literal = c.args.self.now.literals.items in
    let starts : List ℕ = c.args.self.now.starts.items in
    let g1 : IsGrown lits starts lits c.args.trail.now c.visit_short.new.trail = rw (c.as_slice.ensures.value, c.as_slice-2.ensures.value) at c.in_ok-number.ensures.grown in
    let w1 : AreWatching lits starts (lists_of c.args.self.now.lists.items) c.visit_short.new.trail = rw (c.as_slice.ensures.value, c.as_slice-2.ensures.value, c.as_slice-3.ensures.value) at c.in_ok-number.ensures.watching in
    let g2 : IsGrown lits starts c.visit_all.new.literals c.visit_short.new.trail c.visit_all.new.trail = rw (c.as_mut_slice.ensures.value, c.as_slice-4.ensures.value) at c.in_ok-told.ensures.grown in
    (grown_more starts lits lits c.visit_all.new.literals c.args.trail.now c.visit_short.new.trail c.visit_all.new.trail w1.plain.lengths g1 g2).forced clauses h.held

pub returns-clause-trail : goal.returns-clause-trail
returns-clause-trail c = λ vars clauses h tr.
    let lits : List Literal = c.args.self.now.literals.items in
    let starts : List ℕ = c.args.self.now.starts.items in
    let g1 : IsGrown lits starts lits c.args.trail.now c.visit_short.new.trail = rw (c.as_slice.ensures.value, c.as_slice-2.ensures.value) at c.in_ok-number.ensures.grown in
    let w1 : AreWatching lits starts (lists_of c.args.self.now.lists.items) c.visit_short.new.trail = rw (c.as_slice.ensures.value, c.as_slice-2.ensures.value, c.as_slice-3.ensures.value) at c.in_ok-number.ensures.watching in
    let g2 : IsGrown lits starts c.visit_all.new.literals c.visit_short.new.trail c.visit_all.new.trail = rw (c.as_mut_slice.ensures.value, c.as_slice-4.ensures.value) at c.in_ok-told.ensures.grown in
    let ran : RanIs c.in_ok-told.told lits starts c.visit_all.new.literals (lists_of c.visit_all.new.lists) c.visit_all.new.trail = rw (c.as_mut_slice.ensures.value, c.as_slice-4.ensures.value) at c.in_ok-told.ensures.ran in
    let w2 : AreWatching c.visit_all.new.literals starts (lists_of c.visit_all.new.lists) c.visit_all.new.trail = watching_of c.in_ok-told.told starts lits c.visit_all.new.literals (lists_of c.visit_all.new.lists) c.visit_all.new.trail ran in
    let g = grown_more starts lits lits c.visit_all.new.literals c.args.trail.now c.visit_short.new.trail c.visit_all.new.trail w1.plain.lengths g1 g2 in
    let size : length c.args.trail.now.values.items ≡ length (lists_of c.visit_all.new.lists) = c.requires.fits.watching.plain.size ∙ (length_lists c.args.self.now.lists.items ∙ (sym (ap length c.as_mut_slice-2.ensures.value) ∙ (sym c.visit_all.auto.lists ∙ sym (length_lists c.visit_all.new.lists)))) in
    trail_next (length (lists_of c.visit_all.new.lists)) clauses c.args.trail.now c.visit_all.new.trail tr (g.forced clauses h.held) g.levels size w2.plain

pub returns-clause-least : goal.returns-clause-least
returns-clause-least c = λ vars clauses h.
    let lits : List Literal = c.args.self.now.literals.items in
    let starts : List ℕ = c.args.self.now.starts.items in
    let g1 : IsGrown lits starts lits c.args.trail.now c.visit_short.new.trail = rw (c.as_slice.ensures.value, c.as_slice-2.ensures.value) at c.in_ok-number.ensures.grown in
    let w1 : AreWatching lits starts (lists_of c.args.self.now.lists.items) c.visit_short.new.trail = rw (c.as_slice.ensures.value, c.as_slice-2.ensures.value, c.as_slice-3.ensures.value) at c.in_ok-number.ensures.watching in
    let g2 : IsGrown lits starts c.visit_all.new.literals c.visit_short.new.trail c.visit_all.new.trail = rw (c.as_mut_slice.ensures.value, c.as_slice-4.ensures.value) at c.in_ok-told.ensures.grown in
    let ran : RanIs c.in_ok-told.told lits starts c.visit_all.new.literals (lists_of c.visit_all.new.lists) c.visit_all.new.trail = rw (c.as_mut_slice.ensures.value, c.as_slice-4.ensures.value) at c.in_ok-told.ensures.ran in
    let w2 : AreWatching c.visit_all.new.literals starts (lists_of c.visit_all.new.lists) c.visit_all.new.trail = watching_of c.in_ok-told.told starts lits c.visit_all.new.literals (lists_of c.visit_all.new.lists) c.visit_all.new.trail ran in
    let g = grown_more starts lits lits c.visit_all.new.literals c.args.trail.now c.visit_short.new.trail c.visit_all.new.trail w1.plain.lengths g1 g2 in
    least_forced clauses c.args.trail.now.literals.items c.visit_all.new.trail.literals.items c.args.trail.now.reasons.items c.visit_all.new.trail.reasons.items w2.plain.lengths (g.forced clauses h.held)

pub returns-in-Some-clause-fewer : goal.returns-in-Some-clause-fewer
returns-in-Some-clause-fewer c = grown_fewer _ _ _ c.args.trail.now c.visit_short.new.trail c.in_ok-number.ensures.grown

pub returns-in-Some-clause-size : goal.returns-in-Some-clause-size
returns-in-Some-clause-size c =
    let w = rw (c.as_slice.ensures.value, c.as_slice-2.ensures.value, c.as_slice-3.ensures.value) at c.in_ok-number.ensures.watching in
    w.plain.size ∙ sym c.requires.fits.watching.plain.size

pub returns-clause-fewer : goal.returns-clause-fewer
returns-clause-fewer c =
    let a = grown_fewer _ _ _ c.args.trail.now c.visit_short.new.trail c.in_ok-number.ensures.grown in
    let b = grown_fewer _ _ _ c.visit_short.new.trail c.visit_all.new.trail c.in_ok-told.ensures.grown in
    omega (arith, a, b)

pub returns-clause-size : goal.returns-clause-size
returns-clause-size c =
    let lits : List Literal = c.args.self.now.literals.items in
    let starts : List ℕ = c.args.self.now.starts.items in
    let ran : RanIs c.in_ok-told.told lits starts c.visit_all.new.literals (lists_of c.visit_all.new.lists) c.visit_all.new.trail = rw (c.as_mut_slice.ensures.value, c.as_slice-4.ensures.value) at c.in_ok-told.ensures.ran in
    let w2 : AreWatching c.visit_all.new.literals starts (lists_of c.visit_all.new.lists) c.visit_all.new.trail = watching_of c.in_ok-told.told starts lits c.visit_all.new.literals (lists_of c.visit_all.new.lists) c.visit_all.new.trail ran in
    let size : length c.args.trail.now.values.items ≡ length (lists_of c.visit_all.new.lists) = c.requires.fits.watching.plain.size ∙ (length_lists c.args.self.now.lists.items ∙ (sym (ap length c.as_mut_slice-2.ensures.value) ∙ (sym c.visit_all.auto.lists ∙ sym (length_lists c.visit_all.new.lists)))) in
    w2.plain.size ∙ sym size

pub returns-clause-stays_fitting : goal.returns-clause-stays_fitting
returns-clause-stays_fitting c =
    let lits : List Literal = c.args.self.now.literals.items in
    let starts : List ℕ = c.args.self.now.starts.items in
    let short : List ℕ = c.args.self.now.short.items in
    let g1 : IsGrown lits starts lits c.args.trail.now c.visit_short.new.trail = rw (c.as_slice.ensures.value, c.as_slice-2.ensures.value) at c.in_ok-number.ensures.grown in
    let m1 : AreTrue lits starts (drop c.if-trail-eq0.from short) c.visit_short.new.trail.literals.items = rw (c.as_slice.ensures.value, c.as_slice-2.ensures.value, c.deref.ensures.value, take_rest) at (rw c.in_default.is at c.in_ok-number.ensures.met) in
    let why : (c.if-trail-eq0.from ≡ 0) ⊎ ((c.if-trail-eq0.from ≡ c.args.self.now.looked) × (0 < c.args.trail.now.done)) = elim c.if-trail-eq0.branch [ then-trail-eq0 w ↦ inl w.from-is | else-trail-eq0 w ↦ inr (w.from-is, omega (arith, w.if-trail-eq0.false)) ] in
    let all : AreTrue lits starts short c.visit_short.new.trail.literals.items = short_all c.args.self.now c.args.trail.now c.visit_short.new.trail c.if-trail-eq0.from c.requires.fits g1 why m1 in
    let g2 : IsGrown lits starts c.visit_all.new.literals c.visit_short.new.trail c.visit_all.new.trail = rw (c.as_mut_slice.ensures.value, c.as_slice-4.ensures.value) at c.in_ok-told.ensures.grown in
    let ran : RanIs c.in_ok-told.told lits starts c.visit_all.new.literals (lists_of c.visit_all.new.lists) c.visit_all.new.trail = rw (c.as_mut_slice.ensures.value, c.as_slice-4.ensures.value) at c.in_ok-told.ensures.ran in
    let w2 : AreWatching c.visit_all.new.literals starts (lists_of c.visit_all.new.lists) c.visit_all.new.trail = watching_of c.in_ok-told.told starts lits c.visit_all.new.literals (lists_of c.visit_all.new.lists) c.visit_all.new.trail ran in
    let now : Watches = record { literals = with_items c.args.self.now.literals c.visit_all.new.literals; starts = c.args.self.now.starts; lists = with_items c.args.self.now.lists c.visit_all.new.lists; short = c.args.self.now.short; looked = c.len-self.result } in
    let at_literals : now.literals.items ≡ c.visit_all.new.literals = with_items_is c.args.self.now.literals c.visit_all.new.literals (c.visit_all.auto.literals ∙ c.as_mut_slice.ensures.len) in
    let at_lists : now.lists.items ≡ c.visit_all.new.lists = with_items_is c.args.self.now.lists c.visit_all.new.lists (c.visit_all.auto.lists ∙ c.as_mut_slice-2.ensures.len) in
    let looked : now.looked ≡ length short = c.len-self.ensures ∙ c.args.self.now.short.ok.0 in
    let fits : Fits now c.visit_all.new.trail = fits_next c.args.self.now now c.visit_all.new.literals (lists_of c.visit_all.new.lists) c.visit_short.new.trail c.visit_all.new.trail at_literals (ap lists_of at_lists) refl refl looked c.requires.fits.short all g2 w2 in
    fits

pub returns-clause-same_clauses : goal.returns-clause-same_clauses
returns-clause-same_clauses c = λ vars clauses h.
    let lits : List Literal = c.args.self.now.literals.items in
    let starts : List ℕ = c.args.self.now.starts.items in
    let short : List ℕ = c.args.self.now.short.items in
    let g1 : IsGrown lits starts lits c.args.trail.now c.visit_short.new.trail = rw (c.as_slice.ensures.value, c.as_slice-2.ensures.value) at c.in_ok-number.ensures.grown in
    let m1 : AreTrue lits starts (drop c.if-trail-eq0.from short) c.visit_short.new.trail.literals.items = rw (c.as_slice.ensures.value, c.as_slice-2.ensures.value, c.deref.ensures.value, take_rest) at (rw c.in_default.is at c.in_ok-number.ensures.met) in
    let why : (c.if-trail-eq0.from ≡ 0) ⊎ ((c.if-trail-eq0.from ≡ c.args.self.now.looked) × (0 < c.args.trail.now.done)) = elim c.if-trail-eq0.branch [ then-trail-eq0 w ↦ inl w.from-is | else-trail-eq0 w ↦ inr (w.from-is, omega (arith, w.if-trail-eq0.false)) ] in
    let all : AreTrue lits starts short c.visit_short.new.trail.literals.items = short_all c.args.self.now c.args.trail.now c.visit_short.new.trail c.if-trail-eq0.from c.requires.fits g1 why m1 in
    let g2 : IsGrown lits starts c.visit_all.new.literals c.visit_short.new.trail c.visit_all.new.trail = rw (c.as_mut_slice.ensures.value, c.as_slice-4.ensures.value) at c.in_ok-told.ensures.grown in
    let ran : RanIs c.in_ok-told.told lits starts c.visit_all.new.literals (lists_of c.visit_all.new.lists) c.visit_all.new.trail = rw (c.as_mut_slice.ensures.value, c.as_slice-4.ensures.value) at c.in_ok-told.ensures.ran in
    let w2 : AreWatching c.visit_all.new.literals starts (lists_of c.visit_all.new.lists) c.visit_all.new.trail = watching_of c.in_ok-told.told starts lits c.visit_all.new.literals (lists_of c.visit_all.new.lists) c.visit_all.new.trail ran in
    let now : Watches = record { literals = with_items c.args.self.now.literals c.visit_all.new.literals; starts = c.args.self.now.starts; lists = with_items c.args.self.now.lists c.visit_all.new.lists; short = c.args.self.now.short; looked = c.len-self.result } in
    let at_literals : now.literals.items ≡ c.visit_all.new.literals = with_items_is c.args.self.now.literals c.visit_all.new.literals (c.visit_all.auto.literals ∙ c.as_mut_slice.ensures.len) in
    let at_lists : now.lists.items ≡ c.visit_all.new.lists = with_items_is c.args.self.now.lists c.visit_all.new.lists (c.visit_all.auto.lists ∙ c.as_mut_slice-2.ensures.len) in
    let looked : now.looked ≡ length short = c.len-self.ensures ∙ c.args.self.now.short.ok.0 in
    let fits : Fits now c.visit_all.new.trail = fits_next c.args.self.now now c.visit_all.new.literals (lists_of c.visit_all.new.lists) c.visit_short.new.trail c.visit_all.new.trail at_literals (ap lists_of at_lists) refl refl looked c.requires.fits.short all g2 w2 in
    let size : length now.lists.items ≡ length c.args.self.now.lists.items = ap length at_lists ∙ (c.visit_all.auto.lists ∙ ap length c.as_mut_slice-2.ensures.value) in
    holds_next c.args.self.now now c.visit_all.new.literals vars clauses c.visit_short.new.trail c.visit_all.new.trail fits size at_literals refl g2 h
