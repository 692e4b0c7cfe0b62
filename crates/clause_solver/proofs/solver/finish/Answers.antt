use Rattle.std.proofs.Common.{arith, ◌≡◌, ◌+◌, ◌-◌, ◌*◌, ◌++◌, ◌∷◌, [], ◌∙◌, sym, ap, subst, refl, length, length-append, append_assoc, true, ℕ, Bool, List, Some, slice_get}
use Rattle.lemma_checker.specs.declared.literal.Literal.{Literal}
use Rattle.watch_lists.specs.declared.trail.Trail.{Trail}
use Rattle.watch_lists.specs.declared.watches.Watches.{Watches}
use Rattle.watch_lists.specs.Watches.{Holds, Fits, ArePairGuarded}
use Rattle.watch_lists.specs.FitLaws.{IsCut}
use Rattle.clause_solver.specs.Solver.{all_of, ArePairOrOne}
use Rattle.clause_solver.proofs.WatchLemmas.{stop_pair, stop_guarded, back_fits, last_at, last_clause}
use Rattle.std.proofs.lemmas.Option.{same_Some, slice_get_read, slice_get_within}
use Rattle.std.proofs.lemmas.List.{length_push}
use Rattle.lemma_checker.specs.Clauses.{has}
use Rattle.clause_solver.proofs.StopLemmas.{stop_new, news_push}
use Rattle.clause_solver.proofs.SolverLemmas.{empty_last, learned_range, finish_trail}
use Rattle.clause_solver.proofs.solver.finish.Goals as goal

pub push-requires : goal.push-requires
push-requires c =
    let more = c.in-Ok.ensures.added in
    let same = same_Some _ _ (sym more.result ∙ c.requires.analysis.chain) in
    let stop = rw c.in-Some.is at c.requires.analysis.stop in
    let member : has c.in-Some.stop.literal.0 more.clause ≡ true = ap (λ (g : ℕ → Bool). g c.in-Some.stop.literal.0) same ∙ stop.member in
    let range = learned_range _ _ _ _ (rw more.added at c.try_chain.new.self.over) member in
    record { below = omega (arith, range.1, c.cut.ensures.size, c.requires.ready.state.size, c.try_chain.ensures.vars) }

pub watch_last-requires-clause-some : goal.watch_last-requires-clause-some
watch_last-requires-clause-some c = let more = c.in-Ok.ensures.added in omega (arith, ap length more.added, length_push c.args.lemmas.now.added more.clause)

pub watch_last-requires-clause-sound : goal.watch_last-requires-clause-sound
watch_last-requires-clause-sound c = c.requires.ready.holds.sound

pub watch_last-requires-clause-size : goal.watch_last-requires-clause-size
watch_last-requires-clause-size c = c.requires.ready.holds.size ∙ ap (λ (v : ℕ). 2 * v + 2) (sym c.try_chain.ensures.vars)

pub watch_last-requires-clause-pair : goal.watch_last-requires-clause-pair
watch_last-requires-clause-pair c = λ d is.
    let more = c.in-Ok.ensures.added in
    let same = same_Some _ _ (sym more.result ∙ c.requires.analysis.chain) in
    let stop = rw c.in-Some.is at c.requires.analysis.stop in
    subst (λ (z : List Literal). ArePairOrOne z c.in-Some.stop.literal.0 c.in-Some.stop.second.0) (sym (last_clause c.args.lemmas.now.added c.try_chain.new.self.added more.clause d more.added is)) (stop_pair c.args.trail.now.literals.items c.args.trail.now.starts.items c.requires.analysis.set c.in-Some.stop.literal.0 c.in-Some.stop.second.0 c.in-Some.stop.level more.clause stop same)

pub returns-in-None-clause-turn : goal.returns-in-None-clause-turn
returns-in-None-clause-turn c =
    let more = c.in-Ok.ensures.added in
    rw (c.try_chain.ensures.clauses, more.added) (empty_last c.args.lemmas.now.formula.clauses c.args.lemmas.now.added more.clause c.requires.analysis.set (same_Some _ _ (sym more.result ∙ c.requires.analysis.chain)) (rw c.in-None.is at c.requires.analysis.stop))

pub returns-in_ok-watch_last-in-Some-clause-turn : goal.returns-in_ok-watch_last-in-Some-clause-turn
returns-in_ok-watch_last-in-Some-clause-turn c =
    let more = c.in-Ok.ensures.added in
    let same = same_Some _ _ (sym more.result ∙ c.requires.analysis.chain) in
    let stop = rw c.in-Some.is at c.requires.analysis.stop in
    let member : has c.in-Some.stop.literal.0 more.clause ≡ true = ap (λ (g : ℕ → Bool). g c.in-Some.stop.literal.0) same ∙ stop.member in
    let range = learned_range _ _ _ _ (rw more.added at c.try_chain.new.self.over) member in
    let long = c.push.ensures.size ∙ c.cut.ensures.size in
    let within = slice_get_within _ _ _ stop.is in
    let place_is = slice_get_read c.args.trail.now.starts.items (length c.args.trail.now.starts.items) c.in-Some.stop.level c.index-place.result.now refl within c.index-place.ensures in
    let count : length (c.args.lemmas.now.formula.clauses ++ c.args.lemmas.now.added) ≡ length c.args.lemmas.now.formula.clauses + length c.args.lemmas.now.added = length-append c.args.lemmas.now.formula.clauses c.args.lemmas.now.added in
    let one : length c.try_chain.new.self.added ≡ length c.args.lemmas.now.added + 1 = ap length more.added ∙ length_push c.args.lemmas.now.added more.clause in
    let w : Watches = c.args.watches.now in
    let cs : List (List Literal) = all_of c.args.lemmas.now in
    let vars : ℕ = c.args.lemmas.now.formula.vars in
    let t : Trail = c.args.trail.now in
    let last_is : slice_get c.try_chain.new.self.added (length c.try_chain.new.self.added - 1) ≡ Some more.clause = ap (λ (z : List (List Literal)). slice_get z (length z - 1)) more.added ∙ last_at c.args.lemmas.now.added more.clause in
    let cut : IsCut t c.cut.new.self c.in-Some.stop.level c.index-place.result.now = record { literals = c.cut.ensures.literals; reasons = c.cut.ensures.reasons; starts = c.cut.ensures.starts; values = c.cut.ensures.values; size = c.cut.ensures.size; done = omega (arith, c.cut.ensures.done) } in
    let e = c.in_ok-push-in-Some.ensures in
    let back : Fits w c.push.new.self = back_fits w vars cs t c.cut.new.self c.push.new.self c.requires.analysis.set c.in-Some.stop.literal c.in-Some.stop.second.0 c.in-Some.stop.level c.index-place.result.now c.in-Ok.id c.requires.ready.holds c.requires.ready.fits c.requires.ready.state.of stop place_is cut (omega (arith, range.1, c.try_chain.ensures.vars)) range.0 e.literals e.reasons e.values c.push.ensures.starts c.push.ensures.done in
    let guarded : ArePairGuarded more.clause c.in-Some.stop.literal.0 c.in-Some.stop.second.0 c.push.new.self = stop_guarded _ cs t.literals.items t.reasons.items t.starts.items t.values.items c.requires.analysis.set c.in-Some.stop.literal c.in-Some.stop.second.0 c.in-Some.stop.level c.index-place.result.now more.clause c.push.new.self c.requires.ready.state.of stop place_is same back.watching.plain.apart (e.literals ∙ ap (λ (q : List Literal). q ++ c.in-Some.stop.literal ∷ []) c.cut.ensures.literals) (c.push.ensures.starts ∙ c.cut.ensures.starts) in
    let held : Holds c.watch_last.new.watches vars (cs ++ more.clause ∷ []) = c.in_ok-watch_last-in-Some.ensures.holds vars cs more.clause last_is c.requires.ready.holds in
    let joined : Holds c.watch_last.new.watches vars (c.args.lemmas.now.formula.clauses ++ (c.args.lemmas.now.added ++ more.clause ∷ [])) = subst (Holds c.watch_last.new.watches vars) (append_assoc c.args.lemmas.now.formula.clauses c.args.lemmas.now.added (more.clause ∷ [])) held in
    record {
      ready = record {
        state = record {
          of = rw (long, c.in_ok-push-in-Some.ensures.literals, c.in_ok-push-in-Some.ensures.reasons, c.in_ok-push-in-Some.ensures.values, c.push.ensures.starts, c.cut.ensures.literals, c.cut.ensures.reasons, c.cut.ensures.starts, c.try_chain.ensures.clauses, more.added)
              (finish_trail _ _ _ _ _ _ _ _ _ _ _ c.in-Some.stop.literal c.in-Some.stop.second c.in-Ok.id more.clause c.requires.ready.state.of stop place_is same (omega (arith, range.1, c.requires.ready.state.size, c.try_chain.ensures.vars)) range.0 (omega (arith, more.counted, count, one)) c.cut.ensures.size c.cut.ensures.values);
          size = long ∙ (c.requires.ready.state.size ∙ ap (λ (v : ℕ). 2 * v + 2) (sym c.try_chain.ensures.vars));
          news = rw (c.try_chain.ensures.clauses, more.added) (news_push _ _ more.clause c.requires.ready.state.news (stop_new _ _ _ _ _ _ _ _ _ _ more.clause c.requires.ready.state.of stop same));
        };
        holds = rw (c.try_chain.ensures.vars, c.try_chain.ensures.clauses, more.added) joined;
        fits = c.in_ok-watch_last-in-Some.ensures.fits c.push.new.self more.clause last_is back guarded;
      };
      more = one;
      started = omega (arith, within);
    }
