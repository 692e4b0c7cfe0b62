use Rattle.std.proofs.Common.{ap, ◌∙◌, ◌+◌, ℕ, arith}
use Rattle.clause_solver.proofs.AnswerLemmas.{solved_same}
use Rattle.clause_solver.proofs.solver.rounds.Goals as goal
use Rattle.clause_solver.proofs.solver.rounds.Goals.{then-restarts+in_ok-release-in-Learned, else-restarts}

pub loop-turn-preserved : goal.loop-turn-preserved
loop-turn-preserved c =
    let i = c.loop-turn.invariant in
    let grown = rw c.in-Learned.is at c.in_ok-take_turn.ensures.turn in
    record {
      ready = elim c.if-restarts.branch [
        | then-restarts+in_ok-release-in-Learned w ↦ rw w.trail-is (record {
          state = record {
            of = w.to_bottom.ensures.trail _ grown.ready.state.of;
            size = w.to_bottom.ensures.size ∙ grown.ready.state.size;
            news = grown.ready.state.news;
          };
          holds = grown.ready.holds;
          fits = w.to_bottom.ensures.fits _ _ _ grown.ready.holds grown.ready.state.of grown.ready.fits;
        })
        | else-restarts w ↦ rw w.trail-is grown.ready
      ];
      count = grown.more ∙ ap (λ (n : ℕ). n + 1) i.count;
      vars = c.take_turn.ensures.vars ∙ i.vars;
      clauses = c.take_turn.ensures.clauses ∙ i.clauses;
      lists = c.in_ok-take_turn.ensures.lists;
    }

pub returns : goal.returns
returns c =
    let i = c.loop-turn.invariant in
    solved_same _ _ _ _ _ i.vars i.clauses (omega (arith, i.count)) c.in_ok-solved.ensures
