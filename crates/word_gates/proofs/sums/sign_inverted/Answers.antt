use Rattle.std.proofs.Common.{arith, ◌-◌, ◌<◌, length}
use Rattle.word_gates.proofs.WordLemmas.{of_here}
use Rattle.word_gates.proofs.RippleLemmas.{means_inverted, shows_sign_inverted}
use Rattle.word_gates.proofs.sums.sign_inverted.Goals as goal

pub returns-clause-value : goal.returns-clause-value
returns-clause-value c = λ nodes a.
    let last : length c.args.a.now - 1 < length c.args.a.now = omega (arith, c.requires) in
    rw (c.in_ok-push.ensures.items, c.in_ok-extend_from_slice.ensures.items, c.new-wires.ensures.items)
    (shows_sign_inverted nodes c.args.a.now c.inverted.result c.requires a (means_inverted nodes _ _ (of_here c.args.a.now nodes (length c.args.a.now - 1) a last) c.inverted.ensures.node c.inverted.ensures.value))
