use Rattle.std.proofs.Common.{◌≡◌, ◌<◌, ◌≤◌, ◌^◌, ◌∙◌, sym, ap, arith}
use Rattle.std.specs.List.{list_any}
use Rattle.flat_design.specs.Flows.{spread}
use Rattle.flat_flows.specs.Arms.{tests_of}
use Rattle.flat_flows.proofs.Matching.{not_full, full, all_match_more, all_match_at}
use Rattle.flat_flows.proofs.full.is_full_case.Goals as goal

pub returns-then-not-branch : goal.returns-then-not-branch
returns-then-not-branch c nets =
    let own : (spread c.args.selector.now).own ≤ 8 = omega (arith, c.own_size-own.ensures) in
    let words : c.word_count-words.result ≡ 2 ^ (spread c.args.selector.now).own = c.word_count-words.ensures ∙ ap (λ n. 2 ^ n) c.own_size-own.ensures in
    let less : c.loop-number.number < 2 ^ (spread c.args.selector.now).own = omega (arith, words) in
    sym (not_full (spread c.args.selector.now) (tests_of nets c.args.arms.now) c.loop-number.number less
    (ap (λ w. list_any (λ t. t.matches w) (tests_of nets c.args.arms.now)) (sym (c.as_slice.ensures ∙ c.in_ok-word.ensures own))
    ∙ sym (c.in_ok-arms_match.ensures nets (sym (c.have_constant_labels.ensures nets) ∙ c.if-not-have_constant_labels.false)) ∙ c.if-not-branch.true))

pub loop-number-preserved : goal.loop-number-preserved
loop-number-preserved c nets =
    let own : (spread c.args.selector.now).own ≤ 8 = omega (arith, c.own_size-own.ensures) in
    all_match_more c.loop-number.number (spread c.args.selector.now).own (λ word. list_any (λ t. t.matches ((spread c.args.selector.now).widen word)) (tests_of nets c.args.arms.now)) (c.loop-number.invariant nets)
    (ap (λ w. list_any (λ t. t.matches w) (tests_of nets c.args.arms.now)) (sym (c.as_slice.ensures ∙ c.in_ok-word.ensures own))
    ∙ sym (c.in_ok-arms_match.ensures nets (sym (c.have_constant_labels.ensures nets) ∙ c.if-not-have_constant_labels.false)) ∙ c.if-not-branch.false)

pub returns : goal.returns
returns c nets =
    let words : c.word_count-words.result ≡ 2 ^ (spread c.args.selector.now).own = c.word_count-words.ensures ∙ ap (λ n. 2 ^ n) c.own_size-own.ensures in
    let end : c.loop-number.number ≡ 2 ^ (spread c.args.selector.now).own = omega (arith, words) in
    sym (full (spread c.args.selector.now) (tests_of nets c.args.arms.now) (omega (arith, c.own_size-own.ensures)) (sym (c.have_constant_labels.ensures nets) ∙ c.if-not-have_constant_labels.false)
    (all_match_at c.loop-number.number (2 ^ (spread c.args.selector.now).own) (spread c.args.selector.now).own (λ word. list_any (λ t. t.matches ((spread c.args.selector.now).widen word)) (tests_of nets c.args.arms.now)) end (c.loop-number.invariant nets)))
