use Rattle.std.proofs.Common.{◌≡◌, sym, ◌∙◌, arith, inl, inr, take-append-drop}
use Rattle.prove_top.proofs.Pieces.{middle_of-none, middle_of-cut, same_bytes, other_bytes, head-piece, tail-piece, too-short}
use Rattle.prove_top.proofs.texts.middle.Goals as goal
use Rattle.prove_top.proofs.texts.middle.Goals.{then-bytes-head-via-then-bytes-head, then-bytes-head-via-else-bytes-head+then-bytes-head-2}

pub returns-then-bytes-head : goal.returns-then-bytes-head
returns-then-bytes-head c =
    sym (middle_of-none c.args.head.now c.args.tail.now c.args.bytes.now
    (λ m is. too-short c.args.head.now m c.args.tail.now c.args.bytes.now is
    (elim c.then-bytes-head.branch [
      | then-bytes-head-via-then-bytes-head w ↦ inl (omega arith)
      | then-bytes-head-via-else-bytes-head+then-bytes-head-2 w ↦ inr (omega arith)
    ])))

pub returns-then-ne : goal.returns-then-ne
returns-then-ne c =
    sym (middle_of-none c.args.head.now c.args.tail.now c.args.bytes.now
    (λ m is. other_bytes c.split_at.result.0.now c.args.head.now (sym c.ne.ensures ∙ c.if-ne.true)
    (head-piece c.args.head.now m c.args.tail.now c.args.bytes.now _ is c.split_at.ensures.front)))

pub returns-then-ne-2 : goal.returns-then-ne-2
returns-then-ne-2 c =
    sym (middle_of-none c.args.head.now c.args.tail.now c.args.bytes.now
    (λ m is. other_bytes c.split_at-2.result.1.now c.args.tail.now (sym c.ne-2.ensures ∙ c.if-ne-2.true)
    (tail-piece c.args.head.now m c.args.tail.now c.args.bytes.now c.split_at.result.1.now _ is c.split_at.ensures.back c.split_at-2.ensures.back)))

pub returns : goal.returns
returns c =
    let front : c.split_at.result.0.now ≡ c.args.head.now = same_bytes _ _ (sym c.ne.ensures ∙ c.if-ne.false) in
    sym (middle_of-cut c.args.head.now c.args.tail.now c.args.bytes.now c.split_at.result.1.now c.split_at-2.result.0.now c.split_at-2.result.1.now
    (rw (← front, c.split_at.ensures.front, c.split_at.ensures.back) (sym (take-append-drop _ _)))
    (rw (c.split_at-2.ensures.front, c.split_at-2.ensures.back) (sym (take-append-drop _ _)))
    (same_bytes _ _ (sym c.ne-2.ensures ∙ c.if-ne-2.false)))
