use Rattle.std.proofs.Common.{◌≡◌, ◌⊎◌, ◌<◌, length, Err, refl, sym, ◌∙◌, subst, arith}
use Rattle.parsing.proofs.Steps.{reads_refused, reads_sunk}
use Rattle.vlog_parse.specs.Refusal.{IsFirstFault, IsFirstNested}
use Rattle.vlog_parse.specs.Cut.{Tells}
use Rattle.vlog_parse.proofs.Cut.{flat_of_left, read_on, cut_short, impossible, never}
use Rattle.vlog_parse.proofs.reading.why_stopped.Goals as goal
use Rattle.vlog_parse.proofs.reading.why_stopped.Goals.{in-Ok, in-Err-Memory, in-Err-Refused+else-len-eq0}

pub read_flat-requires : goal.read_flat-requires
read_flat-requires c =
    flat_of_left c.args.tokens.now.list c.requires.0 c.args.left c.requires.1.0 c.requires.1.1
    (subst (λ us. (c.args.left ≡ 0) ⊎ (length us < c.args.left)) c.as_slice-list.ensures c.in_default.ensures)

pub returns-then-len-eq0 : goal.returns-then-len-eq0
returns-then-len-eq0 c =
    subst (λ fault. Tells c.args.tokens.now (Err fault)) (sym c.fault_at-then-len-eq0.ensures) (
      subst (λ t. IsFirstNested c.args.tokens.now.list t.place) c.index-list-at-then-len-eq0.is
          (cut_short c.args.tokens.now c.as_slice-list.result.now c.split_at.result.0.now c.new-cursor.result c.args.left c.in-Some.at c.as_slice-list.ensures c.requires c.in-Some.ensures
          c.split_at.ensures.front c.new-cursor.ensures c.source.new.tokens
          (reads_refused _ c.source.result c.source.new.tokens c.in-Err-Refused.field-0 c.source.ensures c.in-Err-Refused.is c.in-Err-Refused.field-0-is) (sym c.len.ensures ∙ c.if-len-eq0.true)
          c.index-list-at-then-len-eq0.result c.index-list-at-then-len-eq0.is),
      (refl, refl),
    )

pub unreachable-requires : goal.unreachable-requires
unreachable-requires c =
    never c.args.tokens.now c.as_slice-list.result.now c.split_at.result.0.now c.new-cursor.result c.args.left c.in-Some.at c.as_slice-list.ensures c.requires c.in-Some.ensures
    c.split_at.ensures.front c.new-cursor.ensures (reads_sunk _ c.source.result c.source.new.tokens c.in-Err-Sunk.field-0 c.source.ensures c.in-Err-Sunk.is c.in-Err-Sunk.field-0-is)

pub returns : goal.returns
returns c =
    elim c.match-source.branch [
      | in-Ok w ↦ (
          let n : IsFirstNested c.args.tokens.now.list w.index-list-at.result.place =
          read_on c.args.tokens.now c.as_slice-list.result.now c.split_at.result.0.now c.new-cursor.result c.args.left c.in-Some.at c.as_slice-list.ensures c.requires c.in-Some.ensures
          c.split_at.ensures.front c.new-cursor.ensures w.in-Ok.field-0 c.source.new.tokens w.in-Ok.ensures w.index-list-at.result w.index-list-at.is in
          subst (Tells c.args.tokens.now) (sym w.result-is)
          (subst (λ fault. Tells c.args.tokens.now (Err fault)) (sym w.fault_at.ensures) (subst (λ t. IsFirstNested c.args.tokens.now.list t.place) w.index-list-at.is n, (refl, refl)))
          )
      | in-Err-Memory w ↦ subst (Tells c.args.tokens.now) (sym w.result-is) tt
      | in-Err-Refused+else-len-eq0 w ↦ (
          let f =
          impossible c.args.tokens.now c.as_slice-list.result.now c.split_at.result.0.now c.new-cursor.result c.args.left c.in-Some.at c.as_slice-list.ensures c.requires c.in-Some.ensures
          c.split_at.ensures.front c.new-cursor.ensures c.source.new.tokens
          (reads_refused _ c.source.result c.source.new.tokens w.in-Err-Refused.field-0 c.source.ensures w.in-Err-Refused.is w.in-Err-Refused.field-0-is) (omega (arith, w.len.ensures, w.if-len-eq0.false)) in
          subst (Tells c.args.tokens.now) (sym w.result-is)
          (subst (λ fault. Tells c.args.tokens.now (Err fault)) (sym w.fault_at-in-Err-Refused.ensures)
          ((f.0, (f.1.0, subst (IsFirstFault c.args.tokens.now) (sym w.place-place.ensures) f.1.1)), (refl, refl)))
          )
    ]
